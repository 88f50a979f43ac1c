-- The fields of two classes, place by place.
use Rattle.std.proofs.Common.{◌≡◌, ◌<◌, ◌≤◌, ◌+◌, ◌↔◌, ◌⊎◌, inl, inr, ℕ, zero, suc, List, [], ◌∷◌, length, Contains, Some, slice_get, get_or, Bool, IsTrue, true, false, refl, sym, ap, ◌∙◌, subst, arith}
use Rattle.std.proofs.lemmas.Bool.{cases_lt}
use Rattle.std.proofs.lemmas.Option.{slice_get_read, slice_get_within}
use Rattle.jn_reach.specs.Each.{Each}
use Rattle.jn_reach.proofs.Eachs.{Each-at, Each-back, Each-length}
use Rattle.jn_reach.proofs.Searches.{not_when, same_some}
use Rattle.jn_base.specs.declared.tree.Name.{Name}
use Rattle.jn_base.specs.declared.tree.Program.{Program}
use Rattle.jn_base.specs.declared.path.Path.{Path as ShownPath}
use Rattle.jn_base.specs.Paths.{Path}
use Rattle.jn_base.specs.ClassOrder.{name_total}
use Rattle.jn_base.specs.Atoms.{Among}
use Rattle.jn_base.specs.Duplicates.{has_name}
use Rattle.jn_base.proofs.NameTests.{has_from, has_in}
use Rattle.jn_table.specs.declared.class.Row.{Row}
use Rattle.jn_table.specs.declared.field_types.FieldTy.{FieldTy}
use Rattle.jn_table.specs.declared.table.Table.{Table}
use Rattle.jn_table.specs.Rows.{IsRow}
use Rattle.jn_sem.specs.Values.{HasField}
use Rattle.jn_sem.specs.Slots.{IsApart, only_one, only_other}
use Rattle.jn_sem.proofs.FindingLaws.{among_of, contains_of}
use Rattle.jn_sem.proofs.NormalTypes.{sorted_once}
use Rattle.jn_share.specs.Parting.{SameField}
use Rattle.jn_share.specs.declared.prepared.Prepared.{Prepared}
use Rattle.jn_share.specs.Pairing.{IsAt}
use Rattle.jn_share.specs.Parts.{DeclsGiven}
use Rattle.jn_share.specs.Prepared.{IsDecl, AreDecls, IsPrepared}

-- ---- the fields of a row

pub field_in : (p : Program) (known : List ShownPath) (R : Path) (row : Row) → IsRow p known R row → (f : Name) → HasField p R f → Contains row.fields.items f
field_in p known R row is f h = (is.fields.exact f).1 (h.at, h.declares)

pub in_field : (p : Program) (known : List ShownPath) (R : Path) (row : Row) → IsRow p known R row → (f : Name) → Contains row.fields.items f → HasField p R f
in_field p known R row is f c = let h = (is.fields.exact f).0 c in record { at = h.0; declares = h.1 }

in_or_not : (xs : List Name) (f : Name) (b : Bool) → has_name xs f ≡ b → Contains xs f ⊎ (Contains xs f → ⊥)
in_or_not xs f true e = inl (has_in xs f e)
in_or_not xs f false e = inr (λ c. clash (sym e ∙ has_from xs f c)) where
  clash : false ≡ true → ⊥
  clash q = cc

module _ (p : Program) (known : List ShownPath) (V W : Path) (a b : Row) (one : IsRow p known V a) (two : IsRow p known W b) where
  -- rows that differ surely have a field apart
  pub rows_apart : (told : Bool) (xs ys : List Name) → xs ≡ a.fields.items → ys ≡ b.fields.items → told ≡ false → IsTrue told ↔ (xs ≡ ys)
      → ((f : Name) → IsApart p V W f → ⊥) → ⊥
  rows_apart told xs ys x y e i n =
      not_when e i (x ∙ sorted_once (name_total p) a.fields.items b.fields.items one.fields.in_order two.fields.in_order there back ∙ sym y) where
        there : (f : Name) → Among a.fields.items f → Among b.fields.items f
        there f m = by_case (in_or_not b.fields.items f (has_name b.fields.items f) refl) where
          has : HasField p V f
          has = in_field p known V a one f (contains_of a.fields.items f m)

          by_case : Contains b.fields.items f ⊎ (Contains b.fields.items f → ⊥) → Among b.fields.items f
          by_case (inl c) = among_of b.fields.items f c
          by_case (inr c) = absurd (n f (only_one has (λ h. c (field_in p known W b two f h))))

        back : (f : Name) → Among b.fields.items f → Among a.fields.items f
        back f m = by_case (in_or_not a.fields.items f (has_name a.fields.items f) refl) where
          has : HasField p W f
          has = in_field p known W b two f (contains_of b.fields.items f m)

          by_case : Contains a.fields.items f ⊎ (Contains a.fields.items f → ⊥) → Among a.fields.items f
          by_case (inl c) = among_of a.fields.items f c
          by_case (inr c) = absurd (n f (only_other has (λ h. c (field_in p known V a one f h))))

  pub rows_same : (xs ys : List Name) → xs ≡ a.fields.items → ys ≡ b.fields.items → xs ≡ ys → a.fields.items ≡ b.fields.items
  rows_same xs ys x y e = sym x ∙ (e ∙ y)

  pub same_has : a.fields.items ≡ b.fields.items → (f : Name) → HasField p V f ↔ HasField p W f
  same_has e f = (
    λ h. in_field p known W b two f (subst (λ (fs : List Name). Contains fs f) e (field_in p known V a one f h)),
    λ h. in_field p known V a one f (subst (λ (fs : List Name). Contains fs f) (sym e) (field_in p known W b two f h)),
  )

-- ---- place by place

-- the first n fields are one field each
abbrev pub SameTo : Program → (Path → Path → Type 0) → Path → Path → List Name → ℕ → Type 0
SameTo p Same V W fields n = (k : ℕ) (f : Name) → k < n → slice_get fields k ≡ Some f → SameField p Same V W f

module _ (p : Program) (known : List ShownPath) (types : List FieldTy) (V W : Path) (fields : List Name) (dvs dws : List ℕ)
    (one : AreDecls p known types V fields dvs) (two : AreDecls p known types W fields dws) where
  -- the declarations of the field at that place
  pub decls_at : (i : ℕ) → i < length dvs → (f : Name) × (slice_get fields i ≡ Some f) × IsDecl p known types V f (get_or dvs i 0) × IsDecl p known types W f (get_or dws i 0)
  decls_at i l =
      let a = Each-back (IsDecl p known types V) one.each i (get_or dvs i 0) (slice_get_read dvs (length dvs) i (get_or dvs i 0) refl l (any_default dvs i l)) in
      let b = Each-at (IsDecl p known types W) two.each i a.0 a.1 in
      let m = slice_get_within dws i b.0 b.1 in
      let same : b.0 ≡ get_or dws i 0 =
      same_some (slice_get dws i) b.0 (get_or dws i 0) b.1 (slice_get_read dws (length dws) i (get_or dws i 0) refl m (any_default dws i m)) in
      (a.0, a.1, a.2, subst (IsDecl p known types W a.0) same b.2) where
        reread : (ys : List ℕ) (n x y : ℕ) → n < length ys → get_or ys n x ≡ get_or ys n y
        reread [] n x y m = absurd (omega arith)
        reread (z ∷ zs) zero x y m = refl
        reread (z ∷ zs) (suc n) x y m = reread zs n x y (omega (arith, m))

        any_default : (ys : List ℕ) (n : ℕ) → n < length ys → get_or ys n 0 ≡ get_or ys n (get_or ys n 0)
        any_default ys n m = reread ys n 0 (get_or ys n 0) m

  pub same_more : (Same : Path → Path → Type 0) (i : ℕ) → i < length dvs → ((f : Name) → IsDecl p known types V f (get_or dvs i 0) × IsDecl p known types W f (get_or dws i 0)
      → SameField p Same V W f) → SameTo p Same V W fields i → SameTo p Same V W fields (i + 1)
  same_more Same i l h all k f m at = by_place (cases_lt k i) where
    by_place : (k < i) ⊎ (i ≤ k) → SameField p Same V W f
    by_place (inl b) = all k f b at
    by_place (inr b) =
        let d = decls_at i l in
        let q : k ≡ i = omega arith in
        let same : d.0 ≡ f = same_some (slice_get fields i) d.0 f d.1 (ap (slice_get fields) (sym q) ∙ at) in
        subst (SameField p Same V W) same (h d.0 (d.2, d.3))

  pub same_all : (Same : Path → Path → Type 0) (i : ℕ) → length dvs ≤ i → SameTo p Same V W fields i → (f : Name) → Contains fields f → SameField p Same V W f
  same_all Same i past all f c =
      all c.0 f (omega (arith, c.1, past, Each-length (IsDecl p known types V) one.each)) (slice_get_read fields (length fields) c.0 f refl c.1 (sym c.2))

-- ---- what is prepared of a class

pub ready_decls : (p : Program) (t : Table) (types : List FieldTy) (all : Prepared) → IsPrepared p t types all → (k : ℕ) (V : Path) (row : Row)
    → IsAt t.known.items k V → IsRow p t.known.items V row → (given : List ℕ) → DeclsGiven all.decls.items k given → AreDecls p t.known.items types V row.fields.items given
ready_decls p t types all ready k V row a is given h =
    let d = ready.decls k V row a is in
    record { each = subst (Each (IsDecl p t.known.items types V) row.fields.items) (sym (h d.0 d.1)) d.2.each }

pub long_decls : (p : Program) (known : List ShownPath) (types : List FieldTy) (V W : Path) (xs ys : List Name) (dvs dws : List ℕ) → xs ≡ ys
    → AreDecls p known types V xs dvs → AreDecls p known types W ys dws → length dvs ≡ length dws
long_decls p known types V W xs ys dvs dws e a b =
    Each-length (IsDecl p known types V) a.each ∙ (ap (λ (ns : List Name). length ns) e ∙ sym (Each-length (IsDecl p known types W) b.each))
