-- Families by their numbers; a class in a type that hangs on `this` is in the family of `this`.
use Rattle.std.proofs.Common.{◌≡◌, ◌<◌, ◌≤◌, ℕ, zero, suc, List, [], ◌∷◌, ◌++◌, length, drop, Contains, Some, None, slice_get, refl, sym, ap, ◌∙◌, subst, arith}
use Rattle.std.specs.declared.vec.Vec.{Vec}
use Rattle.std.specs.declared.alloc.Global.{Global}
use Rattle.jn_reach.specs.Graph.{HasEdge}
use Rattle.jn_reach.proofs.Searches.{same_some}
use Rattle.jn_base.specs.declared.tree.Name.{Name}
use Rattle.jn_base.specs.declared.tree.Program.{Program}
use Rattle.jn_base.specs.declared.types.Anchor.{Anchor}
use Rattle.jn_base.specs.declared.types.Ty.{Ty}
use Rattle.jn_base.specs.declared.types.Ty.TheVariants as ty
use Rattle.jn_base.specs.Paths.{Path}
use Rattle.jn_base.specs.Atoms.{atoms_in, anchor_at}
use Rattle.jn_base.proofs.SuperLaws.{sup_level}
use Rattle.jn_table.specs.declared.class.ClassId.{ClassId}
use Rattle.jn_table.specs.declared.field_types.FieldTypes.{FieldTypes}
use Rattle.jn_table.specs.declared.table.Table.{Table}
use Rattle.jn_table.specs.Rows.{IsNumber}
use Rattle.jn_sem.specs.Sets.{Views, view_at, InAtoms, InType}
use Rattle.jn_sem.specs.Sharing.{IsClass, family_of}
use Rattle.jn_sem.specs.Slots.{this_viewed, ClassAt}
use Rattle.jn_sem.specs.LawsOfSlots.{FieldsPass}
use Rattle.jn_share.specs.declared.groups.Groups.{Groups}
use Rattle.jn_share.specs.declared.prepared.Prepared.{Prepared}
use Rattle.jn_share.specs.Pairing.{IsAt}
use Rattle.jn_share.specs.Parting.{SamePart, Covers}
use Rattle.jn_share.specs.Parts.{HangsIn, CoversOf}
use Rattle.jn_share.specs.Prepared.{IsPrepared}
use Rattle.jn_share.specs.Slots.{SlotsAsked}
use Rattle.jn_share.proofs.Covers.{no_such}
use Rattle.jn_share.proofs.PairsFound.{same_number}

-- ---- paths and families

family_cons : (C : Name) (P : Path) → 0 < length P → family_of (C ∷ P) ≡ family_of P
family_cons C [] l = absurd (omega (arith, l))
family_cons C (D ∷ P) l = refl

long_append : (es P : Path) → 0 < length P → 0 < length (es ++ P)
long_append [] P l = l
long_append (e ∷ es) P l = omega arith

family_append : (es P : Path) → 0 < length P → family_of (es ++ P) ≡ family_of P
family_append [] P l = refl
family_append (e ∷ es) P l = family_cons e (es ++ P) (long_append es P l) ∙ family_append es P l

dropped_long : (n : ℕ) (U : Path) → 0 < length (drop n U) → 0 < length U
dropped_long zero U l = l
dropped_long (suc n) [] l = l
dropped_long (suc n) (C ∷ U) l = omega arith

family_drop : (n : ℕ) (U : Path) → 0 < length (drop n U) → family_of (drop n U) ≡ family_of U
family_drop zero U l = refl
family_drop (suc n) [] l = refl
family_drop (suc n) (C ∷ U) l = family_drop n U l ∙ sym (family_cons C U (dropped_long n U l))

in_atoms : (p : Program) (v : Views) (t : Ty) (U : Path) → InType p v t U → InAtoms p v (atoms_in t) U
in_atoms p v (ty.Class xs m) U h = h
in_atoms p v ty.Int U h = absurd h
in_atoms p v ty.Bool U h = absurd h
in_atoms p v ty.Null U h = absurd h
in_atoms p v ty.Void U h = absurd h

left_long : (k : ℕ) (V : Path) → k < length V → 0 < length (drop k V)
left_long zero V l = l
left_long (suc k) [] l = absurd (omega (arith, l))
left_long (suc k) (C ∷ V) l = left_long k V (omega (arith, l))

pub has_family : (p : Program) (R : Path) → IsClass p R → (X : Name) × (family_of R ≡ Some X)
has_family p [] c = absurd c.universe
has_family p (C ∷ P) c = in_some C P where
  in_some : (D : Name) (Q : Path) → (X : Name) × (family_of (D ∷ Q) ≡ Some X)
  in_some D [] = (D, refl)
  in_some D (E ∷ Q) = in_some E Q

pub family_in : (p : Program) → FieldsPass p → (V U : Path) (t : Ty) → HangsIn p V t → ClassAt p V t U → family_of U ≡ family_of V
family_in p ok V U t h a =
    let x = h.hangs.atom in
    let k = h.hangs.levels in
    let i = (in_atoms p (this_viewed V) t U a.is_in x h.hangs.among).inside.exact ∙ ap (λ (y : Anchor). x.exact ++ anchor_at (view_at (this_viewed V)) y) h.hangs.anchor in
    let l : k < length V =
    omega (arith, ok.within h.declared h.field h.type.field t x k h.type.at h.type.type h.hangs.among h.hangs.anchor, sup_level h.declares.super) in
    let long = left_long k V l in
    let whole = long_append x.exact (drop k V) long in
    sym (family_drop (length x.names) U (subst (λ (P : Path). 0 < length P) (sym i) whole))
    ∙ ap family_of i ∙ family_append x.exact (drop k V) long ∙ family_drop k V long

-- ---- their numbers

module _ (p : Program) (t : Table) (g : Groups) (types : FieldTypes) (all : Prepared) (asked : SlotsAsked p t g types) (ready : IsPrepared p t types.list.items all)
    (families : List ℕ) (families_are : families ≡ all.families.items) where
  pub family_at : (k : ℕ) (V : Path) → IsAt t.known.items k V → IsClass p V
      → (n : ℕ) × (X : Name) × (slice_get families k ≡ Some n) × (family_of V ≡ Some X) × IsAt t.known.items n (X ∷ [])
  family_at k V a c =
      let x = has_family p V c in
      let n = ready.families k V x.0 a x.1 in
      (n.0, x.0, subst (λ (fs : List ℕ). slice_get fs k ≡ Some n.0) (sym families_are) n.1, x.1, n.2)

  pub no_family : (k : ℕ) (V : Path) → IsAt t.known.items k V → IsClass p V → None ≡ slice_get families k → ⊥
  no_family k V a c e = let n = family_at k V a c in nothing (e ∙ n.2) where
    nothing : {x : ℕ} → None ≡ Some x → ⊥
    nothing e = cc

  pub unnumbered : (k : ℕ) (V : Path) → IsAt t.known.items k V → IsClass p V → ((n : ℕ) → slice_get families k ≡ Some n → length t.known.items ≤ n) → ⊥
  unnumbered k V a c h = let n = family_at k V a c in no_such t.known.items n.0 (n.1 ∷ []) (h n.0 n.2) n.4

  -- the number is that of the family
  pub its_family : (k n : ℕ) (V : Path) → IsAt t.known.items k V → IsClass p V → slice_get families k ≡ Some n
      → (X : Name) × (family_of V ≡ Some X) × IsAt t.known.items n (X ∷ [])
  its_family k n V a c e =
      let x = family_at k V a c in
      (x.1, x.3, subst (λ (m : ℕ). IsAt t.known.items m (x.1 ∷ [])) (same_some (slice_get families k) x.0 n x.2 e) x.4)

  -- each class of the family is among its numbers
  pub among_family : (k own : ℕ) (V : Path) → IsAt t.known.items k V → IsClass p V → slice_get families k ≡ Some own → (u : ℕ) (U : Path)
      → IsAt t.known.items u U → IsClass p U → family_of U ≡ family_of V → HasEdge all.classes.items own u
  among_family k own V a c e u U b d same =
      let one = its_family k own V a c e in
      let two = family_at u U b d in
      let name : one.0 ≡ two.1 = same_some (family_of V) one.0 two.1 one.1 (sym same ∙ two.3) in
      let number : two.0 ≡ own =
      same_number p t asked.filled two.0 own (two.1 ∷ []) two.4 (subst (λ (X : Name). IsAt t.known.items own (X ∷ [])) name one.2) in
      ready.classes u own (subst (λ (fs : List ℕ). slice_get fs u ≡ Some own) families_are (two.2 ∙ ap Some number))

  pub no_classes : (v : ClassId) (own : ℕ) (V : Path) (classes : List (Vec ℕ Global)) → classes ≡ all.classes.items → IsNumber t.known.items v V → IsClass p V
      → slice_get families v.0 ≡ Some own → None ≡ slice_get classes own → (ty : Ty) → HangsIn p V ty → (U : Path) → ClassAt p V ty U → ⊥
  no_classes v own V classes q a c e n ty h U x =
      let k = asked.filled.whole.whole U x.class.universe in
      let edge = among_family v.0 own V a c e k.0.0 U k.1 x.class (family_in p asked.passes V U ty h x) in
      nothing (n ∙ (ap (λ (cs : List (Vec ℕ Global)). slice_get cs own) q ∙ edge.at)) where
        nothing : {y : Vec ℕ Global} → None ≡ Some y → ⊥
        nothing e = cc

  pub covered : (v : ClassId) (own : ℕ) (V W : Path) (classes : List (Vec ℕ Global)) → classes ≡ all.classes.items → IsNumber t.known.items v V → IsClass p V
      → slice_get families v.0 ≡ Some own → (row : Vec ℕ Global) → slice_get classes own ≡ Some row → (ty : Ty) → HangsIn p V ty
      → (parts among : List ℕ) → among ≡ row.items → CoversOf p t.known.items parts among V W ty → Covers p (SamePart t.known.items parts) V W ty
  covered v own V W classes q a c e row at ty h parts among i all_covered U x =
      let k = asked.filled.whole.whole U x.class.universe in
      let edge = among_family v.0 own V a c e k.0.0 U k.1 x.class (family_in p asked.passes V U ty h x) in
      let same : edge.row ≡ row = same_some (slice_get classes own) edge.row row (ap (λ (cs : List (Vec ℕ Global)). slice_get cs own) q ∙ edge.at) at in
      let inside : Contains among k.0.0 =
      subst (λ (xs : List ℕ). Contains xs k.0.0) (ap (λ (r : Vec ℕ Global). r.items) same ∙ sym i) edge.in_row in
      all_covered k.0.0 U inside k.1 x
