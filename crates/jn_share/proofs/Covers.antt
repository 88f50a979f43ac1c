-- The types of fields at two views, class by class.
use Rattle.std.proofs.Common.{◌≡◌, ◌<◌, ◌≤◌, ◌+◌, ◌↔◌, ◌⊎◌, inl, inr, ℕ, zero, suc, List, [], ◌∷◌, length, get_or, map, Some, None, slice_get, Bool, IsTrue, true, false, refl, sym, ap, ◌∙◌, subst, arith}
use Rattle.std.proofs.lemmas.Bool.{cases_lt}
use Rattle.std.proofs.lemmas.Option.{slice_get_read, slice_get_within}
use Rattle.jn_reach.proofs.Searches.{iff_false, not_when, same_some}
use Rattle.jn_base.specs.declared.tree.Name.{Name}
use Rattle.jn_base.specs.declared.tree.Program.{Program}
use Rattle.jn_base.specs.declared.path.Path.{Path as ShownPath}
use Rattle.jn_base.specs.declared.types.Ty.{Ty}
use Rattle.jn_base.specs.Paths.{Path, shown}
use Rattle.jn_table.specs.declared.class.ClassId.{ClassId}
use Rattle.jn_table.specs.declared.table.Table.{Table}
use Rattle.jn_table.specs.Rows.{IsNumber}
use Rattle.jn_table.specs.Tables.{IsFilled}
use Rattle.jn_sem.specs.Sets.{InType}
use Rattle.jn_sem.specs.Sharing.{IsClass, family_of, Counterpart}
use Rattle.jn_sem.specs.Slots.{this_viewed, ClassAt, MatchAt}
use Rattle.jn_share.specs.declared.groups.Groups.{Groups}
use Rattle.jn_share.specs.Groups.{AreGroups, CounterpartIs}
use Rattle.jn_share.specs.Pairing.{IsAt}
use Rattle.jn_share.specs.Parting.{SamePart, Uncovered}
use Rattle.jn_share.specs.Parts.{HavePart, HasTwin, CoversOf}
use Rattle.jn_share.proofs.PairsFound.{same_number}

-- ---- parts

pub have_part : (parts : List ℕ) (i j a b : ℕ) (told : Bool) → slice_get parts i ≡ Some a → slice_get parts j ≡ Some b → IsTrue told ↔ (a ≡ b)
    → IsTrue told ↔ HavePart parts i j
have_part parts i j a b told x y e = (
  λ t. (a, x, y ∙ ap Some (sym (e.0 t))),
  λ h. e.1 (same_some (slice_get parts i) a h.0 x h.1 ∙ sym (same_some (slice_get parts j) b h.0 y h.2)),
)

pub no_part : (parts : List ℕ) (i j k : ℕ) → None ≡ slice_get parts k → (k ≡ i) ⊎ (k ≡ j) → IsTrue false ↔ HavePart parts i j
no_part parts i j k n (inl e) = iff_false (λ h. nothing (n ∙ (ap (slice_get parts) e ∙ h.1))) where
  nothing : {x : ℕ} → None ≡ Some x → ⊥
  nothing e = cc
no_part parts i j k n (inr e) = iff_false (λ h. nothing (n ∙ (ap (slice_get parts) e ∙ h.2))) where
  nothing : {x : ℕ} → None ≡ Some x → ⊥
  nothing e = cc

-- ---- numbers and their paths

pub path_there : (p : Program) (t : Table) → IsFilled p t → (k : ℕ) → k < length t.known.items → (R : Path) × IsAt t.known.items k R
path_there p t f k l =
    let r = f.table.rows in
    in_map r.paths t.known.items r.shown_are k l where
      place : (ps : List Path) (n : ℕ) → n < length (map shown ps) → (R : Path) × (slice_get (map shown ps) n ≡ Some (shown R))
      place [] n m = absurd (omega arith)
      place (P ∷ ps) zero m = (P, refl)
      place (P ∷ ps) (suc n) m = place ps n (omega (arith, m))

      in_map : (ps : List Path) (known : List ShownPath) → known ≡ map shown ps → (n : ℕ) → n < length known → (R : Path) × (slice_get known n ≡ Some (shown R))
      in_map ps known e n m =
          let q = place ps n (subst (λ (ks : List ShownPath). n < length ks) e m) in
          (q.0, subst (λ (ks : List ShownPath). slice_get ks n ≡ Some (shown q.0)) (sym e) q.1)

pub within_known : (known : List ShownPath) (k : ℕ) (R : Path) → IsAt known k R → k < length known
within_known known k R n = slice_get_within known k (shown R) n

pub no_such : (known : List ShownPath) (k : ℕ) (R : Path) → length known ≤ k → IsAt known k R → ⊥
no_such known k R l n = let w = within_known known k R n in omega arith

-- ---- a class in a type

pub in_both : (p : Program) (V U : Path) (ty : Ty) (a b : Bool) → IsTrue a ↔ IsClass p U → IsTrue b ↔ InType p (this_viewed V) ty U → a ≡ true
    → IsTrue b ↔ ClassAt p V ty U
in_both p V U ty a b i j e = (λ t. record { class = i.0 e; is_in = j.0 t }, λ c. j.1 c.is_in)

pub not_class : (p : Program) (V U : Path) (ty : Ty) (a : Bool) → IsTrue a ↔ IsClass p U → a ≡ false → IsTrue false ↔ ClassAt p V ty U
not_class p V U ty a i e = iff_false (λ c. not_when e i c.class)

-- ---- twins

module _ (p : Program) (t : Table) (g : Groups) (f : IsFilled p t) (groups : AreGroups p t.known.items g) (parts : List ℕ) (u : ℕ) (U T : Path) (Y : Name) (ty : Ty)
    (at_u : IsAt t.known.items u U) (family_is : family_of T ≡ Some Y) (family : ClassId) (number : IsNumber t.known.items family (Y ∷ [])) where
  -- the match is the counterpart in that family
  matching : (W : Path) → MatchAt p T ty U W → Counterpart p Y U W
  matching W m = subst (λ (X : Name). Counterpart p X U W) (same_some (family_of T) m.family Y m.of_view family_is) m.counterpart

  pub no_twin : CounterpartIs p t.known.items U (Y ∷ []) None → IsTrue false ↔ HasTwin p t.known.items parts T U ty
  no_twin n = iff_false (λ h. n Y h.0 refl (matching h.0 h.1))

  pub twin_is : (x : ClassId) (told : Bool) → CounterpartIs p t.known.items U (Y ∷ []) (Some x)
      → ((X : Path) → IsNumber t.known.items x X → IsTrue told ↔ (HavePart parts u x.0 × InType p (this_viewed T) ty X))
      → IsTrue told ↔ HasTwin p t.known.items parts T U ty
  twin_is x told c i =
      let X = c.1 in
      let e : c.0 ≡ Y = let h = c.2 in one_name h in
      let k : Counterpart p Y U X = subst (λ (N : Name). Counterpart p N U X) e c.4 in
      let j = i X c.3 in (
        λ b.
            let h = j.0 b in (
              X,
              record { family = Y; of_view = family_is; counterpart = k; is_in = h.1 },
              record { i = u; j = x.0; one = at_u; other = c.3; part = h.0.0; one_in = h.0.1; other_in = h.0.2 },
            ),
        λ h.
            let same : h.0 ≡ X = (matching h.0 h.1).is ∙ sym k.is in
            let at_u' : h.2.i ≡ u = same_number p t f h.2.i u U h.2.one at_u in
            let at_x : h.2.j ≡ x.0 = same_number p t f h.2.j x.0 h.0 h.2.other (subst (λ (R : Path). IsNumber t.known.items x R) (sym same) c.3) in
            j.1 (
              (h.2.part, subst (λ (n : ℕ). slice_get parts n ≡ Some h.2.part) at_u' h.2.one_in, subst (λ (n : ℕ). slice_get parts n ≡ Some h.2.part) at_x h.2.other_in),
              subst (λ (R : Path). InType p (this_viewed T) ty R) same h.1.is_in,
            ),
      ) where
        one_name : {N : Name} → Y ∷ [] ≡ N ∷ [] → N ≡ Y
        one_name e = cc

-- ---- all of them

-- each of the first n that is in the type has a twin
abbrev pub CoversFirst : Program → List ShownPath → List ℕ → List ℕ → ℕ → Path → Path → Ty → Type 0
CoversFirst p known parts among n V T ty = (k u : ℕ) (U : Path) → k < n → slice_get among k ≡ Some u → IsAt known u U → ClassAt p V ty U → HasTwin p known parts T U ty

get_or_any : (xs : List ℕ) (i d : ℕ) → i < length xs → get_or xs i d ≡ get_or xs i (get_or xs i d)
get_or_any [] i d l = absurd (omega arith)
get_or_any (x ∷ xs) zero d l = refl
get_or_any (x ∷ xs) (suc i) d l = reread xs i d (get_or xs i d) (omega (arith, l)) where
  reread : (ys : List ℕ) (n a b : ℕ) → n < length ys → get_or ys n a ≡ get_or ys n b
  reread [] n a b m = absurd (omega arith)
  reread (y ∷ ys) zero a b m = refl
  reread (y ∷ ys) (suc n) a b m = reread ys n a b (omega (arith, m))

pub covers_more : (p : Program) (known : List ShownPath) (parts among : List ℕ) (i u : ℕ) (V T : Path) (ty : Ty) → i < length among → u ≡ get_or among i 0
    → ((U : Path) → IsAt known u U → ClassAt p V ty U → HasTwin p known parts T U ty) → CoversFirst p known parts among i V T ty
    → CoversFirst p known parts among (i + 1) V T ty
covers_more p known parts among i u V T ty l e h all k w U m at n a = by_place (cases_lt k i) where
  by_place : (k < i) ⊎ (i ≤ k) → HasTwin p known parts T U ty
  by_place (inl b) = all k w U b at n a
  by_place (inr b) =
      let here : slice_get among i ≡ Some (get_or among i 0) = slice_get_read among (length among) i (get_or among i 0) refl l (get_or_any among i 0 l) in
      let q : k ≡ i = omega arith in
      let same : w ≡ u = same_some (slice_get among k) w (get_or among i 0) at (ap (slice_get among) q ∙ here) ∙ sym e in
      h U (subst (λ (x : ℕ). IsAt known x U) same n) a

pub covers_all : (p : Program) (known : List ShownPath) (parts among : List ℕ) (i : ℕ) (V T : Path) (ty : Ty) → length among ≤ i
    → CoversFirst p known parts among i V T ty → CoversOf p known parts among V T ty
covers_all p known parts among i V T ty past all u U c n a =
    all c.0 u U (omega (arith, c.1, past)) (slice_get_read among (length among) c.0 u refl c.1 (sym c.2)) n a

pub uncovered_at : (p : Program) (known : List ShownPath) (parts : List ℕ) (u : ℕ) (U V T : Path) (ty : Ty) → ClassAt p V ty U
    → (HasTwin p known parts T U ty → ⊥) → Uncovered p (SamePart known parts) V T ty
uncovered_at p known parts u U V T ty a n = record { class = U; is_in = a; none = λ W m s. n (W, m, s) }
