-- The rows of groups, number by number.
use Rattle.std.proofs.Common.{◌≡◌, ◌≤◌, ◌<◌, ◌+◌, ◌↔◌, ◌⊎◌, inl, inr, ℕ, zero, suc, List, [], ◌∷◌, ◌++◌, length, Option, Some, None, slice_get, Bool, IsTrue, true, false, refl, sym, ◌∙◌, subst, arith}
use Rattle.std.proofs.lemmas.Bool.{cases_lt}
use Rattle.std.proofs.lemmas.Option.{slice_get_within}
use Rattle.jn_reach.proofs.Searches.{not_when, same_some}
use Rattle.jn_base.specs.declared.tree.Name.{Name}
use Rattle.jn_base.specs.declared.tree.Program.{Program}
use Rattle.jn_base.specs.declared.path.Path.{Path as ShownPath}
use Rattle.jn_base.specs.Paths.{Path, shown}
use Rattle.jn_table.specs.declared.class.ClassId.{ClassId}
use Rattle.jn_sem.specs.Sharing.{IsClass, family_of}
use Rattle.jn_share.specs.declared.rows.FamilyClass.{FamilyClass}
use Rattle.jn_share.specs.declared.rows.GroupRow.{GroupRow}
use Rattle.jn_share.specs.Pairing.{IsAt}
use Rattle.jn_share.specs.Prepared.{FamilyAt, FamiliesTo}
use Rattle.jn_share.specs.Rows.{IsOwn, OwnIs, IsGroupRow, GroupRowsTo}
use Rattle.jn_share.proofs.Exact.{some_family}

-- ---- a class with its family

-- a class is in a family
pub class_family : (p : Program) (R : Path) → IsClass p R → (X : Name) × (family_of R ≡ Some X)
class_family p [] c = absurd c.universe
class_family p (C ∷ P) c = some_family C P

module _ (p : Program) (known : List ShownPath) (families : List ℕ) (all : FamiliesTo known (length known) families) (k : ℕ) (R : Path) (at : IsAt known k R) where
  its_family : IsClass p R → (X : Name) × (family_of R ≡ Some X) × FamilyAt known families k R X
  its_family c = let f = class_family p R c in (f.0, f.1, all k R f.0 (slice_get_within known k (shown R) at) at f.1)

  pub no_class : (b : Bool) → b ≡ false → IsTrue b ↔ IsClass p R → IsClass p R → ⊥
  no_class b e i c = not_when e i c

  pub no_family_there : None ≡ slice_get families k → IsClass p R → ⊥
  no_family_there e c = let w = its_family c in nothing (e ∙ w.2.1) where
    nothing : {n : ℕ} → None ≡ Some n → ⊥
    nothing h = cc

  pub no_number_there : (n : ℕ) → Some n ≡ slice_get families k → length known ≤ n → IsClass p R → ⊥
  no_number_there n e l c =
      let w = its_family c in
      let same : w.2.0 ≡ n = same_some (slice_get families k) w.2.0 n w.2.1 (sym e) in
      let within = slice_get_within known w.2.0 (shown (w.0 ∷ [])) w.2.2 in
      omega (arith, l, within, same)

  pub own_is : (n : ℕ) (id class : ClassId) (b : Bool) → Some n ≡ slice_get families k → id.0 ≡ n → class.0 ≡ k → b ≡ true → IsTrue b ↔ IsClass p R
      → IsOwn p known k R (record { family = id; class = class })
  own_is n id class b e i q t c =
      let w = its_family (c.0 t) in
      let same : w.2.0 ≡ n = same_some (slice_get families k) w.2.0 n w.2.1 (sym e) in
      record {
        class = c.0 t;
        number = q;
        X = w.0;
        family = w.1;
        family_is = subst (λ (m : ℕ). IsAt known m (w.0 ∷ [])) (same ∙ sym i) w.2.2;
      }

-- what is told of a class is its own, and of another path nothing is told
pub own_told : (p : Program) (known : List ShownPath) (k : ℕ) (R : Path) (told : Option FamilyClass) → OwnIs p known k R told → IsClass p R
    → (x : FamilyClass) × (told ≡ Some x) × IsOwn p known k R x
own_told p known k R None h c = absurd (h c)
own_told p known k R (Some x) h c = (x, refl, h)

pub told_own : (p : Program) (known : List ShownPath) (k : ℕ) (R : Path) (told : Option FamilyClass) (x : FamilyClass) → OwnIs p known k R told → told ≡ Some x → IsOwn p known k R x
told_own p known k R None x h e = absurd (cc e)
told_own p known k R (Some y) x h e = let s : y ≡ x = cc e in subst (IsOwn p known k R) s h

-- ---- the rows

get_front : {A : Type 0} (xs ys : List A) (i : ℕ) (x : A) → slice_get xs i ≡ Some x → slice_get (xs ++ ys) i ≡ Some x
get_front [] ys i x e = absurd (cc e)
get_front (z ∷ xs) ys zero x e = e
get_front (z ∷ xs) ys (suc i) x e = get_front xs ys i x e

get_last : {A : Type 0} (xs : List A) (y : A) → slice_get (xs ++ y ∷ []) (length xs) ≡ Some y
get_last [] y = refl
get_last (x ∷ xs) y = get_last xs y

module _ (p : Program) (known : List ShownPath) (firsts : List ℕ) where
  pub rows_none : (rows : List GroupRow) → GroupRowsTo p known firsts 0 rows
  rows_none rows = record { each = λ k R l a. absurd (omega (arith, l)) }

  pub rows_more : (n : ℕ) (rows after : List GroupRow) (row : GroupRow) → length rows ≡ n → GroupRowsTo p known firsts n rows
      → ((R : Path) → IsAt known n R → IsGroupRow p known firsts n R row) → after ≡ rows ++ row ∷ [] → GroupRowsTo p known firsts (n + 1) after
  rows_more n rows after row long g one e = record { each = λ k R l a. by_order k R l a (cases_lt k n) } where
    by_order : (k : ℕ) (R : Path) → k < n + 1 → IsAt known k R → (k < n) ⊎ (n ≤ k) → (w : GroupRow) × (slice_get after k ≡ Some w) × IsGroupRow p known firsts k R w
    by_order k R l a (inl m) =
        let w = g.each k R m a in
        (w.0, subst (λ (xs : List GroupRow). slice_get xs k ≡ Some w.0) (sym e) (get_front rows (row ∷ []) k w.0 w.1), w.2)
    by_order k R l a (inr m) =
        let s : n ≡ k = omega (arith, l, m) in (
          row,
          subst (λ (xs : List GroupRow). slice_get xs k ≡ Some row) (sym e)
              (subst (λ (i : ℕ). slice_get (rows ++ row ∷ []) i ≡ Some row) (long ∙ s) (get_last rows row)),
          subst (λ (i : ℕ). IsGroupRow p known firsts i R row) s (one R (subst (λ (i : ℕ). IsAt known i R) (sym s) a)),
        )

  pub rows_end : (k n : ℕ) (rows : List GroupRow) → n ≤ k → GroupRowsTo p known firsts k rows → GroupRowsTo p known firsts n rows
  rows_end k n rows l g = record { each = λ i R m a. g.each i R (omega (arith, l, m)) a }
