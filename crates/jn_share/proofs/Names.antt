-- Paths as code has them, the outermost name first: their families, and paths in another family.
use Rattle.std.proofs.Common.{◌≡◌, ℕ, List, [], ◌∷◌, ◌++◌, length, reverse, drop, slice_get, Some, None, refl, sym, ap, ◌∙◌, arith}
use Rattle.std.proofs.lemmas.List.{reverse-reverse}
use Rattle.jn_base.specs.declared.tree.Name.{Name}
use Rattle.jn_base.specs.declared.path.Path.{Path as ShownPath}
use Rattle.jn_base.specs.Paths.{Path, shown}
use Rattle.jn_reach.proofs.Searches.{same_some}
use Rattle.jn_sem.specs.Sharing.{family_of, in_family}
use Rattle.jn_share.proofs.Turned.{turned_first}
use Rattle.jn_share.specs.Pairing.{HaveOneFamily, IsAt}

pub last_family : (Q : Path) (X : Name) → family_of (Q ++ X ∷ []) ≡ Some X
last_family [] X = refl
last_family (C ∷ []) X = refl
last_family (C ∷ (D ∷ Q)) X = last_family (D ∷ Q) X

pub last_in : (Q : Path) (X Y : Name) → in_family Y (Q ++ X ∷ []) ≡ Q ++ Y ∷ []
last_in [] X Y = refl
last_in (C ∷ []) X Y = refl
last_in (C ∷ (D ∷ Q)) X Y = ap (λ (R : Path). C ∷ R) (last_in (D ∷ Q) X Y)

outer_family : (X : Name) (names : List Name) → family_of (reverse (X ∷ names)) ≡ Some X
outer_family X names = ap family_of (turned_first X names) ∙ last_family (reverse names) X

outer_in : (X Y : Name) (names : List Name) → in_family Y (reverse (X ∷ names)) ≡ reverse (Y ∷ names)
outer_in X Y names = ap (in_family Y) (turned_first X names) ∙ last_in (reverse names) X Y ∙ sym (turned_first Y names)

-- the first name is the family
pub first_family : (names : List Name) (X : Name) → slice_get names 0 ≡ Some X → family_of (reverse names) ≡ Some X
first_family [] X e = cc
first_family (Y ∷ names) X e = outer_family Y names ∙ e

pub in_family_none : (names : List Name) (A : Name) → length names ≡ 0 → [] ≡ in_family A (reverse names)
in_family_none [] A l = refl
in_family_none (Y ∷ names) A l = absurd (omega (arith, l))

pub in_family_is : (names : List Name) (A : Name) → (length names ≡ 0 → ⊥) → reverse (drop 1 names) ++ A ∷ [] ≡ in_family A (reverse names)
in_family_is [] A l = absurd (l refl)
in_family_is (X ∷ names) A l = sym (turned_first A names) ∙ sym (outer_in X A names)

pub one_to : (names others : List Name) (X Y : Name) → slice_get names 0 ≡ Some X → slice_get others 0 ≡ Some Y → X ≡ Y → HaveOneFamily (reverse names) (reverse others)
one_to names others X Y a b e = record { X = X; one = first_family names X a; other = first_family others Y b ∙ ap Some (sym e) }

pub one_from : (names others : List Name) (X Y : Name) → slice_get names 0 ≡ Some X → slice_get others 0 ≡ Some Y → HaveOneFamily (reverse names) (reverse others) → X ≡ Y
one_from names others X Y a b h =
    let e : Some X ≡ Some h.X = sym (first_family names X a) ∙ h.one in
    let f : Some Y ≡ Some h.X = sym (first_family others Y b) ∙ h.other in
    cc

-- without a first name there is no family
pub unnamed : (names : List Name) (X : Name) → slice_get names 0 ≡ None → family_of (reverse names) ≡ Some X → ⊥
unnamed [] X e f = cc
unnamed (Y ∷ names) X e f = cc

-- the path at a place, by its names
pub path_at : (known : List ShownPath) (k : ℕ) (names : List Name) (R : Path) → slice_get known k ≡ Some (record { names = names }) → IsAt known k R → reverse names ≡ R
path_at known k names R a n =
    let e : record { names = names } ≡ shown R = same_some (slice_get known k) (record { names = names }) (shown R) a n in
    ap (λ (q : ShownPath). reverse q.names) e ∙ reverse-reverse R
