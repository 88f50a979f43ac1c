-- The class order of members, and of paths of two depths.
use Rattle.std.proofs.Common.{◌≡◌, ◌<◌, ◌≤◌, ℕ, List, [], ◌∷◌, ◌++◌, length, arith, sym, ◌∙◌, ap, refl, reverse, inl, inr, suc}
use Rattle.std.specs.declared.cmp.Ordering.{Ordering}
use Rattle.std.specs.declared.cmp.Ordering.TheVariants.{Less, Equal, Greater}
use Rattle.std.specs.Ordering.{nat_cmp, ordering_then}
use Rattle.std.specs.Cmp.{nat_cmp_is}
use Rattle.std.specs.Cmp.Lexicographic.{slice_cmp}
use Rattle.std.proofs.lemmas.Bool.{cases_lt}
use Rattle.std.proofs.lemmas.List.{reverse-append, length-reverse}
use Rattle.jn_base.specs.declared.tree.Name.{Name}
use Rattle.jn_base.specs.declared.tree.Program.{Program}
use Rattle.jn_base.specs.Paths.{Path}
use Rattle.jn_base.specs.ClassOrder.{name_bytes, name_cmp, class_cmp, Before}

less_is : (a b : ℕ) → a < b → nat_cmp a b ≡ Less
less_is a b l = sym (nat_cmp_is a b Less l)

same_is : (a b : ℕ) → a ≡ b → nat_cmp a b ≡ Equal
same_is a b e = sym (nat_cmp_is a b Equal e)

greater_is : (a b : ℕ) → b < a → nat_cmp a b ≡ Greater
greater_is a b l = sym (nat_cmp_is a b Greater l)

then_nothing : (r : Ordering) → ordering_then r Equal ≡ r
then_nothing Less = refl
then_nothing Equal = refl
then_nothing Greater = refl

then_joined : (r s t : Ordering) → ordering_then r (ordering_then s t) ≡ ordering_then (ordering_then r s) t
then_joined Less s t = refl
then_joined Equal s t = refl
then_joined Greater s t = refl

-- lists of one length, each with one more at its end
last_decides : {X : Type 0} (R : X → X → Ordering) (xs ys : List X) (x y : X) → length xs ≡ length ys
    → slice_cmp R (xs ++ x ∷ []) (ys ++ y ∷ []) ≡ ordering_then (slice_cmp R xs ys) (R x y)
last_decides R [] [] x y e = then_nothing (R x y)
last_decides R [] (b ∷ ys) x y e = absurd (omega (arith, e))
last_decides R (a ∷ xs) [] x y e = absurd (omega (arith, e))
last_decides R (a ∷ xs) (b ∷ ys) x y e =
    ap (ordering_then (R a b)) (last_decides R xs ys x y (omega (arith, e))) ∙ then_joined (R a b)
    (slice_cmp R xs ys) (R x y)

reversed : (C : Name) (P : Path) → reverse (C ∷ P) ≡ reverse P ++ C ∷ []
reversed C P = reverse-append (C ∷ []) P

names_order : (p : Program) (P Q : Path) (C D : Name) → length P ≡ length Q
    → slice_cmp (name_cmp p) (reverse (C ∷ P)) (reverse (D ∷ Q)) ≡ ordering_then
    (slice_cmp (name_cmp p) (reverse P) (reverse Q)) (name_cmp p C D)
names_order p P Q C D e =
    let l : length (reverse P) ≡ length (reverse Q) = length-reverse P ∙ (e ∙ sym (length-reverse Q)) in
    ap (λ (xs : List Name). slice_cmp (name_cmp p) xs (reverse (D ∷ Q))) (reversed C P)
    ∙ (ap (λ (ys : List Name). slice_cmp (name_cmp p) (reverse P ++ C ∷ []) ys) (reversed D Q)
    ∙ last_decides (name_cmp p) (reverse P) (reverse Q) C D l)

-- paths of one depth go by their names
by_names : (p : Program) (P Q : Path) → length P ≡ length Q
    → class_cmp p P Q ≡ slice_cmp (name_cmp p) (reverse P) (reverse Q)
by_names p P Q e = ap (λ (r : Ordering). ordering_then r (slice_cmp (name_cmp p) (reverse P) (reverse Q)))
    (same_is (length P) (length Q) e)

member_order : (p : Program) (P Q : Path) (C D : Name) → length P ≡ length Q
    → class_cmp p (C ∷ P) (D ∷ Q) ≡ ordering_then (class_cmp p P Q) (name_cmp p C D)
member_order p P Q C D e =
    by_names p (C ∷ P) (D ∷ Q) (ap suc e)
    ∙ (names_order p P Q C D e ∙ ap (λ (r : Ordering). ordering_then r (name_cmp p C D)) (sym (by_names p P Q e)))

-- the members of a path that is before another come before the other's
pub before_member : (p : Program) (P Q : Path) (C D : Name) → length P ≡ length Q → Before p P Q
    → Before p (C ∷ P) (D ∷ Q)
before_member p P Q C D e b = member_order p P Q C D e ∙ ap (λ (r : Ordering). ordering_then r (name_cmp p C D)) b

slice_same : (p : Program) (xs : List Name) → ((n : Name) → name_cmp p n n ≡ Equal)
    → slice_cmp (name_cmp p) xs xs ≡ Equal
slice_same p [] s = refl
slice_same p (x ∷ xs) s =
    ap (λ (r : Ordering). ordering_then r (slice_cmp (name_cmp p) xs xs)) (s x) ∙ slice_same p xs s

bytes_same : (xs : List ℕ) → slice_cmp nat_cmp xs xs ≡ Equal
bytes_same [] = refl
bytes_same (x ∷ xs) =
    ap (λ (r : Ordering). ordering_then r (slice_cmp nat_cmp xs xs)) (same_is x x refl) ∙ bytes_same xs

path_same : (p : Program) (P : Path) → class_cmp p P P ≡ Equal
path_same p P = by_names p P P refl ∙ slice_same p (reverse P) (λ n. bytes_same (name_bytes p n))

sibling_order : (p : Program) (P : Path) (C D : Name) → class_cmp p (C ∷ P) (D ∷ P) ≡ name_cmp p C D
sibling_order p P C D =
    member_order p P P C D refl ∙ ap (λ (r : Ordering). ordering_then r (name_cmp p C D)) (path_same p P)

-- the members of one path go by their names
pub before_sibling : (p : Program) (P : Path) (C D : Name) → name_cmp p C D ≡ Less → Before p (C ∷ P) (D ∷ P)
before_sibling p P C D l = sibling_order p P C D ∙ l

pub sibling_before : (p : Program) (P : Path) (C D : Name) → Before p (C ∷ P) (D ∷ P) → name_cmp p C D ≡ Less
sibling_before p P C D l = sym (sibling_order p P C D) ∙ l

-- shorter paths come first
pub before_longer : (p : Program) (P Q : Path) → length P < length Q → Before p P Q
before_longer p P Q l = ap (λ (r : Ordering). ordering_then r (slice_cmp (name_cmp p) (reverse P) (reverse Q)))
    (less_is (length P) (length Q) l)

pub not_longer : (p : Program) (P Q : Path) → Before p P Q → length P ≤ length Q
not_longer p P Q b = elim (cases_lt (length Q) (length P)) [
  | inl longer ↦
      let g : class_cmp p P Q ≡ Greater =
      ap (λ (r : Ordering). ordering_then r (slice_cmp (name_cmp p) (reverse P) (reverse Q)))
      (greater_is (length P) (length Q) longer) in
      absurd (clash (sym g ∙ b))
  | inr past ↦ past
] where
  clash : Greater ≡ Less → ⊥
  clash e = cc e
