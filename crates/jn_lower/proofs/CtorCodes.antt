-- The codes of constructors, from the numbers of selectors.
use Rattle.std.proofs.Common.{◌≡◌, ◌<◌, ◌-◌, ℕ, reverse, get_or, slice_index_or, List, [], ◌∷◌, length, refl, sym, ap, ◌∙◌, subst, arith}
use Rattle.std.specs.Prelude.{Some, None}
use Rattle.std.proofs.lemmas.List.{get_or-reverse, length-reverse}
use Rattle.jn_base.specs.declared.tree.Name.{Name}
use Rattle.jn_code.specs.declared.image.Shape.{Shape}
use Rattle.jn_agree.specs.Places.{MethodOf, ctor, bare}
use Rattle.jn_lower.specs.Selecting.{shape_of, HeadIs, CtorsFound}

no_items : (xs : List ℕ) → length xs ≡ 0 → xs ≡ []
no_items [] e = refl
no_items (x ∷ xs) e = absurd (omega (arith, e))

bare_shape : (s : Shape) → length s.params ≡ 0 → s.result ≡ 0 → s ≡ shape_of [] 0
bare_shape s e f = ap (λ ps. shape_of ps s.result) (no_items s.params e) ∙ ap (λ k. shape_of [] k) f

pub ctors_found : CtorsFound
ctors_found n x params (Some j) is may =
    let r = is.some j refl in
    ctor r.0 r.1 j (shape_of params 0) r.2 r.3 refl refl refl
ctors_found n x params None is may =
    bare (ap length (may refl))
    (λ C P j shape named sel none_of no_result. is.none refl C P j named
    (subst (λ ps. MethodOf n C j (shape_of ps 0)) (sym (may refl))
    (subst (λ s. MethodOf n C j s) (bare_shape shape none_of no_result) sel))) refl

-- ---- the last name

head_of : (xs : List Name) (d : Name) → 0 < length xs → (ys : List Name) × (xs ≡ get_or xs 0 d ∷ ys)
head_of [] d lt = absurd (omega arith)
head_of (x ∷ xs) d lt = (xs, refl)

pub last_head : (xs : List Name) (d : Name) → 0 < length xs
    → (ys : List Name) × (reverse xs ≡ slice_index_or xs (length xs - 1) d ∷ ys)
last_head xs d lt =
    let long : 0 < length (reverse xs) = omega (arith, length-reverse xs) in
    let h = head_of (reverse xs) d long in
    let same : length xs - 1 - 0 ≡ length xs - 1 = omega arith in
    (h.0, h.1 ∙ ap (λ y. y ∷ h.0) (get_or-reverse xs 0 d lt ∙ ap (λ k. get_or xs k d) same))

-- two that are said to be the first are one
pub same_head : (xs : List Name) (a b : Name) (ys : List Name) → HeadIs xs (Some a) → xs ≡ b ∷ ys → a ≡ b
same_head xs a b ys h e = first_one a b h.0 ys (sym h.1 ∙ e)
  where
    first_one : (a b : Name) (xs ys : List Name) → ◌≡◌ {A = List Name} (a ∷ xs) (b ∷ ys) → a ≡ b
    first_one a b xs ys e = ap (λ (zs : List Name). get_or zs 0 a) e
