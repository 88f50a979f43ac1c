-- The selectors of bodies, found by their keys.
use Rattle.std.proofs.Common.{◌≡◌, ◌<◌, ◌≤◌, ◌+◌, ◌⊎◌, inl, inr, ℕ, zero, suc, List, [], ◌∷◌, ◌++◌, length, map, Option, Some, None, IfSome, IfNone, slice_get, get_or, refl, sym, subst, ap, ◌∙◌, arith}
use Rattle.std.proofs.lemmas.Bool.{cases_lt}
use Rattle.std.proofs.lemmas.Option.{slice_get_read}
use Rattle.jn_reach.proofs.Searches.{same_some}
use Rattle.jn_index.specs.declared.index.Placed.{Placed}
use Rattle.jn_index.specs.Index.{IsIndex, IsFirst}
use Rattle.jn_agree.specs.declared.selectors.MethodSel.{MethodSel}
use Rattle.jn_layout.specs.declared.declared.BodyAt.{BodyAt}
use Rattle.jn_layout.specs.Keys.{shape_key, sel_key}
use Rattle.jn_layout.specs.Lookups.{SelectsBody}
use Rattle.jn_layout.specs.Finding.{ShapeTold, ShapeAt, ShapesTold}
use Rattle.jn_layout.proofs.KeyLaws.{found_by, none_by, shape_to, shape_from}

got_push : {A : Type 0} (xs : List A) (y : A) (k : ℕ) (x : A) → slice_get xs k ≡ Some x → slice_get (xs ++ y ∷ []) k ≡ Some x
got_push [] y k x e = cc e
got_push (z ∷ zs) y zero x e = e
got_push (z ∷ zs) y (suc k) x e = got_push zs y k x e

got_last : {A : Type 0} (xs : List A) (y : A) → slice_get (xs ++ y ∷ []) (length xs) ≡ Some y
got_last [] y = refl
got_last (z ∷ zs) y = got_last zs y

pub shape_told : (names : List MethodSel) (x : BodyAt) (index : List Placed) (key : List ℕ) → key ≡ shape_key x → IsIndex (map sel_key names) index → (o : Option ℕ)
    → IfSome o (λ k. (keys : List (List ℕ)) → IsIndex keys index → IsFirst keys key k)
    → IfNone o ((keys : List (List ℕ)) → IsIndex keys index → (k : ℕ) → slice_get keys k ≡ Some key → ⊥) → ShapeTold names x o
shape_told names x index key e are None some none =
    none_by sel_key (SelectsBody x) key (λ s h. sym (e ∙ shape_to x s h)) (λ s h. shape_from x s (sym e ∙ sym h)) names (none (map sel_key names) are)
shape_told names x index key e are (Some k) some none =
    found_by sel_key (SelectsBody x) key (λ s h. sym (e ∙ shape_to x s h)) (λ s h. shape_from x s (sym e ∙ sym h)) names k (some (map sel_key names) are).at

pub shapes_more : (names : List MethodSel) (bodies : List BodyAt) (i : ℕ) (x : BodyAt) → i < length bodies → x ≡ get_or bodies i x → (all after : List (Option ℕ)) (o : Option ℕ)
    → after ≡ all ++ o ∷ [] → length all ≡ i → ShapeTold names x o → ShapesTold names bodies i all → ShapesTold names bodies (i + 1) after
shapes_more names bodies i x l e all after o is long told g k y m at = subst (ShapeAt names y k) (sym is) (by (cases_lt k i)) where
  by : (k < i) ⊎ (i ≤ k) → ShapeAt names y k (all ++ o ∷ [])
  by (inl d) = let w = g k y d at in record { told = w.told; at = got_push all o k w.told w.at; is = w.is }
  by (inr d) =
      let same : k ≡ i = omega (arith, m, d) in
      let there : slice_get bodies k ≡ Some x = ap (slice_get bodies) same ∙ slice_get_read bodies (length bodies) i x refl l e in
      let it : x ≡ y = same_some (slice_get bodies k) x y there at in
      let place : length all ≡ k = omega (arith, long, same) in
      record {
        told = o;
        at = subst (λ (j : ℕ). slice_get (all ++ o ∷ []) j ≡ Some o) place (got_last all o);
        is = subst (λ (z : BodyAt). ShapeTold names z o) it told;
      }
