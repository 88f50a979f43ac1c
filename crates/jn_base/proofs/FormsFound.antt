-- Whether what is mentioned has a form.
use Rattle.std.proofs.Common.{◌≡◌, ℕ, Bool, true, false, List, [], ◌∷◌, ◌++◌, ◌||◌, not, ◌==◌, length, map, refl, sym, ap, ◌∙◌, Contains, ◌⊎◌, inl, inr, arith, ◌<◌, ◌≤◌, ◌+◌, suc, add-one, get_or, drop}
use Rattle.std.proofs.Math.Seq.{drop-cons}
use Rattle.std.proofs.Math.ListN.{drop_of_length-le}
use Rattle.std.proofs.lemmas.List.Folds.{list_any-append}
use Rattle.jn_base.specs.declared.tree.Named.{Named}
use Rattle.jn_base.specs.declared.forms.Form.{Form}
use Rattle.jn_base.specs.declared.forms.Form.TheVariants as form
use Rattle.jn_base.specs.Forms.{Mention, Mentions, Mentioned, mentions, all_of, Masked, Shared, Adapted}
use Rattle.jn_base.proofs.NameTests.{in_cons, in_none, first, later}
use Rattle.jn_base.specs.declared.tree.Program.{Program}
use Rattle.jn_base.specs.FormTests.{is_form, has}

pub has_none : (f : Form) → has f [] ≡ false
unfolding has
has_none f = refl

pub has_first : (f : Form) (x : Mention) (xs : Mentions) → has f (x ∷ xs) ≡ (is_form f x || has f xs)
unfolding has
has_first f x xs = refl

pub has_both : (f : Form) (xs ys : Mentions) → has f (xs ++ ys) ≡ (has f xs || has f ys)
unfolding has
has_both f xs ys = list_any-append (is_form f) xs ys

-- no mask and no listed name is a term
pub no_paths_masked : (ms : List Named) → has form.Path (map Masked ms) ≡ false
no_paths_masked [] = has_none form.Path
no_paths_masked (m ∷ ms) = has_first form.Path (Masked m) (map Masked ms) ∙ no_paths_masked ms

pub no_paths_shared : (ms : List Named) → has form.Path (map Shared ms) ≡ false
no_paths_shared [] = has_none form.Path
no_paths_shared (m ∷ ms) = has_first form.Path (Shared m) (map Shared ms) ∙ no_paths_shared ms

pub no_paths_adapted : (ms : List Named) → has form.Path (map Adapted ms) ≡ false
no_paths_adapted [] = has_none form.Path
no_paths_adapted (m ∷ ms) = has_first form.Path (Adapted m) (map Adapted ms) ∙ no_paths_adapted ms

pub masked : (ms : List Named) → has form.Sharing (map Masked ms) ≡ not (length ms == 0)
masked [] = has_none form.Sharing
masked (m ∷ ms) = has_first form.Sharing (Masked m) (map Masked ms) ∙ grind arith

pub shared : (ms : List Named) → has form.Sharing (map Shared ms) ≡ not (length ms == 0)
shared [] = has_none form.Sharing
shared (m ∷ ms) = has_first form.Sharing (Shared m) (map Shared ms) ∙ grind arith

pub adapted : (ms : List Named) → has form.Sharing (map Adapted ms) ≡ not (length ms == 0)
adapted [] = has_none form.Sharing
adapted (m ∷ ms) = has_first form.Sharing (Adapted m) (map Adapted ms) ∙ grind arith

-- ---- a loop over a list: what is found at i, what is not, and the end

at_index : {A : Type 0} (xs : List A) (i : ℕ) (x : A) → i < length xs → x ≡ get_or xs i x → drop i xs ≡ x ∷ drop (i + 1) xs
at_index xs i x h e = drop-cons xs i x h ∙ (ap (λ (y : _). y ∷ drop (suc i) xs) (sym e) ∙ ap (λ (n : ℕ). x ∷ drop n xs) (sym (add-one i)))

module _ {A : Type 0} (f : Form) (g : A → Mentions) (xs : List A) where
  pub one_more : (i : ℕ) (x : A) → i < length xs → x ≡ get_or xs i x
      → has f (all_of (map g (drop i xs))) ≡ (has f (g x) || has f (all_of (map g (drop (i + 1) xs))))
  one_more i x h e =
      ap (λ (ys : List A). has f (all_of (map g ys))) (at_index xs i x h e)
      ∙ has_both f (g x) (all_of (map g (drop (i + 1) xs)))

  pub found : (i : ℕ) (x : A) (b : Bool) → has f (all_of (map g (drop i xs))) ≡ has f (all_of (map g xs))
      → i < length xs → x ≡ get_or xs i x → b ≡ has f (g x) → b ≡ true → true ≡ has f (all_of (map g xs))
  found i x b e h at k t = grind (arith, one_more i x h at)

  pub passed : (i : ℕ) (x : A) (b : Bool) → has f (all_of (map g (drop i xs))) ≡ has f (all_of (map g xs))
      → i < length xs → x ≡ get_or xs i x → b ≡ has f (g x) → b ≡ false
      → has f (all_of (map g (drop (i + 1) xs))) ≡ has f (all_of (map g xs))
  passed i x b e h at k t = grind (arith, one_more i x h at)

  pub none_left : (i : ℕ) → has f (all_of (map g (drop i xs))) ≡ has f (all_of (map g xs)) → length xs ≤ i
      → false ≡ has f (all_of (map g xs))
  none_left i e h = sym (has_none f) ∙ (ap (λ (ys : List A). has f (all_of (map g ys))) (sym (drop_of_length-le xs h)) ∙ e)

module _ {A : Type 0} (f : Form) (g : A → Mention) (xs : List A) where
  one_single : (i : ℕ) (x : A) → i < length xs → x ≡ get_or xs i x
      → has f (map g (drop i xs)) ≡ (is_form f (g x) || has f (map g (drop (i + 1) xs)))
  one_single i x h e =
      ap (λ (ys : List A). has f (map g ys)) (at_index xs i x h e) ∙ has_first f (g x) (map g (drop (i + 1) xs))

  pub found_single : (i : ℕ) (x : A) (b : Bool) → has f (map g (drop i xs)) ≡ has f (map g xs)
      → i < length xs → x ≡ get_or xs i x → b ≡ is_form f (g x) → b ≡ true → true ≡ has f (map g xs)
  found_single i x b e h at k t = grind (arith, one_single i x h at)

  pub passed_single : (i : ℕ) (x : A) (b : Bool) → has f (map g (drop i xs)) ≡ has f (map g xs)
      → i < length xs → x ≡ get_or xs i x → b ≡ is_form f (g x) → b ≡ false → has f (map g (drop (i + 1) xs)) ≡ has f (map g xs)
  passed_single i x b e h at k t = grind (arith, one_single i x h at)

  pub no_single_left : (i : ℕ) → has f (map g (drop i xs)) ≡ has f (map g xs) → length xs ≤ i → false ≡ has f (map g xs)
  no_single_left i e h = sym (has_none f) ∙ (ap (λ (ys : List A). has f (map g ys)) (sym (drop_of_length-le xs h)) ∙ e)

-- ---- a whole program

record Passing (f : Form) (xs : Mentions) : Type 0 where
  what : Mention
  among : Contains xs what
  passes : is_form f what ≡ true

passing : (f : Form) (xs : Mentions) → has f xs ≡ true → Passing f xs
unfolding has
passing f [] h = absurd (cc)
passing f (x ∷ xs) h = by_test (is_form f x) refl (passing f xs) where
  by_test : (b : Bool) → is_form f x ≡ b → (has f xs ≡ true → Passing f xs) → Passing f (x ∷ xs)
  by_test true e k = record { what = x; among = first x xs; passes = e }
  by_test false e k = let rest = k (sym (has_first f x xs ∙ ap (λ (c : Bool). c || has f xs) e) ∙ h) in
      record { what = rest.what; among = later x xs rest.what rest.among; passes = rest.passes }

has_it : (f : Form) (xs : Mentions) (x : Mention) → Contains xs x → is_form f x ≡ true → has f xs ≡ true
has_it f [] x c h = absurd (in_none x c)
has_it f (y ∷ xs) x c h = by_place (in_cons y xs x c) (λ k. has_it f xs x k h) where
  by_place : (y ≡ x) ⊎ Contains xs x → (Contains xs x → has f xs ≡ true) → has f (y ∷ xs) ≡ true
  by_place (inl e) k = has_first f y xs ∙ ap (λ (b : Bool). b || has f xs) (ap (is_form f) e ∙ h)
  by_place (inr j) k = let e : has f xs ≡ true = k j in grind (arith, has_first f y xs)

pub mentioned : (p : Program) (f : Form) → has f (mentions p) ≡ true → Mentioned p (is_form f)
mentioned p f h = let found = passing f (mentions p) h in
    record { what = found.what; among = found.among; passes = found.passes }

pub mentions_it : (p : Program) (f : Form) → Mentioned p (is_form f) → has f (mentions p) ≡ true
mentions_it p f m = has_it f (mentions p) m.what m.among m.passes
