-- Sets of names by their numbers.
use Rattle.std.proofs.Common.{◌≡◌, ◌<◌, ◌≤◌, ◌+◌, ℕ, Bool, true, false, List, [], ◌∷◌, ◌++◌, take, length, get_or}
use Rattle.std.proofs.Common.{Contains, ◌↔◌, IsTrue, nat_eq, if◌then◌else◌, refl, sym, ◌∙◌, ap, subst, ◌⊎◌, inl, inr}
use Rattle.std.specs.List.{list_any}
use Rattle.std.proofs.lemmas.Bool.Decides.{Decides-eqb}
use Rattle.std.proofs.lemmas.Cmp.{nat_eq_equiv}
use Rattle.std.proofs.lemmas.List.{take_more, take_all}
use Rattle.std.proofs.lemmas.List.Elements.{Contains-push, Contains-append_left, Contains-push_cases}
use Rattle.std.proofs.lemmas.Map.Views.{Contains-from_any, list_any-from_Contains}
use Rattle.indexmap.specs.IndexSet.{insert_key}
use Rattle.indexmap.proofs.CallerLemmas.{Contains-insert_key}
use Rattle.jn_base.specs.declared.tree.Name.{Name}

same_numbers : (x y : ℕ) → nat_eq x y ≡ true → x ≡ y
same_numbers x y = (Decides-eqb x y).0

same_name : (a b : Name) → a.0 ≡ b.0 → a ≡ b
same_name a b e = ap (λ n. record { 0 = n }) e

-- the set has the numbers of the names
abbrev pub HasNames : List ℕ → List Name → Type 0
HasNames keys names = (m : Name) → Contains keys m.0 ↔ Contains names m

-- a number goes behind the others where it isn't there
inserted : (keys : List ℕ) (k n : ℕ) → Contains (insert_key nat_eq keys k) n → Contains keys n ⊎ (k ≡ n)
inserted keys k n = by_test (list_any (nat_eq k) keys) refl where
  by_test : (b : Bool) → list_any (nat_eq k) keys ≡ b → Contains (insert_key nat_eq keys k) n → Contains keys n ⊎ (k ≡ n)
  by_test true e h = inl (subst (λ (ks : List ℕ). Contains ks n) (ap (λ c. if c then keys else keys ++ k ∷ []) e) h)
  by_test false e h =
      Contains-push_cases keys k n
      (subst (λ (ks : List ℕ). Contains ks n) (ap (λ c. if c then keys else keys ++ k ∷ []) e) h)

stays : (keys : List ℕ) (k n : ℕ) → Contains keys n → Contains (insert_key nat_eq keys k) n
stays keys k n h = by_test (list_any (nat_eq k) keys) refl where
  by_test : (b : Bool) → list_any (nat_eq k) keys ≡ b → Contains (insert_key nat_eq keys k) n
  by_test true e = subst (λ (ks : List ℕ). Contains ks n) (sym (ap (λ c. if c then keys else keys ++ k ∷ []) e)) h
  by_test false e =
      subst (λ (ks : List ℕ). Contains ks n) (sym (ap (λ c. if c then keys else keys ++ k ∷ []) e))
      (Contains-append_left keys (k ∷ []) n h)

one_more : (keys : List ℕ) (names : List Name) (x : Name) → HasNames keys names
    → HasNames (insert_key nat_eq keys x.0) (names ++ x ∷ [])
one_more keys names x h m = (
  λ w. by_key (inserted keys x.0 m.0 w),
  λ w. by_name (Contains-push_cases names x m w),
) where
  by_key : Contains keys m.0 ⊎ (x.0 ≡ m.0) → Contains (names ++ x ∷ []) m
  by_key (inl w) = Contains-append_left names (x ∷ []) m ((h m).0 w)
  by_key (inr e) = subst (Contains (names ++ x ∷ [])) (same_name x m e) (Contains-push names x)

  by_name : Contains names m ⊎ (x ≡ m) → Contains (insert_key nat_eq keys x.0) m.0
  by_name (inl w) = stays keys x.0 m.0 ((h m).1 w)
  by_name (inr e) =
      subst (λ (y : Name). Contains (insert_key nat_eq keys x.0) y.0) e
      (Contains-insert_key nat_eq same_numbers keys x.0)

pub names_more : (keys new : List ℕ) (names : List Name) (i : ℕ) (d : Name) → i < length names → HasNames keys (take i names)
    → new ≡ insert_key nat_eq keys (get_or names i d).0 → HasNames new (take (i + 1) names)
names_more keys new names i d l h e = subst (λ (ks : List ℕ). HasNames ks (take (i + 1) names)) (sym e)
    (subst (HasNames (insert_key nat_eq keys (get_or names i d).0)) (sym (take_more names i d l))
    (one_more keys (take i names) (get_or names i d) h))

pub all_names : (keys : List ℕ) (names : List Name) (i : ℕ) → length names ≤ i → HasNames keys (take i names)
    → HasNames keys names
all_names keys names i l = subst (HasNames keys) (take_all i names l)

-- the test finds a number that is there, and no other
pub tells : (keys : List ℕ) (n : ℕ) (b : Bool) → b ≡ list_any (nat_eq n) keys → IsTrue b ↔ Contains keys n
tells keys n b e = (
  λ h. Contains-from_any same_numbers n keys (sym e ∙ h),
  λ h. e ∙ list_any-from_Contains nat_eq_equiv n keys h,
)
