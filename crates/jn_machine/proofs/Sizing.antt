-- The most of what each element has.
use Rattle.std.proofs.Common.{◌≡◌, sym, ℕ, ◌+◌, ◌<◌, ◌≤◌, List, [], ◌∷◌, length, take, get_or, All, subst}
use Rattle.std.proofs.lemmas.List.{take_more, take_all}
use Rattle.std.proofs.lemmas.List.Elements.{All-append, All-cons, All-nil, All-same}
use Rattle.std.specs.List.{slice_index_or}

pub all_wider : {A : Type 0} (P Q : A → Type 0) (xs : List A) → ((x : A) → P x → Q x) → All P xs → All Q xs
all_wider P Q xs f a = λ k d h. f (slice_index_or xs k d) (a k d h)

pub all_more : {A : Type 0} (P Q : A → Type 0) (xs : List A) (k : ℕ) (x : A) → ((x : A) → P x → Q x) → k < length xs → x ≡ get_or xs k x → Q x → All P (take k xs) → All Q (take (k + 1) xs)
all_more P Q xs k x f h e q a =
    All-same Q _ _ (take_more xs k x h) (All-append Q (take k xs) (get_or xs k x ∷ []) (all_wider P Q (take k xs) f a) (All-cons Q (get_or xs k x) [] (subst Q e q) (All-nil Q)))

pub all_whole : {A : Type 0} (P : A → Type 0) (xs ys : List A) (k : ℕ) → xs ≡ ys → length xs ≤ k → All P (take k xs) → All P ys
all_whole P xs ys k e h a = subst (All P) e (All-same P _ _ (sym (take_all k xs h)) a)
