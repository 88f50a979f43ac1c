-- All words of given names up to a length.
use Rattle.std.proofs.Common.{◌≤◌, ℕ, zero, suc, List, [], ◌∷◌, ◌++◌, length, arith}
use Rattle.std.specs.Prelude.{map}
use Rattle.jn_base.specs.Atoms.{Among, first, later}
use Rattle.jn_laws.proofs.Lists.{among_left, among_right, among_map}

pub cons : {A : Type 0} → A → List A → List A
cons x xs = x ∷ xs

-- each of the words behind each of the letters
pub in_front : {A : Type 0} → List A → List (List A) → List (List A)
in_front [] ws = []
in_front (x ∷ xs) ws = map (cons x) ws ++ in_front xs ws

pub words : {A : Type 0} → List A → ℕ → List (List A)
words xs zero = [] ∷ []
words xs (suc n) = [] ∷ in_front xs (words xs n)

in_front_all : {A : Type 0} (xs : List A) (ws : List (List A)) (x : A) (w : List A) → Among xs x → Among ws w → Among (in_front xs ws) (x ∷ w)
unfolding in_front cons
in_front_all _ ws x w (first {xs = xs}) m = among_left (map (cons x) ws) (in_front xs ws) (among_map (cons x) ws w m)
in_front_all _ ws x w (later {y = y} {xs = xs} a) m = among_right (map (cons y) ws) (in_front xs ws) (in_front_all xs ws x w a m)

pub all_words : {A : Type 0} (xs : List A) (n : ℕ) (w : List A) → length w ≤ n → ((x : A) → Among w x → Among xs x) → Among (words xs n) w
unfolding words
all_words xs zero [] l h = first
all_words xs zero (x ∷ w) l h = absurd (omega (arith, l))
all_words xs (suc n) [] l h = first
all_words xs (suc n) (x ∷ w) l h = later (in_front_all xs (words xs n) x w (h x first) (all_words xs n w (omega (arith, l)) (λ y m. h y (later m))))
