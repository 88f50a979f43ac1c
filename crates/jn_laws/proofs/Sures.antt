-- What surely is, and what is chosen of a list by what surely is.
use Rattle.std.proofs.Common.{List, [], ◌∷◌, ◌⊎◌, inl, inr}
use Rattle.jn_base.specs.Atoms.{Among, first, later}
use Rattle.jn_laws.specs.Surely.{Surely}

pub surely : {A : Type 0} → A → Surely A
surely a deny = deny a

pub and_so : {A B : Type 0} → Surely A → (A → Surely B) → Surely B
and_so s f deny = s (λ a. f a deny)

pub map_surely : {A B : Type 0} → Surely A → (A → B) → Surely B
map_surely s f deny = s (λ a. deny (f a))

pub decided : (A : Type 0) → Surely (A ⊎ (A → ⊥))
decided A deny = deny (inr (λ a. deny (inl a)))

-- of finitely many
pub surely_each : {A : Type 0} {T : A → Type 0} (xs : List A) → ((x : A) → Among xs x → Surely (T x)) → Surely ((x : A) → Among xs x → T x)
surely_each [] each = surely (λ x a. elim a [ ])
surely_each {A} {T} (y ∷ ys) each = and_so (each y first) (λ t. map_surely (surely_each ys (λ x a. each x (later a))) (λ r x a. at t r x a)) where
  at : T y → ((x : A) → Among ys x → T x) → (x : A) → Among (y ∷ ys) x → T x
  at t r _ first = t
  at t r x (later a) = r x a
