-- The one thing that is so, where there is one at most.
use Rattle.jn_sem.specs.Asks.{OnOnly, found, not_found}
use Rattle.jn_sem.specs.LawsOfFinding.{IsOne}

pub found_only : {A D : Type 0} (Is : A → Type 0) (Else : D → Type 0) (Go : A → D → Type 0) (d : D) → IsOne Is → (a : A) → Is a → Go a d → OnOnly Is Else Go d
found_only Is Else Go d once a is go = found a (record { is = is; one = λ b k. once b a k is }) go

pub none_only : {A D : Type 0} (Is : A → Type 0) (Else : D → Type 0) (Go : A → D → Type 0) (d : D) → ((a : A) → Is a → ⊥) → Else d → OnOnly Is Else Go d
none_only Is Else Go d n other = not_found (λ a k. n a k.is) other
