-- How a way is shown, and what is known from it, where it asks for something.
use Rattle.std.proofs.Common.{◌≡◌, subst}
use Rattle.jn_sem.specs.Asks.{Only, OnOnly, found, not_found, OnTest, holds, fails}

pub on_found : {A D : Type 0} {Is : A → Type 0} {Else : D → Type 0} {Go : A → D → Type 0} {d : D} (a : A) → Is a → ((b c : A) → Is b → Is c → b ≡ c)
    → Go a d → OnOnly Is Else Go d
on_found a is one g = found a (record { is = is; one = λ b h. one b a h is }) g

pub on_none : {A D : Type 0} {Is : A → Type 0} {Else : D → Type 0} {Go : A → D → Type 0} {d : D} → ((a : A) → Is a → ⊥) → Else d → OnOnly Is Else Go d
on_none none e = not_found (λ a x. none a x.is) e

-- where a is the one, the way goes on with it
pub go_found : {A D : Type 0} {Is : A → Type 0} {Else : D → Type 0} {Go : A → D → Type 0} {d : D} → OnOnly Is Else Go d → (a : A) → Only Is a → Go a d
go_found {A} {D} {Is} {Else} {Go} {d} (found b y g) a x = subst (λ c. Go c d) (x.one b y.is) g
go_found (not_found n e) a x = absurd (n a x)

pub go_none : {A D : Type 0} {Is : A → Type 0} {Else : D → Type 0} {Go : A → D → Type 0} {d : D} → OnOnly Is Else Go d → ((a : A) → Is a → ⊥) → Else d
go_none (found b y g) none = absurd (none b y.is)
go_none (not_found n e) none = e

pub go_holds : {D : Type 0} {Is : Type 0} {Else Go : D → Type 0} {d : D} → OnTest Is Else Go d → Is → Go d
go_holds (holds x g) is = g
go_holds (fails n e) is = absurd (n is)

pub go_fails : {D : Type 0} {Is : Type 0} {Else Go : D → Type 0} {d : D} → OnTest Is Else Go d → (Is → ⊥) → Else d
go_fails (holds x g) n = absurd (n x)
go_fails (fails m e) n = e
