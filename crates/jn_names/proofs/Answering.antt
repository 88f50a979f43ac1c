-- What a call answers: refusals, and answers passed on.
use Rattle.std.proofs.Common.{◌≡◌, subst, sym, Ok, Err, Result}
use Rattle.jn_base.specs.declared.refusal.Refusal.{Refusal}
use Rattle.jn_base.specs.declared.tree.Program.{Program}
use Rattle.jn_table.specs.declared.table.Table.{Table}
use Rattle.jn_table.specs.Tables.{IsFilled}
use Rattle.jn_names.specs.declared.fault.NameFault.{NameFault}
use Rattle.jn_names.specs.declared.fault.NameFault.TheVariants.{Refused, Memory}
use Rattle.jn_names.specs.Answers.{Told, IsFault}

-- a refusal of which T holds is told
pub refusing : {A : Type 0} (T : Result A Refusal → Type 0) (f : NameFault) (r : Refusal) → IsFault f r → T (Err r)
    → Told T (Err f)
refusing T (Refused q) r e t = subst (λ (x : Refusal). T (Err x)) (sym e) t
refusing T Memory r e t = tt

-- want of memory
pub no_memory : {A : Type 0} (T : Result A Refusal → Type 0) (f : NameFault) → f ≡ Memory → Told T (Err f)
no_memory T f e = subst (λ (x : NameFault). Told T (Err x)) (sym e) tt

-- what is told of T is told of what T gives
pub told_weaker : {A : Type 0} (T U : Result A Refusal → Type 0) (o : Result A NameFault)
    → ((x : Result A Refusal) → T x → U x) → Told T o → Told U o
told_weaker T U (Ok x) k t = k (Ok x) t
told_weaker T U (Err (Refused r)) k t = k (Err r) t
told_weaker T U (Err Memory) k t = tt

-- a fault that is passed on
pub passing : {A B : Type 0} (T : Result A Refusal → Type 0) (U : Result B Refusal → Type 0) (f : NameFault)
    → ((r : Refusal) → T (Err r) → U (Err r)) → Told T (Err f) → Told U (Err f)
passing T U (Refused r) k t = k r t
passing T U Memory k t = tt

-- what is told of each program of which the table is, is told of one
pub of_one : {A : Type 0} (t : Table) (T : Program → Result A Refusal → Type 0) (p : Program) → IsFilled p t
    → (res : Result A NameFault)
    → Told (λ o. (q : Program) → IsFilled q t → T q o) res → Told (T p) res
of_one t T p f res h = told_weaker (λ o. (q : Program) → IsFilled q t → T q o) (T p) res (λ o k. k p f) h

-- where T holds of one answer at most, that one is told
pub only_one : {A : Type 0} (T : Result A Refusal → Type 0) → ((a b : Result A Refusal) → T a → T b → a ≡ b)
    → (res : Result A NameFault) → Told T res
    → (o : Result A Refusal) → T o → Told (λ a. a ≡ o) res
only_one T once res h o k = told_weaker T (λ a. a ≡ o) res (λ a j. once a o j k) h
