-- What a call tells of an answer or a refusal.
use Rattle.std.specs.Prelude.{Result, Ok, Err}
use Rattle.jn_base.specs.declared.refusal.Refusal.{Refusal}
use Rattle.jn_names.specs.declared.fault.NameFault.{NameFault}
use Rattle.jn_names.specs.declared.fault.NameFault.TheVariants as names
use Rattle.jn_heads.specs.declared.fault.CheckFault.{CheckFault}
use Rattle.jn_heads.specs.declared.fault.CheckFault.TheVariants.{Refused, Memory}

-- T holds of what the answer shows, or of the refusal; of want of memory nothing is said
abbrev pub Told : {A B : Type 0} → (Result A Refusal → Type 0) → (B → A) → Result B CheckFault → Type 0
Told T show (Ok x) = T (Ok (show x))
Told T show (Err (Refused r)) = T (Err r)
Told T show (Err Memory) = Unit {0}

abbrev pub itself : {A : Type 0} → A → A
itself a = a

-- the fault of a name, as one of a check
abbrev pub of_names : NameFault → CheckFault
of_names (names.Refused r) = Refused r
of_names names.Memory = Memory
