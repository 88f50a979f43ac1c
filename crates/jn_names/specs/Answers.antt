-- What a call answers, where a definition gives an answer or a refusal.
use Rattle.std.specs.Prelude.{◌≡◌, Result, Ok, Err, Some, None}
use Rattle.jn_base.specs.declared.tree.Name.{Name}
use Rattle.jn_base.specs.declared.tree.Place.{Place}
use Rattle.jn_base.specs.declared.names.Spot.{Spot}
use Rattle.jn_base.specs.declared.refusal.Refusal.{Refusal}
use Rattle.jn_base.specs.declared.refusal.Rule.{Rule}
use Rattle.jn_names.specs.declared.fault.NameFault.{NameFault}
use Rattle.jn_names.specs.declared.fault.NameFault.TheVariants.{Refused, Memory}

-- the answer or the refusal is one of which T holds; of want of memory nothing is said
abbrev pub Told : {A : Type 0} → (Result A Refusal → Type 0) → Result A NameFault → Type 0
Told T (Ok x) = T (Ok x)
Told T (Err (Refused r)) = T (Err r)
Told T (Err Memory) = Unit {0}

-- the refusal, or want of memory
abbrev pub IsFault : NameFault → Refusal → Type 0
IsFault (Refused r) q = r ≡ q
IsFault Memory q = Unit {0}

-- at a place, with the spot's class and a name
abbrev pub shown_at : Rule → Place → Spot → Name → Refusal
shown_at rule at spot member = record { rule = rule; at = at; class = Some spot.class; member = Some member; limit = None }
