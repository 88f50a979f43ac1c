-- The types of parameters and results, as numbers of a pool.
use Rattle.std.specs.Prelude.{List, Result, Ok, Err}
use Rattle.jn_base.specs.declared.tree.TypeTerm.{TypeTerm}
use Rattle.jn_base.specs.declared.tree.Program.{Program}
use Rattle.jn_base.specs.declared.types.Ty.{Ty}
use Rattle.jn_sem.specs.Terms.{Site}
use Rattle.jn_intern.specs.declared.pool.TyId.{TyId}
use Rattle.jn_intern.specs.Pools.{shown}
use Rattle.jn_rules.specs.Plans.{OfType}
use Rattle.jn_rules.specs.Questions.{Means}
use Rattle.jn_heads.specs.declared.fault.CheckFault.{CheckFault}
use Rattle.jn_heads.specs.declared.fault.CheckFault.TheVariants.{Refused, Memory}
use Rattle.jn_heads.specs.Places.{IsTyped}

-- the number is that of the type in normal form, or it is refused
abbrev pub TypeTold : Program → Site → TypeTerm → List Ty → Result TyId CheckFault → Type 0
TypeTold p at written pool (Ok id) = IsTyped p at written (shown pool id)
TypeTold p at written pool (Err (Refused r)) = Means p (OfType at written) (Err r)
TypeTold p at written pool (Err Memory) = Unit {0}
