-- What stands before `.class`, as the code has it.
use Rattle.jn_base.specs.Resolve.{Before as Stands, IsPath, NotInScope, NoPath}
use Rattle.jn_names.specs.declared.before.Before.{Before}
use Rattle.jn_names.specs.declared.before.Before.TheVariants as before

abbrev pub told_before : Before → Stands
told_before (before.Path q) = IsPath q
told_before (before.NotInScope x) = NotInScope x
told_before before.NoPath = NoPath
