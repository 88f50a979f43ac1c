-- Binds of a scope of numbers, as a scope of types.
use Rattle.std.specs.Prelude.{List, map, reverse}
use Rattle.jn_base.specs.declared.types.Ty.{Ty}
use Rattle.jn_base.specs.Scopes.{Scope as TypeScope}
use Rattle.jn_intern.specs.declared.scope.Bind.{Bind}
use Rattle.jn_intern.specs.Pools.{bind_in}

-- the newest bind first
abbrev pub binds_in : List Ty → List Bind → TypeScope
binds_in pool binds = reverse (map (bind_in pool) binds)
