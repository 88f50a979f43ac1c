use Rattle.std.proofs.Common.{◌≡◌, ◌++◌, List, drop}
use Rattle.jn_base.specs.declared.tree.Name.{Name}
use Rattle.jn_base.specs.Duplicates.{param_name, param_scope}
use Rattle.jn_header.specs.First.{SameNames}
use Rattle.jn_header.proofs.TwiceSteps.{Left}
use Rattle.jn_header.proofs.twice.in_params.Given as goal

abbrev pub invariant-loop-param : goal.invariant-loop-param
invariant-loop-param l =
    (l.scope.items ++ param_scope (drop l.param-index l.params) ≡ l.fn.scope.items ++ param_scope l.params)
    × ((S : List Name) → SameNames l.fn.scope.items S → Left param_name S l.params l.param-index l.scope.items)
