use Rattle.std.proofs.Common.{◌∙◌, sym, refl}
use Rattle.jn_intern.specs.Pools.{scope_in}
use Rattle.jn_check.proofs.DropLaws.{none_dropped, other_dropped, variable_dropped, ok_map}
use Rattle.jn_check.proofs.dropping.drop_field.Goals as goal

pub returns-in-None-clause-is : goal.returns-in-None-clause-is
returns-in-None-clause-is c = λ p vars n e. none_dropped p vars n c.args.field (scope_in c.args.pool.now c.args.scope.now) c.args.path _ c.in-None.is refl

pub returns-then-not-is_variable-clause-is : goal.returns-then-not-is_variable-clause-is
returns-then-not-is_variable-clause-is c = λ p vars n e.
    other_dropped p vars n c.args.field (scope_in c.args.pool.now c.args.scope.now) c.args.path c.in-Some.q _ c.in-Some.is (sym c.is_variable.ensures ∙ c.if-not-is_variable.true) refl

pub returns-else-not-is_variable-clause-is : goal.returns-else-not-is_variable-clause-is
returns-else-not-is_variable-clause-is c =
    ok_map c.drop_mask.result (λ h p vars n e.
    variable_dropped p vars n c.args.field (scope_in c.args.pool.now c.args.scope.now) c.args.path c.in-Some.q _ c.in-Some.is (sym c.is_variable.ensures ∙ c.if-not-is_variable.false) (h p vars n e))
    c.drop_mask.ensures.is
