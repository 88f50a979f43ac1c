use Rattle.std.proofs.Common.{◌∙◌, ap, List, [], ◌∷◌, ◌++◌}
use Rattle.jn_intern.specs.declared.scope.Bind.{Bind}
use Rattle.jn_heads.proofs.Parameters.{start_stands}
use Rattle.jn_heads.proofs.params.start.Goals as goal

pub returns-clause-stands : goal.returns-clause-stands
returns-clause-stands c = λ p deep u.
    start_stands p _ c.args.class.now c.args.method _ _ _ c.in_ok-id.id c.in_ok-ty.ty deep u c.in_ok-class.ensures c.new-list.ensures (c.in_ok-push.ensures.items ∙ ap (λ (xs : List Bind). xs ++ record { path = 0; ty = c.in_ok-id.id } ∷ []) c.new-binds.ensures.items) c.in_ok-id.ensures.shows.0
    c.in_ok-id.ensures.shows.1 c.in_ok-ty.ensures
