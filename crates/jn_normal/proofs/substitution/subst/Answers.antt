use Rattle.std.proofs.Common.{◌∙◌, ap}
use Rattle.jn_sem.specs.Normal.{swapped}
use Rattle.jn_sem.specs.NormalFunction.{subst_type}
use Rattle.jn_sem.proofs.NormalTypes.{type_subst_is}
use Rattle.jn_intern.specs.Pools.{scope_in}
use Rattle.jn_normal.proofs.substitution.subst.Goals as goal

pub returns-clause-subst : goal.returns-clause-subst
returns-clause-subst c =
    let s = scope_in c.args.pool.now c.args.scope.now in
    let f = swapped c.args.from.now c.args.to.now in
    (type_subst_is s f _ _).1 (c.in_ok-id.ensures.shows.1 ∙ c.in_ok-term.ensures ∙ ap (subst_type s f) c.show.ensures)
