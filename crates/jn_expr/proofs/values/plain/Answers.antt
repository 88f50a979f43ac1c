use Rattle.std.proofs.Common.{None}
use Rattle.jn_expr.proofs.Typing.{produced_went, produced_value}
use Rattle.jn_intern.specs.Pools.{scope_in}
use Rattle.jn_expr.proofs.Typeds.{plain_fits}
use Rattle.jn_expr.proofs.values.plain.Goals as goal

pub returns-clause-told : goal.returns-clause-told
returns-clause-told c = λ p.
    produced_went p c.args.ty.now None c.args.env.now c.produce.new.env c.args.scope.now c.in_ok-id.id c.requires.scope c.in_ok-id.ensures.is c.in_ok-id.ensures.stays

pub returns-clause-value : goal.returns-clause-value
returns-clause-value c =
    produced_value c.args.ty.now None c.args.env.now c.produce.new.env c.args.scope.now c.in_ok-id.id c.requires.scope c.in_ok-id.ensures.is c.in_ok-id.ensures.stays
    (plain_fits (scope_in c.args.env.now.pool c.args.scope.now) c.args.ty.now c.requires.fits)
