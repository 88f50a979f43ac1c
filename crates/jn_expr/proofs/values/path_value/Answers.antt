use Rattle.std.proofs.Common.{Some, sym, subst}
use Rattle.jn_base.specs.declared.types.Ty.{Ty}
use Rattle.jn_intern.specs.Pools.{scope_in}
use Rattle.jn_rules.specs.Exprs.{Typed, path_type}
use Rattle.jn_expr.specs.Values.{IsProduced, TypedFits}
use Rattle.jn_expr.proofs.Typing.{produced_went, produced_value}
use Rattle.jn_expr.proofs.Typeds.{path_fits}
use Rattle.jn_expr.proofs.values.path_value.Goals as goal

pub returns-clause-told : goal.returns-clause-told
returns-clause-told c = λ p.
    produced_went p (path_type (scope_in c.args.env.now.pool c.args.scope.now) c.args.path) (Some c.args.path) c.args.env.now c.produce.new.env c.args.scope.now c.in_ok-id.id c.requires.scope
    (subst (λ (t : Ty). IsProduced t c.args.env.now c.produce.new.env c.in_ok-id.id) c.in_ok-ty.ensures c.in_ok-id.ensures.is) c.in_ok-id.ensures.stays

pub returns-clause-value : goal.returns-clause-value
returns-clause-value c =
    produced_value c.in_ok-ty.ty (Some c.args.path) c.args.env.now c.produce.new.env c.args.scope.now c.in_ok-id.id c.requires.scope c.in_ok-id.ensures.is c.in_ok-id.ensures.stays
    (subst (λ (t : Ty). let x : Typed = record { ty = t; path = Some c.args.path; scope = scope_in c.args.env.now.pool c.args.scope.now } in TypedFits x) (sym c.in_ok-ty.ensures)
    (path_fits (scope_in c.args.env.now.pool c.args.scope.now) c.args.path c.requires.scope.fits.binds c.requires.there))
