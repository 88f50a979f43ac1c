use Rattle.std.proofs.Common.{subst}
use Rattle.jn_base.specs.Atoms.{atoms_in}
use Rattle.jn_intern.specs.Pools.{scope_in}
use Rattle.jn_expr.specs.Found.{FieldFirst}
use Rattle.jn_expr.proofs.Finding.{field_there}
use Rattle.jn_expr.proofs.members.field_of.Goals as goal

pub returns-in_ok-ty-in-Some-clause-is : goal.returns-in_ok-ty-in-Some-clause-is
returns-in_ok-ty-in-Some-clause-is c =
    field_there c.args.p.now (scope_in c.args.pool.now c.args.scope.now) c.args.ty.now c.args.name c.in-Some.class c.in_ok-ty-in-Some.ty
    (subst (FieldFirst c.args.p.now (scope_in c.args.pool.now c.args.scope.now) (atoms_in c.args.ty.now) c.args.name) c.in-Some.is (c.in_ok-field_class.ensures c.args.p.now c.requires.members))
    c.in_ok-ty-in-Some.ensures.is
