use Rattle.std.proofs.Common.{subst}
use Rattle.jn_base.specs.Resolve.{var_named}
use Rattle.jn_intern.specs.Pools.{scope_in}
use Rattle.jn_expr.specs.Envs.{here_at}
use Rattle.jn_expr.specs.Values.{typed_in}
use Rattle.jn_expr.specs.Variables.{KnownIs}
use Rattle.jn_expr.proofs.Typing.{var_told}
use Rattle.std.proofs.Common.{refl}
use Rattle.jn_expr.proofs.Typeds.{found_fits}
use Rattle.jn_expr.proofs.values.variable.Goals as goal

pub returns-in_ok-note_var-in-Some-clause-told : goal.returns-in_ok-note_var-in-Some-clause-told
returns-in_ok-note_var-in-Some-clause-told c = λ p m.
    var_told p (typed_in c.known_value.new.env.pool c.args.scope.now) c.args.env.now.marks c.note_var.new.marks c.known_value.new.env.marks c.known_value.result
    (here_at c.args.class.now m c.args.env.now.vars.list) c.args.at c.args.x (scope_in c.args.env.now.pool c.args.scope.now) (var_named c.args.env.now.vars c.args.x) c.in-Some.found
    (subst (KnownIs (var_named c.args.env.now.vars c.args.x)) c.in-Some.is c.in_ok-find.ensures) c.in_ok-note_var-in-Some.ensures (c.known_value.ensures.told p)

pub known_value-requires-clause-fits : goal.known_value-requires-clause-fits
known_value-requires-clause-fits c =
    (found_fits (scope_in c.args.env.now.pool c.args.scope.now) c.args.env.now.vars.list c.args.x c.in-Some.found (var_named c.args.env.now.vars c.args.x) refl
    (subst (KnownIs (var_named c.args.env.now.vars c.args.x)) c.in-Some.is c.in_ok-find.ensures) c.requires.vars).0

pub known_value-requires-clause-there : goal.known_value-requires-clause-there
known_value-requires-clause-there c =
    (found_fits (scope_in c.args.env.now.pool c.args.scope.now) c.args.env.now.vars.list c.args.x c.in-Some.found (var_named c.args.env.now.vars c.args.x) refl
    (subst (KnownIs (var_named c.args.env.now.vars c.args.x)) c.in-Some.is c.in_ok-find.ensures) c.requires.vars).1
