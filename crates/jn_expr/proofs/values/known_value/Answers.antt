use Rattle.std.proofs.Common.{Bool, cond, sym, subst}
use Rattle.jn_intern.specs.Pools.{scope_in}
use Rattle.jn_rules.specs.Exprs.{gives, of_path, plain}
use Rattle.jn_expr.specs.Told.{PlanTold}
use Rattle.jn_expr.specs.Values.{typed_in}
use Rattle.jn_expr.proofs.values.known_value.Goals as goal

pub returns-then-known-clause-told : goal.returns-then-known-clause-told
returns-then-known-clause-told c = λ p.
    let s = scope_in c.args.env.now.pool c.args.scope.now in
    subst (λ (b : Bool). PlanTold p (gives (cond b (of_path c.args.known.now.path s) (plain c.args.known.now.ty s))) (typed_in c.path_value.new.env.pool c.args.scope.now)
    c.args.env.now.marks c.path_value.new.env.marks c.path_value.result)
    (sym c.if-known.true) (c.path_value.ensures.told p)

pub returns-clause-told : goal.returns-clause-told
returns-clause-told c = λ p.
    let s = scope_in c.args.env.now.pool c.args.scope.now in
    subst (λ (b : Bool). PlanTold p (gives (cond b (of_path c.args.known.now.path s) (plain c.args.known.now.ty s))) (typed_in c.plain.new.env.pool c.args.scope.now)
    c.args.env.now.marks c.plain.new.env.marks c.plain.result)
    (sym c.if-known.false) (c.plain.ensures.told p)
