use Rattle.jn_intern.specs.Pools.{scope_in}
use Rattle.jn_intern.proofs.Pools.{scope_kept}
use Rattle.jn_expr.proofs.Scopes.{scope_stays, stays_more, parts_stay, vars_stay}
use Rattle.jn_expr.proofs.NewSteps.{new_fault, new_told}
use Rattle.jn_expr.proofs.news.begin_new.Goals as goal

pub make_of-requires-clause-scope : goal.make_of-requires-clause-scope
make_of-requires-clause-scope c = scope_stays c.requires.scope c.in-Ok.ensures.stays.pool

pub returns-in-Err-clause-told : goal.returns-in-Err-clause-told
returns-in-Err-clause-told c = λ es e.
    new_fault c.args.p.now c.args.class.now c.args.m.now c.args.t.now c.args.at es c.args.env.now.vars.list (scope_in c.args.env.now.pool c.args.scope.now)
    c.begin_term.new.env.pool c.args.scope.now c.args.env.now.marks c.begin_term.new.env.marks c.begin_term.new.env.marks c.in-Err.fault c.in-Err.ensures.told

pub returns-in-Ok-clause-told : goal.returns-in-Ok-clause-told
returns-in-Ok-clause-told c = λ es e.
    new_told c.args.p.now c.args.class.now c.args.m.now c.args.t.now c.args.at es c.args.env.now.vars.list (scope_in c.args.env.now.pool c.args.scope.now)
    c.make_of.new.env.pool c.make_of.new.scope c.args.env.now.marks c.begin_term.new.env.marks c.make_of.new.env.marks c.in-Ok.atom
    c.begin_term.new.env.vars.list (scope_in c.begin_term.new.env.pool c.args.scope.now) (vars_stay c.in-Ok.ensures.stays)
    (scope_kept c.args.scope.now c.requires.scope.known c.in-Ok.ensures.stays.pool) c.in-Ok.ensures.told c.make_of.result (c.make_of.ensures.told es e)

pub returns-in-Ok-clause-stays : goal.returns-in-Ok-clause-stays
returns-in-Ok-clause-stays c = stays_more c.in-Ok.ensures.stays c.make_of.ensures.stays

pub make_of-requires-clause-parts : goal.make_of-requires-clause-parts
make_of-requires-clause-parts c = parts_stay c.requires.parts c.in-Ok.ensures.stays
