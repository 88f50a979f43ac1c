use Rattle.std.proofs.Common.{false, subst, sym}
use Rattle.jn_meaning.specs.declared.value.Value.{Value}
use Rattle.jn_meaning.specs.Opening.{OpensAt}
use Rattle.jn_meaning.proofs.Lists.{if_ok}
use Rattle.jn_meaning.proofs.Begins.{opens_none, opens_null, opens_number, opens_truth, opens_object}
use Rattle.jn_meaning.proofs.starting.open.Goals as goal

pub returns-in-None-clause-did : goal.returns-in-None-clause-did
returns-in-None-clause-did c =
    opens_none c.args.w.now.program.now c.args.t.now.known.items c.args.h.now c.args.f.now c.in-None.ensures (record c.args.f.now { keeps = false })

pub returns-in-Reference-clause-did : goal.returns-in-Reference-clause-did
returns-in-Reference-clause-did c =
    if_ok c.open_at.result (λ d k. opens_object c.args.w.now.program.now c.args.t.now.known.items c.args.h.now c.args.f.now c.in-Some.r c.pop.new.self c.in-Some.ensures c.in-Reference.field-0 c.in-Reference.id c.in-Reference.is d (subst (λ (v : Value). OpensAt c.args.w.now.program.now c.args.t.now.known.items v c.in-Reference.id d) (sym c.in-Reference.is) k)) c.open_at.ensures.did

pub returns-in-Null-clause-did : goal.returns-in-Null-clause-did
returns-in-Null-clause-did c =
    opens_null c.args.w.now.program.now c.args.t.now.known.items c.args.h.now c.args.f.now c.in-Some.r c.pop.new.self c.in-Some.ensures c.in-Null.is (record c.args.f.now { vals = c.pop.new.self; keeps = false })

pub returns-in-Number-clause-did : goal.returns-in-Number-clause-did
returns-in-Number-clause-did c =
    opens_number c.args.w.now.program.now c.args.t.now.known.items c.args.h.now c.args.f.now c.in-Some.r c.pop.new.self c.in-Some.ensures c.in-Number.is (record c.args.f.now { vals = c.pop.new.self; keeps = false })

pub returns-in-Truth-clause-did : goal.returns-in-Truth-clause-did
returns-in-Truth-clause-did c =
    opens_truth c.args.w.now.program.now c.args.t.now.known.items c.args.h.now c.args.f.now c.in-Some.r c.pop.new.self c.in-Some.ensures c.in-Truth.is (record c.args.f.now { vals = c.pop.new.self; keeps = false })
