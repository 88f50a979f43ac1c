use Rattle.std.proofs.Common.{rules, subst, length, refl, ◌≡◌, ◌+◌}
use Rattle.jn_sem.proofs.FindingLaws.{finds_one_in}
use Rattle.jn_meaning.specs.Values.{path_at}
use Rattle.jn_meaning.specs.Tells.{ParamsTold, body_in}
use Rattle.jn_meaning.proofs.ClassNumbers.{filled_universe}
use Rattle.jn_meaning.proofs.Calls.{calls_nothing, calls_other, calls_untyped, calls_body}
use Rattle.jn_meaning.proofs.calling.call_at.Goals as goal

pub returns-in-None-clause-did : goal.returns-in-None-clause-did
returns-in-None-clause-did c = calls_nothing c.args.w.now.program.now c.args.t.now.known.items c.args.id c.args.m c.args.all.items c.in-None.ensures

pub returns-then-len-clause-did : goal.returns-then-len-clause-did
returns-then-len-clause-did c =
    let p = c.args.w.now.program.now in
    let known = c.args.t.now.known.items in
    let q = c.requires.stands in
    let once = (finds_one_in p q.declarations q.filled.table.named.distinct q.filled.table.named.paths).body (path_at known c.args.id) c.args.m (filled_universe p c.args.t.now c.args.id q.filled c.requires.filled) in
    let differ : length c.args.all.items ≡ length c.in-Some.found.method.now.params + 1 → ⊥ = λ e. search rules in
    calls_other p known c.args.id c.args.m c.args.all.items once (body_in known c.in-Some.found) c.in-Some.ensures differ

pub returns-in-None-params-clause-did : goal.returns-in-None-params-clause-did
returns-in-None-params-clause-did c =
    let p = c.args.w.now.program.now in
    let known = c.args.t.now.known.items in
    let q = c.requires.stands in
    let once = (finds_one_in p q.declarations q.filled.table.named.distinct q.filled.table.named.paths).body (path_at known c.args.id) c.args.m (filled_universe p c.args.t.now c.args.id q.filled c.requires.filled) in
    let so : length c.args.all.items ≡ length c.in-Some.found.method.now.params + 1 = search rules in
    calls_untyped p known c.args.id c.args.m c.args.all.items once (body_in known c.in-Some.found) c.in-Some.ensures so
    (subst (ParamsTold p (body_in known c.in-Some.found)) c.in-None-params.is c.in_ok-params-in-Some.ensures.told)

pub returns-clause-did : goal.returns-clause-did
returns-clause-did c =
    let p = c.args.w.now.program.now in
    let known = c.args.t.now.known.items in
    let q = c.requires.stands in
    let once = (finds_one_in p q.declarations q.filled.table.named.distinct q.filled.table.named.paths).body (path_at known c.args.id) c.args.m (filled_universe p c.args.t.now c.args.id q.filled c.requires.filled) in
    let so : length c.args.all.items ≡ length c.in-Some.found.method.now.params + 1 = search rules in
    calls_body p known c.args.id c.args.m c.args.all.items once (body_in known c.in-Some.found) c.in-Some.ensures so
    (record { callee = record { class = c.in-Some.found.class; method = c.in-Some.found.method; vars = c.in-Some-params.vars }; args = c.args.all })
    (subst (ParamsTold p (body_in known c.in-Some.found)) c.in-Some-params.is c.in_ok-params-in-Some.ensures.told) refl refl refl
