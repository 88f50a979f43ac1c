use Rattle.std.proofs.Common.{rules, length, refl, subst, ◌≡◌}
use Rattle.jn_sem.proofs.FindingLaws.{finds_one_in}
use Rattle.jn_meaning.specs.Values.{path_at}
use Rattle.jn_meaning.specs.Tells.{ParamsTold, body_in}
use Rattle.jn_meaning.proofs.Lists.{if_ok}
use Rattle.jn_meaning.proofs.NewObjects.{constructor_once, constructs_given, constructs_alone, constructs_other, constructs_untyped, constructs_called}
use Rattle.jn_meaning.proofs.creating.construct.Goals as goal

pub returns-then-not-is_empty-clause-did : goal.returns-then-not-is_empty-clause-did
returns-then-not-is_empty-clause-did c =
    let p = c.args.w.now.program.now in
    let known = c.args.t.now.known.items in
    constructs_given p known c.args.arena c.args.h.now c.args.fresh c.args.args.items c.args.keeps c.args.f.now c.in-None.ensures (search rules) c.args.f.now c.args.h.now

pub returns-in-None-clause-did : goal.returns-in-None-clause-did
returns-in-None-clause-did c =
    let p = c.args.w.now.program.now in
    let known = c.args.t.now.known.items in
    if_ok c.make_alone.result (λ d k. constructs_alone p known c.args.arena c.args.h.now c.args.fresh c.args.args.items c.args.keeps c.args.f.now c.in-None.ensures (search rules) d c.make_alone.new.f c.make_alone.new.h (k known)) c.make_alone.ensures

pub returns-then-len-clause-did : goal.returns-then-len-clause-did
returns-then-len-clause-did c =
    let p = c.args.w.now.program.now in
    let known = c.args.t.now.known.items in
    let q = c.requires.stands in
    let once = finds_one_in p q.declarations q.filled.table.named.distinct q.filled.table.named.paths in
    let one = constructor_once p (path_at known c.args.fresh.id) once c.requires.class in
    let differ : length c.args.args.items ≡ length c.in-Some.found.method.now.params → ⊥ = λ e. search rules in
    constructs_other p known c.args.arena c.args.h.now c.args.fresh c.args.args.items c.args.keeps c.args.f.now one (body_in known c.in-Some.found) c.in-Some.ensures differ c.args.f.now c.args.h.now

pub returns-in-None-params-clause-did : goal.returns-in-None-params-clause-did
returns-in-None-params-clause-did c =
    let p = c.args.w.now.program.now in
    let known = c.args.t.now.known.items in
    let q = c.requires.stands in
    let once = finds_one_in p q.declarations q.filled.table.named.distinct q.filled.table.named.paths in
    let one = constructor_once p (path_at known c.args.fresh.id) once c.requires.class in
    let so : length c.args.args.items ≡ length c.in-Some.found.method.now.params = search rules in
    constructs_untyped p known c.args.arena c.args.h.now c.args.fresh c.args.args.items c.args.keeps c.args.f.now one (body_in known c.in-Some.found) c.in-Some.ensures so
    (subst (ParamsTold p (body_in known c.in-Some.found)) c.in-None-params.is c.in_ok-params-in-Some.ensures.told) c.args.f.now c.args.h.now

pub returns-clause-did : goal.returns-clause-did
returns-clause-did c =
    let p = c.args.w.now.program.now in
    let known = c.args.t.now.known.items in
    let q = c.requires.stands in
    let once = finds_one_in p q.declarations q.filled.table.named.distinct q.filled.table.named.paths in
    let one = constructor_once p (path_at known c.args.fresh.id) once c.requires.class in
    let so : length c.args.args.items ≡ length c.in-Some.found.method.now.params = search rules in
    if_ok c.make_calling.result
    (λ d k. constructs_called p known c.args.arena c.args.h.now c.args.fresh c.args.args.items c.args.keeps c.args.f.now one (body_in known c.in-Some.found) c.in-Some.ensures so
    (record { class = c.in-Some.found.class; method = c.in-Some.found.method; vars = c.in-Some-params.vars })
    (subst (ParamsTold p (body_in known c.in-Some.found)) c.in-Some-params.is c.in_ok-params-in-Some.ensures.told) refl refl d c.make_calling.new.f c.make_calling.new.h (k known))
    c.make_calling.ensures
