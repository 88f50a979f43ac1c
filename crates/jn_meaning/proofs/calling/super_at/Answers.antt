use Rattle.jn_meaning.proofs.Lists.{if_ok}
use Rattle.jn_meaning.proofs.ClassNumbers.{path_of_number}
use Rattle.jn_meaning.proofs.Supers.{no_body, calls_nowhere, calls_numbered}
use Rattle.jn_meaning.proofs.calling.super_at.Goals as goal

pub returns-in-None-clause-did : goal.returns-in-None-clause-did
returns-in-None-clause-did c =
    let p = c.args.w.now.program.now in
    let known = c.args.t.now.known.items in
    calls_nowhere p known c.args.b.now c.args.m c.args.all.items (no_body p c.args.t.now c.args.b.now c.requires.filled c.in-None.ensures.none c.args.m)

pub returns-in-Some-clause-did : goal.returns-in-Some-clause-did
returns-in-Some-clause-did c =
    let p = c.args.w.now.program.now in
    let known = c.args.t.now.known.items in
    if_ok c.call_at.result (λ d k. calls_numbered p known c.args.b.now _ c.args.m c.args.all.items d (path_of_number known c.in-Some.id c.args.b.now c.in-Some.ensures.some) k) c.call_at.ensures.did
