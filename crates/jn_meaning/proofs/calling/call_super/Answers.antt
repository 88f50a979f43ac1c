use Rattle.std.proofs.Common.{subst}
use Rattle.std.specs.Prelude.{Some, None, IfOk}
use Rattle.jn_sem.specs.State.{site_of}
use Rattle.jn_sem.specs.Terms.{SuperBound}
use Rattle.jn_table.specs.declared.table.Table.{Table}
use Rattle.jn_meaning.specs.Frames.{frame_of}
use Rattle.jn_meaning.specs.Tells.{Tells}
use Rattle.jn_meaning.specs.Calling.{CallsAt}
use Rattle.jn_meaning.proofs.Lists.{if_ok}
use Rattle.jn_meaning.proofs.Receivers.{taken_none, taken_some}
use Rattle.jn_meaning.proofs.Supers.{super_few, super_nothing, super_there}
use Rattle.jn_meaning.proofs.calling.call_super.Goals as goal

pub returns-in-None-clause-did : goal.returns-in-None-clause-did
returns-in-None-clause-did c = λ h.
    let p = c.args.w.now.program.now in
    let known = c.args.t.now.known.items in
    super_few p known h c.args.f.now c.args.term.now c.args.m c.args.n c.args.keeps (taken_none _ _ _ c.in_ok-taken.ensures c.in-None.is)

pub returns-in-None-found-clause-did : goal.returns-in-None-found-clause-did
returns-in-None-found-clause-did c = λ h.
    let p = c.args.w.now.program.now in
    let known = c.args.t.now.known.items in
    let k = taken_some _ _ _ c.in-Some.args c.in_ok-taken.ensures c.in-Some.is in
    super_nothing p known h c.args.f.now c.args.term.now c.args.m c.args.n c.args.keeps c.in-Some.args.items c.take_args.new.self k.0 k.1
    (subst (Tells (SuperBound p (site_of (frame_of known c.args.f.now)) c.args.term.now)) c.in-None-found.is c.in_ok-found-in-Some.ensures.told)

pub returns-in_ok-all-in-Some-found-clause-did : goal.returns-in_ok-all-in-Some-found-clause-did
returns-in_ok-all-in-Some-found-clause-did c =
    let p = c.args.w.now.program.now in
    let known = c.args.t.now.known.items in
    let k = taken_some _ _ _ c.in-Some.args c.in_ok-taken.ensures c.in-Some.is in
    if_ok c.super_at.result
    (λ d m h. super_there p known h c.args.f.now c.args.term.now c.args.m c.args.n c.args.keeps c.in-Some.args.items c.take_args.new.self k.0 k.1 c.in-Some-found.b
    (subst (Tells (SuperBound p (site_of (frame_of known c.args.f.now)) c.args.term.now)) c.in-Some-found.is c.in_ok-found-in-Some.ensures.told)
    c.in_ok-all-in-Some-found.all.items c.in_ok-all-in-Some-found.ensures d m)
    (subst (λ (u : Table). IfOk c.super_at.result (λ d. CallsAt p u.known.items c.in-Some-found.b c.args.m c.in_ok-all-in-Some-found.all.items d)) c.in_ok-found-in-Some.ensures.kept c.super_at.ensures.did)
