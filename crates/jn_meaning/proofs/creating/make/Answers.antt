use Rattle.std.proofs.Common.{Option, List, reverse, subst}
use Rattle.std.specs.Prelude.{IfOk}
use Rattle.jn_base.specs.declared.tree.Name.{Name}
use Rattle.jn_table.specs.declared.table.Table.{Table}
use Rattle.jn_meaning.specs.Creating.{NewNamed, MakesAs}
use Rattle.jn_meaning.proofs.Lists.{if_ok}
use Rattle.jn_meaning.proofs.Receivers.{taken_none, taken_some}
use Rattle.jn_meaning.proofs.NewObjects.{make_few, make_unnamed, make_of}
use Rattle.jn_meaning.proofs.creating.make.Goals as goal

pub returns-in-None-clause-did : goal.returns-in-None-clause-did
returns-in-None-clause-did c =
    let p = c.args.w.now.program.now in
    let known = c.args.t.now.known.items in
    make_few p known c.args.arena c.args.h.now c.args.f.now c.args.term.now c.args.n c.args.keeps (taken_none _ _ _ c.in_ok-taken.ensures c.in-None.is) c.args.f.now c.args.h.now

pub returns-in-None-found-clause-did : goal.returns-in-None-found-clause-did
returns-in-None-found-clause-did c =
    let p = c.args.w.now.program.now in
    let known = c.args.t.now.known.items in
    let k = taken_some _ _ _ c.in-Some.args c.in_ok-taken.ensures c.in-Some.is in
    make_unnamed p known c.args.arena c.args.h.now c.args.f.now c.args.term.now c.args.n c.args.keeps c.in-Some.args.items c.take_args.new.self k.0 k.1
    (subst (NewNamed p known (record c.args.f.now { vals = c.take_args.new.self }) c.args.term.now) c.in-None-found.is c.in_ok-found-in-Some.ensures.told) (record c.args.f.now { vals = c.take_args.new.self }) c.args.h.now

pub returns-in-Some-found-clause-did : goal.returns-in-Some-found-clause-did
returns-in-Some-found-clause-did c =
    let p = c.args.w.now.program.now in
    let known = c.args.t.now.known.items in
    let k = taken_some _ _ _ c.in-Some.args c.in_ok-taken.ensures c.in-Some.is in
    let f = record c.args.f.now { vals = c.take_args.new.self } in
    if_ok c.make_named.result
    (λ d m. make_of p known c.args.arena c.args.h.now c.args.f.now c.args.term.now c.args.n c.args.keeps c.in-Some.args.items c.take_args.new.self k.0 k.1 c.in-Some-found.names
    (subst (NewNamed p known f c.args.term.now) c.in-Some-found.is c.in_ok-found-in-Some.ensures.told) d c.make_named.new.f c.make_named.new.h m)
    (subst (λ (u : Table). IfOk c.make_named.result (λ d. MakesAs p u.known.items c.args.arena c.args.h.now (reverse c.in-Some-found.names) c.in-Some.args.items c.args.keeps f d c.make_named.new.f c.make_named.new.h)) c.in_ok-found-in-Some.ensures.kept c.make_named.ensures.did)
