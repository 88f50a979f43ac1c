use Rattle.std.proofs.Common.{refl, subst}
use Rattle.jn_sem.proofs.FindingLaws.{finds_one_in}
use Rattle.jn_table.specs.declared.table.Table.{Table}
use Rattle.jn_meaning.specs.Values.{path_at}
use Rattle.jn_meaning.specs.declared.creating.Fresh.{Fresh}
use Rattle.jn_meaning.specs.Creating.{ConstructsAs}
use Rattle.std.specs.Prelude.{IfOk}
use Rattle.jn_meaning.proofs.ClassNumbers.{class_number}
use Rattle.jn_meaning.proofs.Lists.{if_ok}
use Rattle.jn_meaning.proofs.Receivers.{taken_none, taken_some}
use Rattle.jn_meaning.proofs.NewObjects.{makes_untyped, makes_there}
use Rattle.jn_meaning.proofs.creating.make_at.Goals as goal

pub returns-in-None-clause-did : goal.returns-in-None-clause-did
returns-in-None-clause-did c =
    let p = c.args.w.now.program.now in
    let known = c.args.t.now.known.items in
    let V = path_at known c.args.id in
    let at = class_number p known c.args.id c.requires.class in
    let sized = c.size-size.ensures.size p known V c.requires.stands.slots at c.requires.class in
    makes_untyped p known c.args.arena c.args.h.now c.args.args.items c.args.keeps c.args.f.now c.args.id c.requires.class _ sized (taken_none _ _ _ c.in_ok-found.ensures.told c.in-None.is) c.args.f.now c.args.h.now

pub returns-in-Some-clause-did : goal.returns-in-Some-clause-did
returns-in-Some-clause-did c =
    let p = c.args.w.now.program.now in
    let known = c.args.t.now.known.items in
    let V = path_at known c.args.id in
    let at = class_number p known c.args.id c.requires.class in
    let sized = c.size-size.ensures.size p known V c.requires.stands.slots at c.requires.class in
    let q = c.requires.stands in
    let once = finds_one_in p q.declarations q.filled.table.named.distinct q.filled.table.named.paths in
    let x : Fresh = record { id = c.args.id; size = c.size-size.result; stored = c.in-Some.stored } in
    if_ok c.construct.result
    (λ d k. makes_there p known c.args.arena c.args.h.now c.args.args.items c.args.keeps c.args.f.now c.args.id c.requires.class _ sized (once.fresh V) x refl refl (taken_some _ _ _ c.in-Some.stored c.in_ok-found.ensures.told c.in-Some.is) d c.construct.new.f c.construct.new.h k)
    (subst (λ (u : Table). IfOk c.construct.result (λ d. ConstructsAs p u.known.items c.args.arena c.args.h.now x c.args.args.items c.args.keeps c.args.f.now d c.construct.new.f c.construct.new.h)) c.in_ok-found.ensures.kept c.construct.ensures.did)
