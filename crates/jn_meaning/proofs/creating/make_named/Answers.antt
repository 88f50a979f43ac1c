use Rattle.std.proofs.Common.{reverse, subst}
use Rattle.std.specs.Prelude.{IfOk}
use Rattle.jn_base.specs.Paths.{Path}
use Rattle.jn_meaning.specs.Creating.{MakesAs}
use Rattle.jn_meaning.proofs.NewObjects.{makes_no_class}
use Rattle.jn_meaning.proofs.creating.make_named.Goals as goal

pub returns-in-None-clause-did : goal.returns-in-None-clause-did
returns-in-None-clause-did c =
    let p = c.args.w.now.program.now in
    let known = c.args.t.now.known.items in
    makes_no_class p known c.args.arena c.args.h.now c.args.args.items c.args.keeps c.args.f.now (reverse c.args.names) (c.in-None.ensures p c.requires.filled) c.args.f.now c.args.h.now

pub returns-clause-did : goal.returns-clause-did
returns-clause-did c =
    let p = c.args.w.now.program.now in
    let known = c.args.t.now.known.items in
    subst (λ (V : Path). IfOk c.make_at.result (λ d. MakesAs p known c.args.arena c.args.h.now V c.args.args.items c.args.keeps c.args.f.now d c.make_at.new.f c.make_at.new.h)) c.in-Some.ensures.1 c.make_at.ensures.did
