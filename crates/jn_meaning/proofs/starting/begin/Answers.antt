use Rattle.std.proofs.Common.{List, subst, ap, ◌∙◌, ◌++◌, ◌∷◌, []}
use Rattle.std.specs.Prelude.{codes, Some, None}
use Rattle.jn_sem.proofs.FindingLaws.{finds_one_in}
use Rattle.jn_base.specs.declared.tree.Name.{Name}
use Rattle.jn_sem.specs.Does.{IsSpelled}
use Rattle.jn_meaning.specs.Tells.{Tells}
use Rattle.jn_meaning.proofs.Lists.{if_ok}
use Rattle.jn_meaning.proofs.Begins.{begins_nothing, begins_main}
use Rattle.jn_meaning.proofs.starting.begin.Goals as goal

pub returns-in-None-clause-did : goal.returns-in-None-clause-did
returns-in-None-clause-did c =
    let p = c.args.w.now.program.now in
    let known = c.args.t.now.known.items in
    begins_nothing p known c.args.arena c.args.h.now c.args.f.now (subst (Tells (IsSpelled p (codes "Main"))) c.in-None.is c.in_ok-spelled.ensures) c.args.f.now c.args.h.now

pub returns-in_ok-push-in-Some-clause-did : goal.returns-in_ok-push-in-Some-clause-did
returns-in_ok-push-in-Some-clause-did c =
    let p = c.args.w.now.program.now in
    let known = c.args.t.now.known.items in
    let q = c.requires in
    let once = finds_one_in p q.declarations q.filled.table.named.distinct q.filled.table.named.paths in
    if_ok c.make_named.result
    (λ d k. begins_main p known c.args.arena c.args.h.now c.args.f.now (once.spelled (codes "Main")) c.in-Some.name (subst (Tells (IsSpelled p (codes "Main"))) c.in-Some.is c.in_ok-spelled.ensures)
    c.push.new.self (c.in_ok-push-in-Some.ensures.ok ∙ ap (λ (ns : List Name). ns ++ c.in-Some.name ∷ []) c.new-names.ensures) c.new-args.result.items c.new-args.ensures.items d c.make_named.new.f c.make_named.new.h k)
    c.make_named.ensures.did
