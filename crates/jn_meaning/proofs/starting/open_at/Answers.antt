use Rattle.std.proofs.Common.{List, subst, ap, ◌∙◌, ◌++◌, ◌∷◌, []}
use Rattle.std.specs.Prelude.{codes, Some, None}
use Rattle.jn_sem.proofs.FindingLaws.{finds_one_in}
use Rattle.jn_sem.specs.Does.{IsSpelled}
use Rattle.jn_meaning.specs.Tells.{Tells}
use Rattle.jn_meaning.specs.declared.value.Value.{Value}
use Rattle.jn_meaning.proofs.Lists.{if_ok}
use Rattle.jn_meaning.proofs.Begins.{opens_nothing, opens_main}
use Rattle.jn_meaning.proofs.starting.open_at.Goals as goal

pub returns-in-None-clause-did : goal.returns-in-None-clause-did
returns-in-None-clause-did c =
    let p = c.args.w.now.program.now in
    let known = c.args.t.now.known.items in
    opens_nothing p known c.args.r c.args.id (subst (Tells (IsSpelled p (codes "main"))) c.in-None.is c.in_ok-spelled.ensures)

pub returns-in_ok-push-in-Some-clause-did : goal.returns-in_ok-push-in-Some-clause-did
returns-in_ok-push-in-Some-clause-did c =
    let p = c.args.w.now.program.now in
    let known = c.args.t.now.known.items in
    let q = c.requires in
    let once = finds_one_in p q.declarations q.filled.table.named.distinct q.filled.table.named.paths in
    if_ok c.call_at.result
    (λ d k. opens_main p known c.args.r c.args.id (once.spelled (codes "main")) c.in-Some.name (subst (Tells (IsSpelled p (codes "main"))) c.in-Some.is c.in_ok-spelled.ensures)
    c.push.new.self.items (c.in_ok-push-in-Some.ensures.items ∙ ap (λ (vs : List Value). vs ++ c.args.r ∷ []) c.new-all.ensures.items) d k)
    c.call_at.ensures.did
