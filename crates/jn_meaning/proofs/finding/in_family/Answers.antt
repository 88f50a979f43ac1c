use Rattle.std.proofs.Common.{rules, ◌∙◌, ◌∷◌, ◌≤◌, ap, length, List, arith}
use Rattle.jn_base.specs.declared.tree.Name.{Name}
use Rattle.jn_meaning.proofs.Lists.{take_all}
use Rattle.jn_meaning.proofs.Bodies.{other_family}
use Rattle.jn_meaning.proofs.finding.in_family.Goals as goal

pub returns : goal.returns
returns c =
    let inner : List Name = c.behind_first-inner.result.now in
    let l : length inner ≤ c.loop-name.name-index = search rules in
    let some : 1 ≤ length c.args.names.now = search rules in
    other_family c.args.names.now c.loop-name.list c.args.family (λ e. omega (arith, e, some))
    (c.loop-name.invariant ∙ ap (λ (ns : List Name). c.args.family ∷ ns) (take_all c.loop-name.name-index inner l ∙ c.behind_first-inner.ensures))
