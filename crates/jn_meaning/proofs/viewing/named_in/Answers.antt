use Rattle.std.proofs.Common.{◌∙◌, ◌++◌, ap, List}
use Rattle.jn_base.specs.declared.tree.Name.{Name}
use Rattle.jn_meaning.specs.Seen.{views_of}
use Rattle.jn_meaning.proofs.Targets.{named_as, rooted_is, unrooted_is}
use Rattle.jn_meaning.proofs.viewing.named_in.Goals as goal

pub returns-in-None : goal.returns-in-None
returns-in-None c =
    unrooted_is c.args.t.now.known.items c.args.seen.now c.args.x.now c.in_ok-rooted.field-0 c.in_ok-rooted.ensures c.in-None.is

pub returns-in_ok-names-in-Some : goal.returns-in_ok-names-in-Some
returns-in_ok-names-in-Some c =
    named_as (views_of c.args.t.now.known.items c.args.seen.now) c.args.x.now c.in-Some.y c.in_ok-names-in-Some.names
    (rooted_is c.args.t.now.known.items c.args.seen.now c.args.x.now c.in_ok-rooted.field-0 c.in-Some.y c.in_ok-rooted.ensures c.in-Some.is)
    (c.in_ok-names-in-Some.ensures ∙ ap (λ (ns : List Name). ns ++ c.as_slice-in-Some.result.now) c.as_slice.ensures ∙ ap (λ (ns : List Name). c.in-Some.y.exact ++ ns) c.as_slice-in-Some.ensures)
