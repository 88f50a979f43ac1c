use Rattle.std.proofs.Common.{◌∙◌, sym, reverse}
use Rattle.jn_header.proofs.TwiceSteps.{members_inside, members_next}
use Rattle.jn_header.proofs.twice.+decl.Goals as goal

pub in_members-returns-in-Some : goal.in_members-returns-in-Some
in_members-returns-in-Some t c =
    members_inside (reverse c.args.path.now.names) c.args.members.now c.loop-m.m-index c.m-item.result c.loop-m.seen c.in-Some.found c.loop-m.invariant c.loop-m-test.true c.m-item.is
    (sym c.is_second.ensures ∙ c.if-is_second.false) (sym c.in-Some.is ∙ c.in_ok-found.ensures)

pub in_members-loop-m-preserved : goal.in_members-loop-m-preserved
in_members-loop-m-preserved t c =
    members_next (reverse c.args.path.now.names) c.args.members.now c.loop-m.m-index c.m-item.result c.loop-m.seen c.see.new.seen c.loop-m.invariant c.loop-m-test.true c.m-item.is
    (sym c.is_second.ensures ∙ c.if-is_second.false) (sym c.in-None.is ∙ c.in_ok-found.ensures) c.in_ok-see.ensures
