use Rattle.std.proofs.Common.{◌≤◌, ◌<◌, length, ap, arith, subst, Option}
use Rattle.jn_base.specs.declared.tree.Name.{Name}
use Rattle.jn_rules.specs.Members.{FailsAt, FailsFor}
use Rattle.jn_header.specs.Members.{FirstBad}
use Rattle.jn_header.proofs.Failing.{none_at_all, failing_first}
use Rattle.jn_header.proofs.Numbers.{none_at_more, none_of_table}
use Rattle.jn_header.proofs.constraints.first_refused.Goals as goal

pub returns-in-Some : goal.returns-in-Some
returns-in-Some c =
    let l : c.loop-k.k < length c.args.t.now.known.items = omega (arith, c.loop-k-test.true, ap length c.known-k-end.ensures) in
    failing_first c.args.p.now c.args.t.now c.requires.bodies.declarations c.requires.bodies.members.filled c.loop-k.k c.loop-k.invariant l c.in_ok-member.field-0 c.in-Some.member c.in-Some.is
    (λ R n. c.in_ok-member.ensures c.args.p.now R c.requires.bodies c.requires.shared c.requires.names n) c.place_of-at.result (λ R n. c.place_of-at.ensures R n)
    _ (λ R n. c.in_ok-refusal_at-in-Some.ensures c.args.p.now R c.requires.bodies.members.filled.table n)

pub loop-k-preserved : goal.loop-k-preserved
loop-k-preserved c =
    none_at_more (FailsAt c.args.p.now) c.args.t.now.known.items c.loop-k.k c.loop-k.invariant
    (λ R n. none_at_all c.args.p.now R (subst (λ (o : Option Name). FirstBad c.args.p.now (FailsFor c.args.p.now R) o) c.in-None.is
    (c.in_ok-member.ensures c.args.p.now R c.requires.bodies c.requires.shared c.requires.names n)))

pub returns : goal.returns
returns c =
    let past : length c.args.t.now.known.items ≤ c.loop-k.k = omega (arith, c.loop-k-test.false, ap length c.known-k-end.ensures) in
    none_of_table c.args.p.now c.args.t.now c.requires.bodies.members.filled (FailsAt c.args.p.now) (λ R f. f.1.1.class.universe) c.loop-k.k past c.loop-k.invariant
