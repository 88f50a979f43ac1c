use Rattle.std.proofs.Common.{◌≤◌, ◌<◌, length, ap, arith}
use Rattle.jn_rules.specs.Members.{BadClass}
use Rattle.jn_header.proofs.ClassFaults.{refused_first}
use Rattle.jn_header.proofs.Numbers.{none_of_table}
use Rattle.jn_header.proofs.classes.first_refused.Goals as goal

pub returns-in-Some : goal.returns-in-Some
returns-in-Some c =
    let l : c.loop-k.k < length c.args.t.now.known.items = omega (arith, c.loop-k-test.true, ap length c.known-k-end.ensures) in
    refused_first c.args.p.now c.args.t.now c.requires.members.filled c.loop-k.k c.loop-k.invariant l c.class_fault.result c.in-Some.fault c.in-Some.is (λ R n. c.class_fault.ensures R n)
    _ (λ R n. c.in_ok-refusal_at-in-Some.ensures c.args.p.now R c.requires.members.filled.table n)

pub returns : goal.returns
returns c =
    let past : length c.args.t.now.known.items ≤ c.loop-k.k = omega (arith, c.loop-k-test.false, ap length c.known-k-end.ensures) in
    none_of_table c.args.p.now c.args.t.now c.requires.members.filled (BadClass c.args.p.now) (λ R b. b.class.universe) c.loop-k.k past c.loop-k.invariant
