use Rattle.std.proofs.Common.{◌≡◌, ◌<◌, length, arith}
use Rattle.jn_closure.proofs.Marking.{AreMarks-none, marks_bound}
use Rattle.jn_closure.proofs.Searching.{Searched-begun, Searched-more, Searched-within, Searched-done}
use Rattle.jn_closure.proofs.rows.search.Goals as goal

pub visit-requires-clause-marks : goal.visit-requires-clause-marks
visit-requires-clause-marks c = AreMarks-none _ _ c.new-nodes.ensures.items c.requires.clear

pub loop-next-init : goal.loop-next-init
loop-next-init c =
    let long : length c.visit.new.marks.items ≡ length c.args.edges.now =
    omega (arith, c.visit.ensures.len, c.requires.len, c.visit.new.marks.ok.0) in
    Searched-begun _ _ _ _ _ c.new-nodes.ensures.items long c.in_ok-visit.ensures.marks c.in_ok-visit.ensures.added

pub visit_from-requires-clause-node : goal.visit_from-requires-clause-node
visit_from-requires-clause-node c =
    let within : c.loop-next.next < length c.loop-next.nodes.items =
    omega (arith, c.loop-next-test.true, c.len.ensures, c.loop-next.nodes.ok.0) in
    Searched-within _ _ _ _ _ _ within c.index-node.ensures c.loop-next.invariant

pub loop-next-smaller : goal.loop-next-smaller
loop-next-smaller c =
    let within : c.loop-next.next < length c.loop-next.nodes.items =
    omega (arith, c.loop-next-test.true, c.len.ensures, c.loop-next.nodes.ok.0) in
    omega (arith, within, marks_bound _ _ c.loop-next.invariant.marked, c.loop-next.invariant.long)

pub loop-next-preserved : goal.loop-next-preserved
loop-next-preserved c =
    let within : c.loop-next.next < length c.loop-next.nodes.items =
    omega (arith, c.loop-next-test.true, c.len.ensures, c.loop-next.nodes.ok.0) in
    let long : length c.visit_from.new.marks.items ≡ length c.loop-next.marks.items =
    omega (arith, c.visit_from.ensures.len, c.visit_from.new.marks.ok.0, c.loop-next.marks.ok.0) in
    Searched-more _ _ _ _ _ _ _ _ within c.index-node.ensures long c.loop-next.invariant
    c.in_ok-visit_from.ensures.marks c.in_ok-visit_from.ensures.added

pub returns-clause-exact : goal.returns-clause-exact
returns-clause-exact c =
    Searched-done _ _ _ _ _ (omega (arith, c.loop-next-test.false, c.len.ensures, c.loop-next.nodes.ok.0))
    c.loop-next.invariant
