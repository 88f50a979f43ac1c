use Rattle.std.proofs.Common.{rules}
use Rattle.jn_header.proofs.Unknowns.{none_first, hit_here, passed_here, all_passed_here}
use Rattle.jn_header.proofs.unknown.first_unknown.Goals as goal

pub loop-path-init : goal.loop-path-init
loop-path-init c = none_first c.args.p.now c.args.table.now.known.items

pub returns-in-Some : goal.returns-in-Some
returns-in-Some c =
    hit_here c.args.p.now c.args.table.now c.requires.filled _ c.known-path-items.ensures c.loop-path.path-index c.path-item.result c.loop-path-test.true c.path-item.is c.loop-path.invariant
    c.in_ok-named.field-0 c.in-Some.named c.in-Some.is c.in_ok-named.ensures _ c.in_ok-unknown_at-in-Some.ensures

pub loop-path-preserved : goal.loop-path-preserved
loop-path-preserved c =
    passed_here c.args.p.now c.args.table.now c.requires.filled _ c.known-path-items.ensures c.loop-path.path-index c.path-item.result c.loop-path-test.true c.path-item.is c.loop-path.invariant
    c.in_ok-named.field-0 c.in-None.is c.in_ok-named.ensures

pub returns : goal.returns
returns c =
    all_passed_here c.args.p.now c.args.table.now c.requires.filled _ c.known-path-items.ensures c.loop-path.path-index (search rules) c.loop-path.invariant
