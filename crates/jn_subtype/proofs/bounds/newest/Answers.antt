use Rattle.std.proofs.Common.{◌≡◌, List, Some, length, slice_get, get_or}
use Rattle.jn_intern.specs.declared.scope.Bind.{Bind}
use Rattle.jn_subtype.proofs.Newest.{newest_none, read_at, found_here, found_before, within_all, newest_all}
use Rattle.jn_subtype.proofs.bounds.newest.Goals as goal
use Rattle.jn_subtype.proofs.bounds.newest.Goals.{then-binds-i, else-binds-i}

pub loop-i-init : goal.loop-i-init
loop-i-init c = record { within = tt; newest = newest_none c.args.binds.now c.args.path }

pub loop-i-preserved : goal.loop-i-preserved
loop-i-preserved c =
    let bs : List Bind = c.args.binds.now in
    let b : Bind = get_or bs c.loop-i.i record { path = 0; ty = record { 0 = 0 } } in
    let at : slice_get bs c.loop-i.i ≡ Some b = read_at bs c.loop-i.i record { path = 0; ty = record { 0 = 0 } } c.loop-i-test.true in
    let here = found_here bs c.args.path c.loop-i.i b c.loop-i.found c.if-binds-i.found at in
    let before = found_before bs c.args.path c.loop-i.i b c.loop-i.found c.if-binds-i.found at in
    elim c.if-binds-i.branch [
      | then-binds-i w ↦ (let r = here w.if-binds-i.true w.found-is in record { within = r.0; newest = r.1 })
      | else-binds-i w ↦ (let r = before w.if-binds-i.false w.found-is c.loop-i.invariant.within c.loop-i.invariant.newest in record { within = r.0; newest = r.1 })
    ]

pub returns-clause-within : goal.returns-clause-within
returns-clause-within c = within_all c.loop-i.i (length c.args.binds.now) c.loop-i.found c.loop-i.auto.i-end c.loop-i.invariant.within

pub returns-clause-newest : goal.returns-clause-newest
returns-clause-newest c = newest_all c.args.binds.now c.args.path c.loop-i.i c.loop-i.found c.loop-i.auto.i-end c.loop-i-test.false c.loop-i.invariant.newest
