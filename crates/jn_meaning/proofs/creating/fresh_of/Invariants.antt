use Rattle.std.proofs.Common.{◌≡◌, map}
use Rattle.jn_meaning.specs.Values.{path_at}
use Rattle.jn_meaning.specs.Heaps.{stored_of}
use Rattle.jn_meaning.proofs.NewObjects.{FreshTo}
use Rattle.jn_meaning.proofs.creating.fresh_of.Given as goal

abbrev pub invariant-loop-f : goal.invariant-loop-f
invariant-loop-f l =
    (l.t ≡ l.fn.t) × FreshTo l.w.program.now (path_at l.fn.t.known.items l.id) l.f-items (map (stored_of l.fn.t.known.items) l.all.items) l.f-index
