use Rattle.jn_meaning.specs.Heaps.{NoneBefore}
use Rattle.jn_meaning.proofs.heap.place_of.Given as goal

abbrev pub invariant-loop-i : goal.invariant-loop-i
invariant-loop-i l = NoneBefore l.t.known.items l.stored l.s l.i
