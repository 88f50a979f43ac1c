use Rattle.jn_sem.specs.State.{HasValue}
use Rattle.jn_meaning.specs.Values.{path_at}
use Rattle.jn_meaning.specs.Heaps.{heap_of}
use Rattle.jn_meaning.proofs.InTypes.{FilledTo}
use Rattle.jn_meaning.proofs.typing.fields_filled.Given as goal

abbrev pub invariant-loop-field : goal.invariant-loop-field
invariant-loop-field l =
    FilledTo l.w.masks.now (HasValue l.w.program.now (heap_of l.t.known.items l.h) l.o (path_at l.t.known.items l.id)) l.m l.field-items l.field-index
