use Rattle.jn_sem.proofs.HeapLaws.{heap_laws}
use Rattle.jn_sem.proofs.heaps.heap_laws.Goals as goal

pub returns : goal.returns
returns c = heap_laws
