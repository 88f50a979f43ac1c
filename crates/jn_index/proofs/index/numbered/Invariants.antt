use Rattle.jn_index.specs.Index.{AreNumbered, keys_in}
use Rattle.jn_index.proofs.index.numbered.Given as goal

abbrev pub invariant-loop-key : goal.invariant-loop-key
invariant-loop-key l = record {
  numbered : AreNumbered (keys_in l.yielded) l.all.items;
}
