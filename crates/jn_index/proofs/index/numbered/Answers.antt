use Rattle.std.proofs.Common.{arith, ◌∷◌, []}
use Rattle.std.proofs.lemmas.List.{map-append}
use Rattle.jn_index.specs.Index.{numbers_of, keys_in}
use Rattle.jn_index.proofs.Places.{numbered_more}
use Rattle.jn_index.proofs.index.numbered.Goals as goal

pub loop-key-preserved : goal.loop-key-preserved
loop-key-preserved c = record {
  numbered = numbered_more (keys_in c.loop-key.yielded) _ c.loop-key.all.items _ _ c.loop-key.invariant.numbered c.in_ok-push.ensures.items (omega (arith, c.len-place.ensures, c.loop-key.all.ok))
      (map-append numbers_of c.loop-key.yielded (c.in-Some.key ∷ []));
}
