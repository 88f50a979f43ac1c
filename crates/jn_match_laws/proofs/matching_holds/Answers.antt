use Rattle.std.specs.Prelude.{length}
use Rattle.jn_sem.proofs.SharedLaws.{sharing_laws}
use Rattle.jn_match_laws.proofs.RowLaws.{same_group, below, viewed_found}
use Rattle.jn_match_laws.proofs.Stores.{stored, one_object}
use Rattle.jn_match_laws.proofs.Makes.{made}
use Rattle.jn_match_laws.proofs.matching_holds.Goals as goal

pub returns : goal.returns
returns c = λ p i n rows. record {
  group = same_group p i n rows;
  below = below p i n rows;
  viewed = viewed_found p i n rows;
  one = λ x a o q c d ma. one_object i n x.heap.objects x.firsts 0 (length a) o q c d ma.blocks;
  stored = stored p i n rows;
  made = λ x a V k row group fresh ma class is at are room. made p i n rows x a V k row group fresh ma ((sharing_laws p).itself V class) is at are room;
}
