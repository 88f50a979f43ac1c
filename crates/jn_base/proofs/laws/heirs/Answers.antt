use Rattle.jn_base.specs.Supers.{itself}
use Rattle.jn_base.proofs.SuperLaws.{heir_by_one, heirs_above, heirs_base}
use Rattle.jn_base.proofs.laws.heirs.Goals as goal

pub returns : goal.returns
returns c p = record {
  by_one = λ P Q C D s. heir_by_one itself s;
  by_names = λ E B t t' b e n s. heirs_above t t' e b n s;
  base = λ E B t b n. heirs_base t b n;
}
