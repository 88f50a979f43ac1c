use Rattle.std.proofs.Common.{refl}
use Rattle.std.specs.Fmt.{digits}
use Rattle.jn_big.specs.Source.{big_source}
use Rattle.jn_big.specs.Summary.{summary}
use Rattle.jn_big.proofs.examples.texts.Goals as goal

pub returns : goal.returns
unfolding digits big_source summary
returns c = record {
  two = refl;
  of_four_lines = refl;
  of_nothing = refl;
  of_a_cut_line = refl;
}
