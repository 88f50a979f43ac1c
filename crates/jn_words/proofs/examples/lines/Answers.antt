use Rattle.std.proofs.Common.{refl}
use Rattle.std.specs.Fmt.{digits}
use Rattle.jn_words.specs.Line.{line_of}
use Rattle.jn_words.proofs.examples.lines.Goals as goal

pub returns : goal.returns
unfolding digits line_of
returns c = record {
  no_main = refl;
  conflict = refl;
  cycle = refl;
  nesting = refl;
  duplicate = refl;
}
