-- What is written between the quotes of a text reads as the text. No source has a text with a carriage return in it.
use Rattle.std.specs.Prelude.{◌≢◌, ℕ, List, All}
use Rattle.jn_base.specs.Tokens.{carriage_return}
use Rattle.jn_base.specs.Words.{Reads}
use Rattle.jn_printer.specs.StmtText.{escaped}

abbrev pub EscapedReads : Type 0
EscapedReads = (text : List ℕ) → All (λ c. c ≢ carriage_return) text → Reads (escaped text) text
