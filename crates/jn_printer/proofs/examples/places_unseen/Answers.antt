use Rattle.jn_printer.proofs.TextUnseen.{same_text}
use Rattle.jn_printer.proofs.examples.places_unseen.Goals as goal

pub returns : goal.returns
returns c = same_text
