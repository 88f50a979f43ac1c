use Rattle.jn_parser.proofs.Sources.{one_text}
use Rattle.jn_parser.proofs.one_program.Goals as goal

pub returns : goal.returns
returns c = λ p q bytes h t s. one_text bytes p q h t s
