use Rattle.std.proofs.Common.{subst, arith}
use Rattle.jn_code.proofs.SpellsLaws.{spelled_is_read}
use Rattle.jn_imagefile.specs.Answers.{Answers}
use Rattle.jn_imagefile.proofs.Found.{is_found}
use Rattle.jn_imagefile.proofs.reading.read_image.Goals as goal

pub returns-clause-found : goal.returns-clause-found
returns-clause-found c = is_found c.answer.result c.args.bytes.now (λ i. omega (arith, c.type_inv.bytes i)) c.answer.ensures

pub returns-clause-only : goal.returns-clause-only
returns-clause-only c = λ i p. subst (Answers c.answer.result) (spelled_is_read i c.args.bytes.now p) c.answer.ensures
