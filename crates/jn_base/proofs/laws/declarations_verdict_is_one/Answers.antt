use Rattle.jn_base.proofs.TableLaws.{one_declarations_refusal, declarations_refused_or_passed}
use Rattle.jn_base.proofs.laws.declarations_verdict_is_one.Goals as goal

pub returns : goal.returns
returns c p = record { not_both = declarations_refused_or_passed p; one = one_declarations_refusal p }
