use Rattle.jn_code.proofs.SpellsLaws.{one_spelling, has_spelling, one_image, no_prefix}
use Rattle.jn_code.proofs.spelling.spellings.Goals as goal

pub returns : goal.returns
returns c = record { one = one_spelling; has = has_spelling; of_one = one_image; no_front = no_prefix }
