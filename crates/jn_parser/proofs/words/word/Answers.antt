use Rattle.std.proofs.Common.{◌≡◌, ◌∙◌, to_z, of_z, w64, arith}
use Rattle.std.proofs.lemmas.Int.{ints, to_z-of_z}
use Rattle.jn_parser.proofs.Numbering.{mention_name, mention_keyword, mention_number, mention_text, mention_mark}
use Rattle.jn_parser.proofs.words.word.Goals as goal

pub returns-in_ok-n-in-Name-clause-mentioned : goal.returns-in_ok-n-in-Name-clause-mentioned
returns-in_ok-n-in-Name-clause-mentioned c = mention_name c.in-Name.is c.in_ok-from_slice-in-Name.ensures.items c.in_ok-n-in-Name.ensures.numbered

pub returns-in-Some-clause-mentioned : goal.returns-in-Some-clause-mentioned
returns-in-Some-clause-mentioned c = mention_keyword c.in-Some.k c.in-Keyword.is c.in-Some.ensures.found

pub returns-in-Number-clause-mentioned : goal.returns-in-Number-clause-mentioned
returns-in-Number-clause-mentioned c =
    let same : to_z w64 (of_z w64 c.value.result) ≡ c.value.result = grind (arith, ints, to_z-of_z) in
    mention_number c.in-Number.is (same ∙ c.value.ensures)

pub returns-in_ok-number-in-Text-clause-mentioned : goal.returns-in_ok-number-in-Text-clause-mentioned
returns-in_ok-number-in-Text-clause-mentioned c = mention_text c.between_quotes.result.now c.in-Text.is c.between_quotes.ensures c.in_ok-text-in-Text.ensures c.in_ok-number-in-Text.ensures.numbered

pub returns-in-Some-mark-clause-mentioned : goal.returns-in-Some-mark-clause-mentioned
returns-in-Some-mark-clause-mentioned c = mention_mark c.in-Some-mark.m c.in-Mark.is c.in-Some-mark.ensures.found
