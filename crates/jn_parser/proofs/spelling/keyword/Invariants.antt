use Rattle.std.proofs.Common.{◌≡◌, length}
use Rattle.jn_base.specs.declared.word.Keyword.{Keyword as Key}
use Rattle.jn_base.specs.Words.{keyword_text}
use Rattle.jn_parser.proofs.Among.{Among}
use Rattle.jn_parser.proofs.spelling.keyword.Given as goal

-- what is spelled so is one of the rest
abbrev pub invariant-key : goal.invariant-key
invariant-key l = (k : Key) → l.text ≡ keyword_text k → Among k l.rest

abbrev pub decreases-key : goal.decreases-key
decreases-key l = length l.rest
