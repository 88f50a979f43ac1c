use Rattle.std.proofs.Common.{◌≡◌, length}
use Rattle.jn_base.specs.declared.word.Mark.{Mark as Marked}
use Rattle.jn_base.specs.Words.{mark_text}
use Rattle.jn_parser.proofs.Among.{Among}
use Rattle.jn_parser.proofs.spelling.mark.Given as goal

-- what is spelled so is one of the rest
abbrev pub invariant-mark : goal.invariant-mark
invariant-mark l = (k : Marked) → l.text ≡ mark_text k → Among k l.rest

abbrev pub decreases-mark : goal.decreases-mark
decreases-mark l = length l.rest
