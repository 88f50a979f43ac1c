use Rattle.std.proofs.Common.{◌≡◌, ◌++◌, drop, false}
use Rattle.jn_base.specs.NameTexts.{dotted}
use Rattle.jn_words.proofs.print_dotted.Given as goal

abbrev pub invariant-loop-x : goal.invariant-loop-x
invariant-loop-x l = l.out.items ++ dotted l.names l.later (drop l.x-index l.path) ≡ l.fn.out.items ++ dotted l.names false l.path
