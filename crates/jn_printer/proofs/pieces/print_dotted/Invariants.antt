use Rattle.std.proofs.Common.{◌≡◌, ◌++◌, drop}
use Rattle.jn_printer.specs.Pieces.{dotted}
use Rattle.jn_printer.proofs.pieces.print_dotted.Given as goal

abbrev pub invariant-loop-x : goal.invariant-loop-x
invariant-loop-x l = l.out.items ++ dotted l.names l.dot (drop l.x-index l.path) ≡ l.fn.out.items ++ dotted l.names l.later l.path
