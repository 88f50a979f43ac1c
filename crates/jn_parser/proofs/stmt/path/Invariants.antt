use Rattle.std.proofs.Common.{◌≡◌, ◌++◌, ◌∷◌, length}
use Rattle.jn_grammar.specs.ReadStmts.{names_of}
use Rattle.jn_parser.proofs.stmt.path.Given as goal

abbrev pub invariant-part : goal.invariant-part
invariant-part l = l.names ++ names_of l.rest ≡ l.fn.first ∷ names_of l.parts

abbrev pub decreases-part : goal.decreases-part
decreases-part l = length l.rest
