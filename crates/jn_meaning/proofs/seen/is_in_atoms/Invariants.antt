use Rattle.jn_base.specs.declared.tree.Program.{Program}
use Rattle.jn_base.specs.Paths.{Path}
use Rattle.jn_table.specs.Rows.{IsNumber}
use Rattle.jn_table.specs.Tables.{IsFilled}
use Rattle.jn_share.proofs.Inside.{InFirst}
use Rattle.jn_meaning.specs.Seen.{views_of}
use Rattle.jn_meaning.proofs.seen.is_in_atoms.Given as goal

abbrev pub invariant-loop-x : goal.invariant-loop-x
invariant-loop-x l = (p : Program) (U : Path) → IsFilled p l.t → IsNumber l.t.known.items l.id U → InFirst p (views_of l.t.known.items l.seen) l.xs U l.x-index
