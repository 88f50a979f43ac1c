use Rattle.jn_base.specs.declared.tree.Program.{Program}
use Rattle.jn_table.specs.Tables.{IsFilled}
use Rattle.jn_share.specs.Listing.{listing_of}
use Rattle.jn_header.specs.Listed.{HasName, of_list}
use Rattle.jn_heads.proofs.Turns.{TurnsFrom}
use Rattle.jn_header.proofs.listed.judge_names.Given as goal

abbrev pub invariant-loop-name : goal.invariant-loop-name
invariant-loop-name l =
    (p : Program) → IsFilled p l.t → HasName l.class → TurnsFrom p (of_list l.class (listing_of l.list)) l.names l.name-index
