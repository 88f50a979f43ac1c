use Rattle.std.proofs.Common.{◌≡◌, map}
use Rattle.jn_base.specs.declared.tree.Program.{Program}
use Rattle.jn_table.specs.Tables.{IsFilled}
use Rattle.jn_sem.specs.NotFamily.{listed_names}
use Rattle.jn_share.specs.Listing.{listed_of}
use Rattle.jn_share.proofs.Refusing.{PassTo}
use Rattle.jn_share.proofs.families.check.Given as goal

abbrev pub invariant-loop-x : goal.invariant-loop-x
invariant-loop-x l = (p : Program) → IsFilled p l.t → map listed_of l.xs ≡ listed_names p → PassTo p l.xs l.x-index
