use Rattle.std.proofs.Common.{◌≡◌, drop}
use Rattle.std.specs.List.{list_all}
use Rattle.jn_code.specs.Rows.{other_is_good}
use Rattle.jn_verify.proofs.rows.others_are_good.Given as goal

abbrev pub invariant-loop-entry : goal.invariant-loop-entry
invariant-loop-entry l = list_all (other_is_good l.image l.row) (drop l.entry-index l.entries) ≡ list_all (other_is_good l.image l.row) l.entries
