use Rattle.std.proofs.Common.{◌≡◌, drop}
use Rattle.std.specs.List.{list_all}
use Rattle.jn_code.specs.Rows.{member_is_good}
use Rattle.jn_verify.proofs.rows.members_are_good.Given as goal

abbrev pub invariant-loop-entry : goal.invariant-loop-entry
invariant-loop-entry l = list_all (member_is_good l.image l.k) (drop l.entry-index l.entries) ≡ list_all (member_is_good l.image l.k) l.entries
