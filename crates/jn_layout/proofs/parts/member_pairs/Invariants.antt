use Rattle.std.proofs.Common.{◌≡◌, ◌++◌, drop, map}
use Rattle.jn_layout.specs.Parts.{member_pair}
use Rattle.jn_layout.proofs.parts.member_pairs.Given as goal

abbrev pub invariant-loop-m : goal.invariant-loop-m
invariant-loop-m l = l.all.items ++ map member_pair (drop l.m-index l.members) ≡ map member_pair l.members
