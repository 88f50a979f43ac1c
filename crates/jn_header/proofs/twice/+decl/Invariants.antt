use Rattle.std.proofs.Common.{reverse}
use Rattle.jn_header.proofs.TwiceSteps.{LeftOfMembers}
use Rattle.jn_header.proofs.twice.+decl.Given as goal

abbrev pub invariant-in_members-loop-m : goal.invariant-in_members-loop-m
invariant-in_members-loop-m l = LeftOfMembers (reverse l.path.names) l.members l.m-index l.seen
