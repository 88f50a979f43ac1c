use Rattle.jn_rule_laws.proofs.FoundMembers.{members_under_bounds}
use Rattle.jn_rule_laws.proofs.members.members_under_bounds.Goals as goal

pub returns : goal.returns
returns c = members_under_bounds
