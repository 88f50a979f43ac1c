-- The numbers of each group.
use Rattle.std.specs.Prelude.{◌≡◌, ℕ, List, slice_get, Some, length}
use Rattle.std.specs.declared.vec.Vec.{Vec}
use Rattle.std.specs.declared.alloc.Global.{Global}
use Rattle.jn_reach.specs.Pairs.{AreMembers}
use Rattle.jn_share.specs.declared.groups.Groups.{Groups}
use Rattle.jn_share.specs.declared.members.GroupMembers.{GroupMembers}
use Rattle.jn_share.specs.Groups.{StartsOf}

-- each number has the first one of its group, and each first one has its numbers
pub record AreGroupMembers (g : Groups) (lists : GroupMembers) : Type 0 where
  pub long : length lists.starts.items ≡ length g.rows.items
  pub starts : StartsOf g.rows.items lists.starts.items (length g.rows.items)
  pub numbers : AreMembers lists.starts.items lists.numbers.items

-- the numbers of the group of k
abbrev pub MembersAre : GroupMembers → ℕ → List ℕ → Type 0
MembersAre lists k told = (s : ℕ) (row : Vec ℕ Global) → slice_get lists.starts.items k ≡ Some s → slice_get lists.numbers.items s ≡ Some row → told ≡ row.items
