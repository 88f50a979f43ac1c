-- For each name, by its number, the classes whose declarations have it.
use Rattle.std.specs.Prelude.{◌≡◌, ◌≤◌, ◌&&◌, ◌||◌, ℕ, Bool, nat_eq, List, [], Option, Some, slice_get}
use Rattle.std.specs.List.{list_any}
use Rattle.std.specs.Option.{option_map_or}
use Rattle.std.specs.declared.alloc.Global.{Global}
use Rattle.std.specs.declared.vec.Vec.{Vec}
use Rattle.jn_table.specs.declared.class.ClassId.{ClassId}
use Rattle.jn_names.specs.Ascending.{Ascend}

abbrev pub Lists : Type 0
Lists = ℕ → Option (Vec ClassId Global)

abbrev pub numbers_in : Vec ClassId Global → List ClassId
numbers_in ids = ids.items

-- the numbers that are kept at the name; none where there is no list
abbrev pub kept_at : Lists → ℕ → List ClassId
kept_at lists m = option_map_or numbers_in (lists m) []

abbrev pub is_kept : List ClassId → ClassId → Bool
is_kept ids s = list_any (λ id. nat_eq s.0 id.0) ids

-- none is above n
abbrev pub UpTo : ℕ → List ClassId → Type 0
UpTo n ids = (k : ℕ) (s : ClassId) → slice_get ids k ≡ Some s → s.0 ≤ n

-- the number was put behind the others, or nothing was
pub record AddsAt (put : Bool) (id : ClassId) (old new : List ClassId) : Type 0 where
  pub exact : (s : ClassId) → is_kept new s ≡ (is_kept old s || (put && nat_eq s.0 id.0))
  pub ascend : Ascend old → UpTo id.0 old → Ascend new
  pub up_to : UpTo id.0 old → UpTo id.0 new

-- the number was put at these names, and at no others
abbrev pub Adds : List ℕ → ClassId → Lists → Lists → Type 0
Adds names id old new = (m : ℕ) → AddsAt (list_any (nat_eq m) names) id (kept_at old m) (kept_at new m)
