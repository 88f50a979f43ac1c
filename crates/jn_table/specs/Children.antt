-- The members of the paths of a depth, in order.
use Rattle.std.specs.Prelude.{◌≡◌, ◌+◌, ℕ, List, [], ◌∷◌, ◌++◌, take, slice_get, Some}
use Rattle.std.specs.declared.vec.Vec.{Vec}
use Rattle.std.specs.declared.alloc.Global.{Global}
use Rattle.jn_reach.specs.Each.{Each}
use Rattle.jn_base.specs.declared.tree.Name.{Name}
use Rattle.jn_table.specs.Gather.{MembersAt}
use Rattle.jn_table.specs.declared.entry.Entry.{Entry}
use Rattle.jn_table.specs.declared.level.Child.{Child}
use Rattle.jn_table.specs.declared.level.Level.{Level}

-- those of the names of which S holds, in the order of the names, as members of the path of that number
pub data Picks (S : Name → Type 0) (up : ℕ) : List Name → List Child → Type 0 where
  nobody : Picks S up [] []
  takes : {C : Name} {ns : List Name} {cs : List Child} → S C → Picks S up ns cs
      → Picks S up (C ∷ ns) (record { up = up; name = C } ∷ cs)
  skips : {C : Name} {ns : List Name} {cs : List Child} → (S C → ⊥) → Picks S up ns cs → Picks S up (C ∷ ns) cs

-- the child is under the path of that number, and its name stands at k in the order
pub record IsChildAt (order : List Name) (up k : ℕ) (c : Child) : Type 0 where
  pub name_at : slice_get order k ≡ Some c.name
  pub under : c.up ≡ up

-- behind what was there stand the members of those places, as far as there is room
pub record AddsPicked (order : List Name) (picked : List ℕ) (up room : ℕ) (before after : List Child) : Type 0 where
  pub added : List Child
  pub each : Each (IsChildAt order up) picked added
  pub is : after ≡ take room (before ++ added)

-- C is a member of the path of that number, by its row of supers
pub record MemberOf (es : List Entry) (level : Level) (up : ℕ) (C : Name) : Type 0 where
  pub sups : Vec ℕ Global
  pub sups_at : slice_get level.sups.items up ≡ Some sups
  pub member : MembersAt es level.paths.items sups.items C

-- the members of the first n paths
pub data AllPicks (es : List Entry) (order : List Name) (level : Level) : ℕ → List Child → Type 0 where
  no_path : AllPicks es order level 0 []
  one_path : {n : ℕ} {cs ds : List Child} → AllPicks es order level n cs → Picks (MemberOf es level n) n order ds
      → AllPicks es order level (n + 1) (cs ++ ds)

-- of these as many as there is room for
pub record ChildrenFront (es : List Entry) (order : List Name) (level : Level) (n room : ℕ) (children : List Child)
    : Type 0 where
  pub whole : List Child
  pub all : AllPicks es order level n whole
  pub front : children ≡ take room whole
