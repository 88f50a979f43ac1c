-- The universe of a program is finite: its paths can be listed, and so can what belongs to a class. So what is sought among
-- them has a first one, a field has a slot, and a group has a size.
use Rattle.std.specs.Prelude.{◌≡◌, ℕ, List, ◌∷◌, Contains}
use Rattle.std.specs.declared.cmp.Ordering.TheVariants.{Less}
use Rattle.jn_base.specs.declared.tree.Name.{Name}
use Rattle.jn_base.specs.declared.tree.Program.{Program}
use Rattle.jn_base.specs.Paths.{Path}
use Rattle.jn_base.specs.Supers.{Sup, Member}
use Rattle.jn_base.specs.Universe.{InUniverse}
use Rattle.jn_base.specs.Members.{Decls}
use Rattle.jn_base.specs.ClassOrder.{Before, name_cmp}
use Rattle.jn_sem.specs.Values.{HasField}
use Rattle.jn_sem.specs.Sharing.{IsClass, Related}
use Rattle.jn_sem.specs.Slots.{Slot, IsSlot, SlotOfGroup, IsSize}
use Rattle.jn_sem.specs.LawsOfSlots.{FieldsPass}
use Rattle.jn_laws.specs.Surely.{Surely, ListOf}

-- R has a method of the name m: some path in Sup(R) declares it
abbrev pub HasMethod : Program → Path → Name → Type 0
HasMethod p R m = (Q : Path) × Decls p R m Q

-- Surely there is a list of
pub record ListsOf (p : Program) : Type 0 where
  -- all paths of the universe, and all its classes
  pub universe : Surely (ListOf (InUniverse p))
  pub classes : Surely (ListOf (IsClass p))
  -- all supers of a path of the universe
  pub supers : (R : Path) → InUniverse p R → Surely (ListOf (Sup p R))
  -- all names of members, methods and fields of a path
  pub members : (R : Path) → Surely (ListOf (Member p R))
  pub methods : (R : Path) → Surely (ListOf (HasMethod p R))
  pub fields : (R : Path) → Surely (ListOf (HasField p R))
  -- all classes and all slots of a group
  pub group : (R : Path) → Surely (ListOf (Related p R))
  pub slots : (R : Path) → Surely (ListOf (SlotOfGroup p R))

abbrev pub UniverseListed : Type 0
UniverseListed = (p : Program) → ListsOf p

-- Q is one of the paths, and none of them comes before it
pub record FirstPath (p : Program) (paths : List Path) (Q : Path) : Type 0 where
  pub among : Contains paths Q
  pub first : (S : Path) → Contains paths S → Before p S Q → ⊥

-- n is one of the names, and none of them comes before it
pub record FirstName (p : Program) (names : List Name) (n : Name) : Type 0 where
  pub among : Contains names n
  pub first : (m : Name) → Contains names m → name_cmp p m n ≡ Less → ⊥

pub record FirstsOf (p : Program) : Type 0 where
  pub path : (R : Path) (Rs : List Path) → (Q : Path) × FirstPath p (R ∷ Rs) Q
  pub name : (m : Name) (ms : List Name) → (n : Name) × FirstName p (m ∷ ms) n

abbrev pub FirstsThere : Type 0
FirstsThere = (p : Program) → FirstsOf p

-- where fields pass, a class has a slot for each field that it has
abbrev pub SlotsThere : Type 0
SlotsThere = (p : Program) → FieldsPass p → (V : Path) (f : Name) → IsClass p V → HasField p V f → Surely ((s : Slot) × IsSlot p V f s)

-- the group of a class has a size
abbrev pub SizesThere : Type 0
SizesThere = (p : Program) (V : Path) → IsClass p V → Surely ((size : ℕ) × IsSize p V size)
