-- What is refused of the class table.
use Rattle.std.specs.Prelude.{◌≡◌, ℕ, List, [], ◌∷◌, ◌++◌, length, drop, Contains, All, Some, None, ◌↔◌}
use Rattle.std.specs.List.Sorted.{IsStrictlySortedBy}
use Rattle.jn_base.specs.declared.tree.Named.{Named}
use Rattle.jn_base.specs.declared.tree.Place.{Place}
use Rattle.jn_base.specs.declared.tree.Program.{Program}
use Rattle.jn_base.specs.declared.tree.Decl.{Decl}
use Rattle.jn_base.specs.declared.refusal.Refusal.{Refusal}
use Rattle.jn_base.specs.declared.refusal.Rule.{Rule}
use Rattle.jn_base.specs.declared.refusal.Rule.TheVariants as rule
use Rattle.jn_base.specs.Paths.{Path, shown, StandsAt}
use Rattle.jn_base.specs.Supers.{Member, IsOwnSuper}
use Rattle.jn_base.specs.Universe.{InUniverse}
use Rattle.jn_base.specs.ClassOrder.{class_cmp, Before, IsFirst}
use Rattle.jn_base.specs.Duplicates.{duplicates, IsFirstDuplicate}
use Rattle.jn_base.specs.Members.{IsHome, HasTwoKinds}

-- the greatest number of paths in a universe
abbrev pub MOST_PATHS : ℕ
MOST_PATHS = 4096

-- R is the path of the universe that has n before it in class order
pub record IsPathAfter (p : Program) (n : ℕ) (R : Path) : Type 0 where
  pub universe : InUniverse p R
  pub earlier : List Path
  pub exact : (Q : Path) → Contains earlier Q ↔ (InUniverse p Q × Before p Q R)
  pub in_order : IsStrictlySortedBy (class_cmp p) earlier
  pub count : length earlier ≡ n

-- the 4,097th path
abbrev pub IsOver : Program → Path → Type 0
IsOver p R = IsPathAfter p MOST_PATHS R

-- a path of the universe that is its own strict super
abbrev pub IsCycle : Program → Path → Type 0
IsCycle p R = InUniverse p R × IsOwnSuper p R

-- a path of the universe whose Sup has two kinds
abbrev pub IsMixed : Program → Path → Type 0
IsMixed p R = InUniverse p R × HasTwoKinds p R

-- `named` is the first name that a declaration at R extends and that is no member of R's namespace
pub record ExtendsUnknown (p : Program) (R : Path) (named : Named) : Type 0 where
  pub decl : Decl
  pub stands : StandsAt p R decl
  pub before : List Named
  pub after : List Named
  pub is : decl.extends ≡ before ++ named ∷ after
  pub known : All (λ n. Member p (drop 1 R) n.name) before
  pub unknown : Member p (drop 1 R) named.name → ⊥

abbrev pub HasUnknown : Program → Path → Type 0
HasUnknown p R = (named : Named) × ExtendsUnknown p R named

abbrev pub NoneIs : (Path → Type 0) → Type 0
NoneIs T = (R : Path) → T R → ⊥

-- at Home of the class, which is shown
abbrev pub at_home : Rule → Path → Place → Refusal
at_home rule R at = record { rule = rule; at = at; class = Some (shown R); member = None; limit = None }

-- at the name, of which the path of the declaration is shown
abbrev pub unknown_at : Path → Named → Refusal
unknown_at R named = record { rule = rule.E06; at = named.at; class = Some (shown R); member = Some named.name; limit = None }

-- The first of these is answered: E13 where the universe has more than 4,096 paths, of the 4,097th; E08 for the first path
-- in class order that is its own strict super; E07 for the first whose Sup has two kinds; E06 for the first declared path
-- in class order that extends a name which is no member of its namespace, at the first such name.
pub data TableRefuses (p : Program) (r : Refusal) : Type 0 where
  too_many : (R : Path) (at : Place) → IsOver p R → IsHome p R at → r ≡ at_home rule.E13 R at → TableRefuses p r
  cycle : (R : Path) (at : Place) → NoneIs (IsOver p) → IsFirst p (IsCycle p) R → IsHome p R at
      → r ≡ at_home rule.E08 R at → TableRefuses p r
  two_kinds : (R : Path) (at : Place) → NoneIs (IsOver p) → NoneIs (IsCycle p) → IsFirst p (IsMixed p) R → IsHome p R at
      → r ≡ at_home rule.E07 R at → TableRefuses p r
  unknown : (R : Path) (named : Named) → NoneIs (IsOver p) → NoneIs (IsCycle p) → NoneIs (IsMixed p)
      → IsFirst p (HasUnknown p) R → ExtendsUnknown p R named → r ≡ unknown_at R named → TableRefuses p r

-- none of them is there
pub record TablePasses (p : Program) : Type 0 where
  pub within : NoneIs (IsOver p)
  pub no_cycle : NoneIs (IsCycle p)
  pub one_kind : NoneIs (IsMixed p)
  pub all_known : NoneIs (HasUnknown p)

-- What is refused of a program's declarations: a name that stands twice, and then the class table.
pub data DeclarationsRefuse (p : Program) (r : Refusal) : Type 0 where
  twice : IsFirstDuplicate p r → DeclarationsRefuse p r
  table : duplicates p ≡ [] → TableRefuses p r → DeclarationsRefuse p r

pub record DeclarationsPass (p : Program) : Type 0 where
  pub once : duplicates p ≡ []
  pub table : TablePasses p
