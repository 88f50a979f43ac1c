-- The names that declarations extend and that are no members of the namespaces.
use Rattle.std.specs.Prelude.{◌≡◌, List, [], ◌∷◌, ◌++◌, All, Option, Some, None}
use Rattle.jn_base.specs.declared.tree.Name.{Name}
use Rattle.jn_base.specs.declared.tree.Named.{Named}
use Rattle.jn_base.specs.declared.tree.Program.{Program}
use Rattle.jn_base.specs.declared.refusal.Refusal.{Refusal}
use Rattle.jn_base.specs.Paths.{Path}
use Rattle.jn_base.specs.ClassOrder.{IsFirst}
use Rattle.jn_base.specs.TableRules.{ExtendsUnknown, HasUnknown, NoneIs, unknown_at}
use Rattle.jn_table.specs.Tables.{IsPathOf}
use Rattle.jn_table.specs.declared.class.ClassId.{ClassId}
use Rattle.jn_table.specs.declared.table.Table.{Table}

-- the table has the path of the name in the namespace, whose names are given with the outermost first
abbrev pub IsKnown : Table → List Name → Name → Type 0
IsKnown t space C = (id : ClassId) × IsPathOf t id (record { names = space ++ C ∷ [] })

-- x is the first of the list of which K doesn't hold
pub record IsFirstWithout (K : Named → Type 0) (list : List Named) (x : Named) : Type 0 where
  pub before : List Named
  pub after : List Named
  pub is : list ≡ before ++ x ∷ after
  pub passed : All K before
  pub without : K x → ⊥

-- the first of which K doesn't hold, or none where it holds of all
abbrev pub FirstWithout : (Named → Type 0) → List Named → Option Named → Type 0
FirstWithout K list (Some x) = IsFirstWithout K list x
FirstWithout K list None = All K list

-- the first unknown name that a declaration at the path extends, or none where it extends none
abbrev pub UnknownIs : Program → Path → Option Named → Type 0
UnknownIs p R (Some named) = ExtendsUnknown p R named
UnknownIs p R None = HasUnknown p R → ⊥

-- r is the refusal at the first unknown name of the first path in class order that extends one
pub record IsFirstUnknown (p : Program) (r : Refusal) : Type 0 where
  pub R : Path
  pub named : Named
  pub first : IsFirst p (HasUnknown p) R
  pub extends : ExtendsUnknown p R named
  pub is : r ≡ unknown_at R named

-- that refusal, or none where no path extends an unknown name
abbrev pub FirstUnknownIs : Program → Option Refusal → Type 0
FirstUnknownIs p (Some r) = IsFirstUnknown p r
FirstUnknownIs p None = NoneIs (HasUnknown p)
