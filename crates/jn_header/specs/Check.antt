-- What the check of a program's declarations answers.
use Rattle.std.specs.Prelude.{◌≡◌, [], Result, Ok, Err, ⊤}
use Rattle.jn_base.specs.declared.tree.Place.{Place}
use Rattle.jn_base.specs.declared.tree.Program.{Program}
use Rattle.jn_base.specs.declared.refusal.Refusal.{Refusal}
use Rattle.jn_base.specs.declared.refusal.Rule.{Rule}
use Rattle.jn_base.specs.Paths.{Path}
use Rattle.jn_base.specs.Members.{IsHome}
use Rattle.jn_base.specs.Duplicates.{duplicates, IsFirstDuplicate}
use Rattle.jn_base.specs.TableRules.{TablePasses, TableRefuses, at_home}
use Rattle.jn_rules.specs.Plans.{Nothing}
use Rattle.jn_heads.specs.declared.fault.CheckFault.{CheckFault}
use Rattle.jn_heads.specs.declared.fault.CheckFault.TheVariants.{Refused, Memory}

-- r is the refusal by the rule at Home of R, which is shown
pub record IsAtHome (p : Program) (rule : Rule) (R : Path) (r : Refusal) : Type 0 where
  pub at : Place
  pub home : IsHome p R at
  pub is : r ≡ at_home rule R at

-- no name stands twice, or this is the first that does
abbrev pub NamesVerdict : Program → Result Nothing Refusal → Type 0
NamesVerdict p (Ok u) = duplicates p ≡ []
NamesVerdict p (Err r) = IsFirstDuplicate p r

-- nothing of the class table is refused, or this is
abbrev pub TableVerdict : Program → Result Nothing Refusal → Type 0
TableVerdict p (Ok u) = TablePasses p
TableVerdict p (Err r) = TableRefuses p r

-- the class table is refused so, or memory ran out
abbrev pub IsTableFault : Program → CheckFault → Type 0
IsTableFault p (Refused r) = TableRefuses p r
IsTableFault p Memory = ⊤
