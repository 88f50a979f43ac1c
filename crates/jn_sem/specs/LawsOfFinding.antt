-- What a step of the meaning asks of a program has one answer at most, where steps 4 and 5 of the verdict refuse nothing.
-- So there "the one thing that is so" is any thing that is so.
use Rattle.std.specs.Prelude.{◌≡◌, ℕ, List}
use Rattle.jn_base.specs.declared.tree.Name.{Name}
use Rattle.jn_base.specs.declared.tree.Term.{Term}
use Rattle.jn_base.specs.declared.tree.ViewTerm.{ViewTerm}
use Rattle.jn_base.specs.declared.tree.TypeTerm.{TypeTerm}
use Rattle.jn_base.specs.declared.tree.Program.{Program}
use Rattle.jn_base.specs.Paths.{Path}
use Rattle.jn_base.specs.Universe.{InUniverse}
use Rattle.jn_base.specs.ClassOrder.{HasDistinctNames}
use Rattle.jn_base.specs.TableRules.{DeclarationsPass}
use Rattle.jn_base.specs.LawsOfTable.{NamesItsPaths}
use Rattle.jn_sem.specs.Sharing.{Counterpart}
use Rattle.jn_sem.specs.Slots.{FieldType, IsSlot, IsSize}
use Rattle.jn_sem.specs.Terms.{Site, TypeIs, SuperBound}
use Rattle.jn_sem.specs.State.{Frame}
use Rattle.jn_sem.specs.Does.{Body, IsBody, AreParams, AreFresh, IsNewClass, IsTargetFamily, IsSpelled}

-- two that are so are the same
abbrev pub IsOne : {A : Type 0} → (A → Type 0) → Type 0
IsOne {A} Is = (a b : A) → Is a → Is b → a ≡ b

-- whatever the program
pub record FoundOnce (p : Program) : Type 0 where
  pub type : (at : Site) (t : TypeTerm) → IsOne (TypeIs p at t)
  pub super_bound : (at : Site) (t : Term) → IsOne (SuperBound p at t)
  pub new_class : (f : Frame) (t : Term) → IsOne (IsNewClass p f t)
  pub family : (f : Frame) (t : ViewTerm) → IsOne (IsTargetFamily p f t)
  pub params : (b : Body) → IsOne (AreParams p b)
  pub counterpart : (Y : Name) (V : Path) → IsOne (Counterpart p Y V)
  pub size : (V : Path) → IsOne (IsSize p V)

-- where declarations and the class table pass, names are distinct texts, and paths have the program's names
pub record FoundOnceIn (p : Program) : Type 0 where
  pub body : (V : Path) (m : Name) → InUniverse p V → IsOne (IsBody p V m)
  pub field : (V : Path) (f : Name) → IsOne (FieldType p V f)
  pub slot : (V : Path) (f : Name) → IsOne (IsSlot p V f)
  pub fresh : (V : Path) → IsOne (AreFresh p V)
  pub spelled : (bytes : List ℕ) → IsOne (IsSpelled p bytes)

abbrev pub FindsOne : Type 0
FindsOne = (p : Program) → FoundOnce p

abbrev pub FindsOneIn : Type 0
FindsOneIn = (p : Program) → DeclarationsPass p → HasDistinctNames p → NamesItsPaths p → FoundOnceIn p
