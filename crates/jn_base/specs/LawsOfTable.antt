-- The laws of what is refused of a class table.
use Rattle.std.specs.Prelude.{◌≡◌, []}
use Rattle.jn_base.specs.declared.tree.Name.{Name}
use Rattle.jn_base.specs.declared.tree.Named.{Named}
use Rattle.jn_base.specs.declared.tree.Place.{Place}
use Rattle.jn_base.specs.declared.tree.Program.{Program}
use Rattle.jn_base.specs.declared.tree.Decl.{Decl}
use Rattle.jn_base.specs.declared.tree.Field.{Field}
use Rattle.jn_base.specs.declared.tree.Method.{Method}
use Rattle.jn_base.specs.declared.refusal.Refusal.{Refusal}
use Rattle.jn_base.specs.Paths.{Path, StandsAt, Declared}
use Rattle.jn_base.specs.Supers.{IsOwnSuper}
use Rattle.jn_base.specs.Universe.{InUniverse}
use Rattle.jn_base.specs.ClassOrder.{HasDistinctNames, HasItsNames}
use Rattle.jn_base.specs.Members.{IsHome, MethodAt, FieldAt, Least, IsField}
use Rattle.jn_base.specs.Duplicates.{duplicates}
use Rattle.jn_base.specs.TableRules.{ExtendsUnknown, DeclarationsRefuse, DeclarationsPass}

-- where nothing is found twice, a path has one declaration and one home, and a body one method and one field of a name
pub record OneEach (p : Program) : Type 0 where
  pub declaration : (R : Path) (d e : Decl) → StandsAt p R d → StandsAt p R e → d ≡ e
  pub method : (R : Path) (m : Name) (x y : Method) → MethodAt p R m x → MethodAt p R m y → x ≡ y
  pub field : (R : Path) (f : Name) (x y : Field) → FieldAt p R f x → FieldAt p R f y → x ≡ y
  pub home : (R : Path) (at to : Place) → IsHome p R at → IsHome p R to → at ≡ to
  pub unknown : (R : Path) (x y : Named) → ExtendsUnknown p R x → ExtendsUnknown p R y → x ≡ y

abbrev pub NothingTwice : Type 0
NothingTwice = (p : Program) → duplicates p ≡ [] → OneEach p

-- a method has one least declaration where no path is its own super, and a field one
pub record OneMember (p : Program) : Type 0 where
  pub least : (R : Path) (m : Name) (Q S : Path) → Least p R m Q → Least p R m S → (IsOwnSuper p Q → ⊥) → Q ≡ S
  pub field : (R : Path) (f : Name) (Q S : Path) → IsField p R f Q → IsField p R f S → Q ≡ S

abbrev pub MembersAreOne : Type 0
MembersAreOne = (p : Program) → OneMember p

-- each declared path has names of the program alone
abbrev pub NamesItsPaths : Program → Type 0
NamesItsPaths p = (R : Path) → Declared p R → HasItsNames p R

-- then so has each path of the universe
abbrev pub UniverseNamed : Type 0
UniverseNamed = (p : Program) → NamesItsPaths p → (R : Path) → InUniverse p R → HasItsNames p R

-- the declarations aren't both refused and passed, and have one refusal at most
pub record OneVerdict (p : Program) : Type 0 where
  pub not_both : (r : Refusal) → DeclarationsRefuse p r → DeclarationsPass p → ⊥
  pub one : HasDistinctNames p → NamesItsPaths p → (r s : Refusal) → DeclarationsRefuse p r → DeclarationsRefuse p s → r ≡ s

abbrev pub DeclarationsVerdictIsOne : Type 0
DeclarationsVerdictIsOne = (p : Program) → OneVerdict p

-- each path of the universe has a home
pub record HasHome (p : Program) (R : Path) : Type 0 where
  pub at : Place
  pub home : IsHome p R at

abbrev pub HomesExist : Type 0
HomesExist = (p : Program) (R : Path) → InUniverse p R → HasHome p R
