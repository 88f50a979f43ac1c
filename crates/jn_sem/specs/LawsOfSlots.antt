-- What holds of slots, where no class has a field with two declarations and field types fit their classes.
use Rattle.std.specs.Prelude.{◌≡◌, ◌<◌, ℕ, length}
use Rattle.jn_base.specs.declared.tree.Name.{Name}
use Rattle.jn_base.specs.declared.tree.Field.{Field}
use Rattle.jn_base.specs.declared.tree.Head.{Head}
use Rattle.jn_base.specs.declared.tree.Head.TheVariants as head
use Rattle.jn_base.specs.declared.tree.Term.{Term}
use Rattle.jn_base.specs.declared.tree.TypeTerm.{TypeTerm}
use Rattle.jn_base.specs.declared.tree.TypeTerm.TheVariants as type
use Rattle.jn_base.specs.declared.tree.Program.{Program}
use Rattle.jn_base.specs.declared.types.Anchor.TheVariants.{Up}
use Rattle.jn_base.specs.declared.types.Ty.{Ty}
use Rattle.jn_base.specs.Paths.{Path}
use Rattle.jn_base.specs.Members.{FieldDecls, FieldAt}
use Rattle.jn_base.specs.Atoms.{Atom, atoms_in, Among}
use Rattle.jn_sem.specs.Values.{HasField}
use Rattle.jn_sem.specs.Sharing.{IsClass}
use Rattle.jn_sem.specs.Slots.{BothHave, Diff, OneSlot, Slot, IsSlot}
use Rattle.jn_sem.specs.Terms.{FieldTypeIs}

-- No class has a field with two declarations, and what the type of a field takes off its class is less than all its names.
pub record FieldsPass (p : Program) : Type 0 where
  pub one_place : (V Q R : Path) (f : Name) → IsClass p V → FieldDecls p V f Q → FieldDecls p V f R → Q ≡ R
  pub within : (Q : Path) (f : Name) (x : Field) (t : Ty) (a : Atom) (k : ℕ) → FieldAt p Q f x → FieldTypeIs p Q f x.ty t
      → Among (atoms_in t) a → a.anchor ≡ Up 0 k → k < length Q

pub record SlotsOf (p : Program) (f : Name) : Type 0 where
  -- to have one slot for a field is an equivalence on the classes of a group that have it
  pub itself : (V : Path) → IsClass p V → HasField p V f → OneSlot p V V f
  pub turned : (V T : Path) → OneSlot p V T f → OneSlot p T V f
  pub joined : (V T W : Path) → OneSlot p V T f → OneSlot p T W f → OneSlot p V W f
  -- two related classes have one slot exactly where Diff doesn't hold
  pub same : (V T : Path) (s : Slot) → BothHave p V T f → (Diff p V T f → ⊥) → IsSlot p V f s → IsSlot p T f s
  pub apart : (V T : Path) (s : Slot) → Diff p V T f → IsSlot p V f s → IsSlot p T f s → ⊥

abbrev pub SlotLaws : Type 0
SlotLaws = (p : Program) → FieldsPass p → (f : Name) → SlotsOf p f

-- ---- when fields pass

-- no class has a field with two declarations
abbrev pub OnePlaceEach : Program → Type 0
OnePlaceEach p = (V Q R : Path) (f : Name) → IsClass p V → FieldDecls p V f Q → FieldDecls p V f R → Q ≡ R

-- where a term has a bracket, names stand before it (as in every source)
abbrev pub HeadNamed : Head → Type 0
HeadNamed head.Plain = Unit {0}
HeadNamed (head.Own r) = Unit {0}
HeadNamed (head.Prefix P r) = 0 < length P

abbrev pub TypeNamed : TypeTerm → Type 0
TypeNamed type.Int = Unit {0}
TypeNamed type.Bool = Unit {0}
TypeNamed (type.Class ts ms) = (t : Term) → Among ts t → HeadNamed t.head

abbrev pub BracketsNamed : Program → Type 0
BracketsNamed p = (Q : Path) (f : Name) (x : Field) → FieldAt p Q f x → TypeNamed x.ty

-- then the fields pass
abbrev pub FieldsPassThere : Type 0
FieldsPassThere = (p : Program) → OnePlaceEach p → BracketsNamed p → FieldsPass p
