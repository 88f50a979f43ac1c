-- What the parts of a search for what refutes a constraint say.
use Rattle.std.specs.Prelude.{◌≡◌, ◌∷◌, [], List, Option, Some, None}
use Rattle.jn_base.specs.declared.tree.Name.{Name}
use Rattle.jn_base.specs.declared.tree.Program.{Program}
use Rattle.jn_base.specs.declared.path.Path.{Path as ShownPath}
use Rattle.jn_base.specs.declared.types.Anchor.TheVariants.{Root}
use Rattle.jn_base.specs.declared.types.Masks.{Masks}
use Rattle.jn_base.specs.Paths.{Path}
use Rattle.jn_base.specs.Atoms.{Atom, atom}
use Rattle.jn_table.specs.declared.class.ClassId.{ClassId}
use Rattle.jn_table.specs.declared.table.Table.{Table}
use Rattle.jn_table.specs.Rows.{IsNumber}
use Rattle.jn_table.specs.Tables.{IsFilled}
use Rattle.jn_sem.specs.Sets.{InAtom, no_views}
use Rattle.jn_sem.specs.Sharing.{Related, Counterpart}
use Rattle.jn_sem.specs.Holds.{Sides, Turns, Blocks, IsFirstName, IsGranted, target_family}
use Rattle.jn_share.specs.declared.groups.Groups.{Groups}
use Rattle.jn_share.specs.declared.slots.Slots.{Slots}
use Rattle.jn_share.specs.Groups.{AreGroups}
use Rattle.jn_share.specs.Slots.{AreSlots}
use Rattle.jn_views.specs.declared.held.Held.{Held}
use Rattle.jn_views.specs.declared.held.Held.TheVariants.{Yes, NoCounterpart, Unshared}

-- sides of which only the masks matter
abbrev pub masked_sides : Masks → Masks → List Name → Sides
masked_sides from to names = record { names = names; from = []; from_masks = from; to = atom Root [] []; to_masks = to }

-- the number of the family of an atom; none where it has no family, or that has no number
abbrev pub FamilyTold : Table → Atom → Option ClassId → Type 0
FamilyTold t to (Some id) = (X : Name) × (target_family to ≡ Some X) × IsNumber t.known.items id (X ∷ [])
FamilyTold t to None = (X : Name) (id : ClassId) → target_family to ≡ Some X → IsNumber t.known.items id (X ∷ []) → ⊥

-- W is the counterpart of U in the family of the atom, and is in it
pub record TurnsTo (p : Program) (to : Atom) (U W : Path) : Type 0 where
  pub family : Name
  pub of_target : target_family to ≡ Some family
  pub counterpart : Counterpart p family U W
  pub is_in : InAtom p no_views to W

abbrev pub TurnsTold : Program → List ShownPath → Atom → Path → Option ClassId → Type 0
TurnsTold p known to U (Some id) = (W : Path) × IsNumber known id W × TurnsTo p to U W
TurnsTold p known to U None = (W : Path) → TurnsTo p to U W → ⊥

-- of each program whose universe the table numbers, and of the path of the number
abbrev pub SaysOfNumber : Table → ClassId → (Program → Path → Type 0) → Type 0
SaysOfNumber t u T = (p : Program) (U : Path) → IsFilled p t → IsNumber t.known.items u U → T p U

-- and of which the groups are
abbrev pub SaysOfGroups : Table → Groups → ClassId → (Program → Path → Type 0) → Type 0
SaysOfGroups t g u T = (p : Program) (U : Path) → IsFilled p t → AreGroups p t.known.items g → IsNumber t.known.items u U → T p U

-- of each program that has these slots, and of the paths of the numbers, which are related
abbrev pub SaysOfSlots : Slots → ClassId → ClassId → (Program → Path → Path → Type 0) → Type 0
SaysOfSlots s u w T = (p : Program) (known : List ShownPath) (U W : Path) → AreSlots p known s → IsNumber known u U → IsNumber known w W → Related p U W → T p U W

-- and whose universe the table numbers
abbrev pub SaysOfViews : Table → Slots → ClassId → ClassId → (Program → Path → Path → Type 0) → Type 0
SaysOfViews t s u w T = (p : Program) (U W : Path) → IsFilled p t → AreSlots p t.known.items s → IsNumber t.known.items u U → IsNumber t.known.items w W
    → Related p U W → T p U W

-- of each program of which the table, the groups and the slots are, and of the path of the number
abbrev pub SaysHeldAt : Table → Groups → Slots → ClassId → (Program → Path → Type 0) → Type 0
SaysHeldAt t g s u T = (p : Program) (U : Path) → IsFilled p t → AreGroups p t.known.items g → AreSlots p t.known.items s → IsNumber t.known.items u U → T p U

-- the constraint holds of the class U, whose number is u, or what refutes it there
abbrev pub HeldAt : Program → List ShownPath → Sides → ClassId → Path → Held → Type 0
HeldAt p known c u U Yes = IsGranted p c U
HeldAt p known c u U (NoCounterpart id) = (id ≡ u) × ((W : Path) → Turns p c U W → ⊥)
HeldAt p known c u U (Unshared id f) = (W : Path) × IsNumber known id W × Turns p c U W × IsFirstName p (Blocks p c U W) f
