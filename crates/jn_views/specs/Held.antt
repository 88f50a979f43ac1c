-- What `holds` answers.
use Rattle.std.specs.Prelude.{List, Some, None}
use Rattle.jn_base.specs.declared.tree.Name.{Name}
use Rattle.jn_base.specs.declared.tree.Program.{Program}
use Rattle.jn_base.specs.declared.path.Path.{Path as ShownPath}
use Rattle.jn_base.specs.declared.types.Atom.{Atom as ShownAtom}
use Rattle.jn_base.specs.declared.types.Masks.{Masks}
use Rattle.jn_base.specs.declared.types.Ty.{Ty}
use Rattle.jn_base.specs.declared.types.Ty.TheVariants as ty
use Rattle.jn_base.specs.Paths.{Path}
use Rattle.jn_base.specs.Atoms.{atoms_in, atom_of, no_masks}
use Rattle.jn_table.specs.declared.table.Table.{Table}
use Rattle.jn_table.specs.Rows.{IsNumber}
use Rattle.jn_table.specs.Tables.{IsFilled}
use Rattle.jn_sem.specs.Holds.{Sides, Holds, RefutedBy}
use Rattle.jn_share.specs.declared.groups.Groups.{Groups}
use Rattle.jn_share.specs.declared.slots.Slots.{Slots}
use Rattle.jn_share.specs.Groups.{AreGroups}
use Rattle.jn_share.specs.Slots.{AreSlots}
use Rattle.jn_views.specs.declared.held.Held.{Held}
use Rattle.jn_views.specs.declared.held.Held.TheVariants.{Yes, NoCounterpart, Unshared}

-- the masks of a type, none where it is no class type
abbrev pub masks_of : Ty → Masks
masks_of (ty.Class xs m) = m
masks_of ty.Int = no_masks
masks_of ty.Bool = no_masks
masks_of ty.Null = no_masks
masks_of ty.Void = no_masks

-- the two sides as the definition has them
abbrev pub sides : Ty → ShownAtom → Masks → List Name → Sides
sides from to m names = record { names = names; from = atoms_in from; from_masks = masks_of from; to = atom_of to; to_masks = m }

-- It holds; or what refutes it is shown: the first class that fails, where it has no counterpart in the target, else its
-- counterpart with the first field that doesn't pass.
abbrev pub HeldIs : Program → List ShownPath → Sides → Held → Type 0
HeldIs p known c Yes = Holds p c
HeldIs p known c (NoCounterpart id) = (U : Path) × IsNumber known id U × RefutedBy p c U None
HeldIs p known c (Unshared id f) = (W : Path) × IsNumber known id W × RefutedBy p c W (Some f)

-- of whatever program the table, the groups and the slots are
abbrev pub SaysHeld : Table → Groups → Slots → Sides → Held → Type 0
SaysHeld t g s c told = (p : Program) → IsFilled p t → AreGroups p t.known.items g → AreSlots p t.known.items s → HeldIs p t.known.items c told
