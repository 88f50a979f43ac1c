-- Classes in types, by the names of their paths.
use Rattle.std.specs.Prelude.{◌≡◌, List, map, reverse, slice_get, Option, Some, None}
use Rattle.jn_base.specs.declared.tree.Name.{Name}
use Rattle.jn_base.specs.declared.tree.Program.{Program}
use Rattle.jn_base.specs.declared.path.Path.{Path as ShownPath}
use Rattle.jn_base.specs.declared.types.Anchor.{Anchor}
use Rattle.jn_base.specs.declared.types.Atom.{Atom as ShownAtom}
use Rattle.jn_base.specs.Paths.{Path}
use Rattle.jn_base.specs.Atoms.{atom_of}
use Rattle.jn_table.specs.declared.class.ClassId.{ClassId}
use Rattle.jn_table.specs.declared.table.Table.{Table}
use Rattle.jn_table.specs.Rows.{IsNumber}
use Rattle.jn_table.specs.Tables.{IsFilled}
use Rattle.jn_sem.specs.Sets.{Views, no_views, AnchorSeen, eval, InAtoms}
use Rattle.jn_sem.specs.Slots.{this_viewed}

-- the path of the number has these names, the outermost first
abbrev pub HasNames : List ShownPath → List Name → ClassId → Type 0
HasNames known names id = slice_get known id.0 ≡ Some (record { names = names })

-- the views where `this` has the view of that number and no other path has one; none has where there is no number
abbrev pub ViewsBy : List ShownPath → Option ClassId → Views → Type 0
ViewsBy known None v = v ≡ no_views
ViewsBy known (Some id) v = (V : Path) × IsNumber known id V × (v ≡ this_viewed V)

-- of each program whose universe the table numbers, and of the path of the number, T holds
abbrev pub SaysOf : Table → ClassId → (Program → Path → Type 0) → Type 0
SaysOf t u T = (p : Program) (U : Path) → IsFilled p t → IsNumber t.known.items u U → T p U

-- and of those views
abbrev pub SaysAt : Table → Option ClassId → ClassId → (Program → Views → Path → Type 0) → Type 0
SaysAt t view u T = (p : Program) (v : Views) (U : Path) → IsFilled p t → ViewsBy t.known.items view v → IsNumber t.known.items u U → T p v U

-- the path of the anchor by its names, none where its path has no view
abbrev pub FrontIs : Views → Anchor → Option (List Name) → Type 0
FrontIs v a None = AnchorSeen v a → ⊥
FrontIs v a (Some front) = AnchorSeen v a × (reverse front ≡ eval v a)

abbrev pub FrontTold : Table → Option ClassId → Anchor → Option (List Name) → Type 0
FrontTold t view a told = (v : Views) → ViewsBy t.known.items view v → FrontIs v a told

abbrev pub InEach : Program → Views → List ShownAtom → Path → Type 0
InEach p v xs U = InAtoms p v (map atom_of xs) U
