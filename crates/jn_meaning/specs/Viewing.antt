-- Classes that the terms of a body name in a frame, as the meaning has them.
use Rattle.std.specs.Prelude.{◌≡◌, List, reverse, Option, Some, None, Ok}
use Rattle.jn_base.specs.declared.tree.Name.{Name}
use Rattle.jn_base.specs.declared.tree.ViewTerm.{ViewTerm}
use Rattle.jn_base.specs.declared.tree.Program.{Program}
use Rattle.jn_base.specs.declared.path.Path.{Path as ShownPath}
use Rattle.jn_base.specs.declared.types.Atom.{Atom as ShownAtom}
use Rattle.jn_base.specs.declared.types.Ty.{Ty}
use Rattle.jn_base.specs.declared.names.Role.TheVariants as role
use Rattle.jn_base.specs.Atoms.{atom_of, atom_at}
use Rattle.jn_base.specs.ResolveTypes.{mask_names, ResolveView}
use Rattle.jn_sem.specs.Sets.{Views, AnchorSeen, view_at}
use Rattle.jn_sem.specs.Values as sem
use Rattle.jn_sem.specs.State.{frame_views}
use Rattle.jn_sem.specs.Does.{IsTargetFamily}
use Rattle.jn_sem.specs.Terms.{Site, spot_at, vars_at}
use Rattle.jn_meaning.specs.declared.frame.Frame.{Frame}
use Rattle.jn_meaning.specs.Frames.{frame_of}
use Rattle.jn_meaning.specs.Tells.{Tells}

abbrev pub ViewGives : Program → Site → ViewTerm → Ty → Type 0
ViewGives p at v t = ResolveView p (mask_names p) (spot_at at role.View) (vars_at at) v (Ok t)

-- what the target of a view stands for at the place, and nothing else
abbrev pub TargetTold : Program → Site → ViewTerm → Option Ty → Type 0
TargetTold p at v (Some t) = ViewGives p at v t × ((u : Ty) → ViewGives p at v u → t ≡ u)
TargetTold p at v None = (u : Ty) → ViewGives p at v u → ⊥

-- these are the names of the class that the atom names by the views, the outermost first
abbrev pub NamedAs : Views → ShownAtom → Option (List Name) → Type 0
NamedAs v x (Some names) = AnchorSeen v x.anchor × (reverse names ≡ atom_at (view_at v) (atom_of x))
NamedAs v x None = AnchorSeen v x.anchor → ⊥

-- by those of the frame
abbrev pub NamedBy : List ShownPath → Frame → ShownAtom → Option (List Name) → Type 0
NamedBy known f x o = NamedAs (frame_views (frame_of known f)) x o

-- the family of the target of a view, whatever the operands of the frame
abbrev pub FamilyOf : Program → List ShownPath → Frame → ViewTerm → Option Name → Type 0
FamilyOf p known f v o = (vs : List sem.Value) → Tells (IsTargetFamily p (record (frame_of known f) { vals = vs }) v) o
