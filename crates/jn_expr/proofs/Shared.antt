-- What a sharing answers, by the root closure of the type.
use Rattle.std.proofs.Common.{◌≡◌, List, map, subst}
use Rattle.jn_base.specs.declared.tree.Name.{Name}
use Rattle.jn_base.specs.declared.tree.Program.{Program}
use Rattle.jn_base.specs.declared.path.Path.{Path as ShownPath}
use Rattle.jn_base.specs.declared.types.Atom.{Atom as ShownAtom}
use Rattle.jn_base.specs.declared.types.Masks.{Masks}
use Rattle.jn_base.specs.declared.types.Ty.{Ty}
use Rattle.jn_base.specs.declared.types.Ty.TheVariants as ty
use Rattle.jn_base.specs.Atoms.{atom_of}
use Rattle.jn_base.specs.Scopes.{Scope}
use Rattle.jn_base.specs.ResolveTypes.{mask_names}
use Rattle.jn_views.specs.declared.held.Held.{Held}
use Rattle.jn_views.specs.declared.held.Held.TheVariants.{Yes, NoCounterpart, Unshared}
use Rattle.jn_views.specs.Held.{HeldIs, sides as view_sides}
use Rattle.jn_rules.specs.Plans.{Target}
use Rattle.jn_rules.specs.Questions.{IsClosure, masks_of, sides}
use Rattle.jn_expr.specs.Steps.{SharingTold}

-- by the sides as the rules have them
by_sides : (p : Program) (known : List ShownPath) (s : Scope) (t : Ty) (u : Target) (ts : List ShownAtom) (held : Held) → IsClosure p s t (map atom_of ts)
    → HeldIs p known (sides p (map atom_of ts) (masks_of t) u) held → SharingTold p known s t u held
by_sides p known s t u ts Yes c h = record { closure = map atom_of ts; closes = c; gives = h }
by_sides p known s t u ts (NoCounterpart id) c h = (h.0, h.1, record { closure = map atom_of ts; closes = c; gives = h.2 })
by_sides p known s t u ts (Unshared id f) c h = (h.0, h.1, record { closure = map atom_of ts; closes = c; gives = h.2 })

pub sharing_told : (p : Program) (known : List ShownPath) (s : Scope) (t : Ty) (to : ShownAtom) (m hidden : Masks) (names : List Name) (ts : List ShownAtom) (held : Held)
    → IsClosure p s t (map atom_of ts) → names ≡ mask_names p → hidden ≡ masks_of t → HeldIs p known (view_sides (ty.Class ts hidden) to m names) held
    → SharingTold p known s t (record { atom = to; masks = m }) held
sharing_told p known s t to m hidden names ts held c e f h =
    by_sides p known s t (record { atom = to; masks = m }) ts held c
    (subst (λ (ns : List Name). HeldIs p known (view_sides (ty.Class ts (masks_of t)) to m ns) held) e
    (subst (λ (n : Masks). HeldIs p known (view_sides (ty.Class ts n) to m names) held) f h))
