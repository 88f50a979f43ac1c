-- A type looks only at the views of the paths that it mentions.
use Rattle.std.specs.Prelude.{◌≡◌, ◌↔◌, ℕ, Some}
use Rattle.jn_base.specs.declared.tree.Program.{Program}
use Rattle.jn_base.specs.declared.types.Anchor.{Anchor}
use Rattle.jn_base.specs.declared.types.Anchor.TheVariants.{Root, Up}
use Rattle.jn_base.specs.declared.types.Ty.{Ty}
use Rattle.jn_base.specs.Paths.{Path}
use Rattle.jn_base.specs.Atoms.{Atom, atoms_in, Among}
use Rattle.jn_base.specs.Scopes.{Scope, Bind, Binds}
use Rattle.jn_base.specs.Fits.{TypeFits, BindsFit}
use Rattle.jn_sem.specs.Sets.{Views, Seen, view_at, no_views, InAtom, InType, Respects}
use Rattle.jn_sem.specs.Values.{Value}
use Rattle.jn_sem.specs.Holds.{rooted_at}
use Rattle.jn_sem.specs.State.{Heap, IsIn}

-- the two have one view for the anchor's path
abbrev pub Agree : Views → Views → Anchor → Type 0
Agree v w Root = Unit {0}
Agree v w (Up q k) = v q ≡ w q

-- the two have one view for each path of the type
pub record AgreeIn (v w : Views) (t : Ty) : Type 0 where
  pub each : (x : Atom) → Among (atoms_in t) x → Agree v w x.anchor

-- the two have one view for each path of the scope
pub record AgreeOn (s : Scope) (v w : Views) : Type 0 where
  pub each : (q : ℕ) → Binds s q → v q ≡ w q

pub record ByViewsOf (p : Program) (v w : Views) : Type 0 where
  -- where the paths that it mentions have the same views, an atom and a type have the same classes, and a type the same values
  pub atom : (x : Atom) (V : Path) → Agree v w x.anchor → InAtom p v x V → InAtom p w x V
  pub classes : (t : Ty) (V : Path) → AgreeIn v w t → InType p v t V → InType p w t V
  pub values : (h : Heap) (t : Ty) (x : Value) → AgreeIn v w t → IsIn p v h t x → IsIn p w h t x
  -- a type that fits a scope mentions its paths alone
  pub fits : (s : Scope) (t : Ty) → AgreeOn s v w → TypeFits s t → AgreeIn v w t
  -- so where the views of v respect a scope, those of w that it has too are in their types
  pub holds : (s : Scope) → BindsFit s → AgreeOn s v w → Respects p v s → (b : Bind) → Among s b → Seen w b.path → InType p w b.ty (view_at w b.path)

abbrev pub TypesGoByViews : Type 0
TypesGoByViews = (p : Program) (v w : Views) → ByViewsOf p v w

-- the anchor's path is `this`, if it has one
abbrev pub OfThis : Anchor → Type 0
OfThis Root = Unit {0}
OfThis (Up q k) = q ≡ 0

-- Where `this` has the view R, an atom without other paths has the classes that it has, in no state, with `this` at R.
abbrev pub ThisRooted : Type 0
ThisRooted = (p : Program) (v : Views) (R : Path) (x : Atom) (V : Path) → v 0 ≡ Some R → OfThis x.anchor
    → InAtom p v x V ↔ InAtom p no_views (rooted_at R x) V
