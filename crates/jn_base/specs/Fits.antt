-- Which types fit a scope, and which scopes fit.
use Rattle.std.specs.Prelude.{◌≡◌, ◌<◌, ◌≤◌, List, [], ◌∷◌, length}
use Rattle.jn_base.specs.declared.types.Anchor.{Anchor}
use Rattle.jn_base.specs.declared.types.Anchor.TheVariants.{Root, Up}
use Rattle.jn_base.specs.declared.types.Ty.{Ty}
use Rattle.jn_base.specs.declared.types.Ty.TheVariants as ty
use Rattle.jn_base.specs.Paths.{Path}
use Rattle.jn_base.specs.Atoms.{Atom, atoms_in, Among}
use Rattle.jn_base.specs.Scopes.{Scope, bound_of, bound, Binds, this_bind}

-- the path of the anchor is in the scope, and fewer names are taken off than its bound has
abbrev pub Anchored : Scope → Anchor → Type 0
Anchored s Root = Unit {0}
Anchored s (Up q k) = Binds s q × (k < length (bound_of s q))

-- The atoms of a type fit: there is one, each is anchored, and their bounds have one depth, at most 255.
pub record AtomsFit (s : Scope) (xs : List Atom) : Type 0 where
  pub one : Atom
  pub among : Among xs one
  pub anchored : (x : Atom) → Among xs x → Anchored s x.anchor
  pub depth : (x : Atom) → Among xs x → length (bound s x) ≡ length (bound s one)
  pub shallow : length (bound s one) ≤ 255

abbrev pub IsClassType : Ty → Type 0
IsClassType (ty.Class xs m) = Unit {0}
IsClassType ty.Int = ⊥
IsClassType ty.Bool = ⊥
IsClassType ty.Null = ⊥
IsClassType ty.Void = ⊥

-- a type fits where its atoms do, if it is a class type
pub record TypeFits (s : Scope) (t : Ty) : Type 0 where
  pub atoms : IsClassType t → AtomsFit s (atoms_in t)

-- the paths are distinct, and each type fits the binds before its own
abbrev pub BindsFit : Scope → Type 0
BindsFit [] = Unit {0}
BindsFit (b ∷ s) = BindsFit s × (Binds s b.path → ⊥) × TypeFits s b.ty

-- A scope fits where its binds do, and path 0 has the type of `this` in the class Q.
pub record ScopeFits (s : Scope) : Type 0 where
  pub binds : BindsFit s
  pub class_of_this : Path
  pub this : Among s (this_bind class_of_this)
