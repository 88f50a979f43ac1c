-- Scopes, and the bounds of atoms in them.
use Rattle.std.specs.Prelude.{◌≡◌, ℕ, List, [], ◌∷◌, cond, nat_eq}
use Rattle.jn_base.specs.declared.types.Anchor.TheVariants.{Root}
use Rattle.jn_base.specs.declared.types.Ty.{Ty}
use Rattle.jn_base.specs.declared.types.Ty.TheVariants as ty
use Rattle.jn_base.specs.Paths.{Path}
use Rattle.jn_base.specs.Atoms.{Atom, atom, atoms_in, shown_atom, no_masks, atom_at, first_at, Among}

-- a path with its type
pub record Bind : Type 0 where
  pub path : ℕ
  pub ty : Ty

-- The newest bind first: `reverse` of a list in which each new bind is put behind.
abbrev pub Scope : Type 0
Scope = List Bind

-- The bound of Up(q, 0) is that of the first atom of q's type; each type speaks of the binds before its own.
-- A path that is not in the scope, or is bound to no class type, has the empty path.
abbrev pub bound_of : Scope → ℕ → Path
bound_of [] q = []
bound_of (b ∷ s) q = cond (nat_eq q b.path) (first_at (bound_of s) (atoms_in b.ty)) (bound_of s q)

-- The bound of Root is the empty path. The bound of Up(q, k) is that of q's first atom without its last k names.
-- The bound of an atom is its anchor's with exact and inexact names behind.
abbrev pub bound : Scope → Atom → Path
bound s x = atom_at (bound_of s) x

-- the path q is in the scope
pub record Binds (s : Scope) (q : ℕ) : Type 0 where
  pub bind : Bind
  pub among : Among s bind
  pub is : bind.path ≡ q

-- The type of `this` in the class Q: one atom, with the anchor Root, no exact names and the names of Q as inexact ones.
abbrev pub this_atom : Path → Atom
this_atom Q = atom Root [] Q

abbrev pub this_type : Path → Ty
this_type Q = ty.Class (shown_atom (this_atom Q) ∷ []) no_masks

-- `this` is path 0
abbrev pub this_bind : Path → Bind
this_bind Q = record { path = 0; ty = this_type Q }
