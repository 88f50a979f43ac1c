-- How chains of widening steps go: first steps of kinds 1 and 2, then one of kind 4 or none, then one of kind 3, and again.
--
-- These are no rules of the language. They are the forms by whose induction "below" is decided, proved equal to its chains.
use Rattle.std.specs.Prelude.{◌≡◌, ◌<◌, ◌≤◌, ◌+◌, ◌-◌, ℕ, List, [], ◌∷◌, ◌++◌, suc, length, take, drop, cond, nat_eq}
use Rattle.jn_reach.specs.Chain.{Chain}
use Rattle.jn_base.specs.declared.tree.Name.{Name}
use Rattle.jn_base.specs.declared.tree.Program.{Program}
use Rattle.jn_base.specs.declared.types.Anchor.{Anchor}
use Rattle.jn_base.specs.declared.types.Anchor.TheVariants.{Root, Up}
use Rattle.jn_base.specs.Paths.{Path}
use Rattle.jn_base.specs.Supers.{Sup}
use Rattle.jn_base.specs.Universe.{InUniverse}
use Rattle.jn_base.specs.Atoms.{Atom, atom, atoms_in, anchor_at, lifted, Among}
use Rattle.jn_base.specs.Scopes.{Bind, Scope, bound_of, bound}
use Rattle.jn_sem.specs.Widening.{replaced, Widens}

-- a step of kind 1 or 2, which keeps the bound
pub data Climbs (p : Program) (s : Scope) (x y : Atom) : Type 0 where
  loosens : (e : Name) (es : List Name) → x.exact ≡ e ∷ es → y ≡ atom x.anchor es (x.names ++ e ∷ []) → Climbs p s x y
  raises : (q k : ℕ) (c d : Name) (B : Path) → x.anchor ≡ Up q k → anchor_at (bound_of s) (Up q k) ≡ c ∷ d ∷ B
      → y ≡ atom (Up q (suc k)) [] ((x.names ++ x.exact) ++ c ∷ []) → InUniverse p (bound s y) → Climbs p s x y

-- a step of kind 4, or none
pub record Spreads (p : Program) (s : Scope) (x y : Atom) : Type 0 where
  pub long : length y.names ≡ length x.names
  pub is : y ≡ atom x.anchor x.exact y.names
  pub super : Sup p (bound s x) (bound s y)

-- a step of kind 3, to an older path or to Root
pub record Enters (p : Program) (s : Scope) (x y : Atom) : Type 0 where
  pub bind : Bind
  pub levels : ℕ
  pub by : Atom
  pub bound_in : Among s bind
  pub anchor : x.anchor ≡ Up bind.path levels
  pub among : Among (atoms_in bind.ty) by
  pub is : y ≡ replaced by levels x
  pub universe : InUniverse p (bound s y)

pub data Found (p : Program) (s : Scope) (x y : Atom) : Type 0 where
  ends : (z : Atom) → Chain (Climbs p s) x z → Spreads p s z y → Found p s x y
  enters : (z w t : Atom) → Chain (Climbs p s) x z → Spreads p s z w → Enters p s w t → Chain (Widens p s) t y → Found p s x y

-- the one next step: kind 1 where there are exact names, else kind 2
pub data Next (p : Program) (s : Scope) (x y : Atom) : Type 0 where
  loosens_next : (e : Name) (es : List Name) → x.exact ≡ e ∷ es → y ≡ atom x.anchor es (x.names ++ e ∷ []) → Next p s x y
  raises_next : (q k : ℕ) (c d : Name) (B : Path) → x.exact ≡ [] → x.anchor ≡ Up q k → anchor_at (bound_of s) (Up q k) ≡ c ∷ d ∷ B
      → y ≡ atom (Up q (suc k)) [] (x.names ++ c ∷ []) → InUniverse p (bound s y) → Next p s x y

-- y is below x by x's own level, by an atom of its path's type, or by the next step
pub data Seeks (p : Program) (s : Scope) (x y : Atom) : Type 0 where
  at_once : Spreads p s x y → Seeks p s x y
  by_type : (w t : Atom) → Spreads p s x w → Enters p s w t → Chain (Widens p s) t y → Seeks p s x y
  by_next : (z : Atom) → Next p s x z → Chain (Widens p s) z y → Seeks p s x y

-- how many binds are as old as the path's, itself counted
abbrev pub rank_of : Scope → ℕ → ℕ
rank_of [] q = 0
rank_of (b ∷ s) q = cond (nat_eq q b.path) (suc (length s)) (rank_of s q)

abbrev pub rank : Scope → Anchor → ℕ
rank s Root = 0
rank s (Up q k) = rank_of s q

-- The atom after i names have been moved, from the innermost exact one outwards and on into the anchor's bound: they become
-- inexact, and are taken off the exact names and then off the anchor.
abbrev pub climbed : Scope → Atom → ℕ → Atom
climbed s x i =
    atom (lifted (i - length x.exact) x.anchor) (drop i x.exact) (x.names ++ take i (x.exact ++ anchor_at (bound_of s) x.anchor))

-- i names can be moved: as many as are exact, and in the universe all but the outermost of the path's bound
pub data CanClimb (p : Program) (s : Scope) (x : Atom) (i : ℕ) : Type 0 where
  in_exact : i ≤ length x.exact → CanClimb p s x i
  in_bound : (q k : ℕ) → x.anchor ≡ Up q k → k + (i - length x.exact) < length (bound_of s q) → InUniverse p (bound s x) → CanClimb p s x i

-- the atom with the inexact names of this path
abbrev pub spread : Atom → Path → Atom
spread z R = atom z.anchor z.exact (take (length z.names) R)

-- z is reached by steps of kinds 1 and 2
pub record IsClimbed (p : Program) (s : Scope) (x z : Atom) : Type 0 where
  pub moved_names : ℕ
  pub can : CanClimb p s x moved_names
  pub is : z ≡ climbed s x moved_names

-- y is reached without an atom of a path's type
pub record EndsAt (p : Program) (s : Scope) (x y : Atom) : Type 0 where
  pub climbed : Atom
  pub climbs : Chain (Climbs p s) x climbed
  pub spreads : Spreads p s climbed y

-- t is reached with one
pub record TurnsTo (p : Program) (s : Scope) (x t : Atom) : Type 0 where
  pub climbed : Atom
  pub spread : Atom
  pub climbs : Chain (Climbs p s) x climbed
  pub spreads : Spreads p s climbed spread
  pub enters : Enters p s spread t

-- TurnsTo without its steps: i names are moved, the inexact names become those of a super of x's bound that has the same
-- outer names, and an atom of the path's type stands for the path.
pub record IsTurn (p : Program) (s : Scope) (x t : Atom) : Type 0 where
  pub moved_names : ℕ
  pub can : CanClimb p s x moved_names
  pub above : Path
  pub super : Sup p (bound s x) above
  pub outer : drop (length (climbed s x moved_names).names) above ≡ drop (length (climbed s x moved_names).names) (bound s x)
  pub bind : Bind
  pub levels : ℕ
  pub by : Atom
  pub bound_in : Among s bind
  pub anchor : (climbed s x moved_names).anchor ≡ Up bind.path levels
  pub among : Among (atoms_in bind.ty) by
  pub is : t ≡ replaced by levels (spread (climbed s x moved_names) above)
  pub universe : InUniverse p (bound s t)

-- EndsAt without its steps: at the same anchor some exact names have become inexact, or at a higher one all have
pub data EndsPlainly (p : Program) (s : Scope) (x y : Atom) : Type 0 where
  level : (front : List Name) → x.exact ≡ front ++ y.exact → y.anchor ≡ x.anchor → length y.names ≡ length x.names + length front
      → Sup p (bound s x) (bound s y) → EndsPlainly p s x y
  higher : (q k j : ℕ) → x.anchor ≡ Up q k → y.anchor ≡ Up q (suc (k + j)) → y.exact ≡ [] → suc (k + j) < length (bound_of s q)
      → InUniverse p (bound s x) → length y.names ≡ length x.names + length x.exact + suc j → Sup p (bound s x) (bound s y) → EndsPlainly p s x y
