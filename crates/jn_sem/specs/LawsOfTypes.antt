-- The laws of types: widening, the root closure, substitution and the normal form, in every state that respects a scope.
use Rattle.std.specs.Prelude.{◌≡◌, ◌∷◌, ◌↔◌, ◌⊎◌, ◌<◌, ℕ, List, Bool, IsTrue, drop, suc}
use Rattle.jn_reach.specs.Chain.{Chain}
use Rattle.jn_base.specs.declared.tree.Name.{Name}
use Rattle.jn_base.specs.declared.tree.Program.{Program}
use Rattle.jn_base.specs.declared.types.Ty.{Ty}
use Rattle.jn_base.specs.declared.types.Ty.TheVariants as ty
use Rattle.jn_base.specs.Paths.{Path}
use Rattle.jn_base.specs.Supers.{Sup}
use Rattle.jn_base.specs.Atoms.{Atom, atoms_in, Among}
use Rattle.jn_base.specs.Scopes.{Bind, Scope, bound_of, bound}
use Rattle.jn_base.specs.Fits.{Anchored, IsClassType, TypeFits, BindsFit}
use Rattle.jn_sem.specs.Sets.{Views, Seen, AnchorSeen, view_at, InAtom, InType, Respects}
use Rattle.jn_sem.specs.Values.{Value, ValueIn}
use Rattle.jn_sem.specs.Widening.{Widens}
use Rattle.jn_sem.specs.Below.{Below}
use Rattle.jn_sem.specs.RootClosure.{InClosure, InRootClosure}
use Rattle.jn_sem.specs.Normal.{normal, moved, after, TypeSubst, NormalType, MovedFits, EndsWith}
use Rattle.jn_sem.specs.NormalFunction.{subst_type}
use Rattle.jn_sem.specs.Search.{Found, Seeks, Enters, EndsAt, EndsPlainly, TurnsTo, IsTurn, rank}

-- the slots that a test says to have values
abbrev pub Passes : (ℕ → Path → Name → Bool) → ℕ → Path → Name → Type 0
Passes filled o V f = IsTrue (filled o V f)

-- Each step of widening goes from a set of classes to one that holds it. So a type that is above another holds its classes,
-- and its values, whatever slots have values. So does the root closure.
-- Where c is the last name of the bound of Up(q, k), the view of q without k + 1 names, followed by c, is in Sup of the view
-- without k names.
pub record WideningOf (p : Program) (s : Scope) (v : Views) : Type 0 where
  pub step : (x y : Atom) (V : Path) → Widens p s x y → InAtom p v x V → InAtom p v y V
  pub below : (t u : Ty) (V : Path) → Below p s t u → InType p v t V → InType p v u V
  pub values : (names : List Name) (filled : ℕ → Path → Name → Bool) (t u : Ty) (value : Value) → Below p s t u
      → ValueIn p names v (Passes filled) t value → ValueIn p names v (Passes filled) u value
  pub closure : (t : Ty) (V : Path) → InType p v t V → InRootClosure p s t V
  pub last : (q k : ℕ) (c : Name) (B : Path) → Seen v q → drop k (bound_of s q) ≡ c ∷ B
      → Sup p (drop k (view_at v q)) (c ∷ drop (suc k) (view_at v q))

abbrev pub Widening : Type 0
Widening = (p : Program) (s : Scope) (v : Views) → BindsFit s → Respects p v s → WideningOf p s v

-- each path in the type has a view
abbrev pub TypeSeen : Views → Ty → Type 0
TypeSeen v t = (x : Atom) → Among (atoms_in t) x → AnchorSeen v x.anchor

-- A class, or a value, is in the substituted type exactly where it is in the type with the views of the new paths put for
-- the old ones. A normal form has its type's set. A path without a view is asked for nothing: the normal form may drop it.
pub record SubstitutionOf (p : Program) (s : Scope) (v : Views) : Type 0 where
  pub normal_atom : (x : Atom) (V : Path) → AnchorSeen v x.anchor → InAtom p v x V ↔ InAtom p v (normal s x) V
  pub moved_atom : (f : ℕ → ℕ) (x : Atom) (V : Path) → InAtom p (after f v) x V ↔ InAtom p v (moved f x) V
  pub classes : (f : ℕ → ℕ) (t u : Ty) (V : Path) → TypeSeen (after f v) t → TypeSubst s f t u → InType p (after f v) t V ↔ InType p v u V
  pub values : (names : List Name) (filled : ℕ → Path → Name → Bool) (f : ℕ → ℕ) (t u : Ty) (value : Value)
      → TypeSeen (after f v) t → TypeSubst s f t u → ValueIn p names (after f v) (Passes filled) t value ↔ ValueIn p names v (Passes filled) u value
  pub normal_classes : (t u : Ty) (V : Path) → TypeSeen v t → NormalType s t u → InType p v t V ↔ InType p v u V
  pub normal_values : (names : List Name) (filled : ℕ → Path → Name → Bool) (t u : Ty) (value : Value)
      → TypeSeen v t → NormalType s t u → ValueIn p names v (Passes filled) t value ↔ ValueIn p names v (Passes filled) u value

abbrev pub Substitution : Type 0
Substitution = (p : Program) (s : Scope) (v : Views) → Respects p v s → SubstitutionOf p s v

-- The pass over the scope is the rewriting repeated until nothing changes.
abbrev pub NormalForm : Type 0
NormalForm = (s : Scope) → BindsFit s → (x : Atom) → EndsWith s x (normal s x)

-- A type has one substituted type, and one normal form, which fits where it should, and is its own normal form.
pub record NormalTypesOf (s : Scope) : Type 0 where
  pub one : (f : ℕ → ℕ) (t u : Ty) → TypeSubst s f t u ↔ (u ≡ subst_type s f t)
  pub subst_fits : BindsFit s → (f : ℕ → ℕ) (t u : Ty) → MovedFits s f t → TypeSubst s f t u → TypeFits s u
  pub normal_fits : BindsFit s → (t u : Ty) → TypeFits s t → NormalType s t u → TypeFits s u
  pub again : BindsFit s → (t u : Ty) → NormalType s t u → NormalType s u u

abbrev pub NormalTypes : Type 0
NormalTypes = (s : Scope) → NormalTypesOf s

-- "Below" is reflexive and transitive.
pub record BelowOrderOf (p : Program) (s : Scope) : Type 0 where
  pub ints : Below p s ty.Int ty.Int
  pub booleans : Below p s ty.Bool ty.Bool
  pub classes : (t : Ty) → IsClassType t → Below p s t t
  pub joined : (t u w : Ty) → Below p s t u → Below p s u w → Below p s t w

abbrev pub BelowOrder : Type 0
BelowOrder = (p : Program) (s : Scope) → BelowOrderOf p s

-- What is said of a type that fits a scope stays so where a bind is added: its bounds, that it fits, its normal forms, what
-- it is below, and its root closure.
pub record GrowthOf (p : Program) (s : Scope) (b : Bind) : Type 0 where
  pub bounds : (x : Atom) → Anchored s x.anchor → bound (b ∷ s) x ≡ bound s x
  pub fits : (t : Ty) → TypeFits s t → TypeFits (b ∷ s) t
  pub normals : (x : Atom) → Anchored s x.anchor → normal (b ∷ s) x ≡ normal s x
  pub below : (t u : Ty) → TypeFits s t → Below p s t u ↔ Below p (b ∷ s) t u
  pub closure : (t : Ty) (z : Atom) → TypeFits s t → InClosure p s (atoms_in t) z ↔ InClosure p (b ∷ s) (atoms_in t) z

abbrev pub Growth : Type 0
Growth = (p : Program) (s : Scope) (b : Bind) → BindsFit (b ∷ s) → GrowthOf p s b

-- A chain of widening is what one turn of the search asks, and a turn by the type of a path goes to an older path.
pub record SearchOf (p : Program) (s : Scope) : Type 0 where
  pub turn : (x y : Atom) → Chain (Widens p s) x y ↔ Seeks p s x y
  pub found : (x y : Atom) → Chain (Widens p s) x y ↔ Found p s x y
  pub ends : (x y : Atom) → EndsAt p s x y ↔ EndsPlainly p s x y
  pub turns : (x t : Atom) → TurnsTo p s x t ↔ IsTurn p s x t
  -- so a chain ends at once, or goes on from a turn
  pub decided : (x y : Atom) → Chain (Widens p s) x y ↔ (EndsPlainly p s x y ⊎ ((t : Atom) × IsTurn p s x t × Chain (Widens p s) t y))
  pub turns_older : BindsFit s → (x t : Atom) → IsTurn p s x t → rank s t.anchor < rank s x.anchor
  pub older : BindsFit s → (x y : Atom) → Enters p s x y → rank s y.anchor < rank s x.anchor

abbrev pub Searching : Type 0
Searching = (p : Program) (s : Scope) → SearchOf p s
