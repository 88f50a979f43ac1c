-- The normal form of atoms and types, and substitution.
use Rattle.std.specs.Prelude.{◌≡◌, ◌<◌, ◌≤◌, ℕ, List, [], ◌∷◌, length, reverse, map, cond, nat_eq, nat_le}
use Rattle.std.specs.declared.cmp.Ordering.{Ordering}
use Rattle.std.specs.Ordering.{nat_cmp, on, then_cmp}
use Rattle.std.specs.Cmp.{IsTotalOrder, then_total, on_total, nat_cmp_total}
use Rattle.std.specs.Cmp.Lexicographic.{slice_cmp, nat_list_cmp_total}
use Rattle.std.specs.List.Sorted.{IsStrictlySortedBy}
use Rattle.jn_reach.specs.Chain.{Chain}
use Rattle.jn_base.specs.declared.tree.Name.{Name}
use Rattle.jn_base.specs.declared.types.Anchor.{Anchor}
use Rattle.jn_base.specs.declared.types.Anchor.TheVariants.{Root, Up}
use Rattle.jn_base.specs.declared.types.Ty.{Ty}
use Rattle.jn_base.specs.declared.types.Ty.TheVariants as ty
use Rattle.jn_base.specs.Atoms.{Atom, atom, atoms_in, Among}
use Rattle.jn_base.specs.Scopes.{Bind, Scope}
use Rattle.jn_base.specs.Fits.{IsClassType, AtomsFit}
use Rattle.jn_sem.specs.Sets.{Views}
use Rattle.jn_sem.specs.Widening.{reduced}

-- THE REWRITING, in the words of the rule.

-- z is the first of the atoms that has at most k inexact names
pub data FirstWithin (k : ℕ) : List Atom → Atom → Type 0 where
  found : {z : Atom} {zs : List Atom} → length z.names ≤ k → FirstWithin k (z ∷ zs) z
  passed : {w z : Atom} {zs : List Atom} → k < length w.names → FirstWithin k zs z → FirstWithin k (w ∷ zs) z

-- Take an atom (Up(q, k), es', ns'), and the first atom of q's type that has at most k inexact names: x is rewritten by it.
-- Where there is none, the atom stays.
pub record Rewrites (s : Scope) (x y : Atom) : Type 0 where
  pub bind : Bind
  pub levels : ℕ
  pub by : Atom
  pub bound_in : Among s bind
  pub anchor : x.anchor ≡ Up bind.path levels
  pub is_first : FirstWithin levels (atoms_in bind.ty) by
  pub is : y ≡ reduced by levels x

-- this is repeated until nothing changes
pub record EndsWith (s : Scope) (x y : Atom) : Type 0 where
  pub chain : Chain (Rewrites s) x y
  pub stays : (z : Atom) → Rewrites s y z → ⊥

-- THE SAME AS ONE PASS over the scope, from the newest bind back, since what a rewriting brings in are older paths.

-- by the first atom with at most k inexact names, where there is one
abbrev pub by_first : ℕ → Atom → List Atom → Atom
by_first k x [] = x
by_first k x (z ∷ zs) = cond (nat_le (length z.names) k) (reduced z k x) (by_first k x zs)

abbrev pub rewritten_at : Bind → Atom → Anchor → Atom
rewritten_at b x Root = x
rewritten_at b x (Up q k) = cond (nat_eq q b.path) (by_first k x (atoms_in b.ty)) x

abbrev pub rewritten : Bind → Atom → Atom
rewritten b x = rewritten_at b x x.anchor

-- the normal form of an atom
abbrev pub normal : Scope → Atom → Atom
normal [] x = x
normal (b ∷ s) x = normal s (rewritten b x)

-- THE ORDER OF ATOMS: Root first, then by path number, levels, exact names and inexact names.
abbrev pub anchor_key : Anchor → List ℕ
anchor_key Root = []
anchor_key (Up q k) = q ∷ k ∷ []

abbrev pub name_number : Name → ℕ
name_number n = n.0

-- the numbers of the names, the outermost first
abbrev pub name_numbers : List Name → List ℕ
name_numbers ns = map name_number (reverse ns)

-- shorter lists first, and then name by name, compared by their numbers
abbrev pub numbers_cmp : List ℕ → List ℕ → Ordering
numbers_cmp = then_cmp (on length nat_cmp) (slice_cmp nat_cmp)

abbrev pub anchor_numbers : Atom → List ℕ
anchor_numbers x = anchor_key x.anchor

abbrev pub exact_numbers : Atom → List ℕ
exact_numbers x = name_numbers x.exact

abbrev pub names_numbers : Atom → List ℕ
names_numbers x = name_numbers x.names

abbrev pub atom_cmp : Atom → Atom → Ordering
atom_cmp = then_cmp (on anchor_numbers (slice_cmp nat_cmp)) (then_cmp (on exact_numbers numbers_cmp) (on names_numbers numbers_cmp))

pub numbers_total : IsTotalOrder numbers_cmp
numbers_total = then_total (on_total length nat_cmp_total) nat_list_cmp_total

pub atom_total : IsTotalOrder atom_cmp
atom_total = then_total (on_total anchor_numbers nat_list_cmp_total)
    (then_total (on_total exact_numbers numbers_total) (on_total names_numbers numbers_total))

-- SUBSTITUTION replaces paths by paths, all at once, and normalises. `f q` is what stands for q, and q where nothing does.
abbrev pub moved_anchor : (ℕ → ℕ) → Anchor → Anchor
moved_anchor f Root = Root
moved_anchor f (Up q k) = Up (f q) k

abbrev pub moved : (ℕ → ℕ) → Atom → Atom
moved f x = atom (moved_anchor f x.anchor) x.exact x.names

-- the views of the paths that stand for them
abbrev pub after : (ℕ → ℕ) → Views → Views
after f v q = v (f q)

-- from[i] is replaced by to[i]; each other path stays
abbrev pub swapped : List ℕ → List ℕ → ℕ → ℕ
swapped [] to q = q
swapped (a ∷ from) [] q = q
swapped (a ∷ from) (b ∷ to) q = cond (nat_eq q a) b (swapped from to q)

-- ys are the normal forms of the moved atoms of xs, sorted and without doubles
pub record IsSubst (s : Scope) (f : ℕ → ℕ) (xs ys : List Atom) : Type 0 where
  pub each : (x : Atom) → Among xs x → Among ys (normal s (moved f x))
  pub only : (y : Atom) → Among ys y → (x : Atom) × Among xs x × (y ≡ normal s (moved f x))
  pub sorted : IsStrictlySortedBy atom_cmp ys

-- u is Subst(s, t, from, to): a class type with the same masks, or t itself where t is no class type
abbrev pub TypeSubst : Scope → (ℕ → ℕ) → Ty → Ty → Type 0
TypeSubst s f (ty.Class xs m) (ty.Class ys n) = IsSubst s f (atoms_in (ty.Class xs m)) (atoms_in (ty.Class ys n)) × (n ≡ m)
TypeSubst s f (ty.Class xs m) ty.Int = ⊥
TypeSubst s f (ty.Class xs m) ty.Bool = ⊥
TypeSubst s f (ty.Class xs m) ty.Null = ⊥
TypeSubst s f (ty.Class xs m) ty.Void = ⊥
TypeSubst s f ty.Int u = u ≡ ty.Int
TypeSubst s f ty.Bool u = u ≡ ty.Bool
TypeSubst s f ty.Null u = u ≡ ty.Null
TypeSubst s f ty.Void u = u ≡ ty.Void

-- t with its paths replaced fits the scope
abbrev pub MovedFits : Scope → (ℕ → ℕ) → Ty → Type 0
MovedFits s f t = IsClassType t → AtomsFit s (map (moved f) (atoms_in t))

-- u is Normal(s, t): no path is replaced
abbrev pub same_path : ℕ → ℕ
same_path q = q

abbrev pub NormalType : Scope → Ty → Ty → Type 0
NormalType s t u = TypeSubst s same_path t u
