-- The atoms that those of a path's type make of one with that path.
use Rattle.std.proofs.Common.{Bool, true, false, ◌≡◌, ◌↔◌, ◌<◌, ◌≤◌, ◌-◌, ◌++◌, ◌^◌, ℕ, List, [], ◌∷◌, suc, length, drop, map, reverse, Contains, All, refl, sym, ap, ◌∙◌, subst, arith, cond, nat_eq, nat_lt, ne_eqb, eq-eqb}
use Rattle.std.proofs.lemmas.List.{reverse-reverse}
use Rattle.std.proofs.lemmas.List.Elements.{All-contains}
use Rattle.jn_base.proofs.NameTests.{in_none}
use Rattle.jn_base.specs.declared.tree.Program.{Program}
use Rattle.jn_base.specs.declared.types.Anchor.{Anchor}
use Rattle.jn_base.specs.declared.types.Anchor.TheVariants.{Root, Up}
use Rattle.jn_base.specs.declared.types.Atom.{Atom as ShownAtom}
use Rattle.jn_base.specs.declared.types.Ty.{Ty}
use Rattle.jn_base.specs.Universe.{InUniverse}
use Rattle.jn_base.specs.Atoms.{Atom, atom, atom_of, atoms_in, levels, Among, first, later}
use Rattle.jn_base.specs.Scopes.{Bind as TypeBind, Scope, Binds, bound, bound_of}
use Rattle.jn_base.specs.Fits.{Anchored, BindsFit}
use Rattle.jn_intern.specs.declared.scope.Bind.{Bind}
use Rattle.jn_intern.specs.Pools.{bind_in}
use Rattle.jn_sem.specs.Widening.{reduced, replaced}
use Rattle.jn_sem.specs.Search.{Enters, rank, rank_of}
use Rattle.jn_sem.proofs.Codes.{among_of, contains_of, among_reversed, levels_small}
use Rattle.jn_sem.proofs.Levels.{reduced_anchored}
use Rattle.jn_sem.proofs.NormalTypes.{among_map, map_among}
use Rattle.jn_sem.proofs.Under.{fits_whole, type_anchored}
use Rattle.jn_subtype.specs.Older.{IsOlder}
use Rattle.jn_subtype.specs.Turns.{Adds, Replaces}
use Rattle.jn_subtype.proofs.Addings.{FromOne, adds_all}
use Rattle.jn_subtype.proofs.ClimbForms.{rank_lifted}

-- the atoms of a bind's type have older paths

rank_older : {s : Scope} {c : TypeBind} → BindsFit (c ∷ s) → (r : ℕ) → Binds s r → rank_of (c ∷ s) r ≡ rank_of s r
rank_older {s} {c} f r b = ap (λ t. cond t (suc (length s)) (rank_of s r)) (ne_eqb r c.path (λ e. f.1 (subst (Binds s) e b)))

rank_first : (s : Scope) (c : TypeBind) → rank_of (c ∷ s) c.path ≡ suc (length s)
rank_first s c = ap (λ t. cond t (suc (length s)) (rank_of s c.path)) (eq-eqb c.path c.path refl)

rank_within : (s : Scope) (q : ℕ) → rank_of s q ≤ length s
rank_within [] q = omega arith
rank_within (b ∷ s) q = at (nat_eq q b.path) (rank_within s q) where
  at : (t : Bool) → rank_of s q ≤ length s → cond t (suc (length s)) (rank_of s q) ≤ suc (length s)
  at true h = omega arith
  at false h = omega (arith, h)

binds_of : {s : Scope} {b : TypeBind} → Among s b → Binds s b.path
binds_of {s} {b} m = record { bind = b; among = m; is = refl }

type_older : {s : Scope} {b : TypeBind} → Among s b → BindsFit s → (a : Anchor) (x : Atom) → Among (atoms_in b.ty) x
    → x.anchor ≡ a → rank s a < rank_of s b.path
type_older (first {x = b} {xs = s}) f Root x m e = omega (arith, rank_first s b)
type_older (first {x = b} {xs = s}) f (Up r k) x m e =
    let a : Anchored s (Up r k) = subst (Anchored s) e (type_anchored f.2 x m) in
    omega (arith, rank_older f r a.0, rank_first s b, rank_within s r)
type_older (later {x = b} {y = c} {xs = s} n) f Root x m e =
    omega (arith, rank_older f b.path (binds_of n), type_older n f.0 Root x m e)
type_older (later {x = b} {y = c} {xs = s} n) f (Up r k) x m e =
    let a : Anchored s (Up r k) = subst (Anchored s) e (type_anchored (fits_whole n f.0) x m) in
    omega (arith, rank_older f r a.0, rank_older f b.path (binds_of n), type_older n f.0 (Up r k) x m e)

-- and so has what they make of an atom with the bind's path
pub replaced_older : {s : Scope} {b : TypeBind} → BindsFit s → Among s b → (x : Atom) (k : ℕ) → x.anchor ≡ Up b.path k
    → k < length (bound_of s b.path)
    → (z : Atom) → Among (atoms_in b.ty) z → IsOlder s x (replaced z k x)
replaced_older {s} {b} f m x k e l z a = record { anchored = anchored (nat_lt k (length z.names)); less = less (nat_lt k (length z.names)) } where
  anchored : (t : Bool) → Anchored s (cond t (atom z.anchor z.exact ((x.names ++ x.exact) ++ drop k z.names)) (reduced z k x)).anchor
  anchored true = type_anchored (fits_whole m f) z a
  anchored false = reduced_anchored f m z a k l x

  less : (t : Bool) → rank s (cond t (atom z.anchor z.exact ((x.names ++ x.exact) ++ drop k z.names)) (reduced z k x)).anchor < rank s x.anchor
  less true = omega (arith, type_older m f z.anchor z a refl, ap (rank s) e)
  less false = omega (arith, type_older m f z.anchor z a refl, ap (rank s) e, rank_lifted s (k - length z.names - length z.exact) z.anchor)

pub older_small : {s : Scope} {x y : Atom} → BindsFit s → IsOlder s x y → levels y.anchor < 2 ^ 8
older_small {s} {x} {y} f o = let h = levels_small s f y.anchor o.anchored in omega (arith, h)

-- a path has one bind

no_other : {s : Scope} {b c : TypeBind} → BindsFit (c ∷ s) → Among s b → b.path ≡ c.path → ⊥
no_other f m e = f.1 (record { bind = _; among = m; is = e })

pub bind_once : {s : Scope} {b c : TypeBind} → BindsFit s → Among s b → Among s c → b.path ≡ c.path → b ≡ c
bind_once f first first e = refl
bind_once f first (later m) e = absurd (no_other f m (sym e))
bind_once f (later n) first e = absurd (no_other f n e)
bind_once f (later n) (later m) e = bind_once f.0 n m e

-- the bind of a path in the code

pub among_scope : (pool : List Ty) (binds : List Bind) (b : Bind) → Contains binds b
    → Among (reverse (map (bind_in pool) binds)) (bind_in pool b)
among_scope pool binds b c = among_reversed (map (bind_in pool) binds) (bind_in pool b) (among_map (bind_in pool) binds b (among_of binds b c))

-- no bind of the code's has the path
pub no_bind : (pool : List Ty) (binds : List Bind) (q : ℕ) → All (λ (b : Bind). b.path ≡ q → ⊥) binds → (c : TypeBind)
    → Among (reverse (map (bind_in pool) binds)) c → c.path ≡ q → ⊥
no_bind pool binds q none c m e =
    let turned : Among (map (bind_in pool) binds) c =
    subst (λ (l : List TypeBind). Among l c) (reverse-reverse (map (bind_in pool) binds)) (among_reversed (reverse (map (bind_in pool) binds)) c m) in
    let b = map_among (bind_in pool) binds c turned in
    All-contains (λ (d : Bind). d.path ≡ q → ⊥) binds b.0 none (contains_of binds b.0 b.1) (ap (λ (d : TypeBind). d.path) b.2 ∙ e)

-- what the atoms of the path's type make is where a step of kind 3 leads
pub enters_found : {p : Program} {s : Scope} {b : TypeBind} (w : Atom) (k : ℕ) (ts : List Atom) → BindsFit s → Among s b
    → w.anchor ≡ Up b.path k
    → ((t : Atom) → Contains ts t ↔ Replaces p s (atoms_in b.ty) k w t) → (t : Atom) → Contains ts t ↔ Enters p s w t
enters_found {p} {s} {b} w k ts f m e each t = (to, back) where
  to : Contains ts t → Enters p s w t
  to h =
      let r = (each t).0 h in record {
        bind = b;
        levels = k;
        by = r.by;
        bound_in = m;
        anchor = e;
        among = r.among;
        is = r.is;
        universe = r.universe;
      }

  back : Enters p s w t → Contains ts t
  back h =
      let both : Up h.bind.path h.levels ≡ Up b.path k = sym h.anchor ∙ e in
      let path : h.bind.path ≡ b.path = cc both in
      let level : h.levels ≡ k = cc both in
      let same : h.bind ≡ b = bind_once f h.bound_in m path in
      (each t).1 (record {
        by = h.by;
        among = subst (λ (c : TypeBind). Among (atoms_in c.ty) h.by) same h.among;
        is = h.is ∙ ap (λ (n : ℕ). replaced h.by n w) level;
        universe = h.universe;
      })

-- what the atoms of a list make, one after another

abbrev pub Makes : Program → Scope → ℕ → Atom → ShownAtom → Atom → Type 0
Makes p s k w z t = (t ≡ replaced (atom_of z) k w) × InUniverse p (bound s t)

pub replaces_found : {p : Program} {s : Scope} (zs : List ShownAtom) (k : ℕ) (w : Atom) (ts : List Atom)
    → Adds (FromOne (Makes p s k w) zs) [] ts
    → (t : Atom) → Contains ts t ↔ Replaces p s (map atom_of zs) k w t
replaces_found {p} {s} zs k w ts a t = (to, back) where
  to : Contains ts t → Replaces p s (map atom_of zs) k w t
  to h =
      let u = (adds_all a t).0 h in
      record { by = atom_of u.origin; among = among_map atom_of zs u.origin (among_of zs u.origin u.among); is = u.by.0; universe = u.by.1 }

  back : Replaces p s (map atom_of zs) k w t → Contains ts t
  back h =
      let z = map_among atom_of zs h.by h.among in
      (adds_all a t).1 (record { origin = z.0; among = contains_of zs z.0 z.1; by = (h.is ∙ ap (λ (y : Atom). replaced y k w) (sym z.2), h.universe) })

-- where none is found, none is led to
pub nowhere : {p : Program} {s : Scope} {w : Atom} (ts : List Atom) → ts ≡ [] → ((t : Atom) → Enters p s w t → ⊥) → (t : Atom)
    → Contains ts t ↔ Enters p s w t
nowhere ts e none t = (λ h. absurd (in_none t (subst (λ (l : List Atom). Contains l t) e h)), λ h. absurd (none t h))

pub unbound_enters : {p : Program} (pool : List Ty) (binds : List Bind) (q k : ℕ) (w t : Atom) → w.anchor ≡ Up q k
    → All (λ (b : Bind). b.path ≡ q → ⊥) binds → Enters p (reverse (map (bind_in pool) binds)) w t → ⊥
unbound_enters pool binds q k w t e none h =
    let both : Up h.bind.path h.levels ≡ Up q k = sym h.anchor ∙ e in
    no_bind pool binds q none h.bind h.bound_in (cc both)
