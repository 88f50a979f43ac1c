-- From which atoms a chain of widening steps leads to another one.
use Rattle.std.proofs.Common.{◌≡◌, ◌↔◌, ◌<◌, ◌+◌, ◌∙◌, inl, inr, ℕ, List, [], ◌∷◌, ◌++◌, Bool, IsTrue, Contains, All, get_or, length, take, map, sym, ap, subst}
use Rattle.std.proofs.lemmas.List.{take_more}
use Rattle.std.proofs.lemmas.List.Elements.{Contains-get_or, Contains-push_cases}
use Rattle.jn_reach.specs.Chain.{Chain}
use Rattle.jn_base.specs.declared.tree.Program.{Program}
use Rattle.jn_base.specs.declared.types.Atom.{Atom as ShownAtom}
use Rattle.jn_base.specs.declared.types.Masks.{Masks}
use Rattle.jn_base.specs.declared.types.Ty.{Ty}
use Rattle.jn_base.specs.declared.types.Ty.TheVariants as ty
use Rattle.jn_base.specs.Atoms.{Atom, atom_of, MasksWithin}
use Rattle.jn_base.specs.Scopes.{Scope}
use Rattle.jn_base.specs.Fits.{Anchored, TypeFits}
use Rattle.jn_table.specs.declared.table.Table.{Table}
use Rattle.jn_table.specs.Tables.{IsFilled}
use Rattle.jn_sem.specs.Widening.{Widens}
use Rattle.jn_sem.specs.Search.{EndsPlainly, TurnsTo}
use Rattle.jn_sem.specs.Below.{ReachedFrom, BelowAtoms, Below, ints, booleans, nulls, classes}
use Rattle.jn_sem.proofs.Searches.{ends_chain, not_chain}
use Rattle.jn_sem.proofs.Endings.{ends_plainly}
use Rattle.jn_sem.proofs.NormalTypes.{among_map, map_among}
use Rattle.jn_sem.proofs.Codes.{among_of, contains_of}

-- what the loops have found so far

-- from none of these atoms a chain leads to y
abbrev pub NoneBelow : Table → Scope → List Atom → Atom → Type 0
NoneBelow table s xs y = (p : Program) → IsFilled p table → (x : Atom) → Contains xs x → Chain (Widens p s) x y → ⊥

abbrev pub NoneReach : Table → Scope → List ShownAtom → Atom → Type 0
NoneReach table s xs y = (p : Program) → IsFilled p table → (x : ShownAtom) → Contains xs x → Chain (Widens p s) (atom_of x) y → ⊥

-- to each of ys a chain leads from one of xs
abbrev pub EachReached : Table → Scope → List Atom → List ShownAtom → Type 0
EachReached table s xs ys = (p : Program) → IsFilled p table → (y : ShownAtom) → Contains ys y → ReachedFrom p s xs (atom_of y)

-- one atom from another

pub ends_here : {p : Program} {s : Scope} {x y : Atom} → EndsPlainly p s x y → Chain (Widens p s) x y
ends_here e = ends_chain (ends_plainly.1 e)

pub ends_nowhere : {p : Program} {s : Scope} {x y : Atom} → (EndsPlainly p s x y → ⊥)
    → ((t : Atom) → TurnsTo p s x t → Chain (Widens p s) t y → ⊥) → Chain (Widens p s) x y → ⊥
ends_nowhere e t = not_chain (λ a. e (ends_plainly.0 a)) t

-- one atom from some of a list

pub reached_by : {p : Program} {s : Scope} {y : Atom} (xs : List ShownAtom) (x : ShownAtom) → Contains xs x
    → Chain (Widens p s) (atom_of x) y → ReachedFrom p s (map atom_of xs) y
reached_by xs x m c = record {
  from = atom_of x;
  among = among_map atom_of xs x (among_of xs x m);
  chain = c;
}

pub reached_not : {p : Program} {s : Scope} {y : Atom} (xs : List ShownAtom)
    → ((x : ShownAtom) → Contains xs x → Chain (Widens p s) (atom_of x) y → ⊥) → ReachedFrom p s (map atom_of xs) y → ⊥
reached_not {p} {s} {y} xs none r =
    let m = map_among atom_of xs r.from r.among in
    none m.0 (contains_of xs m.0 m.1) (subst (λ (z : Atom). Chain (Widens p s) z y) (sym m.2) r.chain)

-- each of a list

pub each_reached : {p : Program} {s : Scope} {xs : List Atom} (ys : List ShownAtom)
    → ((y : ShownAtom) → Contains ys y → ReachedFrom p s xs (atom_of y)) → BelowAtoms p s xs (map atom_of ys)
each_reached {p} {s} {xs} ys each y m =
    let r = map_among atom_of ys y m in
    subst (ReachedFrom p s xs) r.2 (each r.0 (contains_of ys r.0 r.1))

pub one_reached : {p : Program} {s : Scope} {xs : List Atom} (ys : List ShownAtom) (y : ShownAtom) → Contains ys y
    → BelowAtoms p s xs (map atom_of ys) → ReachedFrom p s xs (atom_of y)
one_reached ys y m b = b (atom_of y) (among_map atom_of ys y (among_of ys y m))

-- what holds of the first i elements and of the next one
pub each_more : {A : Type 0} (P : A → Type 0) (ys : List A) (i : ℕ) (y : A) → i < length ys → y ≡ get_or ys i y
    → ((z : A) → Contains (take i ys) z → P z) → P y → (z : A) → Contains (take (i + 1) ys) z → P z
each_more {A} P ys i y l e each one z m =
    let more : take (i + 1) ys ≡ take i ys ++ y ∷ [] = take_more ys i y l ∙ ap (λ (x : A). take i ys ++ x ∷ []) (sym e) in
    let cases = Contains-push_cases (take i ys) y z (subst (λ (t : List A). Contains t z) more m) in
    elim cases [ inl h ↦ each z h | inr h ↦ subst P h one ]

-- the anchors of a class type that fits
pub all_anchored : (s : Scope) (xs : List ShownAtom) (m : Masks) → TypeFits s (ty.Class xs m)
    → All (λ (x : ShownAtom). Anchored s x.anchor) xs
all_anchored s xs m f k d l = (f.atoms tt).anchored (atom_of x) (among_map atom_of xs x (among_of xs x here)) where
  x : ShownAtom
  x = get_or xs k d

  here : Contains xs x
  here = Contains-get_or xs k d l

-- types that are known by equations

pub below_at : {p : Program} {s : Scope} {a b c d : Ty} → a ≡ c → b ≡ d → Below p s c d → Below p s a b
below_at {p} {s} {b = b} {c = c} e f h = subst (λ (x : Ty). Below p s x b) (sym e) (subst (Below p s c) (sym f) h)

-- the types that have no atoms

pub both_ints : (p : Program) (s : Scope) (a b : Ty) → a ≡ ty.Int → b ≡ ty.Int → Below p s a b
both_ints p s a b e f = below_at e f ints

pub both_booleans : (p : Program) (s : Scope) (a b : Ty) → a ≡ ty.Bool → b ≡ ty.Bool → Below p s a b
both_booleans p s a b e f = below_at e f booleans

pub null_below : (p : Program) (s : Scope) (a b : Ty) (ys : List ShownAtom) (n : Masks) → a ≡ ty.Null → b ≡ ty.Class ys n
    → Below p s a b
null_below p s a b ys n e f = below_at e f nulls

class_atoms : {p : Program} {s : Scope} {xs ys : List ShownAtom} {m n : Masks} → Below p s (ty.Class xs m) (ty.Class ys n)
    → BelowAtoms p s (map atom_of xs) (map atom_of ys)
class_atoms (classes b w) = b

-- two class types whose masks are within, by what is found of their atoms
pub class_below : {p : Program} {s : Scope} {a b : Ty} {r : Bool} (xs ys us vs : List ShownAtom) (m n : Masks)
    → a ≡ ty.Class xs m → b ≡ ty.Class ys n → us ≡ xs → vs ≡ ys → MasksWithin m n
    → IsTrue r ↔ BelowAtoms p s (map atom_of us) (map atom_of vs) → IsTrue r ↔ Below p s a b
class_below {p} {s} {a} {b} {r} xs ys us vs m n e f g h w i = (to, from) where
  there : BelowAtoms p s (map atom_of us) (map atom_of vs) → BelowAtoms p s (map atom_of xs) (map atom_of ys)
  there t =
      subst (λ (zs : List ShownAtom). BelowAtoms p s (map atom_of xs) (map atom_of zs)) h
      (subst (λ (zs : List ShownAtom). BelowAtoms p s (map atom_of zs) (map atom_of vs)) g t)

  back : BelowAtoms p s (map atom_of xs) (map atom_of ys) → BelowAtoms p s (map atom_of us) (map atom_of vs)
  back t =
      subst (λ (zs : List ShownAtom). BelowAtoms p s (map atom_of us) (map atom_of zs)) (sym h)
      (subst (λ (zs : List ShownAtom). BelowAtoms p s (map atom_of zs) (map atom_of ys)) (sym g) t)

  to : IsTrue r → Below p s a b
  to t = below_at e f (classes (there (i.0 t)) w)

  from : Below p s a b → IsTrue r
  from t = i.1 (back (class_atoms (below_at (sym e) (sym f) t)))
