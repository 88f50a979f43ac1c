-- A test of what fits, for scopes that are written out.
use Rattle.std.proofs.Common.{◌≡◌, ℕ, List, [], ◌∷◌, Bool, true, false, ◌&&◌, ◌||◌, nat_eq, nat_lt, nat_le, length, map, refl, sym, eqb-true, ltb-true, leb-true}
use Rattle.std.proofs.lemmas.Bool.{eqb-false}
use Rattle.jn_base.specs.declared.types.Anchor.{Anchor}
use Rattle.jn_base.specs.declared.types.Anchor.TheVariants.{Root, Up}
use Rattle.jn_base.specs.declared.types.Ty.{Ty}
use Rattle.jn_base.specs.declared.types.Ty.TheVariants as ty
use Rattle.jn_base.specs.Atoms.{Atom, atom_of, Among, first, later}
use Rattle.jn_base.specs.Scopes.{Bind, Scope, bound_of, bound, Binds}
use Rattle.jn_base.specs.Fits.{Anchored, AtomsFit, TypeFits, BindsFit}

-- the tests

abbrev pub has_path : Scope → ℕ → Bool
has_path [] q = false
has_path (b ∷ s) q = nat_eq b.path q || has_path s q

abbrev pub unlike : Bool → Bool
unlike true = false
unlike false = true

abbrev pub lacks_path : Scope → ℕ → Bool
lacks_path [] q = true
lacks_path (b ∷ s) q = unlike (nat_eq b.path q) && lacks_path s q

abbrev pub is_anchored : Scope → Anchor → Bool
is_anchored s Root = true
is_anchored s (Up q k) = has_path s q && nat_lt k (length (bound_of s q))

-- each is anchored, with a bound of n names
abbrev pub all_deep : Scope → ℕ → List Atom → Bool
all_deep s n [] = true
all_deep s n (x ∷ xs) = (is_anchored s x.anchor && nat_eq (length (bound s x)) n) && all_deep s n xs

abbrev pub atoms_fit : Scope → List Atom → Bool
atoms_fit s [] = false
atoms_fit s (x ∷ xs) = all_deep s (length (bound s x)) (x ∷ xs) && nat_le (length (bound s x)) 255

abbrev pub type_fits : Scope → Ty → Bool
type_fits s (ty.Class xs m) = atoms_fit s (map atom_of xs)
type_fits s ty.Int = true
type_fits s ty.Bool = true
type_fits s ty.Null = true
type_fits s ty.Void = true

abbrev pub binds_fit : Scope → Bool
binds_fit [] = true
binds_fit (b ∷ s) = binds_fit s && (lacks_path s b.path && type_fits s b.ty)

-- what they say

left_of : (a b : Bool) → (a && b) ≡ true → a ≡ true
left_of true b e = refl
left_of false b e = e

right_of : (a b : Bool) → (a && b) ≡ true → b ≡ true
right_of true b e = e
right_of false b e = cc

was_false : (a : Bool) → unlike a ≡ true → a ≡ false
was_false true e = sym e
was_false false e = refl

binds_more : {s : Scope} (b : Bind) {q : ℕ} → Binds s q → Binds (b ∷ s) q
binds_more b r = record {
  bind = r.bind;
  among = later r.among;
  is = r.is;
}

binds_of : (s : Scope) (q : ℕ) → has_path s q ≡ true → Binds s q
binds_of [] q e = cc
binds_of (b ∷ s) q e = at (nat_eq b.path q) refl e (binds_of s q) where
  at : (t : Bool) → nat_eq b.path q ≡ t → (t || has_path s q) ≡ true → (has_path s q ≡ true → Binds s q) → Binds (b ∷ s) q
  at true h f g = record {
    bind = b;
    among = first;
    is = eqb-true b.path q h;
  }
  at false h f g = binds_more b (g f)

lacks_of : (s : Scope) (q : ℕ) → lacks_path s q ≡ true → (b : Bind) → Among s b → b.path ≡ q → ⊥
lacks_of [] q e b m i = elim m [ ]
lacks_of (b ∷ s) q e _ first i = eqb-false b.path q (was_false (nat_eq b.path q) (left_of _ _ e)) i
lacks_of (b ∷ s) q e c (later m) i = lacks_of s q (right_of _ _ e) c m i

anchored_of : (s : Scope) (a : Anchor) → is_anchored s a ≡ true → Anchored s a
anchored_of s Root e = tt
anchored_of s (Up q k) e = (binds_of s q (left_of _ _ e), ltb-true k (length (bound_of s q)) (right_of _ _ e))

deep_of : (s : Scope) (n : ℕ) (xs : List Atom) → all_deep s n xs ≡ true → (x : Atom) → Among xs x → Anchored s x.anchor × (length (bound s x) ≡ n)
deep_of s n [] e x m = elim m [ ]
deep_of s n (x ∷ xs) e _ first =
    let h = left_of _ _ e in
    (anchored_of s x.anchor (left_of _ _ h), eqb-true (length (bound s x)) n (right_of _ _ h))
deep_of s n (y ∷ xs) e x (later m) = deep_of s n xs (right_of _ _ e) x m

pub atoms_of : (s : Scope) (xs : List Atom) → atoms_fit s xs ≡ true → AtomsFit s xs
atoms_of s [] e = cc
atoms_of s (x ∷ xs) e =
    let deep = deep_of s (length (bound s x)) (x ∷ xs) (left_of _ _ e) in record {
      one = x;
      among = first;
      anchored = λ y m. (deep y m).0;
      depth = λ y m. (deep y m).1;
      shallow = leb-true (length (bound s x)) 255 (right_of _ _ e);
    }

pub type_of : (s : Scope) (t : Ty) → type_fits s t ≡ true → TypeFits s t
type_of s (ty.Class xs m) e = record { atoms = λ c. atoms_of s (map atom_of xs) e }
type_of s ty.Int e = record { atoms = λ c. absurd c }
type_of s ty.Bool e = record { atoms = λ c. absurd c }
type_of s ty.Null e = record { atoms = λ c. absurd c }
type_of s ty.Void e = record { atoms = λ c. absurd c }

pub binds_fit_of : (s : Scope) → binds_fit s ≡ true → BindsFit s
binds_fit_of [] e = tt
binds_fit_of (b ∷ s) e =
    let h = right_of _ _ e in (
      binds_fit_of s (left_of _ _ e),
      λ r. lacks_of s b.path (left_of _ _ h) r.bind r.among r.is,
      type_of s b.ty (right_of _ _ h),
    )
