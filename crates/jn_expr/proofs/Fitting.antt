-- Atoms and types that fit a scope, by what tests find.
use Rattle.std.proofs.Common.{◌≡◌, ◌≤◌, ◌<◌, ◌++◌, ◌+◌, ℕ, List, [], ◌∷◌, Bool, true, false, nat_eq, cond, length, take, get_or, map, refl, sym, ap, ◌∙◌, subst, All, Contains, arith, eqb-true, Result, Ok, Err, IfOk}
use Rattle.std.proofs.lemmas.List.{take_more}
use mathlib.Core.Path.{fun_ext}
use Rattle.std.proofs.lemmas.List.Elements.{All-contains, All-append, All-cons, All-nil, Contains-get_or}
use Rattle.jn_base.specs.declared.types.Anchor.TheVariants.{Up}
use Rattle.jn_base.specs.declared.types.Atom.{Atom as ShownAtom}
use Rattle.jn_base.specs.declared.types.Masks.{Masks}
use Rattle.jn_base.specs.declared.types.Ty.{Ty}
use Rattle.jn_base.specs.declared.types.Ty.TheVariants as ty
use Rattle.jn_base.specs.Atoms.{Atom, atom_of, atoms_in, Among, first, later, first_at}
use Rattle.jn_base.specs.Scopes.{Scope, Binds, bound_of, bound}
use Rattle.jn_base.specs.Fits.{Anchored, AtomsFit, TypeFits, IsClassType}
use Rattle.jn_sem.specs.Normal.{moved, swapped, MovedFits}
use Rattle.jn_sem.specs.NormalFunction.{subst_type}
use Rattle.jn_sem.proofs.Codes.{contains_of, among_of}
use Rattle.jn_sem.proofs.NormalTypes.{among_map, map_among}
use Rattle.jn_rules.specs.Exprs.{put_in}
use Rattle.jn_expr.specs.Fitting.{FitsAt}

-- ---- anchors

bound_binds : (s : Scope) (q : ℕ) → 0 < length (bound_of s q) → Binds s q
bound_binds [] q h = absurd (omega (arith, h))
bound_binds (b ∷ s) q h = at (λ l. bound_binds s q l) (nat_eq q b.path) refl h where
  at : (0 < length (bound_of s q) → Binds s q) → (t : Bool) → nat_eq q b.path ≡ t → 0 < length (cond t (first_at (bound_of s) (atoms_in b.ty)) (bound_of s q)) → Binds (b ∷ s) q
  at f true e l = record { bind = b; among = first; is = sym (eqb-true q b.path e) }
  at f false e l = let r = f l in record { bind = r.bind; among = later r.among; is = r.is }

pub anchored_by : (s : Scope) (q k n : ℕ) → n ≡ length (bound_of s q) → k < n → Anchored s (Up q k)
anchored_by s q k n e l = (bound_binds s q (omega (arith, e, l)), omega (arith, e, l))

-- ---- atoms

pub fit_all : (s : Scope) (xs : List ShownAtom) (n : ℕ) (one : ShownAtom) → Contains xs one → n ≡ length (bound s (atom_of one)) → n ≤ 255
    → All (λ (x : ShownAtom). FitsAt s n (atom_of x)) xs → AtomsFit s (map atom_of xs)
fit_all s xs n one m e l all = record {
  one = atom_of one;
  among = among_map atom_of xs one (among_of xs one m);
  anchored = λ x h. let y = map_among atom_of xs x h in subst (λ (z : Atom). Anchored s z.anchor) y.2 (at y.0 y.1).anchored;
  depth = λ x h. let y = map_among atom_of xs x h in ap (λ (z : Atom). length (bound s z)) (sym y.2) ∙ ((at y.0 y.1).depth ∙ e);
  shallow = omega (arith, e, l);
} where
  at : (y : ShownAtom) → Among xs y → FitsAt s n (atom_of y)
  at y h = All-contains (λ (x : ShownAtom). FitsAt s n (atom_of x)) xs y all (contains_of xs y h)

pub class_fits : (s : Scope) (t : Ty) (xs : List ShownAtom) (m : Masks) (ys : List ShownAtom) → t ≡ ty.Class xs m → ys ≡ xs → AtomsFit s (map atom_of ys) → TypeFits s t
class_fits s t xs m ys e h f =
    subst (TypeFits s) (sym e) (record { atoms = λ c. subst (λ (zs : List ShownAtom). AtomsFit s (map atom_of zs)) h f })

pub not_class : (s : Scope) (t : Ty) → (IsClassType t → ⊥) → TypeFits s t
not_class s t n = record { atoms = λ c. absurd (n c) }

pub int_fits : (s : Scope) (t : Ty) → t ≡ ty.Int → TypeFits s t
int_fits s t e = subst (TypeFits s) (sym e) (not_class s ty.Int (λ c. c))

pub bool_fits : (s : Scope) (t : Ty) → t ≡ ty.Bool → TypeFits s t
bool_fits s t e = subst (TypeFits s) (sym e) (not_class s ty.Bool (λ c. c))

pub null_fits : (s : Scope) (t : Ty) → t ≡ ty.Null → TypeFits s t
null_fits s t e = subst (TypeFits s) (sym e) (not_class s ty.Null (λ c. c))

pub void_fits : (s : Scope) (t : Ty) → t ≡ ty.Void → TypeFits s t
void_fits s t e = subst (TypeFits s) (sym e) (not_class s ty.Void (λ c. c))

-- ---- types with their paths replaced

-- the paths `from` beyond those of `to` stay
swapped_front : (from to : List ℕ) (q : ℕ) → swapped (take (length to) from) to q ≡ swapped from to q
swapped_front [] [] q = refl
swapped_front [] (b ∷ to) q = refl
swapped_front (a ∷ from) [] q = refl
swapped_front (a ∷ from) (b ∷ to) q = ap (λ (r : ℕ). cond (nat_eq q a) b r) (swapped_front from to q)

moved_as : (s : Scope) (f g : ℕ → ℕ) (t : Ty) → f ≡ g → MovedFits s f t → MovedFits s g t
moved_as s f g t e m = subst (λ (h : ℕ → ℕ). MovedFits s h t) e m

pub moved_front : (s : Scope) (from to : List ℕ) (t : Ty) → MovedFits s (swapped from to) t → MovedFits s (swapped (take (length to) from) to) t
moved_front s from to t m = moved_as s (swapped from to) (swapped (take (length to) from) to) t (sym (fun_ext (swapped_front from to))) m

pub put_front : (s : Scope) (from to : List ℕ) (t : Ty) → subst_type s (swapped (take (length to) from) to) t ≡ put_in s from to t
put_front s from to t = ap (λ (f : ℕ → ℕ). subst_type s f t) (fun_ext (swapped_front from to))

-- ---- lists and answers

pub all_more : {A : Type 0} (P : A → Type 0) (xs : List A) (i : ℕ) (x : A) → i < length xs → x ≡ get_or xs i x → All P (take i xs) → P x → All P (take (i + 1) xs)
all_more {A} P xs i x l e h q =
    subst (All P) (sym (take_more xs i x l ∙ ap (λ (y : A). take i xs ++ y ∷ []) (sym e)))
    (All-append P (take i xs) (x ∷ []) h (All-cons P x [] q (All-nil P)))

-- two facts of an answer
pub both_ok : {A E : Type 0} {P Q R : A → Type 0} (o : Result A E) → ((x : A) → P x → Q x → R x) → IfOk o P → IfOk o Q → IfOk o R
both_ok (Ok x) f h k = f x h k
both_ok (Err e) f h k = tt

-- the anchors of a class type that fits
pub class_anchored : (s : Scope) (xs : List ShownAtom) (m : Masks) → TypeFits s (ty.Class xs m) → All (λ (x : ShownAtom). Anchored s x.anchor) xs
class_anchored s xs m f = λ k d l. (f.atoms tt).anchored (atom_of (get_or xs k d)) (among_map atom_of xs (get_or xs k d) (among_of xs (get_or xs k d) (Contains-get_or xs k d l)))
