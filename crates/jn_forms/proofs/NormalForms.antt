-- The normal form of an atom, bind by bind from the newest.
use Rattle.std.proofs.Common.{◌≡◌, ℕ, zero, suc, List, [], ◌∷◌, ◌++◌, map, take, reverse, Some, refl, sym, ap, ◌∙◌}
use Rattle.std.specs.Prelude.{slice_get, Result, Ok, Err, IfOk}
use Rattle.std.proofs.lemmas.List.{reverse-append, map-append}
use Rattle.jn_base.specs.declared.names.Var.{Var}
use Rattle.jn_base.specs.declared.types.Ty.TheVariants as ty
use Rattle.jn_base.specs.declared.types.Atom.{Atom as ShownAtom}
use Rattle.jn_base.specs.declared.types.Masks.{Masks}
use Rattle.jn_base.specs.Atoms.{Atom, atom_of, shown_atom}
use Rattle.jn_base.specs.Scopes.{Bind, Scope}
use Rattle.jn_base.specs.Resolve.{var_bind}
use Rattle.jn_sem.specs.Normal.{normal, rewritten, same_path, NormalType}
use Rattle.jn_sem.specs.NormalFunction.{in_order, moved_normal}
use Rattle.jn_sem.proofs.NormalTypes.{type_subst_is, moved_same, atoms_back, shown_once}

pub take_one : {X : Type 0} (xs : List X) (k : ℕ) (x : X) → slice_get xs k ≡ Some x → take (suc k) xs ≡ take k xs ++ x ∷ []
take_one [] k x e = cc
take_one {X} (y ∷ xs) zero x e = ap (λ (z : X). z ∷ []) (at e)
  where
    at : {X : Type 0} {y x : X} → Some y ≡ Some x → y ≡ x
    at e = cc
take_one {X} (y ∷ xs) (suc k) x e = ap (λ (zs : List X). y ∷ zs) (take_one xs k x e)

pub turned : (t : Bind) (vs : List Var) (k : ℕ) (v : Var) (x y : Atom) → slice_get vs k ≡ Some v → y ≡ rewritten (var_bind v) x
    → normal (reverse (t ∷ map var_bind (take k vs))) y ≡ normal (reverse (t ∷ map var_bind (take (suc k) vs))) x
turned t vs k v x y e h =
    let front : map var_bind (take (suc k) vs) ≡ map var_bind (take k vs) ++ var_bind v ∷ [] =
    ap (map var_bind) (take_one vs k v e) ∙ map-append var_bind (take k vs) (v ∷ []) in
    let back : reverse (t ∷ map var_bind (take (suc k) vs)) ≡ var_bind v ∷ reverse (t ∷ map var_bind (take k vs)) =
    ap (λ (bs : List Bind). reverse (t ∷ bs)) front ∙ reverse-append (t ∷ map var_bind (take k vs)) (var_bind v ∷ []) in
    ap (normal (reverse (t ∷ map var_bind (take k vs)))) h ∙ sym (ap (λ (s : Scope). normal s x) back)

same_normals : (s : Scope) (xs : List Atom) → map (normal s) xs ≡ map (moved_normal s same_path) xs
same_normals s [] = refl
same_normals s (x ∷ xs) = ap (λ (y : Atom). normal s y ∷ map (normal s) xs) (sym (moved_same x)) ∙ ap (λ (ys : List Atom). moved_normal s same_path x ∷ ys) (same_normals s xs)

-- a class type whose atoms are the normal forms in order is the normal form
pub class_normal : (s : Scope) (xs ys : List ShownAtom) (m : Masks) → map atom_of ys ≡ in_order (map (normal s) (map atom_of xs)) → NormalType s (ty.Class xs m) (ty.Class ys m)
class_normal s xs ys m e =
    let zs : List Atom = in_order (map (moved_normal s same_path) (map atom_of xs)) in
    let same : map atom_of ys ≡ map atom_of (map shown_atom zs) = e ∙ ap in_order (same_normals s (map atom_of xs)) ∙ sym (atoms_back zs) in
    (type_subst_is s same_path (ty.Class xs m) (ty.Class ys m)).1 (ap (λ (us : List ShownAtom). ty.Class us m) (shown_once ys (map shown_atom zs) same))

-- what follows on success
pub if_ok : {A E : Type 0} {P Q : A → Type 0} (r : Result A E) → ((a : A) → P a → Q a) → IfOk r P → IfOk r Q
if_ok (Ok a) f h = f a h
if_ok (Err e) f h = h
