-- The variables that a walk knows are those in scope, but for masks.
use Rattle.std.proofs.Common.{◌≡◌, ◌<◌, ◌≤◌, ℕ, zero, suc, List, [], ◌∷◌, ◌++◌, length, map, reverse, take, Bool, Option, Some, None, refl, sym, ap, ◌∙◌, subst, arith, append_assoc, append-nil, length-append}
use Rattle.std.specs.Option.{MatchOption}
use Rattle.std.proofs.Math.Seq.{take-append_seam}
use Rattle.std.proofs.lemmas.List.{reverse-append, map-append, take-append-le}
use Rattle.jn_base.specs.declared.path.Path.{Path as ShownPath}
use Rattle.jn_base.specs.declared.tree.Name.{Name}
use Rattle.jn_base.specs.declared.types.Ty.{Ty}
use Rattle.jn_base.specs.declared.types.Ty.TheVariants as ty
use Rattle.jn_base.specs.declared.names.Var.{Var}
use Rattle.jn_base.specs.Paths.{Path, shown}
use Rattle.jn_base.specs.Atoms.{Atom, atom_of, atoms_in, shown_atom}
use Rattle.jn_base.specs.Scopes.{Scope}
use Rattle.jn_base.specs.Resolve.{is_class, var_bind}
use Rattle.jn_names.specs.Scoped.{scope_from}
use Rattle.jn_sem.specs.Normal.{same_path, moved}
use Rattle.jn_sem.specs.NormalFunction.{normal_type, moved_normal, in_order}
use Rattle.jn_sem.specs.Does.{var}
use Rattle.jn_laws.specs.LawsOfScopes.{ScopesAlike, none, one}
use Rattle.jn_laws.proofs.AlikeScopes.{normal_like}
use Rattle.jn_lower.specs.Known.{scope_in, bare_type, bare, bare_form, Extends}

-- ---- scopes that are alike

alike_behind : {s t u v : Scope} → ScopesAlike s t → ScopesAlike u v → ScopesAlike (s ++ u) (t ++ v)
alike_behind none k = k
alike_behind (one a h) k = one a (alike_behind h k)

alike_turned : {s t : Scope} → ScopesAlike s t → ScopesAlike (reverse s) (reverse t)
alike_turned none = none
alike_turned (one {b} {c} {s} {t} a h) =
    subst (λ (x : Scope). ScopesAlike x (reverse (c ∷ t))) (sym (reverse-append (b ∷ []) s))
    (subst (λ (x : Scope). ScopesAlike (reverse s ++ (b ∷ [])) x) (sym (reverse-append (c ∷ []) t))
    (alike_behind (alike_turned h) (one a none)))

bare_atoms : (t : Ty) → atoms_in (bare_type t) ≡ atoms_in t
bare_atoms ty.Int = refl
bare_atoms ty.Bool = refl
bare_atoms ty.Null = refl
bare_atoms ty.Void = refl
bare_atoms (ty.Class xs m) = refl

pub bare_class : (t : Ty) → is_class (bare_type t) ≡ is_class t
bare_class ty.Int = refl
bare_class ty.Bool = refl
bare_class ty.Null = refl
bare_class ty.Void = refl
bare_class (ty.Class xs m) = refl

binds_alike : (vs : List Var) → ScopesAlike (map var_bind vs) (map var_bind (map bare vs))
binds_alike [] = none
binds_alike (v ∷ vs) =
    one (record { path = refl; atoms = bare_atoms v.ty; class = bare_class v.ty }) (binds_alike vs)

-- with masks and without them
pub bare_alike : (Q : Path) (vs : List Var) → ScopesAlike (scope_from Q vs) (scope_from Q (map bare vs))
bare_alike Q vs = alike_turned (one (record { path = refl; atoms = refl; class = refl }) (binds_alike vs))

-- ---- normal forms

normals_same : (s t : Scope) → ScopesAlike s t → (xs : List Atom)
    → map (moved_normal t same_path) xs ≡ map (moved_normal s same_path) xs
normals_same s t h [] = refl
normals_same s t h (x ∷ xs) =
    ap (λ (y : Atom). y ∷ map (moved_normal t same_path) xs) (normal_like h (moved same_path x))
    ∙ ap (λ (ys : List Atom). moved_normal s same_path x ∷ ys) (normals_same s t h xs)

pub form_same : (s t : Scope) → ScopesAlike s t → (u : Ty) → normal_type t u ≡ normal_type s u
form_same s t h ty.Int = refl
form_same s t h ty.Bool = refl
form_same s t h ty.Null = refl
form_same s t h ty.Void = refl
form_same s t h (ty.Class xs m) =
    ap (λ (ys : List Atom). ty.Class (map shown_atom (in_order ys)) m) (normals_same s t h (map atom_of xs))

form_bare : (s : Scope) (u : Ty) → normal_type s (bare_type u) ≡ bare_type (normal_type s u)
form_bare s ty.Int = refl
form_bare s ty.Bool = refl
form_bare s ty.Null = refl
form_bare s ty.Void = refl
form_bare s (ty.Class xs m) = refl

-- ---- one more variable

-- where what is written stands for types that are the same but for masks, so are their normal forms
pub bare_more : (at : ShownPath) (us vs : List Var) (Q : Path) → at ≡ shown Q → us ≡ map bare vs → (name : Name) (q : ℕ)
    (fixed : Bool) (t u : Ty) → bare_type u ≡ bare_type t
    → us ++ var name q fixed (bare_form at us u) ∷ []
    ≡ map bare (vs ++ var name q fixed (normal_type (scope_in (shown Q) vs) t) ∷ [])
bare_more at us vs Q class is name q fixed t u same =
    ap (λ (w : Ty). us ++ var name q fixed w ∷ []) form
    ∙ ap (λ (ws : List Var). ws ++ bare v ∷ []) is ∙ sym (map-append bare vs (v ∷ []))
  where
    s : Scope
    s = scope_in (shown Q) vs

    v : Var
    v = var name q fixed (normal_type s t)

    form : bare_form at us u ≡ bare_type (normal_type s t)
    form =
        ap (λ (r : ShownPath). bare_form r us u) class ∙ ap (λ (ws : List Var). bare_form (shown Q) ws u) is
        ∙ ap (normal_type (scope_in (shown Q) (map bare vs))) same
        ∙ form_same s (scope_in (shown Q) (map bare vs)) (bare_alike (reverse (shown Q).names) vs) (bare_type t)
        ∙ form_bare s t

-- ---- those that were known come first

pub extends_same : {us vs : List Var} → vs ≡ us → Extends us vs
extends_same {us} e = record { more = []; is = e ∙ sym (append-nil us) }

pub extends_on : {us vs ws : List Var} → Extends us vs → Extends vs ws → Extends us ws
extends_on {us} h k = record {
  more = h.more ++ k.more;
  is = k.is ∙ ap (λ (l : List Var). l ++ k.more) h.is ∙ append_assoc us h.more k.more;
}

pub front_kept : {us vs : List Var} → Extends us vs → take (length us) vs ≡ us
front_kept {us} h = ap (take (length us)) h.is ∙ take-append_seam us h.more

-- what a pop leaves has the same first ones, and is shorter
pub popped : (count : ℕ) (old new : List Var) (o : Option Var) → count < length old
    → MatchOption o ((old ≡ []) × (new ≡ [])) (λ last. old ≡ new ++ last ∷ []) → take count new ≡ take count old
popped count old new None lt h = let l = ap length h.0 in absurd (omega (arith, lt, l))
popped count old new (Some v) lt h =
    let l = ap length h ∙ length-append new (v ∷ []) in
    sym (ap (take count) h ∙ take-append-le count new (v ∷ []) (omega (arith, lt, l)))

pub shorter : (count : ℕ) (old new : List Var) (o : Option Var) → count < length old
    → MatchOption o ((old ≡ []) × (new ≡ [])) (λ last. old ≡ new ++ last ∷ []) → length new < length old
shorter count old new None lt h = let l = ap length h.0 in absurd (omega (arith, lt, l))
shorter count old new (Some v) lt h =
    let l = ap length h ∙ length-append new (v ∷ []) in
    omega (arith, l)

-- as many as there are, or fewer
pub few_left : (count : ℕ) (xs : List Var) → length xs ≤ count → xs ≡ take count xs
few_left count [] le = at count where
  at : (k : ℕ) → [] ≡ take {A = Var} k []
  at zero = refl
  at (suc k) = refl
few_left zero (x ∷ xs) le = absurd (omega (arith, le))
few_left (suc count) (x ∷ xs) le = ap (λ (l : List Var). x ∷ l) (few_left count xs (omega (arith, le)))
