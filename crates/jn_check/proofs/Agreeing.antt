-- Scopes that are the same but for masks fit alike.
use Rattle.std.proofs.Common.{◌≡◌, ◌<◌, ◌≤◌, ◌^◌, ◌&&◌, ℕ, List, [], ◌∷◌, length, map, Bool, true, false, cond, nat_eq, Result, Ok, refl, sym, ap, ◌∙◌, subst, All, inl, inr, arith, eqb-true}
use Rattle.std.proofs.lemmas.List.Elements.{All-cons, All-nil}
use mathlib.Core.Path.{fun_ext}
use Rattle.jn_base.specs.declared.tree.Program.{Program}
use Rattle.jn_base.specs.declared.types.Anchor.{Anchor}
use Rattle.jn_base.specs.declared.types.Anchor.TheVariants.{Root, Up}
use Rattle.jn_base.specs.declared.types.Masks.{Masks}
use Rattle.jn_base.specs.declared.types.Ty.{Ty}
use Rattle.jn_base.specs.declared.types.Ty.TheVariants as ty
use Rattle.jn_base.specs.declared.refusal.Refusal.{Refusal}
use Rattle.jn_base.specs.Paths.{Path}
use Rattle.jn_base.specs.Atoms.{Atom, atoms_in, atom_at, Among, first, later, first_at, no_masks, MasksOf}
use Rattle.jn_base.specs.Scopes.{Bind, Scope, bound_of, Binds, this_bind, this_type}
use Rattle.jn_base.specs.Fits.{Anchored, AtomsFit, IsClassType, BindsFit, ScopeFits}
use Rattle.jn_base.specs.Resolve.{is_class}
use Rattle.jn_sem.proofs.NormalTypes.{among_map, map_among}
use Rattle.jn_rules.specs.Plans.{EitherMasks, done, ask}
use Rattle.jn_rules.specs.Questions.{masks_of, InEither, Gives}
use Rattle.jn_rules.specs.Stmts.{remasked, with_masks, joined_type, joined}
use Rattle.jn_rules.proofs.PlanLaws.{then_came}
use Rattle.jn_rule_laws.proofs.Masks.{masks_of_once}
use Rattle.jn_laws.specs.LawsOfScopes.{ScopesAlike, none as none_alike, one as one_alike, BindsAlike}
use Rattle.jn_check.specs.Masks.{bare, bare_type}
use Rattle.jn_check.proofs.Masking.{remasked_own}

-- ---- types without masks

pub atoms_bare : (q : ℕ) (t : Ty) → atoms_in (bare_type q t) ≡ atoms_in t
atoms_bare q t = at (nat_eq q 0) t where
  at : (b : Bool) (t : Ty) → atoms_in (cond b t (remasked no_masks t)) ≡ atoms_in t
  at true t = refl
  at false (ty.Class xs m) = refl
  at false ty.Int = refl
  at false ty.Bool = refl
  at false ty.Null = refl
  at false ty.Void = refl

class_bare : (q : ℕ) (t : Ty) → IsClassType (bare_type q t) → IsClassType t
class_bare q t = at (nat_eq q 0) t where
  at : (b : Bool) (t : Ty) → IsClassType (cond b t (remasked no_masks t)) → IsClassType t
  at true t h = h
  at false (ty.Class xs m) h = h
  at false ty.Int h = h
  at false ty.Bool h = h
  at false ty.Null h = h
  at false ty.Void h = h

bare_class : (q : ℕ) (t : Ty) → IsClassType t → IsClassType (bare_type q t)
bare_class q t = at (nat_eq q 0) t where
  at : (b : Bool) (t : Ty) → IsClassType t → IsClassType (cond b t (remasked no_masks t))
  at true t h = h
  at false (ty.Class xs m) h = h
  at false ty.Int h = h
  at false ty.Bool h = h
  at false ty.Null h = h
  at false ty.Void h = h

-- ---- bounds

bound_of_bare : (s : Scope) (q : ℕ) → bound_of (map bare s) q ≡ bound_of s q
bound_of_bare [] q = refl
bound_of_bare (b ∷ s) q =
    ap (λ (f : ℕ → Path). cond (nat_eq q b.path) (first_at f (atoms_in (bare_type b.path b.ty))) (f q)) (fun_ext (bound_of_bare s))
    ∙ ap (λ (xs : List Atom). cond (nat_eq q b.path) (first_at (bound_of s) xs) (bound_of s q)) (atoms_bare b.path b.ty)

bounds_bare : (s : Scope) → bound_of (map bare s) ≡ bound_of s
bounds_bare s = fun_ext (bound_of_bare s)

binds_bare : (s : Scope) (q : ℕ) → Binds s q → Binds (map bare s) q
binds_bare s q h = record { bind = bare h.bind; among = among_map bare s h.bind h.among; is = h.is }

bare_binds : (s : Scope) (q : ℕ) → Binds (map bare s) q → Binds s q
bare_binds s q h = let r = map_among bare s h.bind h.among in record { bind = r.0; among = r.1; is = ap (λ (b : Bind). b.path) r.2 ∙ h.is }

-- ---- fitting

anchored_bare : (s : Scope) (a : Anchor) → Anchored s a → Anchored (map bare s) a
anchored_bare s Root h = h
anchored_bare s (Up q k) h = (binds_bare s q h.0, subst (λ (R : Path). k < length R) (sym (bound_of_bare s q)) h.1)

bare_anchored : (s : Scope) (a : Anchor) → Anchored (map bare s) a → Anchored s a
bare_anchored s Root h = h
bare_anchored s (Up q k) h = (bare_binds s q h.0, subst (λ (R : Path). k < length R) (bound_of_bare s q) h.1)

atoms_fit_bare : (s : Scope) (xs : List Atom) → AtomsFit s xs → AtomsFit (map bare s) xs
atoms_fit_bare s xs h = record {
  one = h.one;
  among = h.among;
  anchored = λ x m. anchored_bare s x.anchor (h.anchored x m);
  depth = λ x m. subst (λ (f : ℕ → Path). length (atom_at f x) ≡ length (atom_at f h.one)) (sym (bounds_bare s)) (h.depth x m);
  shallow = subst (λ (f : ℕ → Path). length (atom_at f h.one) ≤ 255) (sym (bounds_bare s)) h.shallow;
}

bare_atoms_fit : (s : Scope) (xs : List Atom) → AtomsFit (map bare s) xs → AtomsFit s xs
bare_atoms_fit s xs h = record {
  one = h.one;
  among = h.among;
  anchored = λ x m. bare_anchored s x.anchor (h.anchored x m);
  depth = λ x m. subst (λ (f : ℕ → Path). length (atom_at f x) ≡ length (atom_at f h.one)) (bounds_bare s) (h.depth x m);
  shallow = subst (λ (f : ℕ → Path). length (atom_at f h.one) ≤ 255) (bounds_bare s) h.shallow;
}

fits_bare : (s : Scope) → BindsFit s → BindsFit (map bare s)
fits_bare [] h = tt
fits_bare (b ∷ s) h = (
  fits_bare s h.0,
  λ k. h.1 (bare_binds s b.path k),
  record { atoms = λ c. subst (AtomsFit (map bare s)) (sym (atoms_bare b.path b.ty)) (atoms_fit_bare s (atoms_in b.ty) (h.2.atoms (class_bare b.path b.ty c))) },
)

bare_fits : (s : Scope) → BindsFit (map bare s) → BindsFit s
bare_fits [] h = tt
bare_fits (b ∷ s) h = (
  bare_fits s h.0,
  λ k. h.1 (binds_bare s b.path k),
  record { atoms = λ c. bare_atoms_fit s (atoms_in b.ty) (subst (AtomsFit (map bare s)) (atoms_bare b.path b.ty) (h.2.atoms (bare_class b.path b.ty c))) },
)

-- a bind that is that of `this` but for masks is that of `this`
this_alone : (b : Bind) (Q : Path) → bare b ≡ this_bind Q → b ≡ this_bind Q
this_alone b Q e = from_zero (ap (λ (c : Bind). c.path) e) (ap (λ (c : Bind). c.ty) e) where
  from_zero : b.path ≡ 0 → bare_type b.path b.ty ≡ this_type Q → b ≡ this_bind Q
  from_zero z t =
      ap (λ (q : ℕ). let c : Bind = record { path = q; ty = b.ty } in c) z
      ∙ ap (λ (u : Ty). let c : Bind = record { path = 0; ty = u } in c) (subst (λ (q : ℕ). bare_type q b.ty ≡ this_type Q) z t)

-- what is the same but for masks as a scope that fits, fits
pub scope_fits_as : (s t : Scope) (Q : Path) → map bare s ≡ map bare t → BindsFit t → Among t (this_bind Q) → ScopeFits s
scope_fits_as s t Q e f m =
    let r = map_among bare s (this_bind Q) (subst (λ (x : Scope). Among x (this_bind Q)) (sym e) (among_map bare t (this_bind Q) m)) in record {
      binds = bare_fits s (subst BindsFit (sym e) (fits_bare t f));
      class_of_this = Q;
      this = subst (Among s) (this_alone r.0 Q r.2) r.1;
    }

-- ---- scopes that are the same but for masks

is_class_bare : (q : ℕ) (t : Ty) → is_class (bare_type q t) ≡ is_class t
is_class_bare q t = at (nat_eq q 0) t where
  at : (b : Bool) (t : Ty) → is_class (cond b t (remasked no_masks t)) ≡ is_class t
  at true t = refl
  at false (ty.Class xs m) = refl
  at false ty.Int = refl
  at false ty.Bool = refl
  at false ty.Null = refl
  at false ty.Void = refl

pub alike_bare : (s t : Scope) → map bare s ≡ map bare t → ScopesAlike t s
alike_bare [] [] e = none_alike
alike_bare [] (c ∷ t) e = absurd (no e) where
  no : ◌≡◌ {A = List Bind} [] (bare c ∷ map bare t) → ⊥
  no e = cc
alike_bare (b ∷ s) [] e = absurd (no e) where
  no : ◌≡◌ {A = List Bind} (bare b ∷ map bare s) [] → ⊥
  no e = cc
alike_bare (b ∷ s) (c ∷ t) e = one_alike alike (alike_bare s t (behind e)) where
  front : bare b ∷ map bare s ≡ bare c ∷ map bare t → bare b ≡ bare c
  front e = cc

  behind : bare b ∷ map bare s ≡ bare c ∷ map bare t → map bare s ≡ map bare t
  behind e = cc

  alike : BindsAlike c b
  alike = record {
    path = ap (λ (d : Bind). d.path) (front e);
    atoms = sym (atoms_bare b.path b.ty) ∙ (ap (λ (d : Bind). atoms_in d.ty) (front e) ∙ atoms_bare c.path c.ty);
    class = sym (is_class_bare b.path b.ty) ∙ (ap (λ (d : Bind). is_class d.ty) (front e) ∙ is_class_bare c.path c.ty);
  }

-- ---- other masks

again : (m n : Masks) (t : Ty) → remasked m (remasked n t) ≡ remasked m t
again m n (ty.Class xs k) = refl
again m n ty.Int = refl
again m n ty.Bool = refl
again m n ty.Null = refl
again m n ty.Void = refl

bare_remasked : (q : ℕ) (m : Masks) (t : Ty) → nat_eq q 0 ≡ false → bare_type q (remasked m t) ≡ bare_type q t
bare_remasked q m t e = at (nat_eq q 0) e where
  at : (b : Bool) → b ≡ false → cond b (remasked m t) (remasked no_masks (remasked m t)) ≡ cond b t (remasked no_masks t)
  at true h = cc
  at false h = again no_masks m t

pub with_masks_bare : (s : Scope) (q : ℕ) (m : Masks) → nat_eq q 0 ≡ false → map bare (with_masks s q m) ≡ map bare s
with_masks_bare [] q m e = refl
with_masks_bare (b ∷ s) q m e = at (with_masks_bare s q m e) (nat_eq q b.path) refl where
  at : map bare (with_masks s q m) ≡ map bare s → (t : Bool) → nat_eq q b.path ≡ t → map bare (cond t (record b { ty = remasked m b.ty } ∷ s) (b ∷ with_masks s q m)) ≡ map bare (b ∷ s)
  at rest true h =
      ap (λ (t : Ty). let c : Bind = record { path = b.path; ty = t } in c ∷ map bare s)
      (bare_remasked b.path m b.ty (subst (λ (k : ℕ). nat_eq k 0 ≡ false) (eqb-true q b.path h) e))
  at rest false h = ap (λ (x : Scope). bare b ∷ x) rest

-- ---- the masks of two ends

ok_is : {A : Type 0} {a b : A} → (let e : Result A Refusal = Ok a in e ≡ Ok b) → a ≡ b
ok_is e = cc

-- each bind of path 0 has no masks
abbrev pub Zeroed : Scope → Type 0
Zeroed s = (b : Bind) → Among s b → b.path ≡ 0 → masks_of b.ty ≡ no_masks

none_wide : All (λ w. w < 2 ^ 64) no_masks.0
none_wide =
    All-cons (λ w. w < 2 ^ 64) 0 (0 ∷ 0 ∷ 0 ∷ []) (omega arith)
    (All-cons (λ w. w < 2 ^ 64) 0 (0 ∷ 0 ∷ []) (omega arith)
    (All-cons (λ w. w < 2 ^ 64) 0 (0 ∷ []) (omega arith) (All-cons (λ w. w < 2 ^ 64) 0 [] (omega arith) (All-nil (λ w. w < 2 ^ 64)))))

none_either : MasksOf (InEither no_masks no_masks) no_masks
none_either = record { words = refl; wide = none_wide; each = λ i l. (λ h. inl h, λ h. elim h [ inl k ↦ k | inr k ↦ k ]) }

module _ (p : Program) (q : ℕ) (t u v : Ty) (same : bare_type q t ≡ bare_type q u) (zero : q ≡ 0 → masks_of t ≡ no_masks) where
  kept_at : q ≡ 0 → (m : Masks) → MasksOf (InEither (masks_of t) (masks_of u)) m → remasked m t ≡ t
  kept_at z m k =
      let e : t ≡ u = subst (λ (r : ℕ). bare_type r t ≡ bare_type r u) z same in
      let j : MasksOf (InEither no_masks no_masks) m =
      subst (λ (n : Masks). MasksOf (InEither n no_masks) m) (zero z)
      (subst (λ (n : Masks). MasksOf (InEither (masks_of t) n) m) (sym (ap masks_of e) ∙ zero z) k) in
      ap (λ (n : Masks). remasked n t) (masks_of_once (InEither no_masks no_masks) m no_masks j none_either ∙ sym (zero z)) ∙ remasked_own t

  -- the type keeps its masks at path 0, and else has others at most
  joined_type_bare : Gives p (joined_type t u) (Ok v) → bare_type q v ≡ bare_type q t
  joined_type_bare g = at (is_class t && is_class u) g where
    by_path : (m : Masks) → MasksOf (InEither (masks_of t) (masks_of u)) m → (b : Bool) → nat_eq q 0 ≡ b → bare_type q (remasked m t) ≡ bare_type q t
    by_path m k true e = ap (bare_type q) (kept_at (eqb-true q 0 e) m k)
    by_path m k false e = bare_remasked q m t e

    at : (b : Bool) → Gives p (cond b (ask (EitherMasks (masks_of t) (masks_of u)) (λ m. done (remasked m t))) (done t)) (Ok v) → bare_type q v ≡ bare_type q t
    at true h = ap (bare_type q) (ok_is h.2) ∙ by_path h.0 h.1 (nat_eq q 0) refl
    at false h = ap (bare_type q) (ok_is h)

bare_head : (b c : Bind) (s t : Scope) → map bare (b ∷ s) ≡ map bare (c ∷ t) → bare b ≡ bare c
bare_head b c s t e = cc

bare_tail : (b c : Bind) (s t : Scope) → map bare (b ∷ s) ≡ map bare (c ∷ t) → map bare s ≡ map bare t
bare_tail b c s t e = cc

pub joined_bare : (p : Program) (s t v : Scope) → Zeroed s → map bare s ≡ map bare t → Gives p (joined s t) (Ok v) → map bare v ≡ map bare s
joined_bare p [] t v z e g = ap (map bare) (ok_is g)
joined_bare p (b ∷ s) [] v z e g = ap (map bare) (ok_is g)
joined_bare p (b ∷ s) (c ∷ t) v z e g =
    let h = then_came (joined_type b.ty c.ty) _ v g in
    let k = then_came (joined s t) (λ w. done (record b { ty = h.first } ∷ w)) v h.then in
    let same : bare b ≡ bare c = bare_head b c s t e in
    let types : bare_type b.path b.ty ≡ bare_type b.path c.ty =
    ap (λ (x : Bind). x.ty) same ∙ ap (λ (r : ℕ). bare_type r c.ty) (sym (ap (λ (x : Bind). x.path) same)) in
    ap (map bare) (ok_is k.then)
    ∙ (ap (λ (u : Ty). let x : Bind = record { path = b.path; ty = u } in x ∷ map bare k.first)
    (joined_type_bare p b.path b.ty c.ty h.first types (z b first) h.gave)
    ∙ ap (λ (x : Scope). bare b ∷ x) (joined_bare p s t k.first (λ d m. z d (later m)) (bare_tail b c s t e) k.gave))

-- the paths of a scope that fits are apart
one_bind : (s : Scope) (b c : Bind) → BindsFit s → Among s b → Among s c → b.path ≡ c.path → b ≡ c
one_bind [] b c f m n e = elim m [ ]
one_bind (a ∷ s) _ _ f first first e = refl
one_bind (a ∷ s) _ c f first (later n) e = absurd (f.1 (record { bind = c; among = n; is = sym e }))
one_bind (a ∷ s) b _ f (later m) first e = absurd (f.1 (record { bind = b; among = m; is = e }))
one_bind (a ∷ s) b c f (later m) (later n) e = one_bind s b c f.0 m n e

pub zeroed : (s t : Scope) (Q : Path) → map bare s ≡ map bare t → BindsFit t → Among t (this_bind Q) → Zeroed s
zeroed s t Q e f m b n z =
    let r = map_among bare t (bare b) (subst (λ (x : Scope). Among x (bare b)) e (among_map bare s b n)) in
    let path : r.0.path ≡ 0 = ap (λ (x : Bind). x.path) r.2 ∙ z in
    let this : r.0 ≡ this_bind Q = one_bind t r.0 (this_bind Q) f r.1 m path in
    let is : b ≡ this_bind Q = this_alone b Q (sym r.2 ∙ ap bare this) in
    ap (λ (x : Bind). masks_of x.ty) is
