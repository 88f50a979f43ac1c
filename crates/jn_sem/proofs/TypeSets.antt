-- Widening and substitution of whole types, for classes and for values.
use Rattle.std.proofs.Common.{◌≡◌, ◌↔◌, ◌++◌, ℕ, List, sym, ap, ◌∙◌, subst}
use Rattle.jn_base.specs.declared.tree.Name.{Name}
use Rattle.jn_base.specs.declared.tree.Program.{Program}
use Rattle.jn_base.specs.declared.types.Anchor.TheVariants.{Root}
use Rattle.jn_base.specs.declared.types.Masks.{Masks}
use Rattle.jn_base.specs.declared.types.Ty.{Ty}
use Rattle.jn_base.specs.declared.types.Ty.TheVariants as ty
use Rattle.jn_base.specs.Paths.{Path}
use Rattle.jn_base.specs.Atoms.{Atom, atoms_in, MasksWithin}
use Rattle.jn_base.specs.Scopes.{Scope}
use Rattle.jn_base.specs.Fits.{IsClassType, BindsFit}
use Rattle.jn_sem.specs.Sets.{Views, AnchorSeen, no_views, eval, Inside, InAtom, InType, Respects}
use Rattle.jn_sem.specs.Values.{Value, ValueIn, number, truth, null, no_object, object, FieldsFilled, Masked}
use Rattle.jn_sem.specs.Below.{Below, ints, booleans, nulls, classes}
use Rattle.jn_sem.specs.RootClosure.{Opens, closed, through, InRootClosure}
use Rattle.jn_sem.specs.Normal.{after, TypeSubst}
use Rattle.jn_sem.specs.LawsOfTypes.{TypeSeen}
use Rattle.jn_sem.proofs.Widenings.{below_in, closure_in}
use Rattle.jn_sem.proofs.Substitutions.{subst_in}
use Rattle.jn_sem.proofs.Under.{type_atoms}

-- widening

pub types_below : {p : Program} {s : Scope} {v : Views} → BindsFit s → Respects p v s → (t u : Ty) (V : Path) → Below p s t u → InType p v t V → InType p v u V
types_below f r _ _ V ints i = i
types_below f r _ _ V booleans i = i
types_below f r _ _ V nulls i = absurd i
types_below f r _ _ V (classes {xs = xs} {ys = ys} {m = m} {n = n} b w) i = below_in f r (atoms_in (ty.Class xs m)) (atoms_in (ty.Class ys n)) V b i

pub masked_more : {names : List Name} {m n : Masks} {f : Name} → MasksWithin m n → Masked names m f → Masked names n f
masked_more w h = record { number = h.number; has = w h.number h.has; name = h.name }

pub filled_more : (p : Program) (names : List Name) (Filled : Name → Type 0) (m n : Masks) (V : Path) → MasksWithin m n
    → FieldsFilled p names Filled m V → FieldsFilled p names Filled n V
filled_more p names Filled m n V w h f has free = h f has (λ i. free (masked_more w i))

pub values_below : {p : Program} {s : Scope} {v : Views} → BindsFit s → Respects p v s → (names : List Name) (Filled : ℕ → Path → Name → Type 0)
    → (t u : Ty) (value : Value) → Below p s t u → ValueIn p names v Filled t value → ValueIn p names v Filled u value
values_below f r names Filled _ _ value ints i = i
values_below f r names Filled _ _ value booleans i = i
values_below f r names Filled _ _ _ nulls null = no_object
values_below f r names Filled _ _ _ (classes b w) no_object = no_object
values_below {p} f r names Filled _ _ _ (classes {xs = xs} {ys = ys} {m = m} {n = n} b w) (object {o = o} {V = V} i h) =
    object (below_in f r (atoms_in (ty.Class xs m)) (atoms_in (ty.Class ys n)) V b i) (filled_more p names (Filled o V) m n V w h)

-- the root closure

rooted : {p : Program} {v : Views} {x : Atom} {V : Path} → x.anchor ≡ Root → InAtom p v x V → InAtom p no_views x V
rooted {p} {v} {x} {V} e m = record {
  seen = subst (AnchorSeen no_views) (sym e) tt;
  inside = subst (λ (E : Path). Inside p V (x.exact ++ E) x.names) (ap (eval v) e ∙ sym (ap (eval no_views) e)) m.inside;
}

opens_root : {p : Program} {s : Scope} {x z : Atom} → Opens p s x z → z.anchor ≡ Root
opens_root (closed e n) = e
opens_root (through b k w n a e c o) = opens_root o

pub types_closure : {p : Program} {s : Scope} {v : Views} → BindsFit s → Respects p v s → (t : Ty) (V : Path) → InType p v t V → InRootClosure p s t V
types_closure f r t V i z c = rooted (opens_root c.opens) (closure_in f r (atoms_in t) z V c (type_atoms t i).1)

-- substitution

pub classes_subst : {p : Program} {s : Scope} {v : Views} → Respects p v s → (f : ℕ → ℕ) (t u : Ty) (V : Path) → TypeSeen (after f v) t
    → TypeSubst s f t u → InType p (after f v) t V ↔ InType p v u V
classes_subst r f (ty.Class xs m) (ty.Class ys n) V seen i = subst_in r f (atoms_in (ty.Class xs m)) (atoms_in (ty.Class ys n)) V seen i.0
classes_subst r f (ty.Class xs m) ty.Int V seen i = absurd i
classes_subst r f (ty.Class xs m) ty.Bool V seen i = absurd i
classes_subst r f (ty.Class xs m) ty.Null V seen i = absurd i
classes_subst r f (ty.Class xs m) ty.Void V seen i = absurd i
classes_subst {p} {s} {v} r f ty.Int u V seen i = subst (λ (t : Ty). ⊥ ↔ InType p v t V) (sym i) (λ h. h, λ h. h)
classes_subst {p} {s} {v} r f ty.Bool u V seen i = subst (λ (t : Ty). ⊥ ↔ InType p v t V) (sym i) (λ h. h, λ h. h)
classes_subst {p} {s} {v} r f ty.Null u V seen i = subst (λ (t : Ty). ⊥ ↔ InType p v t V) (sym i) (λ h. h, λ h. h)
classes_subst {p} {s} {v} r f ty.Void u V seen i = subst (λ (t : Ty). ⊥ ↔ InType p v t V) (sym i) (λ h. h, λ h. h)

-- of a type without classes the views don't matter
plain_value : {p : Program} {names : List Name} {Filled : ℕ → Path → Name → Type 0} (v w : Views) (t : Ty) (value : Value) → (IsClassType t → ⊥)
    → ValueIn p names v Filled t value → ValueIn p names w Filled t value
plain_value v w _ _ h number = number
plain_value v w _ _ h truth = truth
plain_value v w _ _ h null = null
plain_value v w _ _ h no_object = no_object
plain_value v w _ _ h (object i f) = absurd (h tt)

pub values_subst : {p : Program} {s : Scope} {v : Views} → Respects p v s → (names : List Name) (Filled : ℕ → Path → Name → Type 0) (f : ℕ → ℕ)
    → (t u : Ty) (value : Value) → TypeSeen (after f v) t → TypeSubst s f t u → ValueIn p names (after f v) Filled t value ↔ ValueIn p names v Filled u value
values_subst {p} {s} {v} r names Filled f (ty.Class xs m) (ty.Class ys n) value seen i = (to value, back value) where
  classes : (V : Path) → InType p (after f v) (ty.Class xs m) V ↔ InType p v (ty.Class ys n) V
  classes V = classes_subst r f (ty.Class xs m) (ty.Class ys n) V seen i

  to : (w : Value) → ValueIn p names (after f v) Filled (ty.Class xs m) w → ValueIn p names v Filled (ty.Class ys n) w
  to _ no_object = no_object
  to _ (object {o = o} {V = V} h g) = object ((classes V).0 h) (subst (λ (k : Masks). FieldsFilled p names (Filled o V) k V) (sym i.1) g)

  back : (w : Value) → ValueIn p names v Filled (ty.Class ys n) w → ValueIn p names (after f v) Filled (ty.Class xs m) w
  back _ no_object = no_object
  back _ (object {o = o} {V = V} h g) = object ((classes V).1 h) (subst (λ (k : Masks). FieldsFilled p names (Filled o V) k V) i.1 g)
values_subst r names Filled f (ty.Class xs m) ty.Int value seen i = absurd i
values_subst r names Filled f (ty.Class xs m) ty.Bool value seen i = absurd i
values_subst r names Filled f (ty.Class xs m) ty.Null value seen i = absurd i
values_subst r names Filled f (ty.Class xs m) ty.Void value seen i = absurd i
values_subst {p} {s} {v} r names Filled f ty.Int u value seen i = subst (λ (t : Ty). ValueIn p names (after f v) Filled ty.Int value ↔ ValueIn p names v Filled t value) (sym i)
    (plain_value (after f v) v ty.Int value (λ h. h), plain_value v (after f v) ty.Int value (λ h. h))
values_subst {p} {s} {v} r names Filled f ty.Bool u value seen i = subst (λ (t : Ty). ValueIn p names (after f v) Filled ty.Bool value ↔ ValueIn p names v Filled t value) (sym i)
    (plain_value (after f v) v ty.Bool value (λ h. h), plain_value v (after f v) ty.Bool value (λ h. h))
values_subst {p} {s} {v} r names Filled f ty.Null u value seen i = subst (λ (t : Ty). ValueIn p names (after f v) Filled ty.Null value ↔ ValueIn p names v Filled t value) (sym i)
    (plain_value (after f v) v ty.Null value (λ h. h), plain_value v (after f v) ty.Null value (λ h. h))
values_subst {p} {s} {v} r names Filled f ty.Void u value seen i = subst (λ (t : Ty). ValueIn p names (after f v) Filled ty.Void value ↔ ValueIn p names v Filled t value) (sym i)
    (plain_value (after f v) v ty.Void value (λ h. h), plain_value v (after f v) ty.Void value (λ h. h))
