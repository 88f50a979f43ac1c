-- One variable of a list gets a value.
use Rattle.std.proofs.Common.{◌≡◌, ℕ, zero, suc, List, [], ◌∷◌, ◌++◌, Option, Some, None, Bool, true, false, refl, sym, ap, ◌∙◌, subst, ◌⊎◌, inl, inr, eqb-true, eq-eqb}
use Rattle.std.specs.Prelude.{take, reverse, cond, nat_eq, ◌&&◌, ◌||◌}
use Rattle.std.specs.List.{find}
use Rattle.std.proofs.lemmas.List.{reverse-append, reverse-reverse}
use Rattle.jn_base.specs.declared.tree.Name.{Name}
use Rattle.jn_base.specs.declared.names.Var.{Var}
use Rattle.jn_base.specs.Paths.{Path}
use Rattle.jn_base.specs.Atoms.{Among, first, later}
use Rattle.jn_base.specs.Resolve.{is_class}
use Rattle.jn_sem.specs.Values.{Value}
use Rattle.jn_sem.specs.State.{Variable, view_of_var, declared_vars, view_in, has_null_path, is_null, is_null_path, variable, is_named, first_assigned, assigned}
use Rattle.jn_sound.specs.Takes.{OwnPaths}
use Rattle.jn_sound.proofs.Known.{declared_among}

-- the others stay
pub data Assigned (v : Value) (y : Variable) : List Variable → List Variable → Type 0 where
  here : {xs : List Variable} → Assigned v y (y ∷ xs) (record y { value = v } ∷ xs)
  there : {x : Variable} {xs ys : List Variable} → Assigned v y xs ys → Assigned v y (x ∷ xs) (x ∷ ys)

-- ---- the newest variable of a name gets it

first_is : (xs : List Variable) (x : Name) (v : Value) (y : Variable) → find (is_named x) xs ≡ Some y
    → Assigned v y xs (first_assigned xs x v)
first_is [] x v y e = absurd (no e) where
  no : None ≡ Some y → ⊥
  no e = cc
first_is (z ∷ zs) x v y e = at (nat_eq z.var.name.0 x.0) e (first_is zs x v y) where
  same : Some z ≡ Some y → z ≡ y
  same e = cc

  at : (b : Bool) → cond b (Some z) (find (is_named x) zs) ≡ Some y
      → (find (is_named x) zs ≡ Some y → Assigned v y zs (first_assigned zs x v))
      → Assigned v y (z ∷ zs) (cond b (record z { value = v } ∷ zs) (z ∷ first_assigned zs x v))
  at true e again =
      subst (λ (u : Variable). Assigned v u (z ∷ zs) (record z { value = v } ∷ zs)) (same e) here
  at false e again = there (again e)

onto : {v : Value} {y : Variable} {xs ys : List Variable} (zs : List Variable) → Assigned v y xs ys
    → Assigned v y (xs ++ zs) (ys ++ zs)
onto zs here = here
onto zs (there a) = there (onto zs a)

behind : {v : Value} {y : Variable} {xs ys : List Variable} (zs : List Variable) → Assigned v y xs ys
    → Assigned v y (zs ++ xs) (zs ++ ys)
behind [] a = a
behind (z ∷ zs) a = there (behind zs a)

of_both : {v : Value} {y : Variable} {xs ys us ws : List Variable} → us ≡ xs → ws ≡ ys → Assigned v y xs ys
    → Assigned v y us ws
of_both {v} {y} {xs} {ys} {us} d e a =
    subst (λ (l : List Variable). Assigned v y us l) (sym e)
    (subst (λ (l : List Variable). Assigned v y l ys) (sym d) a)

back : {v : Value} {y : Variable} {xs ys : List Variable} → Assigned v y xs ys
    → Assigned v y (reverse xs) (reverse ys)
back {v} {y} (here {xs = xs}) =
    of_both (reverse-append (y ∷ []) xs) (reverse-append (record y { value = v } ∷ []) xs) (behind (reverse xs) here)
back (there {x = x} {xs = xs} {ys = ys} a) =
    of_both (reverse-append (x ∷ []) xs) (reverse-append (x ∷ []) ys) (onto (x ∷ []) (back a))

pub assigned_is : (xs : List Variable) (x : Name) (v : Value) (y : Variable) → variable xs x ≡ Some y
    → Assigned v y xs (assigned xs x v)
assigned_is xs x v y e =
    subst (λ (l : List Variable). Assigned v y l (assigned xs x v)) (reverse-reverse xs)
    (back (first_is (reverse xs) x v y e))

-- ---- what stays, and what does not

pub among_assigned : {v : Value} {y : Variable} {xs ys : List Variable} → Assigned v y xs ys → Among xs y
among_assigned here = first
among_assigned (there a) = later (among_assigned a)

pub declared_assigned : {v : Value} {y : Variable} {xs ys : List Variable} → Assigned v y xs ys
    → declared_vars ys ≡ declared_vars xs
declared_assigned here = refl
declared_assigned (there {x = x} a) = ap (λ (l : List Var). x.var ∷ l) (declared_assigned a)

pub view_other : {v : Value} {y : Variable} {xs ys : List Variable} (n q : ℕ) → Assigned v y xs ys
    → (q ≡ y.var.path → ⊥) → view_of_var (take n ys) q ≡ view_of_var (take n xs) q
view_other zero q a o = refl
view_other {v} {y} (suc n) q (here {xs = xs}) o = at (nat_eq q y.var.path) refl where
  at : (b : Bool) → nat_eq q y.var.path ≡ b
      → cond b (view_in v) (view_of_var (take n xs) q) ≡ cond b (view_in y.value) (view_of_var (take n xs) q)
  at true e = absurd (o (eqb-true q y.var.path e))
  at false e = refl
view_other (suc n) q (there {x = x} a) o =
    ap (λ (u : Option Path). cond (nat_eq q x.var.path) (view_in x.value) u) (view_other n q a o)

pub view_whole : {v : Value} {y : Variable} {xs ys : List Variable} (q : ℕ) → Assigned v y xs ys
    → (q ≡ y.var.path → ⊥) → view_of_var ys q ≡ view_of_var xs q
view_whole {v} {y} q (here {xs = xs}) o = at (nat_eq q y.var.path) refl where
  at : (b : Bool) → nat_eq q y.var.path ≡ b
      → cond b (view_in v) (view_of_var xs q) ≡ cond b (view_in y.value) (view_of_var xs q)
  at true e = absurd (o (eqb-true q y.var.path e))
  at false e = refl
view_whole q (there {x = x} a) o =
    ap (λ (u : Option Path). cond (nat_eq q x.var.path) (view_in x.value) u) (view_whole q a o)

pub view_own : {v : Value} {y : Variable} {xs ys : List Variable} → Assigned v y xs ys → OwnPaths (declared_vars xs)
    → view_of_var ys y.var.path ≡ view_in v
view_own {v} {y} (here {xs = xs}) own =
    ap (λ (b : Bool). cond b (view_in v) (view_of_var xs y.var.path)) (eq-eqb y.var.path y.var.path refl)
view_own {v} {y} (there {x = x} {xs = xs} {ys = ys} a) own =
    at (nat_eq y.var.path x.var.path) refl (view_own a own.0) where
      at : (b : Bool) → nat_eq y.var.path x.var.path ≡ b → view_of_var ys y.var.path ≡ view_in v
          → cond b (view_in x.value) (view_of_var ys y.var.path) ≡ view_in v
      at true e k =
          absurd (own.1 y.var (declared_among xs y (among_assigned a)) (eqb-true y.var.path x.var.path e))
      at false e k = k

-- a variable is the new one, or an old one with another path
pub members : {v : Value} {y : Variable} {xs ys : List Variable} (z : Variable) → Assigned v y xs ys
    → OwnPaths (declared_vars xs) → Among ys z
    → (z ≡ record y { value = v }) ⊎ (Among xs z × (z.var.path ≡ y.var.path → ⊥))
members _ here own first = inl refl
members z (here {xs = xs}) own (later m) = inr (later m, λ e. own.1 z.var (declared_among xs z m) e)
members {v} {y} _ (there {x = x} {xs = xs} a) own first =
    inr (first, λ e. own.1 y.var (declared_among xs y (among_assigned a)) (sym e))
members {v} {y} z (there {x = x} {xs = xs} a) own (later m) = at (members z a own.0 m) where
  at : (z ≡ record y { value = v }) ⊎ (Among xs z × (z.var.path ≡ y.var.path → ⊥))
      → (z ≡ record y { value = v }) ⊎ (Among (x ∷ xs) z × (z.var.path ≡ y.var.path → ⊥))
  at (inl e) = inl e
  at (inr k) = inr (later k.0, k.1)

pub null_assigned : {v : Value} {y : Variable} {xs ys : List Variable} → Assigned v y xs ys → y.var.fixed ≡ false
    → has_null_path xs ≡ false → has_null_path ys ≡ false
null_assigned {v} {y} (here {xs = xs}) nf e = at (is_null_path y) e where
  free : is_null_path (record y { value = v }) ≡ false
  free = ap (λ (b : Bool). b && (is_class y.var.ty && is_null v)) nf

  rest : (b : Bool) → (b || has_null_path xs) ≡ false → has_null_path xs ≡ false
  rest true e = cc
  rest false e = e

  at : (b : Bool) → (b || has_null_path xs) ≡ false
      → (is_null_path (record y { value = v }) || has_null_path xs) ≡ false
  at b e = ap (λ (c : Bool). c || has_null_path xs) free ∙ rest b e
null_assigned (there {x = x} {xs = xs} {ys = ys} a) nf e = at (is_null_path x) e (null_assigned a nf) where
  at : (b : Bool) → (b || has_null_path xs) ≡ false → (has_null_path xs ≡ false → has_null_path ys ≡ false)
      → (b || has_null_path ys) ≡ false
  at true e again = cc
  at false e again = again e

-- variables with one path are one
pub own_one : (vs : List Var) → OwnPaths vs → (u v : Var) → Among vs u → Among vs v → u.path ≡ v.path → u ≡ v
own_one _ own u _ first first e = refl
own_one _ own _ v first (later b) e = absurd (own.1 v b (sym e))
own_one _ own u _ (later a) first e = absurd (own.1 u a e)
own_one _ own u v (later a) (later b) e = own_one _ own.0 u v a b e

pub not_this_path : (vs : List Var) → OwnPaths vs → (v : Var) → Among vs v → v.path ≡ 0 → ⊥
not_this_path _ own _ first e = own.2 e
not_this_path _ own v (later a) e = not_this_path _ own.0 v a e
