-- Variables with their values, by their places.
use Rattle.std.proofs.Common.{◌≡◌, ◌<◌, ℕ, zero, suc, ◌+◌, List, [], ◌∷◌, ◌++◌, length, take, drop, reverse, Option, Some, None, Bool, true, false, refl, sym, ap, ◌∙◌, subst, arith, add-one}
use Rattle.std.proofs.lemmas.Bool.Decides.{nat_tests}
use Rattle.std.specs.Prelude.{cond, nat_eq, slice_get, slice_set, ◌||◌}
use Rattle.std.specs.Option.{option_map}
use Rattle.std.specs.List.{find, list_any}
use Rattle.std.proofs.lemmas.List.{reverse-append, reverse-reverse}
use Rattle.jn_base.specs.declared.path.Path.{Path as ShownPath}
use Rattle.jn_base.specs.declared.tree.Name.{Name}
use Rattle.jn_base.specs.declared.names.Var.{Var}
use Rattle.jn_base.specs.Paths.{Path}
use Rattle.jn_sem.specs.Values as sem
use Rattle.jn_sem.specs.State.{Variable, with_values, declared_vars, is_named, variable, first_assigned, assigned, view_of_var}
use Rattle.jn_sem.specs.State as state
use Rattle.jn_sem.specs.Does.{bound_to}
use Rattle.jn_meaning.specs.declared.value.Value.{Value}
use Rattle.jn_meaning.specs.declared.value.Value.TheVariants as value
use Rattle.jn_meaning.specs.declared.locals.Locals.{Locals}
use Rattle.jn_meaning.specs.Values.{path_at, value_of, values_of}
use Rattle.jn_meaning.specs.Frames.{variables_of}
use Rattle.jn_meaning.specs.Newest.{NoneFrom, NamedAt, IsNewest, view_in, view_among}

-- ---- values

pub values_push : (known : List ShownPath) (vs : List Value) (v : Value) → values_of known (vs ++ v ∷ []) ≡ values_of known vs ++ value_of known v ∷ []
values_push known [] v = refl
values_push known (w ∷ vs) v = ap (λ (us : List sem.Value). value_of known w ∷ us) (values_push known vs v)

pub values_take : (known : List ShownPath) (n : ℕ) (vs : List Value) → values_of known (take n vs) ≡ take n (values_of known vs)
values_take known zero vs = refl
values_take known (suc n) [] = refl
values_take known (suc n) (v ∷ vs) = ap (λ (us : List sem.Value). value_of known v ∷ us) (values_take known n vs)

pub values_set : (known : List ShownPath) (vs : List Value) (i : ℕ) (v : Value) → values_of known (slice_set vs i v) ≡ slice_set (values_of known vs) i (value_of known v)
values_set known [] i v = refl
values_set known (w ∷ vs) zero v = refl
values_set known (w ∷ vs) (suc i) v = ap (λ (us : List sem.Value). value_of known w ∷ us) (values_set known vs i v)

pub values_long : (known : List ShownPath) (vs : List Value) → length (values_of known vs) ≡ length vs
values_long known [] = refl
values_long known (v ∷ vs) = ap suc (values_long known vs)

pub values_at : (known : List ShownPath) (vs : List Value) (i : ℕ) (v : Value) → slice_get vs i ≡ Some v → slice_get (values_of known vs) i ≡ Some (value_of known v)
values_at known [] i v e = cc
values_at known (w ∷ vs) zero v e = ap (option_map (value_of known)) e
values_at known (w ∷ vs) (suc i) v e = values_at known vs i v e

-- ---- with their variables

pub with_push : (xs : List Var) (vs : List sem.Value) (x : Var) (v : sem.Value) → length xs ≡ length vs
    → with_values (xs ++ x ∷ []) (vs ++ v ∷ []) ≡ with_values xs vs ++ bound_to x v ∷ []
with_push [] [] x v e = refl
with_push [] (w ∷ vs) x v e = absurd (omega (arith, e))
with_push (y ∷ xs) [] x v e = absurd (omega (arith, e))
with_push (y ∷ xs) (w ∷ vs) x v e = ap (λ (us : List Variable). bound_to y w ∷ us) (with_push xs vs x v (omega (arith, e)))

pub with_take : (n : ℕ) (xs : List Var) (vs : List sem.Value) → with_values (take n xs) (take n vs) ≡ take n (with_values xs vs)
with_take zero xs vs = refl
with_take (suc n) [] vs = refl
with_take (suc n) (x ∷ xs) [] = refl
with_take (suc n) (x ∷ xs) (v ∷ vs) = ap (λ (us : List Variable). bound_to x v ∷ us) (with_take n xs vs)

pub with_declared : (xs : List Var) (vs : List sem.Value) → length xs ≡ length vs → declared_vars (with_values xs vs) ≡ xs
with_declared [] vs e = refl
with_declared (x ∷ xs) [] e = absurd (omega (arith, e))
with_declared (x ∷ xs) (v ∷ vs) e = ap (λ (us : List Var). x ∷ us) (with_declared xs vs (omega (arith, e)))

pub with_long : (xs : List Var) (vs : List sem.Value) → length xs ≡ length vs → length (with_values xs vs) ≡ length xs
with_long [] vs e = refl
with_long (x ∷ xs) [] e = absurd (omega (arith, e))
with_long (x ∷ xs) (v ∷ vs) e = ap suc (with_long xs vs (omega (arith, e)))

-- ---- the newest variable of a name

abbrev or_else : Option Variable → Option Variable → Option Variable
or_else None o = o
or_else (Some x) o = Some x

found_first : (b : Bool) (x : Variable) (o q : Option Variable) → cond b (Some x) (or_else o q) ≡ or_else (cond b (Some x) o) q
found_first true x o q = refl
found_first false x o q = refl

find_behind : (P : Variable → Bool) (xs ys : List Variable) → find P (xs ++ ys) ≡ or_else (find P xs) (find P ys)
find_behind P [] ys = refl
find_behind P (x ∷ xs) ys = ap (cond (P x) (Some x)) (find_behind P xs ys) ∙ found_first (P x) x (find P xs) (find P ys)

variable_first : (y : Variable) (ys : List Variable) (x : Name) → variable (y ∷ ys) x ≡ or_else (variable ys x) (cond (is_named x y) (Some y) None)
variable_first y ys x = ap (find (is_named x)) (reverse-append (y ∷ []) ys) ∙ find_behind (is_named x) (reverse ys) (y ∷ [])

none_behind : (y : Var) (ys : List Var) (x : Name) (i : ℕ) → NoneFrom (y ∷ ys) x (suc i) → NoneFrom ys x i
none_behind y ys x i h k z e n = h (suc k) z e (λ l. n (omega (arith, l)))

none_at_all : (y : Var) (ys : List Var) (x : Name) → NoneFrom (y ∷ ys) x 0 → NoneFrom ys x 0
none_at_all y ys x h k z e n = h (suc k) z e (λ l. omega (arith, l))

pub newest_none : (vars : List Var) (vs : List sem.Value) (x : Name) → IsNewest vars x None → variable (with_values vars vs) x ≡ None
newest_none [] vs x h = refl
newest_none (y ∷ ys) [] x h = refl
newest_none (y ∷ ys) (v ∷ vs) x h =
    variable_first (bound_to y v) (with_values ys vs) x
    ∙ ap (λ (o : Option Variable). or_else o (cond (nat_eq y.name.0 x.0) (Some (bound_to y v)) None)) (newest_none ys vs x (none_at_all y ys x h))
    ∙ ap (λ (b : Bool). cond b (Some (bound_to y v)) None) (h 0 y refl (λ l. omega (arith, l)))

abbrev NameOf : Option Var → Name → Type 0
NameOf None n = ⊥
NameOf (Some z) n = nat_eq z.name.0 n.0 ≡ true

pub newest_some : (vars : List Var) (vs : List sem.Value) (x : Name) (i : ℕ) (v : sem.Value) → NamedAt vars x i → NoneFrom vars x (suc i) → slice_get vs i ≡ Some v
    → (y : Var) × (slice_get vars i ≡ Some y) × (variable (with_values vars vs) x ≡ Some (bound_to y v))
newest_some [] vs x i v at none e = absurd (let h = at.at in cc)
newest_some (y ∷ ys) [] x i v at none e = absurd (cc)
newest_some (y ∷ ys) (w ∷ vs) x zero v at none e =
    let named : nat_eq y.name.0 x.0 ≡ true = subst (λ (o : Option Var). NameOf o x) (sym at.at) at.named in (
      y,
      refl,
      variable_first (bound_to y w) (with_values ys vs) x
          ∙ ap (λ (o : Option Variable). or_else o (cond (nat_eq y.name.0 x.0) (Some (bound_to y w)) None)) (newest_none ys vs x (none_behind y ys x 0 none))
          ∙ ap (λ (b : Bool). cond b (Some (bound_to y w)) None) named
          ∙ ap (option_map (bound_to y)) e,
    )
newest_some (y ∷ ys) (w ∷ vs) x (suc i) v at none e =
    let r = newest_some ys vs x i v (record { var = at.var; at = at.at; named = at.named }) (none_behind y ys x (suc i) none) e in (
      r.0,
      r.1,
      variable_first (bound_to y w) (with_values ys vs) x
          ∙ ap (λ (o : Option Variable). or_else o (cond (nat_eq y.name.0 x.0) (Some (bound_to y w)) None)) r.2,
    )

-- ---- an assignment

assigned_first : (b : Bool) (y : Variable) (xs ws zs : List Variable) (c : Bool) (fs gs : List Variable) (z : Variable)
    → fs ≡ cond c (gs ++ zs) (xs ++ ws)
    → cond b (z ∷ (xs ++ zs)) (y ∷ fs) ≡ cond (b || c) (cond b (z ∷ xs) (y ∷ gs) ++ zs) (y ∷ (xs ++ ws))
assigned_first true y xs ws zs c fs gs z e = refl
assigned_first false y xs ws zs true fs gs z e = ap (λ (us : List Variable). y ∷ us) e
assigned_first false y xs ws zs false fs gs z e = ap (λ (us : List Variable). y ∷ us) e

assigned_behind : (xs zs : List Variable) (x : Name) (v : sem.Value)
    → first_assigned (xs ++ zs) x v ≡ cond (list_any (is_named x) xs) (first_assigned xs x v ++ zs) (xs ++ first_assigned zs x v)
assigned_behind [] zs x v = refl
assigned_behind (y ∷ xs) zs x v =
    assigned_first (is_named x y) y xs (first_assigned zs x v) zs (list_any (is_named x) xs) (first_assigned (xs ++ zs) x v) (first_assigned xs x v) (record y { value = v }) (assigned_behind xs zs x v)

any_first : (b c : Bool) (x : Variable) (o : Option Variable) → cond b (Some x) o ≡ None → (o ≡ None → c ≡ false) → b || c ≡ false
any_first true c x o h f = absurd (cc)
any_first false c x o h f = f h

any_none : (P : Variable → Bool) (xs : List Variable) → find P xs ≡ None → list_any P xs ≡ false
any_none P [] e = refl
any_none P (x ∷ xs) e = any_first (P x) (list_any P xs) x (find P xs) e (any_none P xs)

any_later : (b c : Bool) (x y : Variable) (o : Option Variable) → cond b (Some x) o ≡ Some y → (o ≡ Some y → c ≡ true) → b || c ≡ true
any_later true c x y o h f = refl
any_later false c x y o h f = f h

any_some : (P : Variable → Bool) (xs : List Variable) (y : Variable) → find P xs ≡ Some y → list_any P xs ≡ true
any_some P [] y e = absurd (cc)
any_some P (x ∷ xs) y e = any_later (P x) (list_any P xs) x y (find P xs) e (any_some P xs y)

assigned_at : (y : Variable) (ys : List Variable) (x : Name) (v : sem.Value) (b : Bool) → list_any (is_named x) (reverse ys) ≡ b
    → assigned (y ∷ ys) x v ≡ cond b (y ∷ assigned ys x v) (cond (is_named x y) (record y { value = v } ∷ []) (y ∷ []) ++ ys)
assigned_at y ys x v b e =
    ap (λ (us : List Variable). reverse (first_assigned us x v)) (reverse-append (y ∷ []) ys)
    ∙ ap reverse (assigned_behind (reverse ys) (y ∷ []) x v ∙ ap (λ (c : Bool). cond c (first_assigned (reverse ys) x v ++ y ∷ []) (reverse ys ++ first_assigned (y ∷ []) x v)) e)
    ∙ turned b
  where
    last : (c : Bool) → reverse (reverse ys ++ cond c (record y { value = v } ∷ []) (y ∷ [])) ≡ cond c (record y { value = v } ∷ []) (y ∷ []) ++ ys
    last true = reverse-append (reverse ys) (record y { value = v } ∷ []) ∙ ap (λ (us : List Variable). record y { value = v } ∷ us) (reverse-reverse ys)
    last false = reverse-append (reverse ys) (y ∷ []) ∙ ap (λ (us : List Variable). y ∷ us) (reverse-reverse ys)

    turned : (c : Bool) → reverse (cond c (first_assigned (reverse ys) x v ++ y ∷ []) (reverse ys ++ first_assigned (y ∷ []) x v))
        ≡ cond c (y ∷ assigned ys x v) (cond (is_named x y) (record y { value = v } ∷ []) (y ∷ []) ++ ys)
    turned true = reverse-append (first_assigned (reverse ys) x v) (y ∷ [])
    turned false = last (is_named x y)

pub newest_assigned : (vars : List Var) (vs : List sem.Value) (x : Name) (i : ℕ) (w v : sem.Value) → NamedAt vars x i → NoneFrom vars x (suc i) → slice_get vs i ≡ Some w
    → assigned (with_values vars vs) x v ≡ with_values vars (slice_set vs i v)
newest_assigned [] vs x i w v at none e = absurd (let h = at.at in cc)
newest_assigned (y ∷ ys) [] x i w v at none e = absurd (cc)
newest_assigned (y ∷ ys) (u ∷ vs) x zero w v at none e =
    let named : nat_eq y.name.0 x.0 ≡ true = subst (λ (o : Option Var). NameOf o x) (sym at.at) at.named in
    assigned_at (bound_to y u) (with_values ys vs) x v false (any_none (is_named x) (reverse (with_values ys vs)) (newest_none ys vs x (none_behind y ys x 0 none)))
    ∙ ap (λ (b : Bool). cond b (bound_to y v ∷ []) (bound_to y u ∷ []) ++ with_values ys vs) named
newest_assigned (y ∷ ys) (u ∷ vs) x (suc i) w v at none e =
    let below : NamedAt ys x i = record { var = at.var; at = at.at; named = at.named } in
    let r = newest_some ys vs x i w below (none_behind y ys x (suc i) none) e in
    assigned_at (bound_to y u) (with_values ys vs) x v true (any_some (is_named x) (reverse (with_values ys vs)) _ r.2)
    ∙ ap (λ (us : List Variable). bound_to y u ∷ us) (newest_assigned ys vs x i w v below (none_behind y ys x (suc i) none) e)

-- ---- views

pub view_seen : (known : List ShownPath) (v : Value) → state.view_in (value_of known v) ≡ option_map (path_at known) (view_in v)
view_seen known (value.Number z) = refl
view_seen known (value.Truth b) = refl
view_seen known value.Null = refl
view_seen known (value.Reference o id) = refl

map_cond : {A B : Type 0} (f : A → B) (b : Bool) (o q : Option A) → cond b (option_map f o) (option_map f q) ≡ option_map f (cond b o q)
map_cond f true o q = refl
map_cond f false o q = refl

pub views_seen : (known : List ShownPath) (vars : List Var) (vs : List Value) (q : ℕ)
    → view_of_var (with_values vars (values_of known vs)) q ≡ option_map (path_at known) (view_among vars vs q)
views_seen known [] vs q = refl
views_seen known (x ∷ xs) [] q = refl
views_seen known (x ∷ xs) (v ∷ vs) q =
    ap (λ (o : Option Path). cond (nat_eq q x.path) o (view_of_var (with_values xs (values_of known vs)) q)) (view_seen known v)
    ∙ ap (cond (nat_eq q x.path) (option_map (path_at known) (view_in v))) (views_seen known xs vs q)
    ∙ map_cond (path_at known) (nat_eq q x.path) (view_in v) (view_among xs vs q)

among_next : (xs : List Var) (vs : List Value) (x : Var) (q i : ℕ) → slice_get xs i ≡ Some x → i < length vs → nat_eq q x.path ≡ false
    → view_among (drop i xs) (drop i vs) q ≡ view_among (drop (suc i) xs) (drop (suc i) vs) q
among_next [] vs x q i e l h = absurd (cc)
among_next (y ∷ xs) [] x q i e l h = absurd (omega (arith, l))
among_next (y ∷ xs) (w ∷ vs) x q zero e l h =
    let a : y ≡ x = cc in
    ap (λ (t : Bool). cond t (view_in w) (view_among xs vs q)) (ap (λ (z : Var). nat_eq q z.path) a ∙ h)
among_next (y ∷ xs) (w ∷ vs) x q (suc i) e l h = among_next xs vs x q i e (omega (arith, l)) h

pub among_more : (xs : List Var) (vs : List Value) (x : Var) (q i : ℕ) → slice_get xs i ≡ Some x → i < length vs → (x.path ≡ q → ⊥)
    → view_among (drop i xs) (drop i vs) q ≡ view_among xs vs q → view_among (drop (i + 1) xs) (drop (i + 1) vs) q ≡ view_among xs vs q
among_more xs vs x q i e l h so_far =
    let other : nat_eq q x.path ≡ false = grind (arith, nat_tests) in
    ap (λ (k : ℕ). view_among (drop k xs) (drop k vs) q) (add-one i) ∙ sym (among_next xs vs x q i e l other) ∙ so_far

-- as many variables as names
pub scope_long : (known : List ShownPath) (l : Locals) → length l.vars.list ≡ length l.values.items → length (variables_of known l) ≡ length l.vars.list
scope_long known l e = with_long l.vars.list (values_of known l.values.items) (e ∙ sym (values_long known l.values.items))
