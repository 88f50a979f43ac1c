-- A call fits.
use Rattle.std.proofs.Common.{◌≡◌, ℕ, zero, suc, List, [], ◌∷◌, length, Option, Some, None, Bool, true, false, refl, sym, ap, ◌∙◌, subst, arith, eqb-true, eq-eqb}
use Rattle.std.specs.Prelude.{take, map, cond, nat_eq, ◌&&◌, ◌||◌, IsSome}
use Rattle.jn_base.specs.declared.tree.Program.{Program}
use Rattle.jn_base.specs.declared.types.Anchor.{Anchor}
use Rattle.jn_base.specs.declared.types.Anchor.TheVariants.{Root, Up}
use Rattle.jn_base.specs.declared.types.Ty.{Ty}
use Rattle.jn_base.specs.declared.types.Ty.TheVariants as ty
use Rattle.jn_base.specs.declared.names.Var.{Var}
use Rattle.jn_base.specs.Paths.{Path}
use Rattle.jn_base.specs.Atoms.{Atom, atoms_in, Among, first, later}
use Rattle.jn_base.specs.Scopes.{Scope}
use Rattle.jn_base.specs.Resolve.{is_class}
use Rattle.jn_base.specs.ResolveTypes.{mask_names}
use Rattle.jn_sem.specs.Sets.{Views, AnchorSeen, Respects}
use Rattle.jn_sem.specs.Values.{Value}
use Rattle.jn_sem.specs.Normal.{swapped, after}
use Rattle.jn_sem.specs.NormalFunction.{subst_type}
use Rattle.jn_sem.specs.State.{Heap, Variable, view_of_var, view_in, IsIn, HasValue, with_values, has_null_path, is_null_path, is_null}
use Rattle.jn_sem.specs.Does.{args_of}
use Rattle.jn_sem.proofs.TypeSets.{values_subst}
use Rattle.jn_sem.proofs.NormalTypes.{type_subst_is}
use Rattle.jn_rules.specs.Exprs.{replaced_paths, var_path}
use Rattle.jn_rules.specs.Stmts.{is_void}
use Rattle.jn_sound.specs.Takes.{Opd, opds_of, ArgsFit, none as no_args, one as one_arg}
use Rattle.jn_sound.specs.Sound.{OperandFits, OperandsFit, one}
use Rattle.jn_rule_laws.specs.LawsOfMembers.{none as no_vars, one as one_var}
use Rattle.jn_sound.proofs.Views.{agree_in}
use Rattle.jn_laws.specs.LawsOfViews.{Agree}
use Rattle.jn_laws.proofs.ByViews.{value_same}
use Rattle.jn_sound.proofs.Acts.{ObjectIs, null_is, object_is, object_value}
use Rattle.jn_laws.specs.Reading.{IsReal}
use Rattle.jn_rule_laws.specs.LawsOfMembers.{Alike}
use Rattle.jn_laws.specs.LawsOfWritten.{HeaderPath, HeaderPaths, of_this as is_this, of_param as is_param}

-- ---- the arguments among the operands

-- arguments and their values, the earliest first
pub data PairsFit (p : Program) (us : List Variable) (h : Heap) (s : Scope) (v : Views)
    : List Opd → List Value → Type 0 where
  no_pairs : PairsFit p us h s v [] []
  pair : {o : Opd} {os : List Opd} {x : Value} {xs : List Value} → OperandFits p us h s v o x
      → PairsFit p us h s v os xs → PairsFit p us h s v (o ∷ os) (x ∷ xs)

pub record Taken (p : Program) (us : List Variable) (h : Heap) (s : Scope) (v : Views) (n : ℕ)
    (before : List Value) (vals : List Value) (args rest : List Opd) : Type 0 where
  pub values : List Value
  pub others : List Value
  pub are : args_of n before vals ≡ Some (values, others)
  pub pairs : PairsFit p us h s v args values
  pub fit : OperandsFit p us h s v rest others

pub same_pair : {A B : Type 0} (x y : A × B) → Some x ≡ Some y → (x.0 ≡ y.0) × (x.1 ≡ y.1)
same_pair {A} {B} x y e = let z : x ≡ y = cc in (ap {B = A} (λ (u : A × B). u.0) z, ap {B = B} (λ (u : A × B). u.1) z)

no_pair : {A : Type 0} (a : A) → None ≡ Some a → ⊥
no_pair a e = cc

pub args_taken : (p : Program) (us : List Variable) (h : Heap) (s : Scope) (v : Views) (n : ℕ) (done : List Opd)
    (dvals : List Value) (ops : List Opd) (vals : List Value) (args rest : List Opd)
    → opds_of n done ops ≡ Some (args, rest) → PairsFit p us h s v done dvals → OperandsFit p us h s v ops vals →
    Taken p us h s v n dvals vals args rest
args_taken p us h s v zero done dvals ops vals args rest e d f =
    let k = same_pair (done, ops) (args, rest) e in
    record {
      values = dvals;
      others = vals;
      are = refl;
      pairs = subst
          (λ (os : List Opd). PairsFit p us h s v os dvals) k.0 d;
      fit = subst
          (λ (os : List Opd). OperandsFit p us h s v os vals) k.1 f;
    }
args_taken p us h s v (suc n) done dvals [] vals args rest e d f = absurd (no_pair (args, rest) e)
args_taken p us h s v (suc n) done dvals (o ∷ ops) _ args rest e d (one {x = x} {vs = vals} a b) =
    let k = args_taken p us h s v n (o ∷ done) (x ∷ dvals) ops vals args rest e (pair a d) b in
    record { values = k.values; others = k.others; are = k.are; pairs = k.pairs; fit = k.fit }

-- ---- the views of the callee

behind : (y z : Var) (zs : List Var) (x : Var) → y.path ≡ z.path → Among (z ∷ zs) x
    → nat_eq x.path y.path ≡ false → Among zs x
behind y z zs _ d first i = absurd (wrong (sym (eq-eqb z.path y.path (sym d)) ∙ i)) where
  wrong : true ≡ false → ⊥
  wrong i = cc
behind y z zs x d (later n) i = n

pub take_whole : {A : Type 0} (xs : List A) (n : ℕ) → length xs ≡ n → take n xs ≡ xs
take_whole [] zero e = refl
take_whole [] (suc n) e = refl
take_whole (x ∷ xs) zero e = absurd (no e) where
  no : {n : ℕ} → suc n ≡ 0 → ⊥
  no e = omega (arith, e)
take_whole {A} (x ∷ xs) (suc n) e = ap (λ (l : List A). x ∷ l) (take_whole xs n (down e)) where
  down : {m n : ℕ} → suc m ≡ suc n → m ≡ n
  down e = omega (arith, e)

pub take_values : (vs : List Var) (xs : List Value) → take (length vs) (with_values vs xs) ≡ with_values vs xs
take_values [] xs = refl
take_values (v ∷ vs) [] = refl
take_values (v ∷ vs) (x ∷ xs) = ap (λ (l : List Variable). record { var = v; value = x } ∷ l) (take_values vs xs)

-- the view of a parameter is that of its argument
param_view : {p : Program} {us : List Variable} {h : Heap} {s : Scope} {v : Views} {from to : List ℕ}
    (vars hvars : List Var)
    (args : List Opd) (qs : List ℕ) (vals : List Value)
    → ArgsFit s from to vars args qs → PairsFit p us h s v args vals → Alike vars hvars → (x : Var) → Among hvars x
    → v (swapped (map var_path vars) qs x.path) ≡ view_of_var (with_values hvars vals) x.path
param_view {v = v} _ _ _ _ _ no_args no_pairs no_vars x m = elim m [ ]
param_view {v = v} _ _ _ _ _ (one_arg {x = y} {xs = ys} {o = o} {q = q} {qs = qs} t e r)
    (pair {x = a} {xs = vals} f g) (one_var {y = z} {ys = zs} u c d l) x m =
    subst (λ (b : Bool). v (cond (nat_eq x.path y.path) q (swapped (map var_path ys) qs x.path)) ≡ cond b (view_in a)
    (view_of_var (with_values zs vals) x.path)) (ap (nat_eq x.path) d)
    (at (nat_eq x.path y.path) refl (λ n. param_view ys zs _ qs vals r g l x n)) where
      at : (b : Bool) → nat_eq x.path y.path ≡ b
          → (Among zs x → v (swapped (map var_path ys) qs x.path) ≡ view_of_var (with_values zs vals) x.path)
          → v (cond b q (swapped (map var_path ys) qs x.path)) ≡ cond b (view_in a)
          (view_of_var (with_values zs vals) x.path)
      at true i again = f.path q e
      at false i again = again (behind y z zs x d m i)

pub count_args : {p : Program} {us : List Variable} {h : Heap} {s : Scope} {v : Views} {from to : List ℕ}
    (vars hvars : List Var)
    (args : List Opd) (qs : List ℕ) (vals : List Value)
    → ArgsFit s from to vars args qs → PairsFit p us h s v args vals → Alike vars hvars → length vals ≡ length hvars
count_args _ _ _ _ _ no_args no_pairs no_vars = refl
count_args _ _ _ _ _ (one_arg t e r) (pair f g) (one_var u c d l) = ap suc (count_args _ _ _ _ _ r g l)

pub arg_of : {p : Program} {us : List Variable} {h : Heap} {s : Scope} {v : Views} {from to : List ℕ}
    (vars hvars : List Var)
    (args : List Opd) (qs : List ℕ) (vals : List Value)
    → ArgsFit s from to vars args qs → PairsFit p us h s v args vals → Alike vars hvars → (x : Variable) → Among
    (with_values hvars vals) x
    → IsIn p v h (subst_type s (swapped from to) x.var.ty) x.value × Among hvars x.var
arg_of _ _ _ _ _ no_args no_pairs no_vars x m = elim m [ ]
arg_of {p} {us} {h} {s} {v} {from} {to} _ _ _ _ _ (one_arg t e r) (pair {x = a} f g) (one_var u c d l) _ first = (
  subst (λ (z : Ty). IsIn p v h (subst_type s (swapped from to) z) a) u
      (subst (λ (z : Ty). IsIn p v h z a) t f.is_in),
  first,
)
arg_of _ _ _ _ _ (one_arg t e r) (pair f g) (one_var u c d l) x (later m) =
    let k = arg_of _ _ _ _ _ r g l x m in (k.0, later k.1)

pub args_real : {p : Program} {us : List Variable} {h : Heap} {s : Scope} {v : Views} (args : List Opd)
    (vals : List Value)
    → PairsFit p us h s v args vals → (y : Value) → Among vals y → IsReal p h y
args_real _ _ no_pairs y m = elim m [ ]
args_real _ _ (pair f g) _ first = f.real
args_real _ _ (pair f g) y (later m) = args_real _ _ g y m

-- the variable of a parameter, which is not null where it is a path
value_of : (hvars : List Var) (vals : List Value) (x : Var) → length vals ≡ length hvars → Among hvars x
    → (y : Variable) × Among (with_values hvars vals) y × (y.var ≡ x)
value_of _ [] x e first = absurd (no e) where
  no : {n : ℕ} → 0 ≡ suc n → ⊥
  no e = omega (arith, e)
value_of _ (a ∷ vals) x e first = (record { var = x; value = a }, first, refl)
value_of _ [] x e (later m) = absurd (no e) where
  no : {n : ℕ} → 0 ≡ suc n → ⊥
  no e = omega (arith, e)
value_of _ (a ∷ vals) x e (later {xs = xs} m) = let k = value_of xs vals x (down e) m in (k.0, later k.1, k.2) where
  down : {m n : ℕ} → suc m ≡ suc n → m ≡ n
  down e = omega (arith, e)

pub not_null_at : (xs : List Variable) (y : Variable) → has_null_path xs ≡ false → Among xs y → is_null_path y ≡ false
not_null_at _ y e (first {xs = xs}) = at (is_null_path y) e where
  at : (b : Bool) → (b || has_null_path xs) ≡ false → b ≡ false
  at true e = cc
  at false e = refl
not_null_at _ y e (later {y = z} {xs = xs} m) = not_null_at xs y (at (is_null_path z) e) m where
  at : (b : Bool) → (b || has_null_path xs) ≡ false → has_null_path xs ≡ false
  at true e = cc
  at false e = e

class_subst : (s : Scope) (f : ℕ → ℕ) (t : Ty) → is_class t ≡ true → is_class (subst_type s f t) ≡ true
class_subst s f (ty.Class xs m) e = refl
class_subst s f ty.Int e = e
class_subst s f ty.Bool e = e
class_subst s f ty.Null e = e
class_subst s f ty.Void e = e

pub void_subst : (s : Scope) (f : ℕ → ℕ) (t : Ty) → is_void t ≡ is_void (subst_type s f t)
void_subst s f (ty.Class xs m) = refl
void_subst s f ty.Int = refl
void_subst s f ty.Bool = refl
void_subst s f ty.Null = refl
void_subst s f ty.Void = refl

-- a final one of class type has a view
pub path_seen : (p : Program) (h : Heap) (v : Views) (t : Ty) (y : Variable) → IsIn p v h t y.value
    → is_class t ≡ true → y.var.fixed ≡ true → is_class y.var.ty ≡ true
    → is_null_path y ≡ false → IsSome (view_in y.value)
path_seen p h v t y i c f k n = at y.value (object_value p h v t y.value c i) null where
  null : is_null y.value ≡ false
  null =
      subst (λ (b : Bool). (b && is_null y.value) ≡ false) k
      (subst (λ (b : Bool). (b && (is_class y.var.ty && is_null y.value)) ≡ false) f n)

  at : (x : Value) → ObjectIs p h v t x → is_null x ≡ false → IsSome (view_in x)
  at _ null_is e = cc
  at _ (object_is i g) e = refl

seen_of : (xs : List Variable) (q : ℕ) → (y : Variable) × Among xs y × (y.var.path ≡ q)
    → ((y : Variable) → Among xs y → y.var.path ≡ q → IsSome (view_in y.value))
    → IsSome (view_of_var xs q)
seen_of [] q y all = elim y.1 [ ]
seen_of (x ∷ xs) q y all = at (nat_eq q x.var.path) refl (seen_of xs q) y.0 y.1 y.2 where
  at : (b : Bool) → nat_eq q x.var.path ≡ b
      → ((y : Variable) × Among xs y × (y.var.path ≡ q) →
      ((y : Variable) → Among xs y → y.var.path ≡ q → IsSome (view_in y.value)) → IsSome (view_of_var xs q))
      → (y : Variable) → Among (x ∷ xs) y → y.var.path ≡ q → IsSome (cond b (view_in x.value) (view_of_var xs q))
  at true e again y m i = all x first (sym (eqb-true q x.var.path e))
  at false e again _ first i = absurd (wrong (sym (eq-eqb q x.var.path (sym i)) ∙ e)) where
    wrong : true ≡ false → ⊥
    wrong i = cc
  at false e again y (later m) i = again (y, m, i) (λ z n. all z (later n))

-- WHAT IS KEPT BY ENTERING: in the callee's types the views of the caller, put for the parameters, are the callee's
-- own.
module _ {p : Program} {us : List Variable} {h : Heap} {s : Scope} {v : Views} (hvars vars : List Var)
    (args : List Opd) (qs : List ℕ)
    (vals : List Value) (q : ℕ) (r : Value)
    (af : ArgsFit s (replaced_paths vars) (q ∷ qs) vars args qs) (pf : PairsFit p us h s v args vals)
    (al : Alike vars hvars) (own : v q ≡ view_in r)
    (positive : (y : Var) → Among hvars y → y.path ≡ 0 → ⊥)
    (once : (y z : Var) → Among hvars y → Among hvars z → y.path ≡ z.path → y ≡ z)
    (nn : has_null_path (with_values hvars vals) ≡ false) (seen : IsSome (view_in r)) where
  abbrev pub to : ℕ → ℕ
  to = swapped (replaced_paths vars) (q ∷ qs)

  abbrev pub inner : Views
  inner x = cond (nat_eq x 0) (view_in r) (view_of_var (with_values hvars vals) x)

  not_zero : (x : Var) → Among hvars x → nat_eq x.path 0 ≡ false
  not_zero x m = at (nat_eq x.path 0) refl where
    at : (b : Bool) → nat_eq x.path 0 ≡ b → nat_eq x.path 0 ≡ false
    at true e = absurd (positive x m (eqb-true x.path 0 e))
    at false e = e

  same_path : (x : ℕ) → HeaderPath hvars x → after to v x ≡ inner x
  same_path x (is_this e) = subst (λ (y : ℕ). after to v y ≡ inner y) (sym e) own
  same_path x (is_param y m e f c) = subst (λ (z : ℕ). after to v z ≡ inner z) e
      (subst (λ (b : Bool). v (cond b q (swapped (map var_path vars) qs y.path)) ≡ cond b (view_in r)
      (view_of_var (with_values hvars vals) y.path)) (sym (not_zero y m))
      (param_view vars hvars args qs vals af pf al y m))

  -- the view of a final parameter's value
  own_view : (x : Var) → Among hvars x → x.fixed ≡ true → is_class x.ty ≡ true
      → IsSome (view_of_var (with_values hvars vals) x.path)
  own_view x m f c =
      seen_of (with_values hvars vals) x.path
      (let y = value_of hvars vals x (count_args vars hvars args qs vals af pf al) m in
      (y.0, y.1, ap (λ (z : Var). z.path) y.2))
      (λ y n e. let k = arg_of vars hvars args qs vals af pf al y n in
      let same : y.var ≡ x = once y.var x k.1 m e in
      path_seen p h v (subst_type s to y.var.ty) y k.0
      (class_subst s to y.var.ty (subst (λ (z : Var). is_class z.ty ≡ true) (sym same) c))
      (subst (λ (z : Var). z.fixed ≡ true) (sym same) f) (subst (λ (z : Var). is_class z.ty ≡ true) (sym same) c)
      (not_null_at (with_values hvars vals) y nn n))

  path_has : (x : ℕ) → HeaderPath hvars x → IsSome (after to v x)
  path_has x (is_this e) =
      subst (λ (y : ℕ). IsSome (after to v y)) (sym e) (subst (λ (o : Option Path). IsSome o) (sym own) seen)
  path_has x (is_param y m e f c) = subst (λ (o : Option Path). IsSome o) (sym (same_path x (is_param y m e f c)))
      (subst (λ (z : ℕ). IsSome (inner z)) e
      (subst (λ (b : Bool). IsSome (cond b (view_in r) (view_of_var (with_values hvars vals) y.path)))
      (sym (not_zero y m)) (own_view y m f c)))

  agree_at : (t : Ty) → HeaderPaths hvars t → (x : Atom) → Among (atoms_in t) x → Agree (after to v) inner x.anchor
  agree_at t hp x m = at x.anchor (λ b k e. hp x b k m e) where
    at : (a : Anchor) → ((b k : ℕ) → a ≡ Up b k → HeaderPath hvars b) → Agree (after to v) inner a
    at Root g = tt
    at (Up b k) g = same_path b (g b k refl)

  seen_at : (t : Ty) → HeaderPaths hvars t → (x : Atom) → Among (atoms_in t) x → AnchorSeen (after to v) x.anchor
  seen_at t hp x m = at x.anchor (λ b k e. hp x b k m e) where
    at : (a : Anchor) → ((b k : ℕ) → a ≡ Up b k → HeaderPath hvars b) → AnchorSeen (after to v) a
    at Root g = tt
    at (Up b k) g = path_has b (g b k refl)

  pub inwards : Respects p v s → (i : Heap) (t : Ty) (x : Value) → HeaderPaths hvars t
      → IsIn p v i (subst_type s to t) x → IsIn p inner i t x
  inwards resp i t x hp k = value_same p (after to v) inner i t x (agree_in (after to v) inner t (agree_at t hp))
      ((values_subst resp (mask_names p) (HasValue p i) to t (subst_type s to t) x (seen_at t hp)
      ((type_subst_is s to t (subst_type s to t)).1 refl)).1 k)

  pub outwards : Respects p v s → (i : Heap) (t : Ty) (x : Value) → HeaderPaths hvars t → IsIn p inner i t x
      → IsIn p v i (subst_type s to t) x
  outwards resp i t x hp k =
      (values_subst resp (mask_names p) (HasValue p i) to t (subst_type s to t) x (seen_at t hp)
      ((type_subst_is s to t (subst_type s to t)).1 refl)).0
      (value_same p inner (after to v) i t x
      (agree_in inner (after to v) t (λ y m. back y.anchor (agree_at t hp y m))) k) where
        back : (a : Anchor) → Agree (after to v) inner a → Agree inner (after to v) a
        back Root e = tt
        back (Up b k) e = sym e
