-- Small things of types, operators and operands.
use Rattle.std.proofs.Common.{◌≡◌, ◌+◌, ℕ, zero, suc, List, [], ◌∷◌, ◌++◌, length, Bool, true, false, Option, Some, None, refl, sym, ap, ◌∙◌, subst, arith}
use Rattle.std.specs.Prelude.{cond, ◌&&◌, not, nat_eq, reverse}
use Rattle.std.specs.List.{find}
use Rattle.std.proofs.lemmas.List.{append-nil}
use Rattle.jn_base.specs.declared.tree.Name.{Name}
use Rattle.jn_base.specs.declared.tree.Expr.{Expr}
use Rattle.jn_base.specs.declared.tree.Op.{Op}
use Rattle.jn_base.specs.declared.tree.Op.TheVariants as op
use Rattle.jn_base.specs.declared.types.Ty.{Ty}
use Rattle.jn_base.specs.declared.types.Ty.TheVariants as ty
use Rattle.jn_base.specs.declared.names.Var.{Var}
use Rattle.jn_base.specs.Atoms.{Among, first, later}
use Rattle.jn_base.specs.Scopes.{Scope}
use Rattle.jn_base.specs.Resolve.{is_class, newest, var_named}
use Rattle.jn_sem.specs.Acts.{Todo, todo, Operate, Decide, acts}
use Rattle.jn_sem.specs.LawsOfActs.{link_acts}
use Rattle.jn_sem.specs.NormalFunction.{subst_type}
use Rattle.jn_laws.proofs.Terms.{reverse_among}
use Rattle.jn_rules.specs.Exprs.{Typed, plain, takes, takes_both, comparable, operator_type, is_bool, is_int}
use Rattle.jn_rules.specs.Stmts.{is_void}
use Rattle.jn_sound.specs.Takes.{Opd, opd, opds_of, with_result, decides}
use Rattle.jn_agree.specs.Places as places
use Rattle.jn_agree.specs.Places.{Strict, add, sub, mul, div, rem, lt, le, gt, ge, eq, ne, IsDecide, both, either}
use Rattle.jn_agree.specs.Rows.{result_kind}
use Rattle.jn_node_laws.specs.Cont.{Layout, of_frame, Takes, TakesAll, with_value}
use Rattle.jn_node_laws.specs.Cont.{with_result as laid_with}
use Rattle.jn_place_laws.proofs.Going.{left, Kept, onto, framed}

-- ---- void

void_false : {A : Type 0} → true ≡ false → A
void_false e = absurd (no e) where
  no : true ≡ false → ⊥
  no e = cc

pub false_void : {A : Type 0} → false ≡ true → A
false_void e = absurd (no e) where
  no : false ≡ true → ⊥
  no e = cc

pub bool_is : (t : Ty) → is_bool t ≡ true → t ≡ ty.Bool
bool_is ty.Bool e = refl
bool_is ty.Int e = false_void e
bool_is ty.Null e = false_void e
bool_is ty.Void e = false_void e
bool_is (ty.Class xs m) e = false_void e

pub int_is : (t : Ty) → is_int t ≡ true → t ≡ ty.Int
int_is ty.Int e = refl
int_is ty.Bool e = false_void e
int_is ty.Null e = false_void e
int_is ty.Void e = false_void e
int_is (ty.Class xs m) e = false_void e

pub bool_kept : (t : Ty) → t ≡ ty.Bool → is_void t ≡ false
bool_kept t e = subst (λ (u : Ty). is_void u ≡ false) (sym e) refl

pub class_kept : (t : Ty) → is_class t ≡ true → is_void t ≡ false
class_kept (ty.Class xs m) e = refl
class_kept ty.Int e = refl
class_kept ty.Bool e = refl
class_kept ty.Null e = refl
class_kept ty.Void e = false_void e

-- ---- operands

taken_again : (xs taken base : List Opd) (k : ℕ) → opds_of (length xs + k) taken (onto xs base) ≡ opds_of k
    (xs ++ taken) base
taken_again [] taken base k = ap (λ (j : ℕ). opds_of j taken base) (omega arith)
taken_again (a ∷ xs) taken base k =
    ap (λ (j : ℕ). opds_of j taken (onto xs (a ∷ base))) (omega arith) ∙ taken_again xs taken (a ∷ base) (suc k)

pub taken_all : (xs base : List Opd) (k : ℕ) → length xs ≡ k → opds_of k [] (onto xs base) ≡ Some (xs, base)
taken_all xs base k e =
    ap (λ (j : ℕ). opds_of j [] (onto xs base)) (omega (arith, e)) ∙ taken_again xs [] base 0
    ∙ ap (λ (os : List Opd). let o : Option (List Opd × List Opd) = Some (os, base) in o) (append-nil xs)

-- ---- layouts

takes_last : (c : ℕ) (k j l : Layout) → TakesAll c k j → Takes j l → TakesAll (suc c) k l
takes_last zero k j l e t = (l, subst (λ (x : Layout). Takes x l) e t, refl)
takes_last (suc c) k j l e t = (e.0, e.1, takes_last c e.0 j l e.2 t)

pub takes_framed : (es : List Expr) (l : Layout) → TakesAll (length es) (framed es l) l
takes_framed [] l = refl
takes_framed (e ∷ es) l =
    takes_last (length es) (framed es (of_frame ∷ l)) (of_frame ∷ l) l (takes_framed es (of_frame ∷ l)) refl

-- what a body gives is kept as its value is, where a kept one isn't void
pub laid_result : (keeps : Bool) (t : Ty) (k : ℕ) (l : Layout) → (keeps ≡ true → is_void t ≡ false)
    → k ≡ result_kind t → with_value keeps l ≡ laid_with keeps k l
laid_result false t k l kept e = at k where
  at : (k : ℕ) → with_value false l ≡ laid_with false k l
  at zero = refl
  at (suc k) = refl
laid_result true t k l kept e = subst (λ (x : ℕ). with_value true l ≡ laid_with true x l) (sym e) (at t (kept refl))
  where
    at : (t : Ty) → is_void t ≡ false → with_value true l ≡ laid_with true (result_kind t) l
    at ty.Int v = refl
    at ty.Bool v = refl
    at ty.Null v = refl
    at ty.Void v = void_false v
    at (ty.Class xs m) v = refl

-- (paths that are put make no other kind)
pub result_same : (s : Scope) (f : ℕ → ℕ) (t : Ty) → result_kind t ≡ result_kind (subst_type s f t)
result_same s f ty.Int = refl
result_same s f ty.Bool = refl
result_same s f ty.Null = refl
result_same s f ty.Void = refl
result_same s f (ty.Class xs m) = refl

-- the value of a call, where a kept one isn't void
pub left_of_call : (keeps : Bool) (t : Ty) (s : Scope) (ops : List Opd) → Kept keeps (plain t s)
    → with_result keeps t ops ≡ left keeps (plain t s) ops
left_of_call false t s ops k = refl
left_of_call true t s ops k =
    ap (λ (v : Bool). cond (true && not v) (opd t None ∷ ops) ops) (k refl)

pub not_kept_void : (keeps : Bool) (y : Typed) → Kept keeps y → is_void y.ty ≡ true → keeps ≡ false
not_kept_void false y k v = refl
not_kept_void true y k v = void_false (sym v ∙ k refl)

-- ---- operators

pub strict_acts : (o : Op) → Strict o → (e : Expr) (n : ℕ) (k : List Todo)
    → link_acts o e n k ≡ acts n e (todo n (Operate o) ∷ k)
strict_acts _ add e n k = refl
strict_acts _ sub e n k = refl
strict_acts _ mul e n k = refl
strict_acts _ div e n k = refl
strict_acts _ rem e n k = refl
strict_acts _ lt e n k = refl
strict_acts _ le e n k = refl
strict_acts _ gt e n k = refl
strict_acts _ ge e n k = refl
strict_acts _ eq e n k = refl
strict_acts _ ne e n k = refl

pub strict_decides : (o : Op) → Strict o → decides o ≡ false
strict_decides _ add = refl
strict_decides _ sub = refl
strict_decides _ mul = refl
strict_decides _ div = refl
strict_decides _ rem = refl
strict_decides _ lt = refl
strict_decides _ le = refl
strict_decides _ gt = refl
strict_decides _ ge = refl
strict_decides _ eq = refl
strict_decides _ ne = refl

pub decide_acts : (o : Op) (and : Bool) → IsDecide o and → (e : Expr) (n : ℕ) (k : List Todo)
    → link_acts o e n k ≡ todo n (Decide and e) ∷ k
decide_acts _ _ both e n k = refl
decide_acts _ _ either e n k = refl

pub decide_type : (o : Op) (and : Bool) → IsDecide o and → operator_type o ≡ ty.Bool
decide_type _ _ both = refl
decide_type _ _ either = refl

pub decide_takes : (o : Op) (and : Bool) (t : Ty) → IsDecide o and → takes o t ≡ true → t ≡ ty.Bool
decide_takes _ _ t both e = bool_is t e
decide_takes _ _ t either e = bool_is t e

pub result_plain : (o : Op) → is_class (operator_type o) ≡ false
result_plain op.Add = refl
result_plain op.Sub = refl
result_plain op.Mul = refl
result_plain op.Div = refl
result_plain op.Rem = refl
result_plain op.Lt = refl
result_plain op.Le = refl
result_plain op.Gt = refl
result_plain op.Ge = refl
result_plain op.And = refl
result_plain op.Or = refl
result_plain op.Eq = refl
result_plain op.Ne = refl

pub result_kept : (o : Op) → is_void (operator_type o) ≡ false
result_kept op.Add = refl
result_kept op.Sub = refl
result_kept op.Mul = refl
result_kept op.Div = refl
result_kept op.Rem = refl
result_kept op.Lt = refl
result_kept op.Le = refl
result_kept op.Gt = refl
result_kept op.Ge = refl
result_kept op.And = refl
result_kept op.Or = refl
result_kept op.Eq = refl
result_kept op.Ne = refl

no_comparable : (t : Ty) → comparable t ty.Void ≡ true → ⊥
no_comparable ty.Int e = false_void e
no_comparable ty.Bool e = false_void e
no_comparable ty.Null e = false_void e
no_comparable ty.Void e = false_void e
no_comparable (ty.Class xs m) e = false_void e

no_void : (o : Op) (t : Ty) → takes o ty.Void ≡ true → takes_both o t ty.Void ≡ true → ⊥
no_void op.Add t a c = false_void a
no_void op.Sub t a c = false_void a
no_void op.Mul t a c = false_void a
no_void op.Div t a c = false_void a
no_void op.Rem t a c = false_void a
no_void op.Lt t a c = false_void a
no_void op.Le t a c = false_void a
no_void op.Gt t a c = false_void a
no_void op.Ge t a c = false_void a
no_void op.And t a c = false_void a
no_void op.Or t a c = false_void a
no_void op.Eq t a c = no_comparable t c
no_void op.Ne t a c = no_comparable t c

-- a void value is no right operand
pub right_kept : (o : Op) (t u : Ty) → takes o u ≡ true → takes_both o t u ≡ true → is_void u ≡ false
right_kept o t ty.Int a c = refl
right_kept o t ty.Bool a c = refl
right_kept o t ty.Null a c = refl
right_kept o t (ty.Class xs m) a c = refl
right_kept o t ty.Void a c = absurd (no_void o t a c)

-- ---- variables

found_same : (vs : List Var) (x : Name) → newest vs x ≡ find (λ (y : Var). nat_eq y.name.0 x.0) vs
found_same [] x = refl
found_same (v ∷ vs) x = ap (λ (o : Option Var). cond (nat_eq v.name.0 x.0) (Some v) o) (found_same vs x)

pub named_same : (vs : List Var) (x : Name) (v : Var) → places.newest vs x ≡ Some v
    → var_named (record { list = vs }) x ≡ Some v
named_same vs x v e = found_same (reverse vs) x ∙ e

newest_among : (vs : List Var) (x : Name) (v : Var) → newest vs x ≡ Some v → Among vs v
newest_among [] x v e = absurd (no e) where
  no : ◌≡◌ {A = Option Var} None (Some v) → ⊥
  no e = cc
newest_among (w ∷ vs) x v e = at (nat_eq w.name.0 x.0) e (newest_among vs x v) where
  same : Some w ≡ Some v → w ≡ v
  same e = cc

  at : (b : Bool) → cond b (Some w) (newest vs x) ≡ Some v → (newest vs x ≡ Some v → Among vs v) → Among (w ∷ vs) v
  at true e again = subst (Among (w ∷ vs)) (same e) first
  at false e again = later (again e)

pub named_among : (vs : List Var) (x : Name) (v : Var) → var_named (record { list = vs }) x ≡ Some v → Among vs v
named_among vs x v e = reverse_among vs v (newest_among (reverse vs) x v e)
