-- Types and kinds: which kind the values of a type have, and what operators ask for.
use Rattle.std.proofs.Common.{◌≡◌, ℕ, suc, ◌+◌, ◌≤◌, List, [], ◌∷◌, length, map, Option, Some, None, Bool, true, false, refl, sym, ap, ◌∙◌, subst, arith}
use Rattle.std.specs.Prelude.{reverse, cond, nat_eq}
use Rattle.std.specs.List.{find}
use Rattle.std.proofs.Math.Nat.{le-max_right}
use Rattle.jn_base.specs.declared.tree.Name.{Name}
use Rattle.jn_base.specs.declared.tree.Op.{Op}
use Rattle.jn_base.specs.declared.tree.Program.{Program}
use Rattle.jn_base.specs.declared.types.Ty.{Ty}
use Rattle.jn_base.specs.declared.types.Ty.TheVariants as ty
use Rattle.jn_base.specs.declared.names.Var.{Var}
use Rattle.jn_base.specs.Atoms.{Atom, Among, first, later, atoms_in}
use Rattle.jn_base.specs.Scopes.{Scope}
use Rattle.jn_base.specs.Resolve.{is_class, var_named}
use Rattle.jn_base.specs.Resolve.{newest as newest_in}
use Rattle.jn_code.specs.declared.kind.OperandKind.{OperandKind}
use Rattle.jn_code.specs.declared.kind.OperandKind.TheVariants as kind
use Rattle.jn_code.specs.declared.image.Shape.{Shape}
use Rattle.jn_code.specs.Kinds.{kind_of}
use Rattle.jn_sem.specs.Below.{Below, ints, booleans, nulls, classes}
use Rattle.jn_laws.proofs.Terms.{reverse_among}
use Rattle.jn_rules.specs.Exprs.{put_in, is_bool, is_int, is_object, comparable, takes, takes_both, operator_type}
use Rattle.jn_agree.specs.Rows.{IsShape, FieldKind, plain as plain_kind, hanging, kind_of_type, result_kind}
use Rattle.jn_agree.specs.Places.{newest, Strict, add, sub, mul, div, rem, lt, le, gt, ge, eq, ne, IsDecide, both, either}
use Rattle.jn_size_laws.specs.Operands.{Needs, stacked, link_holds}
use Rattle.jn_place_spans.specs.LawsOfNodes.{arguments, operand_kind, answer_kind, left_of}
use Rattle.jn_place_spans.specs.LawsOfExprs.{value_of}

pub no_way : {A : Type 0} → false ≡ true → A
no_way e = absurd (no_such e) where
  no_such : false ≡ true → ⊥
  no_such e = cc

pub bool_is : (t : Ty) → is_bool t ≡ true → t ≡ ty.Bool
bool_is ty.Bool e = refl
bool_is ty.Int e = no_way e
bool_is ty.Null e = no_way e
bool_is ty.Void e = no_way e
bool_is (ty.Class xs m) e = no_way e

pub int_is : (t : Ty) → is_int t ≡ true → t ≡ ty.Int
int_is ty.Int e = refl
int_is ty.Bool e = no_way e
int_is ty.Null e = no_way e
int_is ty.Void e = no_way e
int_is (ty.Class xs m) e = no_way e

pub class_value : (t : Ty) → is_class t ≡ true → (keeps : Bool) → value_of keeps t ≡ left_of keeps 3
class_value (ty.Class xs m) e k = refl
class_value ty.Int e k = no_way e
class_value ty.Bool e k = no_way e
class_value ty.Null e k = no_way e
class_value ty.Void e k = no_way e

pub object_value : (t : Ty) → is_object t ≡ true → value_of true t ≡ kind.Reference ∷ []
object_value (ty.Class xs m) e = refl
object_value ty.Null e = refl
object_value ty.Int e = no_way e
object_value ty.Bool e = no_way e
object_value ty.Void e = no_way e

-- a type with values has one kind
pub Held : Ty → Type 0
Held t = value_of true t ≡ kind_of (kind_of_type t) ∷ []

pub below_kind : (p : Program) (s : Scope) (t u : Ty) → Below p s t u
    → value_of true t ≡ kind_of (kind_of_type u) ∷ []
below_kind p s _ _ ints = refl
below_kind p s _ _ booleans = refl
below_kind p s _ _ nulls = refl
below_kind p s _ _ (classes a b) = refl

pub put_kind : (s : Scope) (f g : List ℕ) (t : Ty) → kind_of_type (put_in s f g t) ≡ kind_of_type t
put_kind s f g ty.Int = refl
put_kind s f g ty.Bool = refl
put_kind s f g ty.Null = refl
put_kind s f g ty.Void = refl
put_kind s f g (ty.Class xs m) = refl

pub put_result : (s : Scope) (f g : List ℕ) (t : Ty) → result_kind (put_in s f g t) ≡ result_kind t
put_result s f g ty.Int = refl
put_result s f g ty.Bool = refl
put_result s f g ty.Null = refl
put_result s f g ty.Void = refl
put_result s f g (ty.Class xs m) = refl

abbrev pub var_kind : Var → OperandKind
var_kind v = kind_of (kind_of_type v.ty)

pub kinds_of : (vs : List Var) → map kind_of (map (λ (x : Var). kind_of_type x.ty) vs) ≡ map var_kind vs
kinds_of [] = refl
kinds_of (v ∷ vs) = ap (λ (ks : List OperandKind). var_kind v ∷ ks) (kinds_of vs)

pub params_kinds : (vs : List Var) (s : Shape) → s.params ≡ map (λ (x : Var). kind_of_type x.ty) vs
    → arguments s ≡ reverse (map var_kind vs)
params_kinds vs s is = ap (λ (ks : List ℕ). reverse (map kind_of ks)) is ∙ ap reverse (kinds_of vs)

pub shape_kinds : (vs : List Var) (t : Ty) (s : Shape) → IsShape vs t s → arguments s ≡ reverse (map var_kind vs)
shape_kinds vs t s is = params_kinds vs s is.params

pub stacked_low : (base : ℕ) (xs : List Needs) → base ≤ stacked base xs
stacked_low base [] = omega arith
stacked_low base (x ∷ xs) =
    let l = stacked_low (suc base) xs in
    let r = le-max_right (base + x.operands) (stacked (suc base) xs) in
    omega (arith, l, r)

pub compared : (t u : Ty) → comparable t u ≡ true → (value_of true t ≡ kind_of (kind_of_type u) ∷ [])
    × (value_of true u ≡ kind_of (kind_of_type u) ∷ [])
compared ty.Int ty.Int e = (refl, refl)
compared ty.Int ty.Bool e = no_way e
compared ty.Int ty.Null e = no_way e
compared ty.Int ty.Void e = no_way e
compared ty.Int (ty.Class ys n) e = no_way e
compared ty.Bool ty.Int e = no_way e
compared ty.Bool ty.Bool e = (refl, refl)
compared ty.Bool ty.Null e = no_way e
compared ty.Bool ty.Void e = no_way e
compared ty.Bool (ty.Class ys n) e = no_way e
compared ty.Null ty.Int e = no_way e
compared ty.Null ty.Bool e = no_way e
compared ty.Null ty.Null e = (refl, refl)
compared ty.Null ty.Void e = no_way e
compared ty.Null (ty.Class ys n) e = (refl, refl)
compared ty.Void ty.Int e = no_way e
compared ty.Void ty.Bool e = no_way e
compared ty.Void ty.Null e = no_way e
compared ty.Void ty.Void e = no_way e
compared ty.Void (ty.Class ys n) e = no_way e
compared (ty.Class xs m) ty.Int e = no_way e
compared (ty.Class xs m) ty.Bool e = no_way e
compared (ty.Class xs m) ty.Null e = (refl, refl)
compared (ty.Class xs m) ty.Void e = no_way e
compared (ty.Class xs m) (ty.Class ys n) e = (refl, refl)

pub number_pair : (t u : Ty) → is_int t ≡ true → is_int u ≡ true → (value_of true t ≡ kind.Int ∷ [])
    × (value_of true u ≡ kind.Int ∷ [])
number_pair t u a b = (ap (value_of true) (int_is t a), ap (value_of true) (int_is u b))

pub operands : (o : Op) → Strict o → (t u : Ty) → takes o t ≡ true → takes o u ≡ true → takes_both o t u ≡ true
    → (value_of true t ≡ operand_kind o (kind_of_type u) ∷ []) × (value_of true u ≡ operand_kind o
    (kind_of_type u) ∷ [])
operands _ add t u a b c = number_pair t u a b
operands _ sub t u a b c = number_pair t u a b
operands _ mul t u a b c = number_pair t u a b
operands _ div t u a b c = number_pair t u a b
operands _ rem t u a b c = number_pair t u a b
operands _ lt t u a b c = number_pair t u a b
operands _ le t u a b c = number_pair t u a b
operands _ gt t u a b c = number_pair t u a b
operands _ ge t u a b c = number_pair t u a b
operands _ eq t u a b c = compared t u c
operands _ ne t u a b c = compared t u c

pub answered_kind : (o : Op) → Strict o → value_of true (operator_type o) ≡ answer_kind o ∷ []
answered_kind _ add = refl
answered_kind _ sub = refl
answered_kind _ mul = refl
answered_kind _ div = refl
answered_kind _ rem = refl
answered_kind _ lt = refl
answered_kind _ le = refl
answered_kind _ gt = refl
answered_kind _ ge = refl
answered_kind _ eq = refl
answered_kind _ ne = refl

pub decide_takes : (o : Op) (and : Bool) (t : Ty) → IsDecide o and → takes o t ≡ true → t ≡ ty.Bool
decide_takes _ _ t both e = bool_is t e
decide_takes _ _ t either e = bool_is t e

pub decide_type : (o : Op) (and : Bool) → IsDecide o and → operator_type o ≡ ty.Bool
decide_type _ _ both = refl
decide_type _ _ either = refl

pub link_low : (o : Op) → Strict o → (k : ℕ) → link_holds o k ≡ suc k
link_low _ add k = refl
link_low _ sub k = refl
link_low _ mul k = refl
link_low _ div k = refl
link_low _ rem k = refl
link_low _ lt k = refl
link_low _ le k = refl
link_low _ gt k = refl
link_low _ ge k = refl
link_low _ eq k = refl
link_low _ ne k = refl

pub decide_low : (o : Op) (and : Bool) → IsDecide o and → (k : ℕ) → link_holds o k ≡ k
decide_low _ _ both k = refl
decide_low _ _ either k = refl

pub named_same : (vs : List Var) (x : Name) (v : Var) → newest vs x ≡ Some v
    → var_named (record { list = vs }) x ≡ Some v
named_same vs x v e = found_named (reverse vs) x ∙ e where
  found_named : (vs : List Var) (x : Name) → newest_in vs x ≡ find (λ (y : Var). nat_eq y.name.0 x.0) vs
  found_named [] x = refl
  found_named (v ∷ vs) x = ap (λ (o : Option Var). cond (nat_eq v.name.0 x.0) (Some v) o) (found_named vs x)

pub newest_among : (vs : List Var) (x : Name) (v : Var) → newest_in vs x ≡ Some v → Among vs v
newest_among [] x v e = absurd (no e) where
  no : ◌≡◌ {A = Option Var} None (Some v) → ⊥
  no e = cc
newest_among (w ∷ vs) x v e = at (nat_eq w.name.0 x.0) e (newest_among vs x v) where
  same : Some w ≡ Some v → w ≡ v
  same e = cc

  at : (b : Bool) → cond b (Some w) (newest_in vs x) ≡ Some v → (newest_in vs x ≡ Some v → Among vs v)
      → Among (w ∷ vs) v
  at true e again = subst (Among (w ∷ vs)) (same e) first
  at false e again = later (again e)

pub named_among : (vs : List Var) (x : Name) (v : Var) → var_named (record { list = vs }) x ≡ Some v → Among vs v
named_among vs x v e = reverse_among vs v (newest_among (reverse vs) x v e)

-- a type with a kind isn't void
pub not_void : (t : Ty) (k : OperandKind) → value_of true t ≡ k ∷ [] → t ≡ ty.Void → ⊥
not_void t k e v = no (sym (ap (value_of true) v) ∙ e) where
  no : [] ≡ k ∷ [] → ⊥
  no e = cc

pub held : (t : Ty) → (t ≡ ty.Void → ⊥) → value_of true t ≡ kind_of (kind_of_type t) ∷ []
held ty.Int n = refl
held ty.Bool n = refl
held ty.Null n = refl
held (ty.Class xs m) n = refl
held ty.Void n = absurd (n refl)

pub no_vars : (vs : List Var) → length vs ≡ 0 → reverse (map var_kind vs) ≡ []
no_vars [] e = refl
no_vars (v ∷ vs) e = cc

pub hanging_class : (t : Ty) (x : Atom) → Among (atoms_in t) x → kind_of_type t ≡ 3
hanging_class (ty.Class xs m) x a = refl
hanging_class ty.Int x a = elim a [ ]
hanging_class ty.Bool x a = elim a [ ]
hanging_class ty.Null x a = refl
hanging_class ty.Void x a = refl

pub field_kind : (t : Ty) (k : ℕ) → FieldKind t k → kind_of k ≡ kind_of (kind_of_type t)
field_kind t k (plain_kind n e) = ap kind_of e
field_kind t k (hanging h e) = ap kind_of e ∙ sym (ap kind_of (hanging_class t h.atom h.among))
