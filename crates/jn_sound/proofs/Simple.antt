-- Acts that go by values alone: a variable, `!`, unary `-`, operators, and what is printed.
use Rattle.std.proofs.Common.{◌≡◌, ℕ, ℤ, List, ◌∷◌, length, Option, Some, None, Bool, true, false, refl}
use Rattle.std.specs.Prelude.{◌&&◌, take, not}
use Rattle.jn_base.specs.declared.tree.Name.{Name}
use Rattle.jn_base.specs.declared.tree.Op.{Op}
use Rattle.jn_base.specs.declared.tree.Op.TheVariants as op
use Rattle.jn_base.specs.declared.tree.Program.{Program}
use Rattle.jn_base.specs.declared.types.Ty.{Ty}
use Rattle.jn_base.specs.declared.types.Ty.TheVariants as ty
use Rattle.jn_base.specs.declared.names.Var.{Var}
use Rattle.jn_base.specs.Atoms.{Among}
use Rattle.jn_base.specs.Scopes.{Scope}
use Rattle.jn_base.specs.Fits.{TypeFits}
use Rattle.jn_base.specs.Resolve.{is_class, var_named}
use Rattle.jn_steps.specs.Numbers.{negation_of, quotient_of, remainder_of}
use Rattle.jn_sem.specs.Sets.{Views}
use Rattle.jn_sem.specs.Values.{Value, Number, Truth, Null, Reference, number, truth, null, no_object, object}
use Rattle.jn_sem.specs.Acts.{Read, Invert, Negate, Operate, Print, Todo}
use Rattle.jn_sem.specs.State.{Heap, Variable, Frame, IsIn, variable}
use Rattle.jn_sem.specs.Asks.{OnFirst}
use Rattle.jn_sem.specs.Does.{Did, Does, Zero, Made, Gives, Fails, on_truth, on_number, on_made, on_numbers, divided, result_of, goes, missing, prints_value}
use Rattle.jn_rules.specs.Exprs.{bind, is_int, comparable, operator_type}
use Rattle.jn_rules.specs.Headers.{Header}
use Rattle.jn_sound.specs.Takes.{Opd, opd, opd_of, typing, decides, Operates, IsLiteral, number as number_literal, truth as truth_literal}
use Rattle.jn_sound.specs.Sound.{HeapFits, OperandFits, OperandsFit, one, cut, all_views, NotStuck, Stands}
use Rattle.jn_sound.specs.Steps.{DidAt}
use Rattle.jn_sound.proofs.Ways.{surely}
use Rattle.jn_sound.proofs.Safe.{Sure, sure_it, sure_some}
use Rattle.jn_sound.proofs.Stands.{now}
use Rattle.jn_sound.proofs.Acts.{literal_fits}
use Rattle.jn_sound.proofs.GetStep.{goes_at}
use Rattle.jn_sound.proofs.Returns.{TruthIs, truth_is, truth_value, read_operand, variable_of}

-- ---- a variable

pub read_at : {p : Program} {h : Heap} {f : Frame} {x : Header} {vs : List Var} {s : Scope} {ops : List Opd}
    {w : Views} → HeapFits p h → (m : ℕ) (k : List Todo)
    (y : Name) (v : Var) → var_named (record { list = vs }) y ≡ Some v → TypeFits s (opd_of s v).ty →
    ((v.fixed && is_class v.ty) ≡ false → Among s (bind v.path v.ty))
    → Stands p h f x vs s ops w → Sure (DidAt p h f x vs k (typing s (opd_of s v ∷ ops)))
    (Does p m (Read y) (now (length vs) k f) h)
read_at {p} {h} {f} {x} {vs} {s} {ops} {w} hf m k y v l t b a =
    let found = variable_of (take (length vs) f.vars) vs y v a.in_scope.declared l in
    sure_some (variable (take (length vs) f.vars) y) missing
    (λ (z : Variable). goes (now (length vs) k f) (z.value ∷ f.vals) h) found.variable found.is
    (sure_it _ (surely (goes_at hf a k (opd_of s v ∷ ops) (found.variable.value ∷ f.vals)
    (one (read_operand v found.variable a.in_scope found.among found.var t b) a.operands))))

-- ---- kinds of values

pub data NumberIs : Value → Type 0 where
  number_is : {z : ℤ} → NumberIs (Number z)

pub number_value : (p : Program) (h : Heap) (v : Views) (z : Value) → IsIn p v h ty.Int z → NumberIs z
number_value p h v _ number = number_is

-- ---- one operand

pub invert_at : {p : Program} {h : Heap} {f : Frame} {x : Header} {vs : List Var} {s : Scope} {ops : List Opd}
    {w : Views} → HeapFits p h → (m : ℕ) (k : List Todo) (q : Option ℕ)
    → Stands p h f x vs s (opd ty.Bool q ∷ ops) w → Sure (DidAt p h f x vs k (typing s (opd ty.Bool None ∷ ops)))
    (Does p m Invert (now (length vs) k f) h)
invert_at {p} {h} {f} {x} {vs} {s} {ops} {w} hf m k q a = at f.vals a.operands where
  v : Views
  v = all_views (cut (length vs) f) w

  Q : Did → Type 0
  Q = DidAt p h f x vs k (typing s (opd ty.Bool None ∷ ops))

  by : (z : Value) (us : List Value) → TruthIs z → OperandsFit p (take (length vs) f.vars) h s v ops us
      → Sure Q (on_truth z (λ b. goes (now (length vs) k f) (Truth (not b) ∷ us) h))
  by _ us (truth_is {b = b}) others =
      sure_it _ (surely (goes_at hf a k _ (Truth (not b) ∷ us)
      (one (literal_fits p (take (length vs) f.vars) h s v (Truth (not b)) ty.Bool truth_literal) others)))

  at : (vals : List Value) → OperandsFit p (take (length vs) f.vars) h s v (opd ty.Bool q ∷ ops) vals
      → Sure Q (OnFirst vals missing (λ z us. on_truth z (λ b. goes (now (length vs) k f) (Truth (not b) ∷ us) h)))
  at _ (one {x = z} {vs = us} j others) = by z us (truth_value p h v z j.is_in) others

pub negate_at : {p : Program} {h : Heap} {f : Frame} {x : Header} {vs : List Var} {s : Scope} {ops : List Opd}
    {w : Views} → HeapFits p h → (m : ℕ) (k : List Todo) (q : Option ℕ)
    → Stands p h f x vs s (opd ty.Int q ∷ ops) w → Sure (DidAt p h f x vs k (typing s (opd ty.Int None ∷ ops)))
    (Does p m Negate (now (length vs) k f) h)
negate_at {p} {h} {f} {x} {vs} {s} {ops} {w} hf m k q a = at f.vals a.operands where
  v : Views
  v = all_views (cut (length vs) f) w

  Q : Did → Type 0
  Q = DidAt p h f x vs k (typing s (opd ty.Int None ∷ ops))

  by : (z : Value) (us : List Value) → NumberIs z → OperandsFit p (take (length vs) f.vars) h s v ops us
      → Sure Q (on_number z (λ i. goes (now (length vs) k f) (Number (negation_of i) ∷ us) h))
  by _ us (number_is {z = z}) others =
      sure_it _ (surely (goes_at hf a k _ (Number (negation_of z) ∷ us)
      (one (literal_fits p (take (length vs) f.vars) h s v (Number (negation_of z)) ty.Int number_literal) others)))

  at : (vals : List Value) → OperandsFit p (take (length vs) f.vars) h s v (opd ty.Int q ∷ ops) vals
      → Sure Q (OnFirst vals missing (λ z us. on_number z
      (λ i. goes (now (length vs) k f) (Number (negation_of i) ∷ us) h)))
  at _ (one {x = z} {vs = us} j others) = by z us (number_value p h v z j.is_in) others

-- ---- two operands

-- an operator gives a number or a truth value, or divides by zero
data MadeFits : Made → Ty → Type 0 where
  gives : {v : Value} {t : Ty} → IsLiteral v t → MadeFits (Gives v) t
  fails : {t : Ty} → MadeFits (Fails Zero) t

quotient_fits : (o : Option ℤ) → MadeFits (divided o) ty.Int
quotient_fits None = fails
quotient_fits (Some z) = gives number_literal

not_true : false ≡ true → ⊥
not_true e = cc

not_false : true ≡ false → ⊥
not_false e = cc

numbers_fit : (o : Op) (a b : ℤ) → decides o ≡ false → MadeFits (on_numbers o a b) (operator_type o)
numbers_fit op.Add a b e = gives number_literal
numbers_fit op.Sub a b e = gives number_literal
numbers_fit op.Mul a b e = gives number_literal
numbers_fit op.Div a b e = quotient_fits (quotient_of a b)
numbers_fit op.Rem a b e = quotient_fits (remainder_of a b)
numbers_fit op.Lt a b e = gives truth_literal
numbers_fit op.Le a b e = gives truth_literal
numbers_fit op.Gt a b e = gives truth_literal
numbers_fit op.Ge a b e = gives truth_literal
numbers_fit op.Eq a b e = gives truth_literal
numbers_fit op.Ne a b e = gives truth_literal
numbers_fit op.And a b e = absurd (not_false e)
numbers_fit op.Or a b e = absurd (not_false e)

-- both int, both boolean, or both null or references
data Alike : Value → Value → Type 0 where
  numbers : {a b : ℤ} → Alike (Number a) (Number b)
  truths : {a b : Bool} → Alike (Truth a) (Truth b)
  nulls : Alike Null Null
  null_left : {o : ℕ} {V : _} → Alike Null (Reference o V)
  null_right : {o : ℕ} {V : _} → Alike (Reference o V) Null
  references : {o i : ℕ} {V W : _} → Alike (Reference o V) (Reference i W)

equal_fits : (a b : Value) → Alike a b → MadeFits (result_of op.Eq a b) ty.Bool
equal_fits _ _ numbers = gives truth_literal
equal_fits _ _ truths = gives truth_literal
equal_fits _ _ nulls = gives truth_literal
equal_fits _ _ null_left = gives truth_literal
equal_fits _ _ null_right = gives truth_literal
equal_fits _ _ references = gives truth_literal

unequal_fits : (a b : Value) → Alike a b → MadeFits (result_of op.Ne a b) ty.Bool
unequal_fits _ _ numbers = gives truth_literal
unequal_fits _ _ truths = gives truth_literal
unequal_fits _ _ nulls = gives truth_literal
unequal_fits _ _ null_left = gives truth_literal
unequal_fits _ _ null_right = gives truth_literal
unequal_fits _ _ references = gives truth_literal

-- two values whose types may be compared
alike : (p : Program) (h : Heap) (v : Views) (t u : Ty) (a b : Value) → comparable t u ≡ true → IsIn p v h t a
    → IsIn p v h u b → Alike a b
alike p h v _ _ _ _ e number number = numbers
alike p h v _ _ _ _ e number truth = absurd (not_true e)
alike p h v _ _ _ _ e number null = absurd (not_true e)
alike p h v _ _ _ _ e number no_object = absurd (not_true e)
alike p h v _ _ _ _ e number (object i f) = absurd (not_true e)
alike p h v _ _ _ _ e truth number = absurd (not_true e)
alike p h v _ _ _ _ e truth truth = truths
alike p h v _ _ _ _ e truth null = absurd (not_true e)
alike p h v _ _ _ _ e truth no_object = absurd (not_true e)
alike p h v _ _ _ _ e truth (object i f) = absurd (not_true e)
alike p h v _ _ _ _ e null number = absurd (not_true e)
alike p h v _ _ _ _ e null truth = absurd (not_true e)
alike p h v _ _ _ _ e null null = nulls
alike p h v _ _ _ _ e null no_object = nulls
alike p h v _ _ _ _ e null (object i f) = null_left
alike p h v _ _ _ _ e no_object number = absurd (not_true e)
alike p h v _ _ _ _ e no_object truth = absurd (not_true e)
alike p h v _ _ _ _ e no_object null = nulls
alike p h v _ _ _ _ e no_object no_object = nulls
alike p h v _ _ _ _ e no_object (object i f) = null_left
alike p h v _ _ _ _ e (object i f) number = absurd (not_true e)
alike p h v _ _ _ _ e (object i f) truth = absurd (not_true e)
alike p h v _ _ _ _ e (object i f) null = null_right
alike p h v _ _ _ _ e (object i f) no_object = null_right
alike p h v _ _ _ _ e (object i f) (object j g) = references

int_value : (p : Program) (h : Heap) (v : Views) (t : Ty) (a : Value) → is_int t ≡ true → IsIn p v h t a → NumberIs a
int_value p h v _ _ e number = number_is
int_value p h v _ _ e truth = absurd (not_true e)
int_value p h v _ _ e null = absurd (not_true e)
int_value p h v _ _ e no_object = absurd (not_true e)
int_value p h v _ _ e (object i f) = absurd (not_true e)

of_numbers : (o : Op) (a b : Value) → decides o ≡ false → NumberIs a → NumberIs b
    → MadeFits (result_of o a b) (operator_type o)
of_numbers o _ _ e (number_is {z = x}) (number_is {z = y}) = numbers_fit o x y e

made_fits : (p : Program) (h : Heap) (v : Views) (o : Op) (t u : Ty) (a b : Value) → Operates o t u
    → IsIn p v h t a → IsIn p v h u b → MadeFits (result_of o a b) (operator_type o)
made_fits p h v op.Add t u a b r i j =
    of_numbers op.Add a b refl (int_value p h v t a r.left i) (int_value p h v u b r.right j)
made_fits p h v op.Sub t u a b r i j =
    of_numbers op.Sub a b refl (int_value p h v t a r.left i) (int_value p h v u b r.right j)
made_fits p h v op.Mul t u a b r i j =
    of_numbers op.Mul a b refl (int_value p h v t a r.left i) (int_value p h v u b r.right j)
made_fits p h v op.Div t u a b r i j =
    of_numbers op.Div a b refl (int_value p h v t a r.left i) (int_value p h v u b r.right j)
made_fits p h v op.Rem t u a b r i j =
    of_numbers op.Rem a b refl (int_value p h v t a r.left i) (int_value p h v u b r.right j)
made_fits p h v op.Lt t u a b r i j =
    of_numbers op.Lt a b refl (int_value p h v t a r.left i) (int_value p h v u b r.right j)
made_fits p h v op.Le t u a b r i j =
    of_numbers op.Le a b refl (int_value p h v t a r.left i) (int_value p h v u b r.right j)
made_fits p h v op.Gt t u a b r i j =
    of_numbers op.Gt a b refl (int_value p h v t a r.left i) (int_value p h v u b r.right j)
made_fits p h v op.Ge t u a b r i j =
    of_numbers op.Ge a b refl (int_value p h v t a r.left i) (int_value p h v u b r.right j)
made_fits p h v op.Eq t u a b r i j = equal_fits a b (alike p h v t u a b r.both i j)
made_fits p h v op.Ne t u a b r i j = unequal_fits a b (alike p h v t u a b r.both i j)
made_fits p h v op.And t u a b r i j = absurd (not_false r.acts)
made_fits p h v op.Or t u a b r i j = absurd (not_false r.acts)

not_stuck_zero : NotStuck Zero
not_stuck_zero w e = cc

pub operate_at : {p : Program} {h : Heap} {f : Frame} {x : Header} {vs : List Var} {s : Scope} {ops : List Opd}
    {w : Views} → HeapFits p h → (m : ℕ) (k : List Todo)
    (o : Op) (t u : Ty) (q r : Option ℕ) → Operates o t u → Stands p h f x vs s (opd u r ∷ (opd t q ∷ ops)) w
    → Sure (DidAt p h f x vs k (typing s (opd (operator_type o) None ∷ ops)))
    (Does p m (Operate o) (now (length vs) k f) h)
operate_at {p} {h} {f} {x} {vs} {s} {ops} {w} hf m k o t u q r i a = at f.vals a.operands where
  v : Views
  v = all_views (cut (length vs) f) w

  Q : Did → Type 0
  Q = DidAt p h f x vs k (typing s (opd (operator_type o) None ∷ ops))

  made : (d : Made) (us : List Value) → MadeFits d (operator_type o)
      → OperandsFit p (take (length vs) f.vars) h s v ops us
      → Sure Q (on_made d (λ z. goes (now (length vs) k f) (z ∷ us) h))
  made _ us (gives {v = z} l) others =
      sure_it _ (surely (goes_at hf a k _ (z ∷ us) (one (literal_fits p (take (length vs) f.vars) h s v z
      (operator_type o) l) others)))
  made _ us fails others = sure_it _ (surely not_stuck_zero)

  second : (b : Value) (rest : List Value) → OperandFits p (take (length vs) f.vars) h s v (opd u r) b
      → OperandsFit p (take (length vs) f.vars) h s v (opd t q ∷ ops) rest
      → Sure Q (OnFirst rest missing (λ c us. on_made (result_of o c b) (λ z. goes (now (length vs) k f) (z ∷ us) h)))
  second b _ j (one {x = c} {vs = us} l others) =
      made (result_of o c b) us (made_fits p h v o t u c b i l.is_in j.is_in) others

  at : (vals : List Value) → OperandsFit p (take (length vs) f.vars) h s v (opd u r ∷ (opd t q ∷ ops)) vals
      → Sure Q (OnFirst vals missing (λ b rest. OnFirst rest missing
      (λ c us. on_made (result_of o c b) (λ z. goes (now (length vs) k f) (z ∷ us) h))))
  at _ (one {x = b} {vs = rest} j others) = second b rest j others

-- ---- print

pub print_number_at : {p : Program} {h : Heap} {f : Frame} {x : Header} {vs : List Var} {s : Scope} {ops : List Opd}
    {w : Views} → HeapFits p h → (m : ℕ) (k : List Todo) (q : Option ℕ)
    → Stands p h f x vs s (opd ty.Int q ∷ ops) w → Sure (DidAt p h f x vs k (typing s ops))
    (Does p m Print (now (length vs) k f) h)
print_number_at {p} {h} {f} {x} {vs} {s} {ops} {w} hf m k q a = at f.vals a.operands where
  by : (z : Value) (us : List Value) → NumberIs z → OperandsFit p (take (length vs) f.vars) h s (all_views (cut
      (length vs) f) w) ops us
      → Sure (DidAt p h f x vs k (typing s ops)) (prints_value (now (length vs) k f) z us h)
  by _ us number_is others = sure_it _ (surely (goes_at hf a k ops us others))

  at : (vals : List Value) → OperandsFit p (take (length vs) f.vars) h s (all_views (cut (length vs) f) w)
      (opd ty.Int q ∷ ops) vals
      → Sure (DidAt p h f x vs k (typing s ops))
      (OnFirst vals missing (λ z us. prints_value (now (length vs) k f) z us h))
  at _ (one {x = z} {vs = us} j others) = by z us (number_value p h _ z j.is_in) others

pub print_truth_at : {p : Program} {h : Heap} {f : Frame} {x : Header} {vs : List Var} {s : Scope} {ops : List Opd}
    {w : Views} → HeapFits p h → (m : ℕ) (k : List Todo) (q : Option ℕ)
    → Stands p h f x vs s (opd ty.Bool q ∷ ops) w → Sure (DidAt p h f x vs k (typing s ops))
    (Does p m Print (now (length vs) k f) h)
print_truth_at {p} {h} {f} {x} {vs} {s} {ops} {w} hf m k q a = at f.vals a.operands where
  by : (z : Value) (us : List Value) → TruthIs z → OperandsFit p (take (length vs) f.vars) h s (all_views (cut
      (length vs) f) w) ops us
      → Sure (DidAt p h f x vs k (typing s ops)) (prints_value (now (length vs) k f) z us h)
  by _ us truth_is others = sure_it _ (surely (goes_at hf a k ops us others))

  at : (vals : List Value) → OperandsFit p (take (length vs) f.vars) h s (all_views (cut (length vs) f) w)
      (opd ty.Bool q ∷ ops) vals
      → Sure (DidAt p h f x vs k (typing s ops))
      (OnFirst vals missing (λ z us. prints_value (now (length vs) k f) z us h))
  at _ (one {x = z} {vs = us} j others) = by z us (truth_value p h _ z j.is_in) others
