-- What each act does: one charge.
--
-- At one act the order is: what is missing, a wrong kind, the act's own faults in the order written here, a slot without a
-- value, a value outside its type. Where the receiver is null, what needs its view isn't asked: Null stands in that place.
use Rattle.std.specs.Prelude.{◌≡◌, ℕ, zero, suc, ◌+◌, ℤ, pos, List, [], ◌∷◌, ◌++◌, length, Bool, true, false, not, Option, Some, None, slice_get, nat_eq, nat_le, int_lt, int_le, codes, Contains, ◌↔◌}
use Rattle.std.specs.Ordering.{int_eq}
use Rattle.std.specs.List.Sorted.{IsStrictlySortedBy}
use Rattle.jn_reach.specs.Each.{Each}
use Rattle.jn_steps.specs.Steps.{Step, Goes, Enters, Leaves, Faults}
use Rattle.jn_steps.specs.Numbers.{sum_of, difference_of, product_of, negation_of, quotient_of, remainder_of, line_of, number_line, truth_line}
use Rattle.jn_base.specs.declared.tree.Name.{Name}
use Rattle.jn_base.specs.declared.tree.Text.{Text}
use Rattle.jn_base.specs.declared.tree.Op.{Op}
use Rattle.jn_base.specs.declared.tree.Op.TheVariants as op
use Rattle.jn_base.specs.declared.tree.Method.{Method}
use Rattle.jn_base.specs.declared.tree.Param.{Param}
use Rattle.jn_base.specs.declared.tree.Expr.{Expr}
use Rattle.jn_base.specs.declared.tree.Stmt.{Stmt}
use Rattle.jn_base.specs.declared.tree.Term.{Term}
use Rattle.jn_base.specs.declared.tree.TypeTerm.{TypeTerm}
use Rattle.jn_base.specs.declared.tree.ViewTerm.{ViewTerm}
use Rattle.jn_base.specs.declared.tree.Program.{Program}
use Rattle.jn_base.specs.declared.types.Ty.{Ty}
use Rattle.jn_base.specs.declared.types.Ty.TheVariants as ty
use Rattle.jn_base.specs.Paths.{Path}
use Rattle.jn_base.specs.ClassOrder.{name_cmp}
use Rattle.jn_base.specs.Members.{MethodAt, Least}
use Rattle.jn_base.specs.Atoms.{Atom, atom_at}
use Rattle.jn_sem.specs.declared.outcome.Why.{Why}
use Rattle.jn_sem.specs.declared.outcome.Why.TheVariants as why
use Rattle.jn_sem.specs.Sets.{AnchorSeen, view_at}
use Rattle.jn_sem.specs.Values.{Value, Number, Truth, Null, Reference, HasField}
use Rattle.jn_sem.specs.Sharing.{IsClass, Counterpart, HangsOnThis, family_of}
use Rattle.jn_base.specs.declared.names.Var.{Var}
use Rattle.jn_base.specs.declared.names.Role.TheVariants as role
use Rattle.jn_sem.specs.Terms.{TermIs, SuperBound, ViewIs, TypeIs}
use Rattle.jn_sem.specs.Slots.{FieldType, IsSlot, IsSize, this_viewed}
use Rattle.jn_sem.specs.Acts.{Act, Push, Read, This, Invert, Negate, Operate, Decide, Get, Call, Make, Super, View, Bind, Assign, Put, Choose, Repeat, Return, Print, PrintText, Begin, Open, Todo, todo, acts, stmts_acts, path_behind}
use Rattle.jn_sem.specs.State.{Stored, Heap, slot_value, with_slot, with_object, IsIn, Variable, Frame, frame_views, site_of, result_site, variable, assigned, is_null_path}
use Rattle.jn_sem.specs.Asks.{OnOnly, OnTest, OnSome, OnIf, OnFirst, It}

-- how a run ends
pub data Ending : Type 0 where
  Ends : Ending
  AtNull : Ending
  Zero : Ending
  Arena : Ending
  Depth : Ending
  Stuck : Why → Ending

-- A body that is called: the declaration that has it, the method, and its parameters as they are declared, in order.
pub record Entry : Type 0 where
  pub class : Path
  pub method : Method
  pub vars : List Var

-- what the frame at work does
abbrev pub Did : Type 0
Did = Step Frame Heap Entry Value Ending

-- which of these it may be
abbrev pub Way : Type 1
Way = Did → Type 0

-- ---- words for steps

abbrev pub ends : Ending → Way
ends o = It (Faults o)

abbrev pub missing : Way
missing = ends (Stuck why.Missing)

abbrev pub wrong_kind : Way
wrong_kind = ends (Stuck why.Kind)

abbrev pub masked : Way
masked = ends (Stuck why.Masked)

abbrev pub foreign : Way
foreign = ends (Stuck why.Foreign)

-- it goes on with these operands
abbrev pub goes : Frame → List Value → Heap → Way
goes f vs h = It (Goes (record f { vals = vs }) h [])

abbrev pub goes_with : Frame → List Value → List Todo → Heap → Way
goes_with f vs k h = It (Goes (record f { vals = vs; todo = k }) h [])

-- it goes on, and prints
abbrev pub prints : Frame → List Value → Heap → List ℕ → Way
prints f vs h bytes = It (Goes (record f { vals = vs }) h bytes)

-- it waits for the result of a call, which is kept or not
abbrev pub waiting : Bool → Frame → List Value → Frame
waiting keeps f vs = record f { vals = vs; keeps = keeps }

abbrev pub kept : Bool → Value → List Value → List Value
kept true v vs = v ∷ vs
kept false v vs = vs

-- the latest operand, with those before it
abbrev pub on_one : Frame → (Value → List Value → Way) → Way
on_one f go = OnFirst f.vals missing go

-- the two latest ones, the earlier one first
abbrev pub on_two : Frame → (Value → Value → List Value → Way) → Way
on_two f go = OnFirst f.vals missing (λ b rest. OnFirst rest missing (λ a vs. go a b vs))

-- the n latest ones, the earliest first and before those already taken, with those before them
abbrev pub args_of : ℕ → List Value → List Value → Option (List Value × List Value)
args_of zero taken vs = Some (taken, vs)
args_of (suc n) taken [] = None
args_of (suc n) taken (v ∷ vs) = args_of n (v ∷ taken) vs

abbrev pub on_args : ℕ → Frame → (List Value → List Value → Way) → Way
on_args n f go = OnSome (args_of n [] f.vals) missing (λ x. go x.0 x.1)

abbrev pub on_number : Value → (ℤ → Way) → Way
on_number (Number z) go = go z
on_number (Truth b) go = wrong_kind
on_number Null go = wrong_kind
on_number (Reference o V) go = wrong_kind

abbrev pub on_truth : Value → (Bool → Way) → Way
on_truth (Truth b) go = go b
on_truth (Number z) go = wrong_kind
on_truth Null go = wrong_kind
on_truth (Reference o V) go = wrong_kind

-- a receiver: Null where it is null
abbrev pub on_object : Value → (ℕ → Path → Way) → Way
on_object (Reference o V) go = go o V
on_object Null go = ends AtNull
on_object (Number z) go = wrong_kind
on_object (Truth b) go = wrong_kind

-- ---- operators

pub data Made : Type 0 where
  Gives : Value → Made
  Fails : Ending → Made

abbrev pub on_made : Made → (Value → Way) → Way
on_made (Gives v) go = go v
on_made (Fails o) go = ends o

abbrev pub no_operator : Made
no_operator = Fails (Stuck why.Kind)

abbrev pub truth : Bool → Made
truth b = Gives (Truth b)

-- Zero where the divisor is 0
abbrev pub divided : Option ℤ → Made
divided None = Fails Zero
divided (Some z) = Gives (Number z)

abbrev pub on_numbers : Op → ℤ → ℤ → Made
on_numbers op.Add a b = Gives (Number (sum_of a b))
on_numbers op.Sub a b = Gives (Number (difference_of a b))
on_numbers op.Mul a b = Gives (Number (product_of a b))
on_numbers op.Div a b = divided (quotient_of a b)
on_numbers op.Rem a b = divided (remainder_of a b)
on_numbers op.Lt a b = truth (int_lt a b)
on_numbers op.Le a b = truth (int_le a b)
on_numbers op.Gt a b = truth (int_lt b a)
on_numbers op.Ge a b = truth (int_le b a)
on_numbers op.Eq a b = truth (int_eq a b)
on_numbers op.Ne a b = truth (not (int_eq a b))
on_numbers op.And a b = no_operator
on_numbers op.Or a b = no_operator

abbrev pub same_truth : Bool → Bool → Bool
same_truth true b = b
same_truth false b = not b

-- `==` and `!=`, where the operands are the same or not
abbrev pub on_equal : Op → Bool → Made
on_equal op.Eq same = truth same
on_equal op.Ne same = truth (not same)
on_equal _ same = no_operator

-- Both numbers, both truth values, or both null or references; these are the same where they have one object.
abbrev pub result_of : Op → Value → Value → Made
result_of o (Number a) (Number b) = on_numbers o a b
result_of o (Truth a) (Truth b) = on_equal o (same_truth a b)
result_of o Null Null = on_equal o true
result_of o Null (Reference y W) = on_equal o false
result_of o (Reference x V) Null = on_equal o false
result_of o (Reference x V) (Reference y W) = on_equal o (nat_eq x y)
result_of o _ _ = no_operator

-- ---- what is found in the program

-- the body of m at the class V is the one of Least(V, m)
pub record Body : Type 0 where
  pub class : Path
  pub method : Method

pub record IsBody (p : Program) (V : Path) (m : Name) (b : Body) : Type 0 where
  pub least : Least p V m b.class
  pub at : MethodAt p b.class m b.method

-- the constructor of V is its method of its own last name
abbrev pub IsConstructorBody : Program → Path → Body → Type 0
IsConstructorBody p [] b = ⊥
IsConstructorBody p (C ∷ P) b = IsBody p (C ∷ P) C b

abbrev pub var : Name → ℕ → Bool → Ty → Var
var x path fixed t = record { name = x; path = path; fixed = fixed; ty = t }

-- The parameters behind those before, each with its type as it is declared; they are paths 1, 2, ..
abbrev pub AreParamsAfter : Program → Body → List Var → List Param → List Var → Type 0
AreParamsAfter p b before [] all = all ≡ before
AreParamsAfter p b before (x ∷ xs) all =
    (t : Ty) × TypeIs p (record { class = b.class; method = b.method.name.name; vars = before }) x.ty t
    × AreParamsAfter p b (before ++ var x.name.name (suc (length before)) x.fixed t ∷ []) xs all

abbrev pub AreParams : Program → Body → List Var → Type 0
AreParams p b vars = AreParamsAfter p b [] b.method.params vars

abbrev pub zero_of : Ty → Value
zero_of ty.Int = Number (pos 0)
zero_of ty.Bool = Truth false
zero_of ty.Null = Null
zero_of ty.Void = Null
zero_of (ty.Class xs m) = Null

-- a field of a new V has 0, false or null in its slot
pub record IsFresh (p : Program) (V : Path) (f : Name) (x : Stored) : Type 0 where
  pub ty : Ty
  pub type : FieldType p V f ty
  pub slot : IsSlot p V f x.slot
  pub value : x.value ≡ zero_of ty

-- all of them, in the order of the names
pub record AreFresh (p : Program) (V : Path) (xs : List Stored) : Type 0 where
  pub names : List Name
  pub exact : (f : Name) → Contains names f ↔ HasField p V f
  pub in_order : IsStrictlySortedBy (name_cmp p) names
  pub each : Each (IsFresh p V) names xs

-- the class that `new T` makes, by the views of the paths
pub record IsNewClass (p : Program) (f : Frame) (t : Term) (V : Path) : Type 0 where
  pub atom : Atom
  pub resolved : TermIs p role.New (site_of f) t atom
  pub seen : AnchorSeen (frame_views f) atom.anchor
  pub is : V ≡ atom_at (view_at (frame_views f)) atom

-- the family of the target of a view, by the views of the paths
pub record IsTargetFamily (p : Program) (f : Frame) (t : ViewTerm) (Y : Name) : Type 0 where
  pub atom : Atom
  pub resolved : ViewIs p (site_of f) t atom
  pub seen : AnchorSeen (frame_views f) atom.anchor
  pub is : family_of (atom_at (view_at (frame_views f)) atom) ≡ Some Y

-- n is spelled so
pub record IsSpelled (p : Program) (bytes : List ℕ) (n : Name) : Type 0 where
  pub text : Text
  pub at : slice_get p.names n.0 ≡ Some text
  pub is : text.bytes ≡ bytes

-- ---- calls and objects

-- A body is called with these arguments: as many as it has parameters, whose types resolve.
abbrev pub on_entry : Program → Body → List Value → (Entry → Way) → Way
on_entry p b args go =
    OnIf (nat_eq (length args) (length b.method.params)) missing (OnOnly (AreParams p b) missing (λ vars. go (record { class = b.class; method = b.method; vars = vars })))

-- The least body of m at B is called, with this receiver.
abbrev pub calls : Program → Path → Name → (receiver : Value) → List Value → Frame → Heap → Way
calls p B m r args f h =
    OnOnly (IsBody p B m) missing (λ b. on_entry p b args (λ e. It (Enters e (r ∷ args) f h)))

-- Arena where the used cells with those of the object exceed the capacity
abbrev pub on_cells : (capacity : ℕ) → Heap → (size : ℕ) → Way → Way
on_cells capacity h size go = OnIf (nat_le (h.used + size) capacity) (ends Arena) go

-- the constructor, where there is one, as a call; where there is none, an argument is one too many
abbrev pub constructs : Program → (capacity : ℕ) → Path → List Value → (keeps : Bool) → Frame → List Value → Heap → (size : ℕ) → List Stored → Way
constructs p capacity V args keeps f vs h size fresh =
    let r = Reference (length h.objects) V in
    let made = with_object h size (record { made = V; stored = fresh }) in
    OnOnly (IsConstructorBody p V)
    (OnFirst args (on_cells capacity h size (goes f (kept keeps r vs) made)) (λ a rest. missing))
    (λ b. on_entry p b args (λ e. on_cells capacity h size (It (Enters e (r ∷ args) (waiting false f (kept keeps r vs)) made))))

-- A new object of the class V: it takes the cells of its group, and each field of the class has its zero.
abbrev pub makes : Program → (capacity : ℕ) → Path → List Value → (keeps : Bool) → Frame → List Value → Heap → Way
makes p capacity V args keeps f vs h =
    OnTest (IsClass p V) missing
    (OnOnly (IsSize p V) missing (λ size. OnOnly (AreFresh p V) missing (λ fresh. constructs p capacity V args keeps f vs h size fresh)))

-- the counterpart of a reference in a family; null stays null
abbrev pub on_viewed : Program → Name → Value → (Value → Way) → Way
on_viewed p Y (Reference o V) go = OnOnly (Counterpart p Y V) missing (λ W. go (Reference o W))
on_viewed p Y Null go = go Null
on_viewed p Y (Number z) go = wrong_kind
on_viewed p Y (Truth b) go = wrong_kind

-- What a field of the type t gives, read at the view V: a reference whose field type hangs on `this` gets the counterpart
-- view in the receiver's family.
abbrev pub on_read : Program → Path → Ty → Value → (Value → Way) → Way
on_read p V t (Reference o W) go =
    OnTest (HangsOnThis t) (go (Reference o W)) (OnSome (family_of V) missing (λ Y. on_viewed p Y (Reference o W) go))
on_read p V t (Number z) go = go (Number z)
on_read p V t (Truth b) go = go (Truth b)
on_read p V t Null go = go Null

-- the value is in the type, by the views of the frame
abbrev pub on_typed : Program → Frame → Heap → Ty → Value → Way → Way
on_typed p f h t v go = OnTest (IsIn p (frame_views f) h t v) foreign go

-- ---- statements

abbrev pub chosen : Frame → (path : ℕ) → (one other : List Stmt) → Bool → List Todo
chosen f path one other true = stmts_acts (length f.vars) path one f.todo
chosen f path one other false = stmts_acts (length f.vars) (path_behind one path) other f.todo

abbrev pub repeated : Frame → (path : ℕ) → Expr → List Stmt → Bool → List Todo
repeated f path e body true =
    stmts_acts (length f.vars) path body (acts (length f.vars) e (todo (length f.vars) (Repeat path e body) ∷ f.todo))
repeated f path e body false = f.todo

-- where the left operand decides, it is the value, and the right one isn't evaluated
abbrev pub decided : Frame → Expr → List Value → Heap → Bool → (goes_on : Bool) → Way
decided f e vs h b true = goes_with f vs (acts (length f.vars) e f.todo) h
decided f e vs h b false = goes f (Truth b ∷ vs) h

abbrev pub bound_to : Var → Value → Variable
bound_to x v = record { var = x; value = v }

-- a local: a `final` one of class type must not be null
abbrev pub binds : Program → Frame → Heap → Var → Value → List Value → Way
binds p f h x v vs =
    OnIf (not (is_null_path (bound_to x v))) (ends AtNull)
    (on_typed p f h x.ty v (It (Goes (record f { vals = vs; vars = f.vars ++ bound_to x v ∷ [] }) h [])))

-- a result: the method has one, and the value is in its type, in which the parameters are in scope
abbrev pub returns : Program → Frame → Heap → Option TypeTerm → Value → Way
returns p f h None v = wrong_kind
returns p f h (Some t) v = OnOnly (TypeIs p (result_site f) t) missing (λ t. on_typed p f h t v (It (Leaves (Some v) h)))

abbrev pub returns_none : Option TypeTerm → Heap → Way
returns_none None h = It (Leaves None h)
returns_none (Some t) h = wrong_kind

abbrev pub prints_value : Frame → Value → List Value → Heap → Way
prints_value f (Number z) vs h = prints f vs h (number_line z)
prints_value f (Truth b) vs h = prints f vs h (truth_line b)
prints_value f Null vs h = wrong_kind
prints_value f (Reference o V) vs h = wrong_kind

-- ---- the acts

-- What an act does, where f is the frame without it. `capacity` is the arena's.
abbrev pub Does : Program → (capacity : ℕ) → Act → Frame → Heap → Way
Does p capacity (Push v) f h = goes f (v ∷ f.vals) h
Does p capacity (Read x) f h = OnSome (variable f.vars x) missing (λ y. goes f (y.value ∷ f.vals) h)
Does p capacity This f h = goes f (f.this ∷ f.vals) h
Does p capacity Invert f h = on_one f (λ v vs. on_truth v (λ b. goes f (Truth (not b) ∷ vs) h))
Does p capacity Negate f h = on_one f (λ v vs. on_number v (λ z. goes f (Number (negation_of z) ∷ vs) h))
Does p capacity (Operate o) f h = on_two f (λ a b vs. on_made (result_of o a b) (λ v. goes f (v ∷ vs) h))
Does p capacity (Decide and e) f h = on_one f (λ v vs. on_truth v (λ b. decided f e vs h b (same_truth and b)))
Does p capacity (Get field) f h =
    on_one f (λ r vs. on_object r (λ o V. OnOnly (FieldType p V field) missing (λ t. OnOnly (IsSlot p V field) missing (λ s. OnSome (slot_value h o s) masked (λ v. on_read p V t v (λ w. goes f (w ∷ vs) h))))))
Does p capacity (Call name n keeps) f h =
    on_args n f (λ args rest. OnFirst rest missing (λ r vs. on_object r (λ o V. calls p V name r args (waiting keeps f vs) h)))
Does p capacity (Make t n keeps) f h =
    on_args n f (λ args vs. OnOnly (IsNewClass p f t) missing (λ V. makes p capacity V args keeps f vs h))
Does p capacity (Super t name n keeps) f h =
    on_args n f (λ args vs. OnOnly (SuperBound p (site_of f) t) missing (λ B. calls p B name f.this args (waiting keeps f vs) h))
Does p capacity (View t) f h =
    on_one f (λ v vs. OnOnly (IsTargetFamily p f t) missing (λ Y. on_viewed p Y v (λ w. goes f (w ∷ vs) h)))
Does p capacity (Bind fixed t x path) f h =
    on_one f (λ v vs. OnOnly (TypeIs p (site_of f) t) missing (λ t. binds p f h (var x path fixed t) v vs))
Does p capacity (Assign x) f h =
    on_one f (λ v vs. OnSome (variable f.vars x) missing (λ y. on_typed p f h y.var.ty v (It (Goes (record f { vals = vs; vars = assigned f.vars x v }) h []))))
Does p capacity (Put field) f h =
    on_two f (λ r v vs. on_object r (λ o V. OnOnly (FieldType p V field) missing (λ t. OnOnly (IsSlot p V field) missing (λ s. OnSome (slice_get h.objects o) missing (λ x. OnTest (IsIn p (this_viewed V) h t v) foreign (goes f vs (with_slot h o x s v)))))))
Does p capacity (Choose path one other) f h = on_one f (λ v vs. on_truth v (λ b. goes_with f vs (chosen f path one other b) h))
Does p capacity (Repeat path e body) f h = on_one f (λ v vs. on_truth v (λ b. goes_with f vs (repeated f path e body b) h))
Does p capacity (Return true) f h = on_one f (λ v vs. returns p f h f.method.result v)
Does p capacity (Return false) f h = returns_none f.method.result h
Does p capacity Print f h = on_one f (λ v vs. prints_value f v vs h)
Does p capacity (PrintText t) f h = OnSome (slice_get p.texts t) missing (λ x. prints f f.vals h (line_of x.bytes))
Does p capacity Begin f h = OnOnly (IsSpelled p (codes "Main")) missing (λ n. makes p capacity (n ∷ []) [] true f f.vals h)
Does p capacity Open f h =
    on_one f (λ r vs. on_object r (λ o V. OnOnly (IsSpelled p (codes "main")) missing (λ n. calls p V n r [] (waiting false f vs) h)))

-- Examples: `e.m()` with e null is Null, whatever m is.
-- `s.show()` runs the body at the view of s: where s is (view shower!.Exp) e, that of shower.
