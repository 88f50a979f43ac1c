-- Sound: what holds of a state at every charge of an accepted program.
use Rattle.std.specs.Prelude.{◌≡◌, ◌≢◌, ◌<◌, ◌≤◌, ℕ, List, [], ◌∷◌, length, take, Contains, true, false, cond, nat_lt, Option, Some, None, slice_get}
use Rattle.jn_steps.specs.Runs.{On, End}
use Rattle.jn_steps.specs.Steps.{Goes, Enters, Leaves, Falls, Faults}
use Rattle.jn_base.specs.declared.tree.Name.{Name}
use Rattle.jn_base.specs.declared.tree.Constraint.{Constraint}
use Rattle.jn_base.specs.declared.tree.Program.{Program}
use Rattle.jn_base.specs.declared.types.Ty.{Ty}
use Rattle.jn_base.specs.declared.names.Var.{Var}
use Rattle.jn_base.specs.Paths.{Path}
use Rattle.jn_base.specs.Supers.{Sup}
use Rattle.jn_base.specs.Atoms.{atoms_in, Among}
use Rattle.jn_base.specs.Scopes.{Bind, Scope, Binds}
use Rattle.jn_base.specs.Fits.{BindsFit, TypeFits}
use Rattle.jn_base.specs.Resolve.{is_class}
use Rattle.jn_sem.specs.declared.outcome.Why.{Why}
use Rattle.jn_sem.specs.Sets.{Views, Respects}
use Rattle.jn_sem.specs.Values.{Value, Reference, HasField}
use Rattle.jn_sem.specs.Sharing.{IsClass, Related}
use Rattle.jn_sem.specs.Slots.{FieldType, IsSlot, Slot}
use Rattle.jn_sem.specs.Holds.{HoldsAt}
use Rattle.jn_sem.specs.Acts.{Begin, Open, Todo, todo}
use Rattle.jn_sem.specs.State.{Heap, Object, HasValue, IsIn, Variable, Frame, frame_views, declared_vars, view_in, has_null_path, stored_value}
use Rattle.std.specs.Prelude.{codes}
use Rattle.jn_sem.specs.Does.{IsSpelled, Body, Ending, Stuck, Entry, Did}
use Rattle.jn_sem.specs.LawsOfHeaps.{Later}
use Rattle.jn_sem.specs.Run.{given, Running, Then, frame_of, AreIn}
use Rattle.jn_rules.specs.Questions.{ConstraintGives, header_site, sides}
use Rattle.jn_rules.specs.Plans.{Pledge}
use Rattle.jn_sem.specs.Holds.{Sides}
use Rattle.jn_base.specs.Atoms.{atom_of}
use Rattle.std.specs.Prelude.{Ok}
use Rattle.jn_rules.specs.Stmts.{body_in, is_void}
use Rattle.jn_sound.specs.Takes.{Opd, Typing, OwnPaths}
use Rattle.jn_sound.specs.Fit.{Fits}
use Rattle.jn_laws.specs.Surely.{Surely}
use Rattle.jn_laws.specs.Reading.{RefersTo, IsReal, SlotFits}
use Rattle.jn_rules.specs.Headers.{Header}
use Rattle.jn_rule_laws.specs.LawsOfHeaders.{IsHeader}

-- ---- the values of slots

pub record HeapFits (p : Program) (h : Heap) : Type 0 where
  pub slots : (o : ℕ) (x : Object) (V : Path) (f : Name) (s : Slot) (t : Ty) (v : Value)
      → slice_get h.objects o ≡ Some x → Related p x.made V
      → FieldType p V f t → IsSlot p V f s → stored_value x.stored s ≡ Some v → SlotFits p h V t v
  pub classes : (o : ℕ) (x : Object) → slice_get h.objects o ≡ Some x → IsClass p x.made

-- ---- variables and `this`

-- the views of a frame's paths, with those of the fresh ones, which are numbered from 256
abbrev pub all_views : Frame → Views → Views
all_views f w q = cond (nat_lt q 256) (frame_views f q) (w q)

-- what a constraint asks of its two sides
abbrev pub sides_of : Program → Pledge → Sides
sides_of p x = sides p (atom_of x.from.atom ∷ []) x.from.masks x.to

pub record ThisFits (p : Program) (h : Heap) (f : Frame) : Type 0 where
  pub object : ℕ
  pub view : Path
  pub is : f.this ≡ Reference object view
  pub real : RefersTo p h object view
  pub super : Sup p view f.class
  pub filled : (g : Name) → HasField p view g → HasValue p h object view g
  pub constraints : (c : Constraint) (x : Pledge) → Contains f.method.sharing c
      → ConstraintGives p (header_site f.class f.method.name.name) c (Ok x) → Surely (HoldsAt p view (sides_of p x))

pub record InScope (p : Program) (h : Heap) (f : Frame) (w : Views) (vs : List Var) (s : Scope) : Type 0 where
  pub declared : declared_vars f.vars ≡ vs
  pub binds : BindsFit s
  pub respects : Respects p (all_views f w) s
  pub values : (x : Variable) (b : Bind) → Among f.vars x → Among s b → b.path ≡ x.var.path
      → IsIn p (all_views f w) h b.ty x.value
  pub bound : (x : Variable) → Among f.vars x
      → (b : Bind) × Among s b × (b.path ≡ x.var.path) × (atoms_in b.ty ≡ atoms_in x.var.ty) ×
      (is_class b.ty ≡ is_class x.var.ty)
  pub real : (x : Variable) → Among f.vars x → IsReal p h x.value
  pub seen : (x : Variable) → Among f.vars x → frame_views f x.var.path ≡ view_in x.value
  pub small : (x : Variable) → Among f.vars x → x.var.path < 256
  pub no_null : has_null_path f.vars ≡ false
  pub own : OwnPaths vs
  pub this : ThisFits p h f

-- the frame without the variables of blocks that have ended
abbrev pub cut : ℕ → Frame → Frame
cut n f = record f { vars = take n f.vars }

-- the views of `this` and the parameters, by which the type of a result is meant
abbrev pub result_views : Frame → Views
result_views f = frame_views (cut (length f.method.params) f)

-- ---- operands

pub record OperandFits (p : Program) (xs : List Variable) (h : Heap) (s : Scope) (v : Views) (o : Opd)
    (value : Value) : Type 0 where
  -- its type and its path are of the scope
  pub fits : TypeFits s o.ty
  pub bound : (q : ℕ) → o.path ≡ Some q → Binds s q
  pub is_in : IsIn p v h o.ty value
  pub real : IsReal p h value
  pub path : (q : ℕ) → o.path ≡ Some q → v q ≡ view_in value
  -- a path that is a variable has the variable's value
  pub held : (x : Variable) → Among xs x → o.path ≡ Some x.var.path → value ≡ x.value

-- the latest operands, where these variables are in scope; nothing is known of those before them
pub data OperandsFit (p : Program) (xs : List Variable) (h : Heap) (s : Scope) (v : Views)
    : List Opd → List Value → Type 0 where
  none : {vs : List Value} → OperandsFit p xs h s v [] vs
  one : {o : Opd} {ops : List Opd} {x : Value} {vs : List Value} → OperandFits p xs h s v o x
      → OperandsFit p xs h s v ops vs → OperandsFit p xs h s v (o ∷ ops) (x ∷ vs)

abbrev pub body_of : Frame → Body
body_of f = record { class = f.class; method = f.method }

-- ---- where a frame stands

pub record Stands (p : Program) (h : Heap) (f : Frame) (x : Header) (vs : List Var) (s : Scope) (ops : List Opd)
    (w : Views) : Type 0 where
  pub is_header : IsHeader p (body_of f) x
  pub params : take (length f.method.params) vs ≡ x.vars
  pub all_params : length f.method.params ≤ length vs
  pub in_scope : InScope p h (cut (length vs) f) w vs s
  pub operands : OperandsFit p (take (length vs) f.vars) h s (all_views (cut (length vs) f) w) ops f.vals

-- with some views of the fresh paths
pub record StandsAt (p : Program) (h : Heap) (f : Frame) (x : Header) (vs : List Var) (t : Typing) : Type 0 where
  pub fresh : Views
  pub stands : Stands p h f x vs t.scope t.ops fresh

-- what a step of the frame at work may do: it is said of the frame before the step, and of what is still to be shown
-- of it
pub record Stays (p : Program) (f g : Frame) : Type 0 where
  pub class : g.class ≡ f.class
  pub method : g.method ≡ f.method
  -- what g may give back f may
  pub result : (x : Header) (i : Heap) (v : Value) → IsHeader p (body_of f) x
      → IsIn p (result_views g) i x.result v → IsIn p (result_views f) i x.result v

-- a result: in the type of the result, where there is one
abbrev pub LeavesFit : Program → Heap → Frame → Header → Option Value → Type 0
LeavesFit p h f x None = is_void x.result ≡ true
LeavesFit p h f x (Some v) = (is_void x.result ≡ false) × IsIn p (result_views f) h x.result v × IsReal p h v

-- What a body that was entered with the frame e gives back. (It has come back: so no path was null.)
pub record GivesBack (p : Program) (e : Frame) (h : Heap) (v : Option Value) : Type 0 where
  pub heap : HeapFits p h
  pub no_null : has_null_path e.vars ≡ false
  pub header : Header
  pub is_header : IsHeader p (body_of e) header
  pub leaves : LeavesFit p h e header v

-- the body at work, with what it has still to do
pub record Works (p : Program) (h : Heap) (f : Frame) (k : List Todo) : Type 0 where
  pub header : Header
  pub is_header : IsHeader p (body_of f) header
  pub vars : List Var
  -- the parameters come first among the variables
  pub params : take (length f.method.params) vars ≡ header.vars
  pub all_params : length f.method.params ≤ length vars
  pub scope : Scope
  pub ops : List Opd
  pub fresh : Views
  pub in_scope : InScope p h (cut (length vars) f) fresh vars scope
  pub operands : OperandsFit p (take (length vars) f.vars) h scope (all_views (cut (length vars) f) fresh) ops f.vals
  pub fits : Fits p (body_in (body_of f) header) k vars scope ops

-- A body that waits for the frame g, which goes on from the frame with which its body was entered: with whatever that
-- gives back, in any later heap, it stands where what it has still to do fits.
pub record Waits (p : Program) (h : Heap) (g f : Frame) : Type 0 where
  pub entry : Frame
  pub stays : Stays p entry g
  pub no_null : has_null_path entry.vars ≡ false
  pub header : Header
  pub vars : List Var
  pub typing : Typing
  -- where the body has no result, none is kept
  pub kept : (x : Header) → IsHeader p (body_of entry) x → is_void x.result ≡ true → f.keeps ≡ false
  pub resumes : (i : Heap) (v : Option Value) → Later h i → GivesBack p entry i v
      → StandsAt p i (given v f) header vars typing
  pub fits : Fits p (body_in (body_of f) header) f.todo vars typing.scope typing.ops

-- ---- frames and states

-- The frame that starts the program, which has no body: before `new Main()`, before the call of `main`, and behind it.
pub data Starts (p : Program) (h : Heap) (f : Frame) : Type 0 where
  before : f.todo ≡ todo 0 Begin ∷ (todo 0 Open ∷ []) → f.vals ≡ [] → f.method.result ≡ None → Starts p h f
  made : (o : ℕ) (M : Name) → f.todo ≡ todo 0 Open ∷ [] → f.vals ≡ Reference o (M ∷ []) ∷ [] → f.method.result ≡ None
      → IsSpelled p (codes "Main") M → RefersTo p h o (M ∷ []) →
      ((g : Name) → HasField p (M ∷ []) g → HasValue p h o (M ∷ []) g) → Starts p h f
  over : f.todo ≡ [] → f.method.result ≡ None → Starts p h f

-- the frames that wait, behind the frame g
pub data Waiting (p : Program) (h : Heap) : Frame → List Frame → Type 0 where
  starts : {g f : Frame} → Starts p h f → f.keeps ≡ false → Waiting p h g (f ∷ [])
  waits : {g f : Frame} {fs : List Frame} → Waits p h g f → Waiting p h f fs → Waiting p h g (f ∷ fs)

pub data FramesFit (p : Program) (h : Heap) : List Frame → Type 0 where
  start : {f : Frame} → Starts p h f → FramesFit p h (f ∷ [])
  work : {f : Frame} {fs : List Frame} → Works p h f f.todo → Waiting p h f fs → FramesFit p h (f ∷ fs)

pub record Sound (p : Program) (s : Running) : Type 0 where
  pub heap : HeapFits p s.heap
  pub frames : FramesFit p s.heap s.frames

abbrev pub NotStuck : Ending → Type 0
NotStuck o = (w : Why) → o ≢ Stuck w

pub record GoesFit (p : Program) (h : Heap) (f g : Frame) (i : Heap) : Type 0 where
  pub later : Later h i
  pub heap : HeapFits p i
  pub stays : Stays p f g
  pub works : Works p i g g.todo

-- a body is called: each argument is in its parameter's type unless a path would be null; and then the new frame works
pub record EntersFit (p : Program) (h : Heap) (f : Frame) (e : Entry) (r : Value) (args : List Value) (g : Frame)
    (i : Heap) : Type 0 where
  pub later : Later h i
  pub heap : HeapFits p i
  pub stays : Stays p f g
  pub are_in : has_null_path (frame_of e r args).vars ≡ false → Surely (AreIn p (frame_of e r args) i)
  pub works : has_null_path (frame_of e r args).vars ≡ false → AreIn p (frame_of e r args) i
      → Surely (Works p i (frame_of e r args) (frame_of e r args).todo × Waits p i (frame_of e r args) g)

pub record Left (p : Program) (h : Heap) (f : Frame) (v : Option Value) (i : Heap) : Type 0 where
  pub later : Later h i
  pub heap : HeapFits p i
  pub header : Header
  pub is_header : IsHeader p (body_of f) header
  pub gives : LeavesFit p i f header v

abbrev pub EntersWith : Program → Heap → Frame → Entry → List Value → Frame → Heap → Type 0
EntersWith p h f e [] g i = ⊥
EntersWith p h f e (r ∷ args) g i = EntersFit p h f e r args g i

abbrev pub DidFit : Program → Heap → Frame → Did → Type 0
DidFit p h f (Goes g i bytes) = GoesFit p h f g i
DidFit p h f (Enters e args g i) = EntersWith p h f e args g i
DidFit p h f (Leaves v i) = Left p h f v i
DidFit p h f Falls = ⊥
DidFit p h f (Faults o) = NotStuck o

-- where a charge leads
abbrev pub SoundThen : Program → Then → Type 0
SoundThen p (On s) = Sound p s
SoundThen p (End o bytes) = NotStuck o
