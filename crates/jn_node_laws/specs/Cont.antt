-- For b charges the instructions from a place on do what a list of acts does, whatever the values are.
use Rattle.std.specs.Prelude.{◌≡◌, ℕ, zero, suc, ℤ, List, [], ◌∷◌, ◌++◌, length, take, Bool, true, false, Some, slice_get}
use Rattle.jn_steps.specs.Steps.{Goes, Enters, Leaves, Falls, Faults}
use Rattle.jn_base.specs.declared.tree.Program.{Program}
use Rattle.jn_base.specs.Atoms.{Among}
use Rattle.jn_code.specs.declared.image.Image.{Image}
use Rattle.jn_code.specs.declared.image.Code.{Code}
use Rattle.jn_code.specs.Machine as machine
use Rattle.jn_sem.specs.Values.{Value, Truth}
use Rattle.jn_sem.specs.Terms.{Site}
use Rattle.jn_sem.specs.Acts.{Act, Todo, todo}
use Rattle.jn_sem.specs.State.{Frame, Heap, Variable, declared_vars}
use Rattle.jn_sem.specs.Does.{Did, Does}
use Rattle.jn_sem.specs.Run.{acting, given}
use Rattle.jn_sem.specs.LawsOfHeaps.{Later}
use Rattle.jn_agree.specs.Naming.{Naming, First, IsWord, WordsAre}
use Rattle.jn_agree.specs.Matches.{World, Matches}
use Rattle.jn_agree.specs.Follows.{Knows, blank, MayEnter, entered, Going, Follows, Local}

-- the frame without the variables of blocks that have ended
abbrev pub trimmed : Site → Frame → Frame
trimmed at f = record f { vars = take (length at.vars) f.vars }

-- ---- the machine's operands

-- What an operand of the machine is: one of the frame's, or `this`, which stands below the first argument of `super`
-- while the further ones are had.
pub data Mark : Type 0 where
  of_frame : Mark
  of_this : Mark

-- the latest operands, the latest first; all below them are the frame's
abbrev pub Layout : Type 0
Layout = List Mark

-- The words of the operands are those of the frame's values, and of `this` where the layout has it.
abbrev pub LaidOut : Program → Naming → List First → (this : Value) → Layout → List Value → List ℤ → Type 0
LaidOut p n firsts this [] vs ws = WordsAre p n firsts vs ws
LaidOut p n firsts this (of_frame ∷ l) [] ws = ⊥
LaidOut p n firsts this (of_frame ∷ l) (v ∷ vs) [] = ⊥
LaidOut p n firsts this (of_frame ∷ l) (v ∷ vs) (w ∷ ws) = IsWord p n firsts v w × LaidOut p n firsts this l vs ws
LaidOut p n firsts this (of_this ∷ l) vs [] = ⊥
LaidOut p n firsts this (of_this ∷ l) vs (w ∷ ws) = IsWord p n firsts this w × LaidOut p n firsts this l vs ws

pub record AreLaid (p : Program) (n : Naming) (firsts : List First) (this : Value) (l : Layout) (vs : List Value)
    (ws : List ℤ) : Type 0 where
  pub are : LaidOut p n firsts this l vs ws

-- Example: in `super[A].m(1, 2)`, once 2 is had, the words are those of 2, 1, and `this`; the layout is that of two
-- of the frame's and of `this`, and the frame has 2 and 1.

-- the latest operand is the frame's, and l are those below it
abbrev pub Takes : Layout → Layout → Type 0
Takes [] l = l ≡ []
Takes (of_frame ∷ k) l = l ≡ k
Takes (of_this ∷ k) l = ⊥

-- so many of the latest ones are
abbrev pub TakesAll : (count : ℕ) → Layout → Layout → Type 0
TakesAll zero k l = l ≡ k
TakesAll (suc c) k l = (j : Layout) × Takes k j × TakesAll c j l

-- with a value more, where it is kept
abbrev pub with_value : (keeps : Bool) → Layout → Layout
with_value true l = of_frame ∷ l
with_value false l = l

-- with what a body of that result's kind gives, where it is kept
abbrev pub with_result : (keeps : Bool) (result : ℕ) → Layout → Layout
with_result keeps zero l = l
with_result keeps (suc k) l = with_value keeps l

-- The frame of the meaning stands where `at` says, and the words are those of its values. `this` is local 0, and each
-- variable the local of its number; there are as many locals as the code says. r is the frame with which the body was
-- entered.
pub record PlacedOn (p : Program) (n : Naming) (it : Code) (r : Frame) (at : Site) (l : Layout) (f : Frame) (x : World)
    (vars vals : List ℤ) : Type 0 where
  pub class : f.class ≡ at.class
  pub method : f.method.name.name ≡ at.method
  pub result : f.method.result ≡ r.method.result
  pub scope : declared_vars f.vars ≡ at.vars
  pub long : length vars ≡ length (it.params ++ it.locals)
  pub this : (z : ℤ) × (slice_get vars 0 ≡ Some z) × IsWord p n x.firsts f.this z
  pub locals : (y : Variable) → Among f.vars y
      → (z : ℤ) × (slice_get vars y.var.path ≡ Some z) × IsWord p n x.firsts y.value z
  pub operands : AreLaid p n x.firsts f.this l f.vals vals

-- all operands are the frame's
abbrev pub Placed : Program → Naming → Code → Frame → Site → Frame → World → (vars vals : List ℤ) → Type 0
Placed p n it r at f x vars vals = PlacedOn p n it r at [] f x vars vals

abbrev pub active : (code place : ℕ) (vars vals : List ℤ) (keeps : Bool) → machine.Frame
active code s vars vals keeps = record { code = code; place = s; vars = vars; vals = vals; keeps = keeps }

-- T are typings: what is known of the operands and the variables in a place. `Stands t f h` says that t is right of the
-- frame f in the heap h.
module _ (p : Program) (i : Image) (n : Naming) (m : ℕ) (K : Knows) (T : Type 0) (Stands : T → Frame → Heap → Type 0)
    (code : ℕ) (it : Code) (r : Frame) where
  -- Whatever the frame is that stands at the place with that typing, on operands of that layout: for b charges the code
  -- goes with it from there, in 32 instructions a charge and w more. (a record, so that `_` is found)
  pub record ContOn (l : Layout) (b : ℕ) (here : Site) (t : T) (k : List Todo) (s w : ℕ) : Type 0 where
    pub by : (f : Frame) (x : World) (a vars vals : List ℤ) (keeps : Bool) → f.todo ≡ k
        → PlacedOn p n it r here l (trimmed here f) x vars vals → Matches p i n x a → Stands t f x.heap
        → Local p i n m K r b f x (active code s vars vals keeps) a w

  -- where all operands are the frame's, as at each statement
  abbrev pub Cont : (b : ℕ) → Site → T → List Todo → (s w : ℕ) → Type 0
  Cont b here t k s w = ContOn [] b here t k s w

  -- what typing says of an act that leads to t
  abbrev pub Led : T → Did → Type 0
  Led t (Goes g h bytes) = Stands t g h
  Led t (Enters e args g h) =
      MayEnter K e args h × ((y : Heap) (v : _) → Later h y → K.gives (entered e args) y v → Stands t (given v g) y)
  Led t (Leaves v h) = K.gives r h v
  Led t Falls = Unit {0}
  Led t (Faults o) = Unit {0}

  -- from a frame that stands with u the act, with k behind it, leads to t
  abbrev pub LeadsTo : Site → Act → List Todo → T → T → Type 0
  LeadsTo here act k u t =
      (f : Frame) (h : Heap) (d : Did) → Stands u f h → Does p m act (acting (todo (length here.vars) act) k f) h d →
      Led t d

  -- how it goes on where the frame stands with that typing
  abbrev pub Then : Site → T → ℕ → Going
  Then here t b f x g a w = Stands t f x.heap → Local p i n m K r b f x g a w

  -- What the instructions of an act have to show: of the frame that is left to act, in any world, from a fact that
  -- typing gives. Of typing itself nothing.
  abbrev pub Shows : Layout → (Frame → Heap → Type 0) → ℕ → Site → T → Act → List Todo → ℕ → ℕ → Type 0
  Shows l Fact b here t act k s w =
      (f : Frame) (x : World) (a vars vals : List ℤ) (keeps : Bool) → f.todo ≡ k
      → PlacedOn p n it r here l f x vars vals
      → Matches p i n x a → Fact f x.heap → (d : Did) → Does p m act f x.heap d
      → Follows p i n m blank (Then here t b) r d x (active code s vars vals keeps) a w

  -- by the truth value on top: with it the act leads to the typing of that value
  abbrev pub LeadsByTruth : Site → Act → List Todo → T → (Bool → T) → Type 0
  LeadsByTruth here act k u t =
      (f : Frame) (h : Heap) (d : Did) (v : Bool) (us : List Value) → Stands u f h → f.vals ≡ Truth v ∷ us
      → Does p m act (acting (todo (length here.vars) act) k f) h d → Led (t v) d

-- one of two typings
abbrev pub either : {T : Type 0} → (if_so if_not : T) → Bool → T
either if_so if_not true = if_so
either if_so if_not false = if_not
