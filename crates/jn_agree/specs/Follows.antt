-- A code goes with a body, whatever its calls give back. Nothing is said of the codes that it calls.
use Rattle.std.specs.Prelude.{◌≡◌, ℕ, zero, suc, ◌+◌, ◌*◌, ◌≤◌, ℤ, List, [], ◌∷◌, length, Bool, true, false, ◌&&◌, Option, Some, None, slice_get}
use Rattle.std.specs.List.{filter}
use Rattle.jn_steps.specs.Steps.{Goes, Enters, Leaves, Falls, Faults}
use Rattle.jn_base.specs.declared.tree.TypeTerm.{TypeTerm}
use Rattle.jn_base.specs.declared.tree.Program.{Program}
use Rattle.jn_base.specs.declared.names.Var.{Var}
use Rattle.jn_base.specs.Resolve.{is_class}
use Rattle.jn_code.specs.declared.image.Image.{Image}
use Rattle.jn_code.specs.declared.image.Code.{Code}
use Rattle.jn_code.specs.Machine.{Halt, move}
use Rattle.jn_code.specs.Machine as machine
use Rattle.jn_sem.specs.Values.{Value, Null}
use Rattle.jn_sem.specs.Acts.{Todo}
use Rattle.jn_sem.specs.State.{Frame, Heap, has_null_path}
use Rattle.jn_sem.specs.Does.{Ending, Ends, AtNull, Zero, Arena, Depth, Stuck, Entry, Did, Does, Body, AreParams}
use Rattle.jn_sem.specs.Run.{acting, given, frame_of, AreIn}
use Rattle.jn_agree.specs.Naming.{Naming, First, IsWord, AreWords}
use Rattle.jn_agree.specs.Matches.{World, Matches, Onward}

-- the halt of an end; a run that is stuck has none
abbrev pub halt_of : Ending → Option Halt
halt_of Ends = Some machine.Done
halt_of AtNull = Some machine.Null
halt_of Zero = Some machine.Zero
halt_of Arena = Some machine.Arena
halt_of Depth = Some machine.Depth
halt_of (Stuck why) = None

-- ---- instructions of one code

abbrev pub when_quiet : machine.Did → (machine.Frame → List ℤ → Option (machine.Frame × List ℤ))
    → Option (machine.Frame × List ℤ)
when_quiet (Goes g a []) go = go g a
when_quiet (Goes g a (o ∷ os)) go = None
when_quiet (Enters k ws g a) go = None
when_quiet (Leaves v a) go = None
when_quiet Falls go = None
when_quiet (Faults o) go = None

-- where j instructions lead that stay in the code and print nothing
abbrev pub quiet : Image → (capacity j : ℕ) → machine.Frame → List ℤ → Option (machine.Frame × List ℤ)
quiet i m zero g a = Some (g, a)
quiet i m (suc j) g a = when_quiet (move i m g a) (quiet i m j)

-- within w instructions, of which the last does this, and all others are quiet
pub record Comes (i : Image) (m : ℕ) (g : machine.Frame) (a : List ℤ) (what : machine.Did) (w : ℕ) : Type 0 where
  pub j : ℕ
  pub last : machine.Frame
  pub there : List ℤ
  pub on : quiet i m j g a ≡ Some (last, there)
  pub does : move i m last there ≡ what
  pub cost : suc j ≤ w

-- ---- what comes back

-- a body without a result hands nothing back, one with a result the word of its value
abbrev pub HandsBack : Program → Naming → World → Option TypeTerm → Option Value → Option ℤ → Type 0
HandsBack p n x None None None = Unit {0}
HandsBack p n x (Some t) (Some v) (Some u) = IsWord p n x.firsts v u
HandsBack p n x _ _ _ = ⊥

-- What typing adds to the words: what a body that is entered with these arguments may rely on (of the heap, `this`
-- and the arguments), and what one that was entered with that frame gives back (a value in the type of its result, in
-- a later heap). The words alone don't say it: 1 and `true` have one word.
pub record Knows : Type 1 where
  pub ready : Entry → List Value → Heap → Type 0
  pub gives : Frame → Heap → Option Value → Type 0

-- nothing
abbrev pub blank : Knows
blank = record { ready = λ e args h. Unit {0}; gives = λ e h v. Unit {0} }

-- ---- what is paid for

-- What a charge pays for: 32 instructions.
abbrev pub rate : ℕ
rate = 32

-- a final parameter of class type is tested on entry
abbrev pub is_tested : Var → Bool
is_tested x = x.fixed && is_class x.ty

-- Of these the act that enters a body leaves it 8, and 3 for each test of a parameter (LOAD, CHECK, POP).
abbrev pub paid : List Var → ℕ
paid vars = 8 + 3 * length (filter is_tested vars)

-- ---- entries

-- The code k is that of this body, whose parameters are the entry's.
pub record EntryIs (p : Program) (i : Image) (n : Naming) (e : Entry) (k : ℕ) : Type 0 where
  pub body : Body
  pub at : slice_get n.bodies k ≡ Some body
  pub class : body.class ≡ e.class
  pub method : body.method ≡ e.method
  pub params : AreParams p body e.vars
  pub code : Code
  pub there : slice_get i.codes k ≡ Some code

-- The entry has a receiver and an argument for each parameter, and typing says so of them.
pub record MayEnter (K : Knows) (e : Entry) (args : List Value) (h : Heap) : Type 0 where
  pub long : length args ≡ suc (length e.vars)
  pub ready : K.ready e args h

-- the frame with which a body is entered
abbrev pub entered : Entry → List Value → Frame
entered e [] = frame_of e Null []
entered e (r ∷ args) = frame_of e r args

-- a statement on a frame and the machine's, in worlds that match, with so many instructions that were paid for
abbrev pub Going : Type 1
Going = Frame → World → machine.Frame → List ℤ → ℕ → Type 0

abbrev pub at : World → Heap → List First → World
at x h firsts = record { firsts = firsts; heap = h }

module _ (p : Program) (i : Image) (n : Naming) (m : ℕ) (K : Knows) where
  -- whatever the body that was entered with the frame r gives back, in whatever world that goes on from x
  abbrev pub Waits : Going → Frame → Frame → World → machine.Frame → ℕ → Type 0
  Waits L r f x g w =
      (y : World) (a : List ℤ) (v : Option Value) (u : Option ℤ) → Onward x y → Matches p i n y a
      → HandsBack p n y r.method.result v u → K.gives r y.heap v → L (given v f) y (machine.given u g) a w

  -- The code prints the same and comes to where the body goes on, and some of the instructions are left over.
  pub record OnGoes (L : Going) (r f : Frame) (h : Heap) (bytes : List ℕ) (x : World) (g : machine.Frame) (a : List ℤ)
      (w : ℕ) : Type 0 where
    pub firsts : List First
    pub next : machine.Frame
    pub arena : List ℤ
    pub cost : ℕ
    pub left : ℕ
    pub comes : Comes i m g a (Goes next arena bytes) cost
    pub within : cost + left ≤ rate + w
    pub onward : Onward x (at x h firsts)
    pub matches : Matches p i n (at x h firsts) arena
    pub result : f.method.result ≡ r.method.result
    pub goes_on : L f (at x h firsts) next arena left

  -- The code calls the code of the same body with the same words, leaves that what it is owed, and waits.
  pub record OnEnters (L : Going) (r : Frame) (e : Entry) (args : List Value) (f : Frame) (h : Heap) (x : World)
      (g : machine.Frame) (a : List ℤ) (w : ℕ) : Type 0 where
    pub firsts : List First
    pub next : machine.Frame
    pub arena : List ℤ
    pub code : ℕ
    pub words : List ℤ
    pub cost : ℕ
    pub left : ℕ
    pub comes : Comes i m g a (Enters code words next arena) cost
    pub within : cost + (paid e.vars + left) ≤ rate + w
    pub onward : Onward x (at x h firsts)
    pub matches : Matches p i n (at x h firsts) arena
    pub are : AreWords p n firsts args words
    pub entry : EntryIs p i n e code
    pub may : MayEnter K e args h
    pub result : f.method.result ≡ r.method.result
    pub waits : Waits L (entered e args) f (at x h firsts) next left

  -- The code returns, with the word of what the body gives back.
  pub record OnLeaves (r : Frame) (v : Option Value) (h : Heap) (x : World) (g : machine.Frame) (a : List ℤ)
      (w : ℕ) : Type 0 where
    pub firsts : List First
    pub arena : List ℤ
    pub word : Option ℤ
    pub comes : Comes i m g a (Leaves word arena) (rate + w)
    pub onward : Onward x (at x h firsts)
    pub matches : Matches p i n (at x h firsts) arena
    pub hands : HandsBack p n (at x h firsts) r.method.result v word
    pub gives : K.gives r h v

  -- What the code does where a body that was entered with r does d. `L` is how it goes on.
  abbrev pub Follows : Going → Frame → Did → World → machine.Frame → List ℤ → ℕ → Type 0
  Follows L r (Goes f h bytes) x g a w = OnGoes L r f h bytes x g a w
  Follows L r (Enters e args f h) x g a w = OnEnters L r e args f h x g a w
  Follows L r (Leaves v h) x g a w = OnLeaves r v h x g a w
  Follows L r Falls x g a w = Unit {0}
  Follows L r (Faults o) x g a w = (q : Halt) → halt_of o ≡ Some q → Comes i m g a (Faults q) (rate + w)

  -- the free end of a body without a result
  pub record FreeEnd (r f : Frame) (x : World) (g : machine.Frame) (a : List ℤ) (w : ℕ) : Type 0 where
    pub comes : Comes i m g a (Leaves None a) w
    pub gives : K.gives r x.heap None

  -- For b charges the code at work does what the frame does, in 32 instructions for a charge and w more. A frame with
  -- nothing to do returns, with no charge. Of one that is stuck nothing is asked. r is the frame with which the body
  -- was entered.
  abbrev pub LocalAt : Frame → ℕ → List Todo → Going
  LocalAt r b [] f x g a w = f.method.result ≡ None → FreeEnd r f x g a w
  LocalAt r zero (t ∷ k) f x g a w = Unit {0}
  LocalAt r (suc b) (t ∷ k) f x g a w =
      (d : Did) → Does p m t.act (acting t k f) x.heap d → Follows
      (λ f x g a w. LocalAt r b f.todo f x g a w) r d x g a w

  abbrev pub Local : Frame → ℕ → Going
  Local r b f x g a w = LocalAt r b f.todo f x g a w

  -- From its entry: Null where a final parameter of class type is null; else, where each argument is in its type, the
  -- body.
  pub record Begins (b : ℕ) (f : Frame) (x : World) (g : machine.Frame) (a : List ℤ) (w : ℕ) : Type 0 where
    pub null : has_null_path f.vars ≡ true → Comes i m g a (Faults machine.Null) w
    pub goes : has_null_path f.vars ≡ false → AreIn p f x.heap → Local f b f x g a w

  -- the code k goes with the body of the entry, with whatever arguments it may be entered
  abbrev pub Entered : ℕ → Entry → ℕ → Type 0
  Entered b e k =
      (x : World) (a : List ℤ) (r : Value) (args : List Value) (words : List ℤ) (c : Code) →
      slice_get i.codes k ≡ Some c
      → Matches p i n x a → AreWords p n x.firsts (r ∷ args) words → MayEnter K e (r ∷ args) x.heap
      → Begins b (frame_of e r args) x (machine.fresh k c words) a (paid e.vars)

  -- BodyAgrees: of each code
  abbrev pub BodyAgrees : ℕ → Type 0
  BodyAgrees b = (e : Entry) (k : ℕ) → EntryIs p i n e k → Entered b e k
