-- A body by itself: what it prints, how it ends, and what it gives back, within so many charges and instructions.
use Rattle.std.specs.Prelude.{◌≡◌, ℕ, zero, suc, ◌+◌, ◌*◌, ◌≤◌, ℤ, List, [], ◌∷◌, Bool, true, false, Option, Some, None, slice_get}
use Rattle.jn_steps.specs.Runs.{Report, On, End, after, run}
use Rattle.jn_steps.specs.Laws.{GoesOn}
use Rattle.jn_base.specs.declared.tree.TypeTerm.{TypeTerm}
use Rattle.jn_base.specs.declared.tree.Program.{Program}
use Rattle.jn_code.specs.declared.image.Image.{Image}
use Rattle.jn_code.specs.declared.image.Code.{Code}
use Rattle.jn_code.specs.Machine.{Halt, Machine, instruct}
use Rattle.jn_code.specs.Machine as machine
use Rattle.jn_sem.specs.Values.{Value}
use Rattle.jn_sem.specs.Acts.{Return, todo}
use Rattle.jn_sem.specs.State.{Frame}
use Rattle.jn_sem.specs.Does.{Entry}
use Rattle.jn_sem.specs.Run.{Running, Then, Charge, enters, given, start_frame, shown}
use Rattle.jn_agree.specs.Naming.{Naming, First, AreWords}
use Rattle.jn_agree.specs.Matches.{World, Matches}
use Rattle.jn_agree.specs.Follows.{Knows, EntryIs, MayEnter, HandsBack, halt_of, paid}
use Rattle.jn_lockstep.specs.Together.{RunIs}

-- ---- a body that is called alone

abbrev pub has_result : Option TypeTerm → Bool
has_result None = false
has_result (Some t) = true

-- The frame that waits for it, which keeps a result where there is one. (It has nothing to return, so no charge leads
-- on from it: there the run of the body is over.)
abbrev pub idle : Option TypeTerm → Frame
idle t = record start_frame { todo = todo 0 (Return true) ∷ []; keeps = has_result t }

-- and the machine's
abbrev pub below : machine.Frame
below = record { code = 0; place = 0; vars = []; vals = []; keeps = true }

abbrev pub running_code : machine.Frame → List ℤ → Machine
running_code g a = record { frames = g ∷ (below ∷ []); heap = a; output = [] }

-- the frame that waited is alone: the body has returned
abbrev pub HasReturned : Running → Type 0
HasReturned s = (f : Frame) × (s.frames ≡ f ∷ [])

-- Both have returned, with a result and its word, or with none; and the arena matches the heap.
pub record GaveBack (p : Program) (i : Image) (n : Naming) (t : Option TypeTerm) (s : Running) (m : Machine) :
    Type 0 where
  pub firsts : List First
  pub matches : Matches p i n (record { firsts = firsts; heap = s.heap }) m.heap
  pub value : Option Value
  pub word : Option ℤ
  pub frames : s.frames ≡ given value (idle t) ∷ []
  pub machine : m.frames ≡ machine.given word below ∷ []
  pub hands : HandsBack p n (record { firsts = firsts; heap = s.heap }) t value word

-- k charges lead from y to s
abbrev pub Comes : Program → (capacity depth k : ℕ) → Then → Running → Type 0
Comes p m d zero y s = y ≡ On s
Comes p m d (suc k) (On u) s = (x : Then) × Charge p m d u x × Comes p m d k x s
Comes p m d (suc k) (End o out) s = ⊥

-- r is the report of a run of at most k charges that isn't stuck
abbrev pub Is : Program → Image → (capacity depth k : ℕ) → Then → Report Halt → Type 0
Is p i m d k y r = RunIs 32 (Charge p m d) shown (instruct i m d) (λ (s : Machine). s.output) halt_of k y r

abbrev pub ran : Image → (capacity depth k : ℕ) → Machine → Report Halt
ran i m d k s = run (instruct i m d) (λ (s : Machine). s.output) k s

-- Within b charges the code that begins with s goes with the body that begins with y, where w instructions were paid
-- for.
pub record Traced (p : Program) (i : Image) (n : Naming) (m d : ℕ) (t : Option TypeTerm) (y : Then) (s : Machine)
    (b w : ℕ) : Type 0 where
  -- what k instructions wrote is the first part of what k charges print; where they halt, these end so
  pub wrote : (k : ℕ) (r : Report Halt) → k ≤ b → Is p i m d k y r → GoesOn (ran i m d k s) r
  -- what k charges print is the first part of what 32 k + w instructions wrote; where those end, these halt so
  pub printed : (k : ℕ) (r : Report Halt) → k ≤ b → Is p i m d k y r → GoesOn r (ran i m d (32 * k + w) s)
  -- where k charges lead to the body's return, at most 32 k + w instructions return so
  pub returned : (k : ℕ) (u : Running) → k ≤ b → Comes p m d k y u → HasReturned u
      → (j : ℕ) × (v : Machine) × (j ≤ 32 * k + w) × (after (instruct i m d) j s ≡ On v) × GaveBack p i n t u v

-- Of each code, from each entry that typing allows, with whatever depth: 8 instructions are left to it, and 3 for each
-- test of a parameter.
abbrev pub BodiesTraced : Program → Image → Naming → (capacity depth b : ℕ) → Knows → Type 0
BodiesTraced p i n m d b K =
    (e : Entry) (k : ℕ) (x : World) (a : List ℤ) (r : Value) (args : List Value) (words : List ℤ) (c : Code)
    → EntryIs p i n e k → slice_get i.codes k ≡ Some c → Matches p i n x a → AreWords p n x.firsts (r ∷ args) words
    → MayEnter K e (r ∷ args) x.heap → (y : Then) → enters p e (r ∷ args) (idle e.method.result ∷ []) x.heap [] y
    → Traced p i n m d e.method.result y (running_code (machine.fresh k c words) a) b (paid e.vars)

-- Example: of `void m() { print(1); }` two charges lead to its return, and so do INT 1, PRINTI, RET: three of the
-- 2 * 32 + 8 instructions.
