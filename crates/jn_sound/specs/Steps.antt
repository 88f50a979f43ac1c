-- Typing, act by act: where a frame stands before an act, and where behind it. Nothing is said of what comes after.
use Rattle.std.specs.Prelude.{◌≡◌, List, [], ◌∷◌, length, false, Option}
use Rattle.jn_steps.specs.Steps.{Goes, Enters, Leaves, Falls, Faults}
use Rattle.jn_base.specs.declared.tree.Name.{Name}
use Rattle.jn_base.specs.declared.tree.Program.{Program}
use Rattle.jn_base.specs.declared.names.Var.{Var}
use Rattle.jn_sem.specs.Values.{Value, Null}
use Rattle.std.specs.Prelude.{suc}
use Rattle.jn_base.specs.Paths.{Path}
use Rattle.jn_sem.specs.Sharing.{IsClass}
use Rattle.jn_sem.specs.Does.{IsBody}
use Rattle.jn_sem.specs.Acts.{Todo, stmts_acts}
use Rattle.jn_sem.specs.State.{Heap, Frame, has_null_path}
use Rattle.jn_sem.specs.Does.{Entry, Did}
use Rattle.jn_sem.specs.Run.{frame_of, given, AreIn}
use Rattle.jn_sem.specs.LawsOfHeaps.{Later}
use Rattle.jn_rules.specs.Stmts.{at_start, is_void}
use Rattle.jn_rule_laws.specs.LawsOfHeaders.{IsHeader}
use Rattle.std.specs.Prelude.{true}
use Rattle.jn_sound.specs.Takes.{Typing, typing}
use Rattle.jn_sound.specs.Sound.{StandsAt, GivesBack, HeapFits, body_of, Stays, NotStuck, Left}
use Rattle.jn_rules.specs.Headers.{Header}
use Rattle.jn_laws.specs.Surely.{Surely}

-- ---- where a frame stands

-- a body that begins
pub record Begun (p : Program) (h : Heap) (f : Frame) : Type 0 where
  pub heap : HeapFits p h
  pub view : Path
  pub name : Name
  pub class : IsClass p view
  pub is_body : IsBody p view name (body_of f)
  pub header : Header
  pub todo : f.todo ≡ stmts_acts (length header.vars) (suc (length header.vars)) f.method.body []
  pub stands : StandsAt p h f header header.vars (typing (at_start (body_of f) header).scope [])

-- The frame with which a body is entered.
abbrev pub entered : Entry → List Value → Frame
entered e [] = frame_of e Null []
entered e (r ∷ args) = frame_of e r args

-- What is known of a body that is entered with these.
abbrev pub Ready : Program → Entry → List Value → Heap → Type 0
Ready p e args h =
    has_null_path (entered e args).vars ≡ false → AreIn p (entered e args) h → Surely (Begun p h (entered e args))

-- ---- what an act does, from a place with one typing to one with another

pub record GoesAt (p : Program) (h : Heap) (f : Frame) (x : Header) (vs : List Var) (k : List Todo) (t : Typing)
    (g : Frame) (i : Heap) : Type 0 where
  pub later : Later h i
  pub heap : HeapFits p i
  pub stays : Stays p f g
  pub todo : g.todo ≡ k
  pub stands : StandsAt p i g x vs t

abbrev pub HasReceiver : List Value → Type 0
HasReceiver [] = ⊥
HasReceiver (r ∷ args) = Unit {0}

pub record CallsAt (p : Program) (h : Heap) (f : Frame) (x : Header) (vs : List Var) (k : List Todo) (t : Typing)
    (e : Entry) (args : List Value) (g : Frame) (i : Heap) : Type 0 where
  pub later : Later h i
  pub heap : HeapFits p i
  pub stays : Stays p f g
  pub todo : g.todo ≡ k
  pub receiver : HasReceiver args
  -- (so no argument is of a foreign type)
  pub are_in : has_null_path (entered e args).vars ≡ false → Surely (AreIn p (entered e args) i)
  pub ready : Ready p e args i
  -- where the body has no result, none is kept
  pub kept : (y : Header) → IsHeader p (body_of (entered e args)) y → is_void y.result ≡ true → g.keeps ≡ false
  -- with whatever comes back, in whatever later heap
  pub resumes : (j : Heap) (v : Option Value) → Later i j → GivesBack p (entered e args) j v
      → StandsAt p j (given v g) x vs t

abbrev pub DidAt : Program → Heap → Frame → Header → List Var → List Todo → Typing → Did → Type 0
DidAt p h f x vs k t (Goes g i bytes) = GoesAt p h f x vs k t g i
DidAt p h f x vs k t (Enters e args g i) = CallsAt p h f x vs k t e args g i
DidAt p h f x vs k t (Leaves v i) = Left p h f v i
DidAt p h f x vs k t Falls = ⊥
DidAt p h f x vs k t (Faults o) = NotStuck o

-- ---- a body at work, as the agreement asks for it

-- A frame of a body that was entered with the frame e, at a place with the typing t.
pub record Standing (p : Program) (e : Frame) (x : Header) (vs : List Var) (t : Typing) (f : Frame)
    (h : Heap) : Type 0 where
  pub heap : HeapFits p h
  pub stays : Stays p e f
  pub no_null : has_null_path e.vars ≡ false
  pub at : StandsAt p h f x vs t
