-- How a body begins, and how a run does.
use Rattle.std.specs.Prelude.{◌≡◌, ◌<◌, ℕ, suc, List, [], ◌∷◌, length, false, None, Some, slice_get}
use Rattle.jn_base.specs.declared.tree.Name.{Name}
use Rattle.jn_base.specs.declared.tree.Program.{Program}
use Rattle.jn_code.specs.declared.image.Image.{Image}
use Rattle.jn_code.specs.declared.image.Code.{Code}
use Rattle.jn_code.specs.declared.image.Shape.{Shape}
use Rattle.jn_base.specs.Paths.{Path}
use Rattle.jn_sem.specs.Values.{Value}
use Rattle.jn_sem.specs.Terms.{Site}
use Rattle.jn_sem.specs.Acts.{Begin, Open, todo, stmts_acts}
use Rattle.jn_sem.specs.State.{Heap, Frame, has_null_path}
use Rattle.jn_sem.specs.Does.{Entry, Body, IsBody}
use Rattle.jn_sem.specs.Run.{AreIn, frame_of, start_frame, no_method}
use Rattle.jn_agree.specs.Naming.{Naming}
use Rattle.jn_agree.specs.Rows.{RowsAre, HasShape}
use Rattle.jn_agree.specs.Follows.{Knows, EntryIs, MayEnter, Entered}
use Rattle.jn_agree.specs.Agrees.{StartAgrees, empty_world}
use Rattle.jn_agree.specs.Places.{Run, MethodOf, tests, StartAt}
use Rattle.jn_node_laws.specs.Cont.{Cont, LeadsTo}
use Rattle.jn_node_laws.specs.Facts.{CallsWell, FewNumbers, HasText, BodiesOnce, SpelledOnce}

-- where the statements of a body begin
abbrev pub entry_site : Entry → Site
entry_site e = record { class = e.class; method = e.method.name.name; vars = e.vars }

-- where the frame stands that starts the program
abbrev pub start_site : Site
start_site = record { class = []; method = no_method.name.name; vars = [] }

module _ (p : Program) (i : Image) (n : Naming) (m : ℕ) (K : Knows) (T : Type 0) (Stands : T → Frame → Heap → Type 0)
    (code : ℕ) (it : Code) where
  -- The statements go on behind the tests, with 8 instructions besides, for the frame with which a body is entered that
  -- has no null path and whose arguments are in their types.
  pub record StatementsGo (e : Entry) (first b : ℕ) (r : Value) (args : List Value) (h : Heap) : Type 0 where
    pub typing : T
    pub stands : Stands typing (frame_of e r args) h
    pub go : Cont p i n m K T Stands code it (frame_of e r args) b (entry_site e) typing
        (stmts_acts (length e.vars) (suc (length e.vars)) e.method.body []) first 8

  -- What typing says of the frame that starts the program, of its two acts, and of Main.
  pub record StartTyped (start : StartAt p n it) : Type 0 where
    pub at_start : T
    pub at_main : T
    pub at_end : T
    pub stands : Stands at_start start_frame empty_world.heap
    pub begins : LeadsTo p i n m K T Stands code it start_frame start_site Begin (todo 0 Open ∷ []) at_start at_main
    pub opens : LeadsTo p i n m K T Stands code it start_frame start_site Open [] at_main at_end
    pub gives : (f : Frame) (h : Heap) → Stands at_end f h → f.method.result ≡ None → K.gives start_frame h None
    -- the constructor of Main has no parameters and no result
    pub constructor : (b : Body) → IsBody p (start.class ∷ []) start.class b → HasShape p b
        (record { params = []; result = 0 })
    -- `main` is a body of that shape
    pub main : (f : Frame) (h : Heap) → Stands at_main f h → CallsWell p start.method 0 start.shape h f.vals

  pub record EntriesOf : Type 0 where
    -- From its entry a body is tested: Null where a final parameter of class type is null; else its statements go on.
    pub entered : (e : Entry) (first b : ℕ) → EntryIs p i n e code → length it.params ≡ suc (length e.vars)
        → Run it.instrs (tests e.vars) 0 first
        → ((r : Value) (args : List Value) (h : Heap) → MayEnter K e (r ∷ args) h
        → has_null_path (frame_of e r args).vars ≡ false → AreIn p (frame_of e r args) h →
        StatementsGo e first b r args h)
        → Entered p i n m K b e code
    -- The start code goes with the frame that starts the program.
    pub started : m < 4294967296 → FewNumbers n → BodiesOnce p → SpelledOnce p → (start : StartAt p n it)
        → i.start ≡ code → StartTyped start → StartAgrees p i n m K
    -- the program's texts are the image's
    pub texts : (number : ℕ) → HasText p i number
    -- Where no selector of a constructor without parameters has the name, no class has one. (A constructor has no
    -- result.)
    pub no_constructor : (C : Name) (P : Path) (b : Body)
        → ((s : ℕ) (shape : Shape) → MethodOf n C s shape → length shape.params ≡ 0 → shape.result ≡ 0 → ⊥)
        → IsBody p (C ∷ P) C b → b.method.result ≡ None → length b.method.params ≡ 0 → ⊥

abbrev pub EntriesFollow : (K : Knows) (T : Type 0) → (T → Frame → Heap → Type 0) → Type 0
EntriesFollow K T Stands =
    (p : Program) (i : Image) (n : Naming) (m code : ℕ) (it : Code) → slice_get i.codes code ≡ Some it
    → RowsAre p i n → EntriesOf p i n m K T Stands code it

-- Example: `void m(final A a) { print(1); }` that is entered with null ends by LOAD 1, CHECK in Null, before anything
-- is printed; entered with an object it goes on behind POP.
