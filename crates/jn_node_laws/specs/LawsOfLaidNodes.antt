-- The instructions of one node of an expression, where `this` may stand among the machine's operands: below the first
-- argument of `super`, while its further ones are had. (At a statement all operands are the frame's.)
use Rattle.std.specs.Prelude.{◌≡◌, ◌<◌, ◌≤◌, ℕ, suc, ◌+◌, ◌*◌, ℤ, List, [], ◌∷◌, ◌++◌, length, Bool, Some, slice_get}
use Rattle.jn_base.specs.declared.tree.Name.{Name}
use Rattle.jn_base.specs.declared.tree.ViewTerm.{ViewTerm}
use Rattle.jn_base.specs.declared.tree.Term.{Term}
use Rattle.jn_base.specs.declared.tree.Expr.{Expr}
use Rattle.jn_base.specs.declared.tree.Op.{Op}
use Rattle.jn_base.specs.declared.tree.Program.{Program}
use Rattle.jn_base.specs.declared.names.Role.TheVariants as role
use Rattle.jn_base.specs.declared.names.Var.{Var}
use Rattle.jn_base.specs.Paths.{Path}
use Rattle.jn_base.specs.Atoms.{Atom}
use Rattle.jn_code.specs.declared.instr.Instr.{Instr}
use Rattle.jn_code.specs.declared.instr.Instr.TheVariants as ins
use Rattle.jn_code.specs.declared.image.Image.{Image}
use Rattle.jn_code.specs.declared.image.Code.{Code}
use Rattle.jn_code.specs.declared.image.Shape.{Shape}
use Rattle.jn_sem.specs.Values.{Number, Truth, Null}
use Rattle.jn_sem.specs.Terms.{Site, SuperBound, TermIs, ViewIs}
use Rattle.jn_sem.specs.Acts.{Super, Push, Read, This, Invert, Negate, Get, View, Call, Make, Operate, Decide, Todo, todo, acts}
use Rattle.jn_sem.specs.State.{Heap, Frame}
use Rattle.jn_sem.specs.Does.{Body, IsBody, same_truth}
use Rattle.jn_agree.specs.Naming.{Naming}
use Rattle.jn_agree.specs.Rows.{RowsAre}
use Rattle.jn_agree.specs.Follows.{Knows}
use Rattle.jn_agree.specs.Places.{At, Run, ClassCode, FieldOf, MethodOf, bit, newest, operator, equal, dropping, deciding, decided_by, tuck}
use Rattle.jn_node_laws.specs.Cont.{of_frame, of_this, Layout, Takes, TakesAll, with_value, with_result, trimmed, ContOn, LeadsTo, LeadsByTruth, either}
use Rattle.jn_node_laws.specs.Facts.{ReadsWell, CallsWell, ComparesWell, CallsBody, ThisRefers, FewNumbers, BodiesOnce, TargetSeen, MakesWell, MakesBare, ScratchLocal}

module _ (p : Program) (i : Image) (n : Naming) (m : ℕ) (K : Knows) (T : Type 0) (Stands : T → Frame → Heap → Type 0)
    (code : ℕ) (it : Code) (r : Frame) where
  abbrev Go : Layout → ℕ → Site → T → List Todo → ℕ → ℕ → Type 0
  Go = ContOn p i n m K T Stands code it r

  -- Each node takes its operands from the top and leaves its value there. Of its charge it leaves 20, a `super` with
  -- arguments 18 and `new` with a constructor 11, and a call takes 3 of what was left over for each argument.
  pub record LaidNodesOf : Type 0 where
    pub number : (l : Layout) (b : ℕ) (here : Site) (u t : T) (k : List Todo) (s w : ℕ) (z : ℤ)
        → At it.instrs s (ins.Int z)
        → LeadsTo p i n m K T Stands code it r here (Push (Number z)) k u t
        → Go (of_frame ∷ l) b here t k (s + 1) (20 + w)
        → Go l (suc b) here u (todo (length here.vars) (Push (Number z)) ∷ k) s w
    pub truth : (l : Layout) (b : ℕ) (here : Site) (u t : T) (k : List Todo) (s w : ℕ) (v : Bool)
        → At it.instrs s (ins.Bool (bit v))
        → LeadsTo p i n m K T Stands code it r here (Push (Truth v)) k u t
        → Go (of_frame ∷ l) b here t k (s + 1) (20 + w)
        → Go l (suc b) here u (todo (length here.vars) (Push (Truth v)) ∷ k) s w
    pub null : (l : Layout) (b : ℕ) (here : Site) (u t : T) (k : List Todo) (s w : ℕ) → At it.instrs s ins.Null
        → LeadsTo p i n m K T Stands code it r here (Push Null) k u t → Go (of_frame ∷ l) b here t k (s + 1) (20 + w)
        → Go l (suc b) here u (todo (length here.vars) (Push Null) ∷ k) s w
    pub this : (l : Layout) (b : ℕ) (here : Site) (u t : T) (k : List Todo) (s w : ℕ) → At it.instrs s (ins.Load 0)
        → LeadsTo p i n m K T Stands code it r here This k u t → Go (of_frame ∷ l) b here t k (s + 1) (20 + w)
        → Go l (suc b) here u (todo (length here.vars) This ∷ k) s w
    pub read : (l : Layout) (b : ℕ) (here : Site) (u t : T) (x : Name) (v : Var) (k : List Todo) (s w : ℕ)
        → newest here.vars x ≡ Some v → At it.instrs s (ins.Load v.path)
        → LeadsTo p i n m K T Stands code it r here (Read x) k u t → Go (of_frame ∷ l) b here t k (s + 1) (20 + w)
        → Go l (suc b) here u (todo (length here.vars) (Read x) ∷ k) s w
    pub invert : (j l : Layout) → Takes j l → (b : ℕ) (here : Site) (u t : T) (k : List Todo) (s w : ℕ)
        → At it.instrs s ins.Not
        → LeadsTo p i n m K T Stands code it r here Invert k u t → Go (of_frame ∷ l) b here t k (s + 1) (20 + w)
        → Go j (suc b) here u (todo (length here.vars) Invert ∷ k) s w
    pub negate : (j l : Layout) → Takes j l → (b : ℕ) (here : Site) (u t : T) (k : List Todo) (s w : ℕ)
        → At it.instrs s ins.Neg
        → LeadsTo p i n m K T Stands code it r here Negate k u t → Go (of_frame ∷ l) b here t k (s + 1) (20 + w)
        → Go j (suc b) here u (todo (length here.vars) Negate ∷ k) s w
    pub operate : (q j l : Layout) → Takes q j → Takes j l → (b : ℕ) (here : Site) (u t : T) (o : Op) (kind : ℕ)
        (k : List Todo) (s e w : ℕ) → Run it.instrs (operator o kind) s e
        → ((f : Frame) (h : Heap) → Stands u f h → ComparesWell o (equal kind) h f.vals)
        → LeadsTo p i n m K T Stands code it r here (Operate o) k u t → Go (of_frame ∷ l) b here t k e (20 + w)
        → Go q (suc b) here u (todo (length here.vars) (Operate o) ∷ k) s w
    pub decide : (j l : Layout) → Takes j l → (b : ℕ) (here : Site) (u if_so if_not : T) (and : Bool) (e : Expr)
        (k : List Todo) (s t w : ℕ) → At it.instrs s (deciding and t) → At it.instrs t (decided_by and)
        → LeadsByTruth p i n m K T Stands code it r here (Decide and e) k u
        (λ v. either if_so if_not (same_truth and v))
        → Go l b here if_so (acts (length here.vars) e k) (s + 1) (20 + w)
        → Go (of_frame ∷ l) b here if_not k (t + 1) (20 + w)
        → Go j (suc b) here u (todo (length here.vars) (Decide and e) ∷ k) s w
    pub get : (j l : Layout) → Takes j l → (b : ℕ) (here : Site) (u t : T) (field : Name) (sel kind : ℕ)
        (k : List Todo) (s w : ℕ) → At it.instrs s (ins.Get sel) → FieldOf n field sel kind
        → ((f : Frame) (h : Heap) → Stands u f h → ReadsWell p field kind h f.vals)
        → LeadsTo p i n m K T Stands code it r here (Get field) k u t
        → Go (of_frame ∷ l) b here t k (s + 1) (20 + w)
        → Go j (suc b) here u (todo (length here.vars) (Get field) ∷ k) s w
    -- the receiver stands below the arguments
    pub call : (q j l : Layout) (b : ℕ) (here : Site) (u t : T) (name : Name) (num : ℕ) (keeps : Bool) (sel : ℕ)
        (shape : Shape) (k : List Todo) (s e w : ℕ) → At it.instrs s (ins.Call sel)
        → Run it.instrs (dropping keeps shape.result) (s + 1) e → MethodOf n name sel shape
        → length shape.params ≡ num → TakesAll num q j → Takes j l
        → ((f : Frame) (h : Heap) → Stands u f h → CallsWell p name num shape h f.vals)
        → LeadsTo p i n m K T Stands code it r here (Call name num keeps) k u t
        → Go (with_result keeps shape.result l) b here t k e (20 + w)
        → Go q (suc b) here u (todo (length here.vars) (Call name num keeps) ∷ k) s (3 * num + w)
    -- a view to whatever class the target's atom names, by the views of the paths
    pub view : FewNumbers n → (j l : Layout) → Takes j l → (b : ℕ) (here : Site) (u t : T) (v : ViewTerm) (atom : Atom)
        (xs : List Instr) (k : List Todo) (s e w : ℕ) → ViewIs p here v atom → ClassCode n atom xs → length xs ≤ 10
        → Run it.instrs (xs ++ ins.Conv ∷ []) s e
        → ((f : Frame) (h : Heap) → Stands u f h → TargetSeen p atom (trimmed here f))
        → LeadsTo p i n m K T Stands code it r here (View v) k u t → Go (of_frame ∷ l) b here t k e (20 + w)
        → Go j (suc b) here u (todo (length here.vars) (View v) ∷ k) s w
    -- `new` of whatever class the term's atom names, where some class has that constructor: it is called where this
    -- one has
    pub make : FewNumbers n → BodiesOnce p → (q l : Layout) (b : ℕ) (here : Site) (u t : T) (term : Term) (atom : Atom)
        (xs : List Instr) (C : Name) (P : Path) (sel num : ℕ) (shape : Shape) (keeps : Bool) (k : List Todo) (s e w : ℕ)
        → m < 4294967296 → TakesAll num q l → TermIs p role.New here term atom → ClassCode n atom xs → length xs ≤ 10
        → atom.names ++ atom.exact ≡ C ∷ P
        → Run it.instrs (xs ++ ins.New ∷ (ins.Ctor sel ∷ dropping keeps 3)) s e
        → MethodOf n C sel shape → length shape.params ≡ num
        → ((f : Frame) (h : Heap) → Stands u f h → MakesWell p term C shape atom (trimmed here f))
        → LeadsTo p i n m K T Stands code it r here (Make term num keeps) k u t
        → Go (with_value keeps l) b here t k e (11 + w)
        → Go q (suc b) here u (todo (length here.vars) (Make term num keeps) ∷ k) s (3 * num + w)
    -- without a constructor
    pub make_bare : FewNumbers n → (l : Layout) (b : ℕ) (here : Site) (u t : T) (term : Term) (atom : Atom)
        (xs : List Instr) (keeps : Bool) (k : List Todo) (s e w : ℕ)
        → m < 4294967296 → TermIs p role.New here term atom → ClassCode n atom xs → length xs ≤ 10
        → Run it.instrs (xs ++ ins.New ∷ dropping keeps 3) s e
        → ((f : Frame) (h : Heap) → Stands u f h → MakesBare p term atom (trimmed here f))
        → LeadsTo p i n m K T Stands code it r here (Make term 0 keeps) k u t
        → Go (with_value keeps l) b here t k e (20 + w)
        → Go l (suc b) here u (todo (length here.vars) (Make term 0 keeps) ∷ k) s w
    pub bare_super : (l : Layout) (b : ℕ) (here : Site) (u t : T) (term : Term) (name : Name) (keeps : Bool) (B : Path)
        (kx sel : ℕ) (shape : Shape) (k : List Todo) (s e w : ℕ)
        → SuperBound p here term B → slice_get n.classes kx ≡ Some B → At it.instrs s (ins.Load 0)
        → At it.instrs (s + 1) (ins.Cls kx) → At it.instrs (s + 1 + 1) (ins.Callat sel)
        → Run it.instrs (dropping keeps shape.result) (s + 1 + 1 + 1) e → MethodOf n name sel shape
        → length shape.params ≡ 0 → ((b : Body) → IsBody p B name b → CallsBody p b shape)
        → ((f : Frame) (h : Heap) → Stands u f h → ThisRefers f)
        → LeadsTo p i n m K T Stands code it r here (Super term name 0 keeps) k u t
        → Go (with_result keeps shape.result l) b here t k e (20 + w)
        → Go l (suc b) here u (todo (length here.vars) (Super term name 0 keeps) ∷ k) s w
    -- `super` with arguments, where `this` stands below the first one
    pub super : (q l : Layout) (b : ℕ) (here : Site) (u t : T) (term : Term) (name : Name) (count : ℕ) (keeps : Bool)
        (B : Path) (kx sel : ℕ) (shape : Shape) (k : List Todo) (s e w : ℕ)
        → SuperBound p here term B → slice_get n.classes kx ≡ Some B → TakesAll (suc count) q (of_this ∷ l)
        → At it.instrs s (ins.Cls kx) → At it.instrs (s + 1) (ins.Callat sel)
        → Run it.instrs (dropping keeps shape.result) (s + 1 + 1) e → MethodOf n name sel shape
        → length shape.params ≡ suc count → ((b : Body) → IsBody p B name b → CallsBody p b shape)
        → ((f : Frame) (h : Heap) → Stands u f h → ThisRefers f)
        → LeadsTo p i n m K T Stands code it r here (Super term name (suc count) keeps) k u t
        → Go (with_result keeps shape.result l) b here t k e (18 + w)
        → Go q (suc b) here u (todo (length here.vars) (Super term name (suc count) keeps) ∷ k) s (3 * count + w)
    -- once its first argument is had, `this` comes below it, with no charge
    pub tucks : (l : Layout) (b : ℕ) (here : Site) (u : T) (k : List Todo) (s e q w : ℕ) → ScratchLocal it here q
        → Run it.instrs (tuck q) s e → Go (of_frame ∷ (of_this ∷ l)) b here u k e w
        → Go (of_frame ∷ l) b here u k s (suc (suc (suc w)))
    -- where all operands are the frame's, so is the latest one
    pub narrow : (b : ℕ) (here : Site) (t : T) (k : List Todo) (s w : ℕ) → Go [] b here t k s w
        → Go (of_frame ∷ []) b here t k s w
    -- where typing says more, it says less
    pub moves : (l : Layout) (b : ℕ) (here : Site) (u t : T) (k : List Todo) (s w : ℕ)
        → ((f : Frame) (h : Heap) → Stands u f h → Stands t f h) → Go l b here t k s w → Go l b here u k s w

abbrev pub LaidNodesFollow : (K : Knows) (T : Type 0) → (T → Frame → Heap → Type 0) → Type 0
LaidNodesFollow K T Stands =
    (p : Program) (i : Image) (n : Naming) (m code : ℕ) (it : Code) (r : Frame) → slice_get i.codes code ≡ Some it →
    RowsAre p i n
    → LaidNodesOf p i n m K T Stands code it r

-- Example: where 2 of `super.m(1, 2)` is made, the machine has two operands: 1, which is the frame's, and `this` below
-- it, which is not. So the code of 2 is asked for the layout of_frame ∷ (of_this ∷ []).
