-- The instructions of one node do what its act does, and then goes on what stands behind it.
use Rattle.std.specs.Prelude.{◌≡◌, ◌<◌, ◌≤◌, ℕ, suc, ◌+◌, ◌*◌, ℤ, List, [], ◌∷◌, ◌++◌, length, Bool, true, false, Some, None, slice_get}
use Rattle.jn_base.specs.declared.tree.Name.{Name}
use Rattle.jn_base.specs.declared.tree.ViewTerm.{ViewTerm}
use Rattle.jn_base.specs.declared.tree.Term.{Term}
use Rattle.jn_base.specs.declared.tree.TypeTerm.{TypeTerm}
use Rattle.jn_base.specs.declared.types.Ty.{Ty}
use Rattle.jn_base.specs.Paths.{Path}
use Rattle.jn_base.specs.declared.tree.Expr.{Expr}
use Rattle.jn_base.specs.declared.tree.Stmt.{Stmt}
use Rattle.jn_base.specs.declared.tree.Op.{Op}
use Rattle.jn_base.specs.declared.tree.Program.{Program}
use Rattle.jn_base.specs.declared.types.Anchor.TheVariants.{Root}
use Rattle.jn_base.specs.declared.names.Var.{Var}
use Rattle.jn_base.specs.Atoms.{Atom}
use Rattle.jn_code.specs.declared.instr.Instr.{Instr}
use Rattle.jn_code.specs.declared.instr.Instr.TheVariants as ins
use Rattle.jn_code.specs.declared.image.Image.{Image}
use Rattle.jn_code.specs.declared.image.Code.{Code}
use Rattle.jn_code.specs.declared.image.Shape.{Shape}
use Rattle.jn_code.specs.declared.image.Group.{Group}
use Rattle.jn_code.specs.declared.image.ClassRow.{ClassRow}
use Rattle.jn_code.specs.Rows.{numbered}
use Rattle.jn_sem.specs.Values.{Number, Truth, Null}
use Rattle.jn_sem.specs.Terms.{Site, SuperBound, ViewIs, TypeIs}
use Rattle.jn_sem.specs.Sharing.{family_of}
use Rattle.jn_sem.specs.Acts.{Assign, Super, Push, Bind, Read, This, Invert, Negate, Get, Put, View, Call, Make, Operate, Decide, Choose, Repeat, Return, Print, PrintText, Todo, todo, acts, stmts_acts, path_behind}
use Rattle.jn_sem.specs.State.{Heap, Frame}
use Rattle.jn_sem.specs.Slots.{IsSize}
use Rattle.jn_sem.specs.Asks.{Only}
use Rattle.jn_sem.specs.Does.{var, Body, IsBody, IsConstructorBody, IsNewClass, same_truth}
use Rattle.jn_agree.specs.Naming.{Naming}
use Rattle.jn_agree.specs.Matches.{World, RowOf}
use Rattle.jn_agree.specs.Rows.{RowsAre, HasShape}
use Rattle.jn_agree.specs.Follows.{Knows}
use Rattle.jn_agree.specs.Places.{At, Run, FieldOf, MethodOf, bit, newest, binding, with_var, operator, equal, dropping, deciding, decided_by}
use Rattle.jn_node_laws.specs.Cont.{Placed, Cont, LeadsTo, LeadsByTruth, either}
use Rattle.jn_node_laws.specs.Facts.{ReadsWell, WritesWell, CallsWell, PrintsWell, ComparesWell, HasText, FreshLocal, OwnLocal, CallsBody, ThisRefers}

-- a frame stands with that typing in that heap
pub record StandingAs (T : Type 0) : Type 0 where
  pub typing : T
  pub frame : Frame
  pub heap : Heap

-- Which typings are right is given by the cases. (Any relation can be given so.)
abbrev pub stands_by : {T S : Type 0} → (S → StandingAs T) → T → Frame → Heap → Type 0
stands_by {T} {S} stand t f h = (s : S) × (stand s ≡ record { typing = t; frame = f; heap = h })

module _ (p : Program) (i : Image) (n : Naming) (m : ℕ) (K : Knows) (T : Type 0) (Stands : T → Frame → Heap → Type 0)
    (code : ℕ) (it : Code) (r : Frame) where
  abbrev Go : ℕ → Site → T → List Todo → ℕ → ℕ → Type 0
  Go = Cont p i n m K T Stands code it r

  -- Each node has its one charge and leaves 20 instructions and what was left over; a call leaves 20 and takes 3 for
  -- each argument of what those left.
  pub record NodesOf : Type 0 where
    pub number : (b : ℕ) (here : Site) (u t : T) (k : List Todo) (s w : ℕ) (z : ℤ) → At it.instrs s (ins.Int z)
        → LeadsTo p i n m K T Stands code it r here (Push (Number z)) k u t → Go b here t k (s + 1) (20 + w)
        → Go (suc b) here u (todo (length here.vars) (Push (Number z)) ∷ k) s w
    pub truth : (b : ℕ) (here : Site) (u t : T) (k : List Todo) (s w : ℕ) (v : Bool) → At it.instrs s (ins.Bool (bit v))
        → LeadsTo p i n m K T Stands code it r here (Push (Truth v)) k u t → Go b here t k (s + 1) (20 + w)
        → Go (suc b) here u (todo (length here.vars) (Push (Truth v)) ∷ k) s w
    pub null : (b : ℕ) (here : Site) (u t : T) (k : List Todo) (s w : ℕ) → At it.instrs s ins.Null
        → LeadsTo p i n m K T Stands code it r here (Push Null) k u t → Go b here t k (s + 1) (20 + w)
        → Go (suc b) here u (todo (length here.vars) (Push Null) ∷ k) s w
    pub this : (b : ℕ) (here : Site) (u t : T) (k : List Todo) (s w : ℕ) → At it.instrs s (ins.Load 0)
        → LeadsTo p i n m K T Stands code it r here This k u t → Go b here t k (s + 1) (20 + w)
        → Go (suc b) here u (todo (length here.vars) This ∷ k) s w
    pub invert : (b : ℕ) (here : Site) (u t : T) (k : List Todo) (s w : ℕ) → At it.instrs s ins.Not
        → LeadsTo p i n m K T Stands code it r here Invert k u t → Go b here t k (s + 1) (20 + w)
        → Go (suc b) here u (todo (length here.vars) Invert ∷ k) s w
    pub negate : (b : ℕ) (here : Site) (u t : T) (k : List Todo) (s w : ℕ) → At it.instrs s ins.Neg
        → LeadsTo p i n m K T Stands code it r here Negate k u t → Go b here t k (s + 1) (20 + w)
        → Go (suc b) here u (todo (length here.vars) Negate ∷ k) s w
    -- the newest variable of the name is the local of its number
    pub read : (b : ℕ) (here : Site) (u t : T) (x : Name) (v : Var) (k : List Todo) (s w : ℕ)
        → newest here.vars x ≡ Some v → At it.instrs s (ins.Load v.path)
        → LeadsTo p i n m K T Stands code it r here (Read x) k u t → Go b here t k (s + 1) (20 + w)
        → Go (suc b) here u (todo (length here.vars) (Read x) ∷ k) s w
    -- All operators but `&&` and `||`. `==` and `!=` by the kind of the operands; two references are the same where
    -- they have one object.
    pub operate : (b : ℕ) (here : Site) (u t : T) (o : Op) (kind : ℕ) (k : List Todo) (s e w : ℕ)
        → Run it.instrs (operator o kind) s e
        → ((f : Frame) (h : Heap) → Stands u f h → ComparesWell o (equal kind) h f.vals)
        → LeadsTo p i n m K T Stands code it r here (Operate o) k u t → Go b here t k e (20 + w)
        → Go (suc b) here u (todo (length here.vars) (Operate o) ∷ k) s w
    -- where the image has the program's text at that number
    pub print_text : (b : ℕ) (here : Site) (u t : T) (x : ℕ) (k : List Todo) (s w : ℕ) → At it.instrs s (ins.Printt x)
        → HasText p i x → LeadsTo p i n m K T Stands code it r here (PrintText x) k u t → Go b here t k (s + 1) (20 + w)
        → Go (suc b) here u (todo (length here.vars) (PrintText x) ∷ k) s w
    -- whatever stands behind a return
    pub return_value : (b : ℕ) (here : Site) (u t : T) (k : List Todo) (s w : ℕ) → At it.instrs s ins.Retv
        → LeadsTo p i n m K T Stands code it r here (Return true) k u t
        → Go (suc b) here u (todo (length here.vars) (Return true) ∷ k) s w
    pub return_nothing : (b : ℕ) (here : Site) (u t : T) (k : List Todo) (s w : ℕ) → At it.instrs s ins.Ret
        → LeadsTo p i n m K T Stands code it r here (Return false) k u t
        → Go (suc b) here u (todo (length here.vars) (Return false) ∷ k) s w
    -- A local comes into scope: CHECK, where it is final and of class type, and STORE.
    pub bind : (b : ℕ) (here : Site) (u t : T) (fixed : Bool) (term : TypeTerm) (name : Name) (path : ℕ) (type : Ty)
        (scratch : ℕ) (k : List Todo) (s e w : ℕ)
        → TypeIs p here term type → FreshLocal it here (var name path fixed type)
        → Run it.instrs (binding p n scratch it fixed type path) s e
        → LeadsTo p i n m K T Stands code it r here (Bind fixed term name path) k u t
        → Go b (with_var here (var name path fixed type)) t k e (20 + w)
        → Go (suc b) here u (todo (length here.vars) (Bind fixed term name path) ∷ k) s w
    -- the newest variable of the name has a local that nothing else in scope has
    pub assign : (b : ℕ) (here : Site) (u t : T) (name : Name) (x : Var) (k : List Todo) (s w : ℕ)
        → newest here.vars name ≡ Some x → OwnLocal it here x → At it.instrs s (ins.Store x.path)
        → LeadsTo p i n m K T Stands code it r here (Assign name) k u t → Go b here t k (s + 1) (20 + w)
        → Go (suc b) here u (todo (length here.vars) (Assign name) ∷ k) s w
    -- the free end, with no charge
    pub end : (b : ℕ) (here : Site) (u : T) (s w : ℕ) → At it.instrs s ins.Ret → 1 ≤ w
        → ((f : Frame) (h : Heap) → Stands u f h → f.method.result ≡ None → K.gives r h None)
        → Go b here u [] s w
    -- by the kind of what is printed
    pub print : (b : ℕ) (here : Site) (u t : T) (x : Instr) (k : List Todo) (s w : ℕ) → At it.instrs s x
        → ((f : Frame) (h : Heap) → Stands u f h → PrintsWell x h f.vals)
        → LeadsTo p i n m K T Stands code it r here Print k u t → Go b here t k (s + 1) (20 + w)
        → Go (suc b) here u (todo (length here.vars) Print ∷ k) s w
    -- the selector is one of the field's name, and of the kind of the field that is read
    pub get : (b : ℕ) (here : Site) (u t : T) (field : Name) (j kind : ℕ) (k : List Todo) (s w : ℕ) → At it.instrs s
        (ins.Get j)
        → FieldOf n field j kind → ((f : Frame) (h : Heap) → Stands u f h → ReadsWell p field kind h f.vals)
        → LeadsTo p i n m K T Stands code it r here (Get field) k u t → Go b here t k (s + 1) (20 + w)
        → Go (suc b) here u (todo (length here.vars) (Get field) ∷ k) s w
    pub put : (b : ℕ) (here : Site) (u t : T) (field : Name) (j kind : ℕ) (k : List Todo) (s w : ℕ) → At it.instrs s
        (ins.Put j)
        → FieldOf n field j kind → ((f : Frame) (h : Heap) → Stands u f h → WritesWell p field kind h f.vals)
        → LeadsTo p i n m K T Stands code it r here (Put field) k u t → Go b here t k (s + 1) (20 + w)
        → Go (suc b) here u (todo (length here.vars) (Put field) ∷ k) s w
    -- to a class of the program's own
    pub view : (b : ℕ) (here : Site) (u t : T) (v : ViewTerm) (atom : Atom) (Y : Name) (kx : ℕ) (k : List Todo)
        (s w : ℕ)
        → ViewIs p here v atom → atom.anchor ≡ Root → slice_get n.classes kx ≡ Some (atom.names ++ atom.exact)
        → family_of (atom.names ++ atom.exact) ≡ Some Y → At it.instrs s (ins.Cls kx) → At it.instrs (s + 1) ins.Conv
        → LeadsTo p i n m K T Stands code it r here (View v) k u t → Go b here t k (s + 1 + 1) (20 + w)
        → Go (suc b) here u (todo (length here.vars) (View v) ∷ k) s w
    -- the selector is one of the name, and of the shape of the body that is called
    pub call : (b : ℕ) (here : Site) (u t : T) (name : Name) (num : ℕ) (keeps : Bool) (j : ℕ) (shape : Shape)
        (k : List Todo) (s e w : ℕ)
        → At it.instrs s (ins.Call j) → Run it.instrs (dropping keeps shape.result) (s + 1) e → MethodOf n name j shape
        → length shape.params ≡ num → ((f : Frame) (h : Heap) → Stands u f h → CallsWell p name num shape h f.vals)
        → LeadsTo p i n m K T Stands code it r here (Call name num keeps) k u t → Go b here t k e (20 + w)
        → Go (suc b) here u (todo (length here.vars) (Call name num keeps) ∷ k) s (3 * num + w)
    -- `super` without arguments: the body of the name at the bound, where `this` is a reference
    pub bare_super : (b : ℕ) (here : Site) (u t : T) (term : Term) (name : Name) (keeps : Bool) (B : Path) (kx j : ℕ)
        (shape : Shape) (k : List Todo) (s e w : ℕ)
        → SuperBound p here term B → slice_get n.classes kx ≡ Some B → At it.instrs s (ins.Load 0)
        → At it.instrs (s + 1) (ins.Cls kx) → At it.instrs (s + 1 + 1) (ins.Callat j)
        → Run it.instrs (dropping keeps shape.result) (s + 1 + 1 + 1) e → MethodOf n name j shape
        → length shape.params ≡ 0 → ((b : Body) → IsBody p B name b → CallsBody p b shape)
        → ((f : Frame) (h : Heap) → Stands u f h → ThisRefers f)
        → LeadsTo p i n m K T Stands code it r here (Super term name 0 keeps) k u t → Go b here t k e (20 + w)
        → Go (suc b) here u (todo (length here.vars) (Super term name 0 keeps) ∷ k) s w
    -- a class of the program's own that has a constructor: the object is made, or Arena, and the constructor is called
    pub make : RowsAre p i n → (b : ℕ) (here : Site) (u t : T) (term : Term) (C : Name) (P : Path) (kx j num : ℕ)
        (group : Group)
        (shape : Shape) (keeps : Bool) (k : List Todo) (s e w : ℕ) → m < 4294967296
        → ((f : Frame) (x : World) (lv zs : List ℤ) → Placed p n it r here f x lv zs → (V : Path) → Only
        (IsNewClass p f term) V → V ≡ C ∷ P)
        → slice_get n.classes kx ≡ Some (C ∷ P)
        → ((row : ClassRow) → RowOf i n (C ∷ P) kx row → (numbered row.group ≡ Some row.group) ×
        (slice_get i.groups row.group ≡ Some group))
        → ((size : ℕ) → IsSize p (C ∷ P) size → size ≡ suc (length group.slots))
        → At it.instrs s (ins.Cls kx) → At it.instrs (s + 1) ins.New → At it.instrs (s + 1 + 1) (ins.Ctor j)
        → Run it.instrs (dropping keeps 3) (s + 1 + 1 + 1) e → MethodOf n C j shape → length shape.params ≡ num
        → ((b : Body) → IsBody p (C ∷ P) C b → HasShape p b shape)
        → (((b : Body) → Only (IsConstructorBody p (C ∷ P)) b → ⊥) → ⊥)
        → LeadsTo p i n m K T Stands code it r here (Make term num keeps) k u t → Go b here t k e (15 + w)
        → Go (suc b) here u (todo (length here.vars) (Make term num keeps) ∷ k) s (3 * num + w)
    -- `&&` and `||`: past the right operand where the left one decides; else the right one's acts are still to be done
    pub decide : (b : ℕ) (here : Site) (u if_so if_not : T) (and : Bool) (e : Expr) (k : List Todo) (s t w : ℕ)
        → At it.instrs s (deciding and t) → At it.instrs t (decided_by and)
        → LeadsByTruth p i n m K T Stands code it r here (Decide and e) k u
        (λ v. either if_so if_not (same_truth and v))
        → Go b here if_so (acts (length here.vars) e k) (s + 1) (20 + w) → Go b here if_not k (t + 1) (20 + w)
        → Go (suc b) here u (todo (length here.vars) (Decide and e) ∷ k) s w
    -- `if`: the acts of one or of the other are still to be done
    pub choose : (b : ℕ) (here : Site) (u if_so if_not : T) (path : ℕ) (one other : List Stmt) (k : List Todo)
        (s t w : ℕ) → At it.instrs s (ins.Jfalse t)
        → LeadsByTruth p i n m K T Stands code it r here (Choose path one other) k u (either if_so if_not)
        → Go b here if_so (stmts_acts (length here.vars) path one k) (s + 1) (20 + w)
        → Go b here if_not (stmts_acts (length here.vars) (path_behind one path) other k) t (20 + w)
        → Go (suc b) here u (todo (length here.vars) (Choose path one other) ∷ k) s w
    -- a jump that was paid for before
    pub jump : (b : ℕ) (here : Site) (u : T) (k : List Todo) (s t w : ℕ) → At it.instrs s (ins.Jump t) →
        Go b here u k t w
        → Go b here u k s (suc w)
    -- a whole loop, from what its condition and its body are, whatever stands behind those
    pub loop : (here : Site) (u v if_so if_not : T) (path : ℕ) (e : Expr) (body : List Stmt) (k : List Todo)
        (s l o w : ℕ)
        → At it.instrs l (ins.Jfalse (o + 1)) → At it.instrs o (ins.Jump s)
        → LeadsByTruth p i n m K T Stands code it r here (Repeat path e body) k v (either if_so if_not)
        → ((b : ℕ) (k : List Todo) (w : ℕ) → Go b here v k l w → Go b here u (acts (length here.vars) e k) s w)
        → ((b : ℕ) (k : List Todo) (w : ℕ) → Go b here u k o w
        → Go b here if_so (stmts_acts (length here.vars) path body k) (l + 1) w)
        → (b : ℕ) → Go b here if_not k (o + 1) w
        → Go b here u (acts (length here.vars) e (todo (length here.vars) (Repeat path e body) ∷ k)) s w

abbrev pub NodesFollow : (K : Knows) (T : Type 0) → (T → Frame → Heap → Type 0) → Type 0
NodesFollow K T Stands =
    (p : Program) (i : Image) (n : Naming) (m code : ℕ) (it : Code) (r : Frame) → slice_get i.codes code ≡ Some it →
    RowsAre p i n
    → NodesOf p i n m K T Stands code it r
