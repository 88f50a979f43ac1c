-- What soundness gives to the nodes: each act leads from its context to the one behind it, and the facts that the
-- instructions of an act rely on hold of a frame that stands there.
use Rattle.std.specs.Prelude.{◌≡◌, ℕ, List, [], ◌∷◌, Bool, true, false, Option, Some, None}
use Rattle.jn_base.specs.declared.tree.Name.{Name}
use Rattle.jn_base.specs.declared.tree.Op.{Op}
use Rattle.jn_base.specs.declared.tree.Expr.{Expr}
use Rattle.jn_base.specs.declared.tree.Stmt.{Stmt}
use Rattle.jn_base.specs.declared.tree.Program.{Program}
use Rattle.jn_base.specs.declared.types.Ty.{Ty}
use Rattle.jn_base.specs.declared.types.Ty.TheVariants as ty
use Rattle.jn_base.specs.declared.names.Var.{Var}
use Rattle.jn_base.specs.Scopes.{Scope}
use Rattle.jn_base.specs.WithinLimits.{IsWithinLimits}
use Rattle.jn_code.specs.declared.image.Image.{Image}
use Rattle.jn_code.specs.declared.image.Code.{Code}
use Rattle.jn_code.specs.declared.image.Shape.{Shape}
use Rattle.jn_sem.specs.Sharing.{IsClass}
use Rattle.jn_sem.specs.Acts.{Act, Decide, Choose, Repeat, Return, Todo}
use Rattle.jn_sem.specs.State.{Heap, Frame}
use Rattle.jn_sem.specs.Does.{Body, IsBody, same_truth}
use Rattle.jn_laws.specs.Surely.{Surely}
use Rattle.jn_rules.specs.Headers.{Header}
use Rattle.jn_rules.specs.Plans.{FoundField}
use Rattle.jn_rules.specs.Questions.{IsFoundField}
use Rattle.jn_rules.specs.Stmts.{is_void}
use Rattle.jn_rules.specs.Verdict.{TreePasses}
use Rattle.jn_sound.specs.Callees.{Callee, IsCallee, IsCalled}
use Rattle.jn_sound.specs.Needs.{Needs}
use Rattle.jn_sound.specs.Sound.{GivesBack}
use Rattle.jn_sound.specs.Takes.{Opd, opd, opds_of, Typing, typing, Moves, Takes}
use Rattle.jn_agree.specs.Naming.{Naming}
use Rattle.jn_agree.specs.Places.{equal}
use Rattle.jn_agree.specs.Rows.{FieldKind, IsShape, kind_of_type}
use Rattle.jn_places.specs.StmtPlaces.{printing}
use Rattle.jn_node_laws.specs.Cont.{LeadsTo, LeadsByTruth, either}
use Rattle.jn_node_laws.specs.Facts.{ReadsWell, WritesWell, CallsWell, CallsBody, PrintsWell, ComparesWell, ThisRefers}
use Rattle.jn_place_laws.specs.Contexts.{Context, context, Stood, known, in_body, site_at}

-- In a body that was entered with the frame r, whose header is hd.
module _ (p : Program) (i : Image) (n : Naming) (m : ℕ) (code : ℕ) (it : Code) (r : Frame) (hd : Header) where
  -- from one context to another
  abbrev pub ActLeads : List Var → Act → List Todo → Context → Context → Type 0
  ActLeads vs act k u t = LeadsTo p i n m (known p) Context (Stood p r hd) code it r (site_at r hd vs) act k u t

  -- by the truth value on top
  abbrev pub TruthLeads : List Var → Act → List Todo → Context → (Bool → Context) → Type 0
  TruthLeads vs act k u t = LeadsByTruth p i n m (known p) Context (Stood p r hd) code it r (site_at r hd vs) act k u t

  pub record ActsLead : Type 0 where
    -- each act that has a rule leads from what it takes to what it gives
    pub acts : (vs us : List Var) (act : Act) (k : List Todo) (t z : Typing) → Takes p (in_body r hd) vs act t us z
        → ActLeads vs act k (context vs t) (context us z)
    -- where nothing acts
    pub moves : (vs : List Var) (t z : Typing) → Moves p t z → (f : Frame) (h : Heap)
        → Stood p r hd (context vs t) f h → Stood p r hd (context vs z) f h
    -- `&&` and `||`: the right operand comes, or the left one is the value
    pub decides : (vs : List Var) (s : Scope) (ops : List Opd) (q : Option ℕ) (and : Bool) (e : Expr) (k : List Todo)
        → TruthLeads vs (Decide and e) k (context vs (typing s (opd ty.Bool q ∷ ops)))
        (λ v. either (context vs (typing s ops)) (context vs (typing s (opd ty.Bool None ∷ ops))) (same_truth and v))
    pub chooses : (vs : List Var) (s : Scope) (ops : List Opd) (q : Option ℕ) (path : ℕ) (one other : List Stmt)
        (k : List Todo) → TruthLeads vs (Choose path one other) k (context vs (typing s (opd ty.Bool q ∷ ops)))
        (either (context vs (typing s ops)) (context vs (typing s ops)))
    pub repeats : (vs : List Var) (s : Scope) (ops : List Opd) (q : Option ℕ) (path : ℕ) (e : Expr) (body : List Stmt)
        (k : List Todo) → TruthLeads vs (Repeat path e body) k (context vs (typing s (opd ty.Bool q ∷ ops)))
        (either (context vs (typing s ops)) (context vs (typing s ops)))
    -- where the body ends, whatever stands behind: a result in its type, `return;`, and the free end
    pub returns : (vs : List Var) (s : Scope) (ops : List Opd) (q : Option ℕ) (k : List Todo) (z : Context)
        → is_void hd.result ≡ false → ActLeads vs (Return true) k (context vs (typing s (opd hd.result q ∷ ops))) z
    pub leaves : (vs : List Var) (t : Typing) (k : List Todo) (z : Context)
        → ActLeads vs (Return false) k (context vs t) z
    pub ends : (c : Context) (f : Frame) (h : Heap) → Stood p r hd c f h → f.method.result ≡ None
        → Surely (GivesBack p r h None)

  -- the facts, with the variables vs in the scope s
  pub record FactsHold (vs : List Var) (s : Scope) : Type 0 where
    -- a field that was found by the receiver's type
    pub reads : (ops : List Opd) (f : Name) (t : Ty) (q : Option ℕ) (c : FoundField) (kind : ℕ)
        → IsFoundField p s t f c → FieldKind c.ty kind → (g : Frame) (h : Heap)
        → Stood p r hd (context vs (typing s (opd t q ∷ ops))) g h → ReadsWell p f kind h g.vals
    pub writes : (ops : List Opd) (o : Opd) (f : Name) (t : Ty) (q : Option ℕ) (c : FoundField) (kind : ℕ)
        → IsFoundField p s t f c → FieldKind c.ty kind → (g : Frame) (h : Heap)
        → Stood p r hd (context vs (typing s (o ∷ (opd t q ∷ ops)))) g h → WritesWell p f kind h g.vals
    -- a method that was found by the receiver's type, below the arguments
    pub calls : (before ops : List Opd) (args : List Opd) (name : Name) (count : ℕ) (t : Ty) (q : Option ℕ)
        (c : Callee) (shape : Shape) → IsCalled p s t name c → opds_of count [] before ≡ Some (args, opd t q ∷ ops)
        → IsShape c.vars c.result shape → (g : Frame) (h : Heap)
        → Stood p r hd (context vs (typing s before)) g h → CallsWell p name count shape h g.vals
    -- the latest operand is of its type's kind
    pub prints : (ops : List Opd) (t : Ty) (q : Option ℕ) (g : Frame) (h : Heap)
        → Stood p r hd (context vs (typing s (opd t q ∷ ops))) g h → PrintsWell (printing t) h g.vals
    pub compares : (ops : List Opd) (o : Op) (t : Ty) (q : Option ℕ) (g : Frame) (h : Heap)
        → Stood p r hd (context vs (typing s (opd t q ∷ ops))) g h
        → ComparesWell o (equal (kind_of_type t)) h g.vals
    pub refers : (ops : List Opd) (g : Frame) (h : Heap) → Stood p r hd (context vs (typing s ops)) g h → ThisRefers g

-- of a program within the limits that is accepted, in whatever image
abbrev pub ContextsLead : Type 0
ContextsLead =
    (p : Program) → IsWithinLimits p → TreePasses p → Needs p → (i : Image) (n : Naming) (m code : ℕ) (it : Code)
    (r : Frame) (hd : Header)
    → ActsLead p i n m code it r hd × ((vs : List Var) (s : Scope) → FactsHold p i n m code it r hd vs s)

-- the body of a callee has the shape of its header
abbrev pub CalleesHaveShapes : Type 0
CalleesHaveShapes =
    (p : Program) → IsWithinLimits p → TreePasses p → Needs p → (name : Name) (c : Callee) (shape : Shape)
    → IsClass p c.bound → IsCallee p name c → IsShape c.vars c.result shape → (b : Body) → IsBody p c.bound name b
    → CallsBody p b shape
