-- How forms with parts stand, where their parts were emitted one behind another.
use Rattle.std.specs.Prelude.{◌≡◌, ◌++◌, ℕ, List, [], ◌∷◌, length, map, Bool, true, Ok}
use Rattle.jn_base.specs.declared.tree.Place.{Place}
use Rattle.jn_base.specs.declared.tree.ViewTerm.{ViewTerm}
use Rattle.jn_base.specs.Atoms.{Atom}
use Rattle.jn_sem.specs.Terms.{ViewIs}
use Rattle.jn_rules.specs.Exprs.{site_here}
use Rattle.jn_agree.specs.Places.{ClassCode}
use Rattle.jn_base.specs.declared.tree.Level.{Level}
use Rattle.jn_base.specs.declared.tree.Node.TheVariants as node
use Rattle.jn_base.specs.declared.tree.Expr.{Expr}
use Rattle.jn_base.specs.declared.tree.Link.{Link}
use Rattle.jn_base.specs.declared.tree.Stmt.{Stmt}
use Rattle.jn_base.specs.declared.tree.Stmt.TheVariants as stmt
use Rattle.jn_base.specs.declared.tree.Program.{Program}
use Rattle.jn_base.specs.declared.types.Ty.TheVariants as ty
use Rattle.jn_base.specs.Parts.{expr}
use Rattle.jn_base.specs.Scopes.{Scope}
use Rattle.jn_code.specs.declared.instr.Instr.{Instr}
use Rattle.jn_code.specs.declared.instr.Instr.TheVariants as ins
use Rattle.jn_code.specs.declared.image.Code.{Code}
use Rattle.jn_rules.specs.Questions.{Gives}
use Rattle.jn_rules.specs.Exprs.{Here, Typed, plain, operator_type, expr_types}
use Rattle.jn_rules.specs.Stmts.{In, Before, here, block_typed, stmt_types}
use Rattle.jn_agree.specs.Naming.{Naming}
use Rattle.jn_agree.specs.Rows.{kind_of_type}
use Rattle.jn_agree.specs.Places.{operator, Strict, IsDecide, deciding, decided_by}
use Rattle.jn_places.specs.ExprPlaces.{LinksAt}
use Rattle.jn_places.specs.StmtPlaces.{StmtsAt, numbered_from}
use Rattle.jn_lower.specs.declared.emitter.Emitter.{Emitter}
use Rattle.jn_lower.specs.Emitted.{Emitted, Adds, Patched}
use Rattle.jn_lower.specs.Forms.{Value}

-- `!e` and `-e` are the operand, and NOT or NEG
abbrev pub NotStands : Type 0
NotStands =
    (p : Program) (n : Naming) (scratch : ℕ) (h : Here) (sc : Scope) (pl : Place) (e : Expr) (c0 c1 new : Emitter)
    → Emitted (Value p n scratch h sc true e) c0 c1 → Adds (ins.Not ∷ []) c1 new
    → Emitted (Value p n scratch h sc true (expr pl (node.Not e))) c0 new

abbrev pub NegStands : Type 0
NegStands =
    (p : Program) (n : Naming) (scratch : ℕ) (h : Here) (sc : Scope) (pl : Place) (e : Expr) (c0 c1 new : Emitter)
    → Emitted (Value p n scratch h sc true e) c0 c1 → Adds (ins.Neg ∷ []) c1 new
    → Emitted (Value p n scratch h sc true (expr pl (node.Neg e))) c0 new

-- a view change is the operand, the class of its target, and CONV
abbrev pub ViewStands : Type 0
ViewStands =
    (p : Program) (n : Naming) (scratch : ℕ) (h : Here) (sc : Scope) (pl : Place) (v : ViewTerm) (e : Expr) (x : Atom)
    (cls : List Instr) (c0 c1 new : Emitter) → Emitted (Value p n scratch h sc true e) c0 c1 → ViewIs p (site_here h) v x
    → ClassCode n x cls → Adds (cls ++ ins.Conv ∷ []) c1 new
    → Emitted (Value p n scratch h sc true (expr pl (node.View v e))) c0 new

-- the operators of a chain, behind a left operand that is typed so
abbrev pub Links : Program → Naming → ℕ → Here → Typed → List Link → Code → ℕ → ℕ → Type 0
Links p n scratch h x ls c s t = LinksAt p n scratch c h x ls s t

-- the operators of a chain, behind this left operand
abbrev pub LinksBehind : Program → Naming → ℕ → Here → Scope → Expr → List Link → Code → ℕ → ℕ → Type 0
LinksBehind p n scratch h sc e ls c s t =
    (x : Typed) → Gives p (expr_types h e sc) (Ok x) → LinksAt p n scratch c h x ls s t

abbrev pub ChainStands : Type 0
ChainStands =
    (p : Program) (n : Naming) (scratch : ℕ) (h : Here) (sc : Scope) (pl : Place) (level : Level) (e : Expr)
    (ls : List Link) (c0 c1 new : Emitter) → Emitted (Value p n scratch h sc true e) c0 c1
    → Emitted (LinksBehind p n scratch h sc e ls) c1 new
    → Emitted (Value p n scratch h sc true (expr pl (node.Chain level e ls))) c0 new

-- an operator that evaluates both operands, and those behind it
abbrev pub StrictStands : Type 0
StrictStands =
    (p : Program) (n : Naming) (scratch : ℕ) (h : Here) (x : Typed) (l : Link) (ls : List Link) (kind : ℕ)
    (c0 c1 c2 new : Emitter) → Strict l.op → Emitted (Value p n scratch h x.scope true l.right) c0 c1
    → ((y : Typed) → Gives p (expr_types h l.right x.scope) (Ok y) → kind ≡ kind_of_type y.ty)
    → Adds (operator l.op kind) c1 c2
    → Emitted (λ c s t. (y : Typed) → Gives p (expr_types h l.right x.scope) (Ok y)
    → LinksAt p n scratch c h (plain (operator_type l.op) y.scope) ls s t) c2 new
    → Emitted (Links p n scratch h x (l ∷ ls)) c0 new

-- `&&` and `||`: two jumps, patched once the right operand and the value of the left one are emitted
abbrev pub DecidingStands : Type 0
DecidingStands =
    (p : Program) (n : Naming) (scratch : ℕ) (h : Here) (x : Typed) (l : Link) (ls : List Link) (and : Bool)
    (i j : Instr) (c0 c1 c2 c3 c4 c5 c6 new : Emitter) → IsDecide l.op and → Adds (i ∷ []) c0 c1
    → Emitted (Value p n scratch h x.scope true l.right) c1 c2 → Adds (j ∷ []) c2 c3
    → Adds (decided_by and ∷ []) c3 c4 → Patched (length c0.instrs) (deciding and (length c3.instrs)) c4 c5
    → Patched (length c2.instrs) (ins.Jump (length c4.instrs)) c5 c6
    → Emitted (λ c s t. (y : Typed) → Gives p (expr_types h l.right x.scope) (Ok y)
    → LinksAt p n scratch c h (plain ty.Bool y.scope) ls s t) c6 new
    → Emitted (Links p n scratch h x (l ∷ ls)) c0 new

-- ---- statements

-- statements, where it stands so before them
abbrev pub Stmts : Program → Naming → ℕ → In → Before → List Stmt → Code → ℕ → ℕ → Type 0
Stmts p n scratch b x ss c s t = StmtsAt p n scratch c b x ss s t

-- statements behind a statement
abbrev pub StmtsBehind : Program → Naming → ℕ → In → Before → Stmt → List Stmt → Code → ℕ → ℕ → Type 0
StmtsBehind p n scratch b x one ss c s t =
    (y : Before) → Gives p (stmt_types b one x) (Ok y) → StmtsAt p n scratch c b y ss s t

-- `if`: two jumps, patched once both blocks are emitted
abbrev pub IfStands : Type 0
IfStands =
    (p : Program) (n : Naming) (scratch : ℕ) (b : In) (x : Before) (e : Expr) (one other : List Stmt) (pl : Place)
    (ss : List Stmt) (i j : Instr) (c0 c1 c2 c3 c4 c5 c6 c7 new : Emitter)
    → Emitted (Value p n scratch (here b x) x.scope true e) c0 c1 → Adds (i ∷ []) c1 c2
    → Emitted (Stmts p n scratch b x one) c2 c3 → Adds (j ∷ []) c3 c4
    → Emitted (λ c s t. (y : Before) → Gives p (block_typed (map (stmt_types b) one) x) (Ok y)
    → StmtsAt p n scratch c b (numbered_from x y.next) other s t) c4 c5
    → Patched (length c1.instrs) (ins.Jfalse (length c4.instrs)) c5 c6
    → Patched (length c3.instrs) (ins.Jump (length c5.instrs)) c6 c7
    → Emitted (StmtsBehind p n scratch b x (stmt.If e one other pl) ss) c7 new
    → Emitted (Stmts p n scratch b x (stmt.If e one other pl ∷ ss)) c0 new

-- `while`: a jump back, and one past it that is patched
abbrev pub WhileStands : Type 0
WhileStands =
    (p : Program) (n : Naming) (scratch : ℕ) (b : In) (x : Before) (e : Expr) (body : List Stmt) (pl : Place)
    (ss : List Stmt) (i : Instr) (c0 c1 c2 c3 c4 c5 new : Emitter)
    → Emitted (Value p n scratch (here b x) x.scope true e) c0 c1 → Adds (i ∷ []) c1 c2
    → Emitted (Stmts p n scratch b x body) c2 c3 → Adds (ins.Jump (length c0.instrs) ∷ []) c3 c4
    → Patched (length c1.instrs) (ins.Jfalse (length c4.instrs)) c4 c5
    → Emitted (StmtsBehind p n scratch b x (stmt.While e body pl) ss) c5 new
    → Emitted (Stmts p n scratch b x (stmt.While e body pl ∷ ss)) c0 new

-- Example: `a && b` is `a`, JFALSE, `b`, JUMP, BOOL 0; once BOOL 0 is emitted, JFALSE gets the place of BOOL 0 and JUMP
-- that behind it.
