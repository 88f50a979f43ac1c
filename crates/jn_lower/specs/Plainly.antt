-- How statements without jumps stand, where their parts were emitted one behind another.
use Rattle.std.specs.Prelude.{◌≡◌, ℕ, List, [], ◌∷◌, true, false, Some, None, Ok}
use Rattle.jn_base.specs.declared.tree.Place.{Place}
use Rattle.jn_base.specs.declared.tree.Expr.{Expr}
use Rattle.jn_base.specs.declared.tree.Stmt.{Stmt}
use Rattle.jn_base.specs.declared.tree.Stmt.TheVariants as stmt
use Rattle.jn_base.specs.declared.tree.Program.{Program}
use Rattle.jn_code.specs.declared.instr.Instr.{Instr}
use Rattle.jn_code.specs.declared.instr.Instr.TheVariants as ins
use Rattle.jn_rules.specs.Questions.{Gives}
use Rattle.jn_rules.specs.Exprs.{Typed}
use Rattle.jn_rules.specs.Stmts.{In, Before, here, typed}
use Rattle.jn_agree.specs.Naming.{Naming}
use Rattle.jn_places.specs.StmtPlaces.{printing}
use Rattle.jn_lower.specs.declared.emitter.Emitter.{Emitter}
use Rattle.jn_lower.specs.Emitted.{Emitted, Adds}
use Rattle.jn_lower.specs.Forms.{Value}
use Rattle.jn_lower.specs.Composed.{Stmts, StmtsBehind}

-- no statement
abbrev pub NoneStands : Type 0
NoneStands =
    (p : Program) (n : Naming) (scratch : ℕ) (b : In) (x : Before) (c0 : Emitter)
    → Emitted (Stmts p n scratch b x []) c0 c0

-- a block, and what is behind it
abbrev pub BlockStands : Type 0
BlockStands =
    (p : Program) (n : Naming) (scratch : ℕ) (b : In) (x : Before) (body ss : List Stmt) (c0 c1 new : Emitter)
    → Emitted (Stmts p n scratch b x body) c0 c1 → Emitted (StmtsBehind p n scratch b x (stmt.Block body) ss) c1 new
    → Emitted (Stmts p n scratch b x (stmt.Block body ∷ ss)) c0 new

-- an expression whose value is dropped
abbrev pub DoStands : Type 0
DoStands =
    (p : Program) (n : Naming) (scratch : ℕ) (b : In) (x : Before) (e : Expr) (ss : List Stmt)
    (c0 c1 new : Emitter) → Emitted (Value p n scratch (here b x) x.scope false e) c0 c1
    → Emitted (StmtsBehind p n scratch b x (stmt.Do e) ss) c1 new
    → Emitted (Stmts p n scratch b x (stmt.Do e ∷ ss)) c0 new

-- a value, and RETV
abbrev pub ReturnStands : Type 0
ReturnStands =
    (p : Program) (n : Naming) (scratch : ℕ) (b : In) (x : Before) (e : Expr) (pl : Place) (ss : List Stmt)
    (c0 c1 c2 new : Emitter) → Emitted (Value p n scratch (here b x) x.scope true e) c0 c1
    → Adds (ins.Retv ∷ []) c1 c2 → Emitted (StmtsBehind p n scratch b x (stmt.Return (Some e) pl) ss) c2 new
    → Emitted (Stmts p n scratch b x (stmt.Return (Some e) pl ∷ ss)) c0 new

-- RET
abbrev pub EndStands : Type 0
EndStands =
    (p : Program) (n : Naming) (scratch : ℕ) (b : In) (x : Before) (pl : Place) (ss : List Stmt)
    (c0 c1 new : Emitter) → Adds (ins.Ret ∷ []) c0 c1
    → Emitted (StmtsBehind p n scratch b x (stmt.Return None pl) ss) c1 new
    → Emitted (Stmts p n scratch b x (stmt.Return None pl ∷ ss)) c0 new

-- a value, and what prints one of its type
abbrev pub PrintStands : Type 0
PrintStands =
    (p : Program) (n : Naming) (scratch : ℕ) (b : In) (x : Before) (e : Expr) (pl : Place) (i : Instr)
    (ss : List Stmt) (c0 c1 c2 new : Emitter) → Emitted (Value p n scratch (here b x) x.scope true e) c0 c1
    → ((y : Typed) → Gives p (typed b x e x.scope) (Ok y) → i ≡ printing y.ty) → Adds (i ∷ []) c1 c2
    → Emitted (StmtsBehind p n scratch b x (stmt.Print e pl) ss) c2 new
    → Emitted (Stmts p n scratch b x (stmt.Print e pl ∷ ss)) c0 new

-- PRINTT of the text's number
abbrev pub TextStands : Type 0
TextStands =
    (p : Program) (n : Naming) (scratch : ℕ) (b : In) (x : Before) (k : ℕ) (pl : Place) (ss : List Stmt)
    (c0 c1 new : Emitter) → Adds (ins.Printt k ∷ []) c0 c1
    → Emitted (StmtsBehind p n scratch b x (stmt.PrintText k pl) ss) c1 new
    → Emitted (Stmts p n scratch b x (stmt.PrintText k pl ∷ ss)) c0 new

-- Example: `return 1;` is INT 1 and RETV.
