-- How declarations of locals and assignments stand, where their parts were emitted one behind another.
use Rattle.std.specs.Prelude.{◌≡◌, ◌++◌, ℕ, List, [], ◌∷◌, length, Bool, true, false, Some, Ok, slice_get}
use Rattle.jn_base.specs.declared.tree.Named.{Named}
use Rattle.jn_base.specs.declared.tree.TypeTerm.{TypeTerm}
use Rattle.jn_base.specs.declared.tree.Expr.{Expr}
use Rattle.jn_base.specs.declared.tree.Stmt.{Stmt}
use Rattle.jn_base.specs.declared.tree.Stmt.TheVariants as stmt
use Rattle.jn_base.specs.declared.tree.Program.{Program}
use Rattle.jn_base.specs.declared.types.Ty.{Ty}
use Rattle.jn_base.specs.declared.names.Var.{Var}
use Rattle.jn_base.specs.Resolve.{is_class}
use Rattle.jn_code.specs.declared.instr.Instr.{Instr}
use Rattle.jn_code.specs.declared.instr.Instr.TheVariants as ins
use Rattle.jn_code.specs.declared.image.Code.{Code}
use Rattle.jn_sem.specs.Terms.{TypeIs}
use Rattle.jn_rules.specs.Plans.{FoundField}
use Rattle.jn_rules.specs.Questions.{Gives, IsFoundField}
use Rattle.jn_rules.specs.Exprs.{site_here, Typed, path_of}
use Rattle.jn_rules.specs.Stmts.{In, Before, here, typed}
use Rattle.jn_agree.specs.Naming.{Naming}
use Rattle.jn_agree.specs.Rows.{FieldKind, kind_of_type}
use Rattle.jn_agree.specs.Places.{newest, FieldOf}
use Rattle.jn_places.specs.ExprPlaces.{ExprAt}
use Rattle.jn_lower.specs.declared.emitter.Emitter.{Emitter}
use Rattle.jn_lower.specs.Emitted.{Emitted, Adds}
use Rattle.jn_lower.specs.Forms.{Value}
use Rattle.jn_lower.specs.Composed.{Stmts, StmtsBehind}

-- what binds a local: a final one of class type must not be null
abbrev pub stored : (fixed class : Bool) → ℕ → List Instr
stored true true q = ins.Check ∷ ins.Store q ∷ []
stored true false q = ins.Store q ∷ []
stored false class q = ins.Store q ∷ []

-- the next local is bound, is of class type or not, and has that kind
pub record Binds (fixed class : Bool) (kind : ℕ) (old new : Emitter) : Type 0 where
  pub instrs : new.instrs ≡ old.instrs ++ stored fixed class (length old.locals.kinds)
  pub kinds : new.locals.kinds ≡ old.locals.kinds ++ kind ∷ []
  pub spare : new.locals.spare ≡ old.locals.spare
  pub scratch : new.locals.scratch ≡ old.locals.scratch

-- a value, and what binds the local; its number is that of the next local
abbrev pub LocalStands : Type 0
LocalStands =
    (p : Program) (n : Naming) (scratch : ℕ) (b : In) (x : Before) (final : Bool) (ty : TypeTerm) (name : Named)
    (e : Expr) (type : Ty) (ss : List Stmt) (c0 c1 c2 new : Emitter)
    → Emitted (Value p n scratch (here b x) x.scope true e) c0 c1 → TypeIs p (site_here (here b x)) ty type
    → length c1.locals.kinds ≡ x.next → Binds final (is_class type) (kind_of_type type) c1 c2
    → Emitted (StmtsBehind p n scratch b x (stmt.Local final ty name e) ss) c2 new
    → Emitted (Stmts p n scratch b x (stmt.Local final ty name e ∷ ss)) c0 new

-- a value, and STORE of the variable's number, whose kind is known
abbrev pub AssignStands : Type 0
AssignStands =
    (p : Program) (n : Naming) (scratch : ℕ) (b : In) (x : Before) (name : Named) (e : Expr) (v : Var)
    (ss : List Stmt) (c0 c1 c2 new : Emitter) → Emitted (Value p n scratch (here b x) x.scope true e) c0 c1
    → newest x.vars name.name ≡ Some v → slice_get c1.locals.kinds v.path ≡ Some (kind_of_type v.ty)
    → Adds (ins.Store v.path ∷ []) c1 c2 → Emitted (StmtsBehind p n scratch b x (stmt.Assign name e) ss) c2 new
    → Emitted (Stmts p n scratch b x (stmt.Assign name e ∷ ss)) c0 new

-- the value that a field gets, in the scope in which the receiver has its path
abbrev pub ValueBehind : Program → Naming → ℕ → In → Before → Expr → Expr → Code → ℕ → ℕ → Type 0
ValueBehind p n scratch b x r e c s t =
    (y : Typed) → Gives p (typed b x r x.scope) (Ok y)
    → ExprAt p n scratch c (here b x) (path_of y.ty y).scope true e s t

-- a receiver, a value, and PUT of the selector that has the field's kind
abbrev pub SetStands : Type 0
SetStands =
    (p : Program) (n : Naming) (scratch : ℕ) (b : In) (x : Before) (r : Expr) (f : Named) (e : Expr) (j kind : ℕ)
    (ss : List Stmt) (c0 c1 c2 c3 new : Emitter) → Emitted (Value p n scratch (here b x) x.scope true r) c0 c1
    → Emitted (ValueBehind p n scratch b x r e) c1 c2 → FieldOf n f.name j kind
    → ((y : Typed) (k : FoundField) → Gives p (typed b x r x.scope) (Ok y) → IsFoundField p y.scope y.ty f.name k
    → FieldKind k.ty kind) → Adds (ins.Put j ∷ []) c2 c3
    → Emitted (StmtsBehind p n scratch b x (stmt.Set r f e) ss) c3 new
    → Emitted (Stmts p n scratch b x (stmt.Set r f e ∷ ss)) c0 new

-- Example: `final A a = new A();`, as the first local of a method with one parameter, ends with CHECK and STORE 2, and
-- local 2 has the kind 3.
