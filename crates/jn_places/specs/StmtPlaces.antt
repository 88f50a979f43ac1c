-- Which instructions are those of statements, and of a whole body, with the typing beside.
use Rattle.std.specs.Prelude.{◌≡◌, ℕ, suc, ◌+◌, List, [], ◌∷◌, length, map, Bool, true, false, Some, None, Ok}
use Rattle.jn_base.specs.declared.tree.Named.{Named}
use Rattle.jn_base.specs.declared.tree.Place.{Place}
use Rattle.jn_base.specs.declared.tree.TypeTerm.{TypeTerm}
use Rattle.jn_base.specs.declared.tree.Expr.{Expr}
use Rattle.jn_base.specs.declared.tree.Stmt.{Stmt}
use Rattle.jn_base.specs.declared.tree.Stmt.TheVariants as stmt
use Rattle.jn_base.specs.declared.tree.Program.{Program}
use Rattle.jn_base.specs.declared.types.Ty.{Ty}
use Rattle.jn_base.specs.declared.types.Ty.TheVariants as ty
use Rattle.jn_base.specs.declared.names.Var.{Var}
use Rattle.jn_code.specs.declared.instr.Instr.{Instr}
use Rattle.jn_code.specs.declared.instr.Instr.TheVariants as ins
use Rattle.jn_code.specs.declared.image.Shape.{Shape}
use Rattle.jn_code.specs.declared.image.Code.{Code}
use Rattle.jn_sem.specs.Terms.{TypeIs}
use Rattle.jn_sem.specs.Does.{Body}
use Rattle.jn_sem.specs.Acts.{path_behind}
use Rattle.jn_rules.specs.Plans.{FoundField}
use Rattle.jn_rules.specs.Questions.{Gives, IsFoundField}
use Rattle.jn_rules.specs.Headers.{Header}
use Rattle.jn_rules.specs.Exprs.{site_here, Typed, path_of}
use Rattle.jn_rules.specs.Stmts.{In, Before, here, typed, block_typed, stmt_types, body_in, at_start}
use Rattle.jn_agree.specs.Naming.{Naming}
use Rattle.jn_agree.specs.Rows.{FieldKind, IsShape, kind_of_type}
use Rattle.jn_agree.specs.Places.{At, Run, newest, binding, tests, last_return, FieldOf, HasKind}
use Rattle.jn_places.specs.ExprPlaces.{ExprAt}

-- a number is printed by PRINTI, and a truth value by PRINTB
abbrev pub printing : Ty → Instr
printing ty.Int = ins.Printi
printing ty.Bool = ins.Printb
printing ty.Null = ins.Printb
printing ty.Void = ins.Printb
printing (ty.Class xs m) = ins.Printb

-- with that number for the next local
abbrev pub numbered_from : Before → ℕ → Before
numbered_from x next = record { vars = x.vars; scope = x.scope; next = next }

module _ (p : Program) (n : Naming) (scratch : ℕ) (code : Code) (b : In) where
  abbrev c : List Instr
  c = code.instrs

  abbrev pub ValueAt : Before → (keeps : Bool) → Expr → ℕ → ℕ → Type 0
  ValueAt x keeps e s t = ExprAt p n scratch code (here b x) x.scope keeps e s t

  -- what stands behind a statement, by what the rules give to it
  pub data StmtsAt : Before → List Stmt → ℕ → ℕ → Type 0 where
    no_stmts : (x : Before) (s t : ℕ) → t ≡ s → StmtsAt x [] s t
    block_at : (x : Before) (body ss : List Stmt) (s m t : ℕ) → StmtsAt x body s m
        → ((y : Before) → Gives p (stmt_types b (stmt.Block body) x) (Ok y) → StmtsAt y ss m t)
        → StmtsAt x (stmt.Block body ∷ ss) s t
    -- the local has its number, and the kind of its type
    local_at : (x : Before) (final : Bool) (ty : TypeTerm) (name : Named) (e : Expr) (type : Ty) (ss : List Stmt)
        (s m o t : ℕ) → ValueAt x true e s m → TypeIs p (site_here (here b x)) ty type
        → HasKind code x.next (kind_of_type type) → Run c (binding p n scratch code final type x.next) m o
        → ((y : Before) → Gives p (stmt_types b (stmt.Local final ty name e) x) (Ok y) → StmtsAt y ss o t)
        → StmtsAt x (stmt.Local final ty name e ∷ ss) s t
    assign_at : (x : Before) (name : Named) (e : Expr) (v : Var) (ss : List Stmt) (s m o t : ℕ)
        → ValueAt x true e s m → newest x.vars name.name ≡ Some v → HasKind code v.path (kind_of_type v.ty)
        → Run c (ins.Store v.path ∷ []) m o
        → ((y : Before) → Gives p (stmt_types b (stmt.Assign name e) x) (Ok y) → StmtsAt y ss o t)
        → StmtsAt x (stmt.Assign name e ∷ ss) s t
    -- the selector has the kind of the field that is found by the receiver's type; the value is typed in the scope in
    -- which the receiver has its path
    set_at : (x : Before) (r : Expr) (f : Named) (e : Expr) (j kind : ℕ) (ss : List Stmt) (s l m o t : ℕ)
        → ValueAt x true r s l
        → ((y : Typed) → Gives p (typed b x r x.scope) (Ok y) → ExprAt p n scratch code (here b x)
        (path_of y.ty y).scope true e l m)
        → FieldOf n f.name j kind
        → ((y : Typed) (k : FoundField) → Gives p (typed b x r x.scope) (Ok y) → IsFoundField p y.scope y.ty f.name k
        → FieldKind k.ty kind)
        → Run c (ins.Put j ∷ []) m o
        → ((y : Before) → Gives p (stmt_types b (stmt.Set r f e) x) (Ok y) → StmtsAt y ss o t)
        → StmtsAt x (stmt.Set r f e ∷ ss) s t
    do_at : (x : Before) (e : Expr) (ss : List Stmt) (s m t : ℕ) → ValueAt x false e s m
        → ((y : Before) → Gives p (stmt_types b (stmt.Do e) x) (Ok y) → StmtsAt y ss m t)
        → StmtsAt x (stmt.Do e ∷ ss) s t
    if_at : (x : Before) (e : Expr) (one other : List Stmt) (pl : Place) (ss : List Stmt) (s m o u t : ℕ)
        → ValueAt x true e s m → At c m (ins.Jfalse (o + 1)) → StmtsAt x one (m + 1) o → At c o (ins.Jump u)
        → ((y : Before) → Gives p (block_typed (map (stmt_types b) one) x) (Ok y)
        → StmtsAt (numbered_from x y.next) other (o + 1) u)
        → ((y : Before) → Gives p (stmt_types b (stmt.If e one other pl) x) (Ok y) → StmtsAt y ss u t)
        → StmtsAt x (stmt.If e one other pl ∷ ss) s t
    while_at : (x : Before) (e : Expr) (body : List Stmt) (pl : Place) (ss : List Stmt) (s m o t : ℕ)
        → ValueAt x true e s m → At c m (ins.Jfalse (o + 1)) → StmtsAt x body (m + 1) o → At c o (ins.Jump s)
        → ((y : Before) → Gives p (stmt_types b (stmt.While e body pl) x) (Ok y) → StmtsAt y ss (o + 1) t)
        → StmtsAt x (stmt.While e body pl ∷ ss) s t
    return_at : (x : Before) (e : Expr) (pl : Place) (ss : List Stmt) (s m o t : ℕ) → ValueAt x true e s m
        → Run c (ins.Retv ∷ []) m o
        → ((y : Before) → Gives p (stmt_types b (stmt.Return (Some e) pl) x) (Ok y) → StmtsAt y ss o t)
        → StmtsAt x (stmt.Return (Some e) pl ∷ ss) s t
    end_at : (x : Before) (pl : Place) (ss : List Stmt) (s o t : ℕ) → Run c (ins.Ret ∷ []) s o
        → ((y : Before) → Gives p (stmt_types b (stmt.Return None pl) x) (Ok y) → StmtsAt y ss o t)
        → StmtsAt x (stmt.Return None pl ∷ ss) s t
    -- by the type of what is printed
    print_at : (x : Before) (e : Expr) (pl : Place) (i : Instr) (ss : List Stmt) (s m o t : ℕ) → ValueAt x true e s m
        → ((y : Typed) → Gives p (typed b x e x.scope) (Ok y) → i ≡ printing y.ty) → Run c (i ∷ []) m o
        → ((y : Before) → Gives p (stmt_types b (stmt.Print e pl) x) (Ok y) → StmtsAt y ss o t)
        → StmtsAt x (stmt.Print e pl ∷ ss) s t
    text_at : (x : Before) (k : ℕ) (pl : Place) (ss : List Stmt) (s o t : ℕ) → Run c (ins.Printt k ∷ []) s o
        → ((y : Before) → Gives p (stmt_types b (stmt.PrintText k pl) x) (Ok y) → StmtsAt y ss o t)
        → StmtsAt x (stmt.PrintText k pl ∷ ss) s t

-- ---- a whole body: the tests of its final parameters, its statements, and a return

-- The code is that of the body b with the header k: the kinds of the receiver, the parameters and the result, the
-- instructions from the first to the last of its list, and the scratch locals above the numbers of all its variables.
pub record TypedBodyAt (p : Program) (n : Naming) (b : Body) (k : Header) (code : Code) : Type 0 where
  pub shape : Shape
  pub is_shape : IsShape k.vars k.result shape
  pub params : code.params ≡ 3 ∷ shape.params
  pub result : code.result ≡ shape.result
  pub first : ℕ
  pub last : ℕ
  pub tested : Run code.instrs (tests k.vars) 0 first
  pub stmts : StmtsAt p n (path_behind b.method.body (suc (length k.vars))) code (body_in b k) (at_start b k)
      b.method.body first last
  pub over : Run code.instrs (last_return code.result) last (length code.instrs)

-- Example: the body of `int m(final A a) { return 1; }` is LOAD 1, CHECK, POP, INT 1, RETV, and INT 0, RETV behind
-- its end.
