-- Which instructions are those of a form. They stand from one place of a code up to another.
use Rattle.std.specs.Prelude.{◌≡◌, ℕ, zero, suc, ◌+◌, ◌≤◌, ℤ, pos, List, [], ◌∷◌, ◌++◌, length, reverse, Bool, true, false, Option, Some, None, slice_get, nat_eq, codes}
use Rattle.std.specs.List.{find}
use Rattle.jn_base.specs.declared.tree.Name.{Name}
use Rattle.jn_base.specs.declared.tree.Named.{Named}
use Rattle.jn_base.specs.declared.tree.Place.{Place}
use Rattle.jn_base.specs.declared.tree.Term.{Term}
use Rattle.jn_base.specs.declared.tree.ViewTerm.{ViewTerm}
use Rattle.jn_base.specs.declared.tree.TypeTerm.{TypeTerm}
use Rattle.jn_base.specs.declared.tree.Level.{Level}
use Rattle.jn_base.specs.declared.tree.Op.{Op}
use Rattle.jn_base.specs.declared.tree.Op.TheVariants as op
use Rattle.jn_base.specs.declared.tree.Node.TheVariants as node
use Rattle.jn_base.specs.declared.tree.Expr.{Expr}
use Rattle.jn_base.specs.declared.tree.Link.{Link}
use Rattle.jn_base.specs.declared.tree.Suffix.{Suffix, out-Suffix}
use Rattle.jn_base.specs.declared.tree.Stmt.{Stmt}
use Rattle.jn_base.specs.declared.tree.Stmt.TheVariants as stmt
use Rattle.jn_base.specs.declared.tree.Program.{Program}
use Rattle.jn_base.specs.declared.types.Anchor.TheVariants.{Root, Up}
use Rattle.jn_base.specs.declared.types.Ty.{Ty}
use Rattle.jn_base.specs.declared.names.Var.{Var}
use Rattle.jn_base.specs.declared.names.Role.TheVariants as role
use Rattle.jn_base.specs.Parts.{expr}
use Rattle.jn_base.specs.Paths.{Path}
use Rattle.jn_base.specs.Atoms.{Atom}
use Rattle.jn_base.specs.Resolve.{is_class}
use Rattle.jn_code.specs.declared.instr.Instr.{Instr}
use Rattle.jn_code.specs.declared.instr.Instr.TheVariants as ins
use Rattle.jn_code.specs.declared.image.Shape.{Shape}
use Rattle.jn_code.specs.declared.image.Code.{Code}
use Rattle.jn_sem.specs.Terms.{Site, TermIs, SuperBound, ViewIs, TypeIs}
use Rattle.jn_sem.specs.Does.{Body, AreParams, IsSpelled, var}
use Rattle.jn_sem.specs.Acts.{path_behind}
use Rattle.jn_agree.specs.Naming.{Naming}
use Rattle.jn_agree.specs.Rows.{HasShape, kind_of_type}
use Rattle.jn_agree.specs.Follows.{is_tested}

abbrev pub At : List Instr → ℕ → Instr → Type 0
At c s x = slice_get c s ≡ Some x

-- ---- small things

abbrev pub bit : Bool → ℕ
bit true = 1
bit false = 0

-- the newest variable of the name
abbrev pub newest : List Var → Name → Option Var
newest vars x = find (λ (y : Var). nat_eq y.name.0 x.0) (reverse vars)

abbrev pub with_var : Site → Var → Site
with_var at x = record { class = at.class; method = at.method; vars = at.vars ++ x ∷ [] }

-- the instructions from s on are these
abbrev pub Run : List Instr → List Instr → ℕ → ℕ → Type 0
Run c [] s t = t ≡ s
Run c (x ∷ xs) s t = At c s x × Run c xs (s + 1) t

abbrev pub then : List Instr → List Instr → List Instr
then xs ys = xs ++ ys

-- a value of the kind is dropped where it isn't kept; a body without a result has none to drop
abbrev pub dropping : (keeps : Bool) → (result : ℕ) → List Instr
dropping true k = []
dropping false zero = []
dropping false (suc k) = ins.Pop ∷ []

-- ---- classes

abbrev pub downs : List Name → List Instr
downs [] = []
downs (C ∷ P) = downs P ++ ins.Down C.0 ∷ []

abbrev pub up_by : ℕ → List Instr
up_by zero = []
up_by (suc k) = ins.Up (suc k) ∷ []

-- The class of an atom: one of the program's own, or found from the view of a path, which is a local. At most 10: a
-- path has 8 names.
pub data ClassCode (n : Naming) (x : Atom) (xs : List Instr) : Type 0 where
  fixed : (k : ℕ) → x.anchor ≡ Root → slice_get n.classes k ≡ Some (x.names ++ x.exact) → xs ≡ ins.Cls k ∷ []
      → ClassCode n x xs
  seen : (q k : ℕ) → x.anchor ≡ Up q k → xs ≡ ins.Load q ∷ ins.Viewof ∷ (up_by k ++ downs (x.names ++ x.exact))
      → ClassCode n x xs

-- ---- selectors (which of a name is meant is what the typing of the form says: its shape, its kind)

pub record MethodOf (n : Naming) (m : Name) (s : ℕ) (shape : Shape) : Type 0 where
  pub at : slice_get n.methods s ≡ Some (record { name = m; shape = shape })

pub record FieldOf (n : Naming) (f : Name) (s kind : ℕ) : Type 0 where
  pub at : slice_get n.fields s ≡ Some (record { name = f; kind = kind })

-- The constructor of the class that is made, where some class has one of that name and shape. (It has no result.)
pub data CtorCode (n : Naming) (x : Atom) (args : ℕ) (xs : List Instr) : Type 0 where
  ctor : (C : Name) (P : Path) (s : ℕ) (shape : Shape) → x.names ++ x.exact ≡ C ∷ P → MethodOf n C s shape
      → length shape.params ≡ args
      → shape.result ≡ 0 → xs ≡ ins.Ctor s ∷ [] → CtorCode n x args xs
  -- no class has one of that name without parameters
  bare : args ≡ 0
      → ((C : Name) (P : Path) (s : ℕ) (shape : Shape) → x.names ++ x.exact ≡ C ∷ P → MethodOf n C s shape →
      length shape.params ≡ 0 → shape.result ≡ 0 → ⊥)
      → xs ≡ [] → CtorCode n x args xs

-- ---- operators

-- `==` of numbers, truth values, references by the kind of its operands
abbrev pub equal : ℕ → Instr
equal zero = ins.Eqr
equal (suc zero) = ins.Eqi
equal (suc (suc zero)) = ins.Eqb
equal (suc (suc (suc k))) = ins.Eqr

abbrev pub operator : Op → (kind : ℕ) → List Instr
operator op.Add k = ins.Add ∷ []
operator op.Sub k = ins.Sub ∷ []
operator op.Mul k = ins.Mul ∷ []
operator op.Div k = ins.Div ∷ []
operator op.Rem k = ins.Rem ∷ []
operator op.Lt k = ins.Lt ∷ []
operator op.Le k = ins.Le ∷ []
operator op.Gt k = ins.Gt ∷ []
operator op.Ge k = ins.Ge ∷ []
operator op.Eq k = equal k ∷ []
operator op.Ne k = equal k ∷ ins.Not ∷ []
operator op.And k = []
operator op.Or k = []

-- `&&` and `||`: past the right operand where the left one decides
abbrev pub deciding : Bool → ℕ → Instr
deciding true t = ins.Jfalse t
deciding false t = ins.Jtrue t

abbrev pub decided_by : Bool → Instr
decided_by true = ins.Bool 0
decided_by false = ins.Bool 1

-- (the form that has the operators which evaluate both operands)
pub data Strict : Op → Type 0 where
  add : Strict op.Add
  sub : Strict op.Sub
  mul : Strict op.Mul
  div : Strict op.Div
  rem : Strict op.Rem
  lt : Strict op.Lt
  le : Strict op.Le
  gt : Strict op.Gt
  ge : Strict op.Ge
  eq : Strict op.Eq
  ne : Strict op.Ne

-- ---- super: the receiver comes below the first argument only once that is had, by way of a local that nothing else
-- uses, one for each kind. (Before it, `this` would be loaded with no charge, as often as `super` stands in first
-- arguments.)

abbrev pub tuck : (local : ℕ) → List Instr
tuck q = ins.Store q ∷ ins.Load 0 ∷ ins.Load q ∷ []

-- an operator that may decide without its right operand
pub data IsDecide : Op → Bool → Type 0 where
  both : IsDecide op.And true
  either : IsDecide op.Or false

-- the local q of the code has this kind
abbrev pub HasKind : Code → ℕ → ℕ → Type 0
HasKind c q kind = slice_get (c.params ++ c.locals) q ≡ Some kind

-- ---- the ends of a body

-- a final parameter of class type must not be null
abbrev pub testing : Bool → ℕ → List Instr
testing true q = ins.Load q ∷ ins.Check ∷ ins.Pop ∷ []
testing false q = []

abbrev pub tests : List Var → List Instr
tests [] = []
tests (x ∷ xs) = testing (is_tested x) x.path ++ tests xs

-- (in a method with a result the last return is never reached, and gives what is asked for)
abbrev pub last_return : (kind : ℕ) → List Instr
last_return zero = ins.Ret ∷ []
last_return (suc zero) = ins.Int (pos 0) ∷ ins.Retv ∷ []
last_return (suc (suc zero)) = ins.Bool 0 ∷ ins.Retv ∷ []
last_return (suc (suc (suc k))) = ins.Null ∷ ins.Retv ∷ []

-- `scratch` is the first local above those of the method's own variables.
module _ (p : Program) (n : Naming) (scratch : ℕ) (code : Code) where
  abbrev c : List Instr
  c = code.instrs

  mutual
    pub data ExprAt : Site → (keeps : Bool) → Expr → ℕ → ℕ → Type 0 where
      at_number : (at : Site) (keeps : Bool) (pl : Place) (z : ℤ) (s t : ℕ) → Run c (ins.Int z ∷ []) s t
          → ExprAt at keeps (expr pl (node.Int z)) s t
      at_truth : (at : Site) (keeps : Bool) (pl : Place) (b : Bool) (s t : ℕ)
          → Run c (ins.Bool (bit b) ∷ []) s t → ExprAt at keeps (expr pl (node.Bool b)) s t
      at_null : (at : Site) (keeps : Bool) (pl : Place) (s t : ℕ) → Run c (ins.Null ∷ []) s t
          → ExprAt at keeps (expr pl node.Null) s t
      at_this : (at : Site) (keeps : Bool) (pl : Place) (s t : ℕ) → Run c (ins.Load 0 ∷ []) s t
          → ExprAt at keeps (expr pl node.This) s t
      at_var : (at : Site) (keeps : Bool) (pl : Place) (x : Name) (y : Var) (s t : ℕ)
          → newest at.vars x ≡ Some y → Run c (ins.Load y.path ∷ []) s t → ExprAt at keeps (expr pl (node.Var x)) s t
      at_new : (at : Site) (keeps : Bool) (pl : Place) (t : Term) (es : List Expr) (x : Atom) (cls ctor : List Instr)
          (s m e : ℕ)
          → ArgsAt at es s m → TermIs p role.New at t x → ClassCode n x cls → CtorCode n x (length es) ctor
          → Run c (cls ++ ins.New ∷ (ctor ++ dropping keeps 3)) m e → ExprAt at keeps (expr pl (node.New t es)) s e
      -- the first argument goes through a local of its kind, so that `this` comes below it
      at_super : (here : Site) (keeps : Bool) (pl : Place) (t : Term) (f : Named) (e : Expr) (es : List Expr)
          (B : Path) (q kind k j : ℕ) (kinds : List ℕ) (shape : Shape) (s l o m u : ℕ)
          → ExprAt here true e s l → scratch ≤ q → HasKind code q kind → Run c (tuck q) l o → ArgsAt here es o m →
          SuperBound p here t B → slice_get n.classes k ≡ Some B
          → MethodOf n f.name j shape → shape.params ≡ kind ∷ kinds → length kinds ≡ length es
          → Run c (ins.Cls k ∷ ins.Callat j ∷ dropping keeps shape.result) m u → ExprAt here keeps
          (expr pl (node.Super t f (e ∷ es))) s u
      at_bare_super : (here : Site) (keeps : Bool) (pl : Place) (t : Term) (f : Named) (B : Path) (k j : ℕ)
          (shape : Shape) (s u : ℕ)
          → SuperBound p here t B → slice_get n.classes k ≡ Some B → MethodOf n f.name j shape → length shape.params ≡ 0
          → Run c (ins.Load 0 ∷ ins.Cls k ∷ ins.Callat j ∷ dropping keeps shape.result) s u → ExprAt here keeps
          (expr pl (node.Super t f [])) s u
      at_post : (at : Site) (keeps : Bool) (pl : Place) (e : Expr) (xs : List Suffix) (s m t : ℕ)
          → ExprAt at true e s m → PartsAt at keeps xs m t → ExprAt at keeps (expr pl (node.Post e xs)) s t
      at_not : (at : Site) (keeps : Bool) (pl : Place) (e : Expr) (s m t : ℕ) → ExprAt at true e s m
          → Run c (ins.Not ∷ []) m t → ExprAt at keeps (expr pl (node.Not e)) s t
      at_neg : (at : Site) (keeps : Bool) (pl : Place) (e : Expr) (s m t : ℕ) → ExprAt at true e s m
          → Run c (ins.Neg ∷ []) m t → ExprAt at keeps (expr pl (node.Neg e)) s t
      -- a view change is the class of its target and CONV
      at_view : (at : Site) (keeps : Bool) (pl : Place) (v : ViewTerm) (e : Expr) (x : Atom) (cls : List Instr)
          (s m t : ℕ) → ExprAt at true e s m → ViewIs p at v x → ClassCode n x cls
          → Run c (cls ++ ins.Conv ∷ []) m t → ExprAt at keeps (expr pl (node.View v e)) s t
      at_chain : (at : Site) (keeps : Bool) (pl : Place) (level : Level) (e : Expr) (ls : List Link) (s m t : ℕ)
          → ExprAt at true e s m → LinksAt at ls m t → ExprAt at keeps (expr pl (node.Chain level e ls)) s t

    pub data ArgsAt : Site → List Expr → ℕ → ℕ → Type 0 where
      no_args : (at : Site) (s t : ℕ) → t ≡ s → ArgsAt at [] s t
      one_arg : (at : Site) (e : Expr) (es : List Expr) (s m t : ℕ) → ExprAt at true e s m → ArgsAt at es m t
          → ArgsAt at (e ∷ es) s t

    pub data PartsAt : Site → (keeps : Bool) → List Suffix → ℕ → ℕ → Type 0 where
      no_parts : (at : Site) (keeps : Bool) (s t : ℕ) → t ≡ s → PartsAt at keeps [] s t
      last_part : (at : Site) (keeps : Bool) (x : Suffix) (s t : ℕ)
          → PartAt at keeps (out-Suffix x).name.name (out-Suffix x).args s t → PartsAt at keeps (x ∷ []) s t
      one_part : (at : Site) (keeps : Bool) (x y : Suffix) (ys : List Suffix) (s m t : ℕ)
          → PartAt at true (out-Suffix x).name.name (out-Suffix x).args s m → PartsAt at keeps (y ∷ ys) m t →
          PartsAt at keeps (x ∷ (y ∷ ys)) s t

    pub data PartAt : Site → (keeps : Bool) → Name → Option (List Expr) → ℕ → ℕ → Type 0 where
      -- a masked field costs no instruction; kind 4 has the view that the receiver's family asks for
      at_field : (at : Site) (keeps : Bool) (f : Name) (j kind : ℕ) (s t : ℕ) → FieldOf n f j kind
          → Run c (ins.Get j ∷ []) s t → PartAt at keeps f None s t
      at_call : (at : Site) (keeps : Bool) (f : Name) (es : List Expr) (j : ℕ) (shape : Shape) (s m t : ℕ)
          → ArgsAt at es s m → MethodOf n f j shape → length shape.params ≡ length es
          → Run c (ins.Call j ∷ dropping keeps shape.result) m t → PartAt at keeps f (Some es) s t

    pub data LinksAt : Site → List Link → ℕ → ℕ → Type 0 where
      no_links : (at : Site) (s t : ℕ) → t ≡ s → LinksAt at [] s t
      one_link : (at : Site) (l : Link) (ls : List Link) (kind : ℕ) (s m o t : ℕ) → Strict l.op
          → ExprAt at true l.right s m → Run c (operator l.op kind) m o → LinksAt at ls o t → LinksAt at (l ∷ ls) s t
      one_deciding : (at : Site) (l : Link) (ls : List Link) (and : Bool) (o : Op) (s m u t : ℕ) → l.op ≡ o
          → IsDecide o and → At c s (deciding and (m + 1)) → ExprAt at true l.right (s + 1) m → At c m (ins.Jump u) →
          Run c (decided_by and ∷ []) (m + 1) u → LinksAt at ls u t → LinksAt at (l ∷ ls) s t

  -- ---- statements: `path` is the number of the next local, and the local itself

  -- a final local of class type must not be null
  abbrev pub binding : Bool → Ty → ℕ → List Instr
  binding true t q = on_class (is_class t) q
    where
      on_class : Bool → ℕ → List Instr
      on_class true q = ins.Check ∷ ins.Store q ∷ []
      on_class false q = ins.Store q ∷ []
  binding false t q = ins.Store q ∷ []

  -- by the kind of what is printed
  abbrev printing : ℕ → Instr
  printing zero = ins.Printb
  printing (suc zero) = ins.Printi
  printing (suc (suc k)) = ins.Printb

  pub data StmtsAt : Site → (path : ℕ) → List Stmt → ℕ → ℕ → Type 0 where
    no_stmts : (at : Site) (path s t : ℕ) → t ≡ s → StmtsAt at path [] s t
    block_at : (at : Site) (path : ℕ) (body ss : List Stmt) (s m t : ℕ) → StmtsAt at path body s m
        → StmtsAt at (path_behind body path) ss m t → StmtsAt at path (stmt.Block body ∷ ss) s t
    local_at : (at : Site) (path : ℕ) (final : Bool) (ty : TypeTerm) (x : Named) (e : Expr) (type : Ty)
        (ss : List Stmt) (s m o t : ℕ) → ExprAt at true e s m → TypeIs p at ty type
        → HasKind code path (kind_of_type type) → Run c (binding final type path) m o → StmtsAt
        (with_var at (var x.name path final type)) (suc path) ss o t → StmtsAt at path
        (stmt.Local final ty x e ∷ ss) s t
    assign_at : (at : Site) (path : ℕ) (x : Named) (e : Expr) (y : Var) (ss : List Stmt) (s m o t : ℕ)
        → ExprAt at true e s m → newest at.vars x.name ≡ Some y
        → Run c (ins.Store y.path ∷ []) m o → StmtsAt at path ss o t → StmtsAt at path (stmt.Assign x e ∷ ss) s t
    set_at : (at : Site) (path : ℕ) (r : Expr) (f : Named) (e : Expr) (j kind : ℕ) (ss : List Stmt) (s l m o t : ℕ) →
        ExprAt at true r s l → ExprAt at true e l m → FieldOf n f.name j kind
        → Run c (ins.Put j ∷ []) m o → StmtsAt at path ss o t → StmtsAt at path (stmt.Set r f e ∷ ss) s t
    do_at : (at : Site) (path : ℕ) (e : Expr) (ss : List Stmt) (s m t : ℕ) → ExprAt at false e s m
        → StmtsAt at path ss m t → StmtsAt at path (stmt.Do e ∷ ss) s t
    if_at : (at : Site) (path : ℕ) (e : Expr) (one other : List Stmt) (pl : Place) (ss : List Stmt) (s m o u t : ℕ) →
        ExprAt at true e s m → At c m (ins.Jfalse (o + 1))
        → StmtsAt at path one (m + 1) o → At c o (ins.Jump u) → StmtsAt at (path_behind one path) other (o + 1) u →
        StmtsAt at (path_behind other (path_behind one path)) ss u t
        → StmtsAt at path (stmt.If e one other pl ∷ ss) s t
    while_at : (at : Site) (path : ℕ) (e : Expr) (body : List Stmt) (pl : Place) (ss : List Stmt) (s m o t : ℕ)
        → ExprAt at true e s m → At c m (ins.Jfalse (o + 1))
        → StmtsAt at path body (m + 1) o → At c o (ins.Jump s) → StmtsAt at (path_behind body path) ss (o + 1) t →
        StmtsAt at path (stmt.While e body pl ∷ ss) s t
    return_at : (at : Site) (path : ℕ) (e : Expr) (pl : Place) (ss : List Stmt) (s m o t : ℕ)
        → ExprAt at true e s m → Run c (ins.Retv ∷ []) m o → StmtsAt at path ss o t → StmtsAt at path
        (stmt.Return (Some e) pl ∷ ss) s t
    end_at : (at : Site) (path : ℕ) (pl : Place) (ss : List Stmt) (s o t : ℕ) → Run c (ins.Ret ∷ []) s o
        → StmtsAt at path ss o t → StmtsAt at path (stmt.Return None pl ∷ ss) s t
    print_at : (at : Site) (path : ℕ) (e : Expr) (pl : Place) (kind : ℕ) (ss : List Stmt) (s m o t : ℕ)
        → ExprAt at true e s m → Run c (printing kind ∷ []) m o → StmtsAt at path ss o t → StmtsAt at path
        (stmt.Print e pl ∷ ss) s t
    text_at : (at : Site) (path : ℕ) (x : ℕ) (pl : Place) (ss : List Stmt) (s o t : ℕ)
        → Run c (ins.Printt x ∷ []) s o → StmtsAt at path ss o t → StmtsAt at path (stmt.PrintText x pl ∷ ss) s t

  -- ---- a whole body: the tests of its final parameters, its statements, and a return

  pub record BodyFrom (at : Site) (body : List Stmt) : Type 0 where
    pub first : ℕ
    pub last : ℕ
    pub tested : Run c (tests at.vars) 0 first
    pub stmts : StmtsAt at (suc (length at.vars)) body first last
    pub over : Run c (last_return code.result) last (length c)

-- The code is that of the body: its shape with the receiver, the instructions from the first to the last of its list,
-- and the scratch locals above the numbers of all its variables.
pub record BodyAt (p : Program) (n : Naming) (b : Body) (code : Code) : Type 0 where
  pub shape : Shape
  pub has_shape : HasShape p b shape
  pub params : code.params ≡ 3 ∷ shape.params
  pub result : code.result ≡ shape.result
  pub vars : List Var
  pub are_params : AreParams p b vars
  pub from : BodyFrom p n (path_behind b.method.body (suc (length vars))) code
      (record { class = b.class; method = b.method.name.name; vars = vars }) b.method.body

-- The code with which a run begins: an object of Main is made, and `main` is called on it. (It has one local, which
-- nothing reads: the frame that starts the program has `this`, which is null.)
pub record StartAt (p : Program) (n : Naming) (code : Code) : Type 0 where
  pub params : code.params ≡ []
  pub locals : code.locals ≡ 3 ∷ []
  pub result : code.result ≡ 0
  pub class : Name
  pub is_class : IsSpelled p (codes "Main") class
  pub number : ℕ
  pub at_class : slice_get n.classes number ≡ Some (class ∷ [])
  pub constructor : List Instr
  pub is_constructor : CtorCode n (record { anchor = Root; exact = []; names = class ∷ [] }) 0 constructor
  pub method : Name
  pub is_method : IsSpelled p (codes "main") method
  pub selector : ℕ
  pub shape : Shape
  pub is_selector : MethodOf n method selector shape
  pub no_params : shape.params ≡ []
  pub instrs : Run code.instrs
      (ins.Cls number ∷ ins.New ∷ (constructor ++ ins.Call selector ∷ (dropping false shape.result ++ ins.Ret ∷ [])))
      0 (length code.instrs)

-- Example: the body of `int m(final A a) { return 1; }` is LOAD 1, CHECK, POP, INT 1, RETV, and INT 0, RETV behind
-- its end.
