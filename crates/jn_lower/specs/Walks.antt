-- What a walk over a body does: it takes the marks that the rules note of each form, in their order, and what it emits
-- stands at the form's place.
use Rattle.std.specs.Prelude.{◌≡◌, ◌<◌, ◌≤◌, ℕ, zero, suc, List, [], ◌∷◌, ◌++◌, length, map, reverse, take, Bool, true, false, Option, Some, slice_get}
use Rattle.jn_base.specs.declared.tree.Program.{Program}
use Rattle.jn_base.specs.declared.tree.Place.{Place}
use Rattle.jn_base.specs.declared.tree.Op.{Op}
use Rattle.jn_base.specs.declared.tree.Node.{Node}
use Rattle.jn_base.specs.declared.tree.TypeTerm.{TypeTerm}
use Rattle.jn_base.specs.declared.tree.Expr.{Expr}
use Rattle.jn_base.specs.declared.tree.Link.{Link}
use Rattle.jn_base.specs.declared.tree.Suffix.{Suffix, out-Suffix}
use Rattle.jn_base.specs.declared.tree.Name.{Name}
use Rattle.jn_base.specs.declared.path.Path.{Path as ShownPath}
use Rattle.jn_base.specs.declared.tree.Named.{Named}
use Rattle.jn_base.specs.declared.tree.Field.{Field}
use Rattle.jn_base.specs.Members.{MethodAt, FieldAt}
use Rattle.jn_base.specs.Duplicates.{duplicates}
use Rattle.jn_lower.specs.declared.members.Callee.{Callee}
use Rattle.jn_lower.specs.declared.members.Getter.{Getter}
use Rattle.jn_lower.specs.Called as called
use Rattle.jn_lower.specs.Told.{IsCallee, IsGetter}
use Rattle.jn_base.specs.declared.tree.Stmt.{Stmt}
use Rattle.jn_base.specs.declared.tree.Method.{Method}
use Rattle.jn_base.specs.declared.types.Atom.{Atom as ShownAtom}
use Rattle.jn_base.specs.declared.tree.Param.{Param}
use Rattle.jn_base.specs.declared.types.Ty.{Ty}
use Rattle.jn_base.specs.declared.types.Ty.TheVariants as ty
use Rattle.jn_base.specs.declared.types.ValKind.{ValKind}
use Rattle.jn_base.specs.declared.types.ValKind.TheVariants as kind
use Rattle.jn_base.specs.declared.names.Var.{Var}
use Rattle.jn_base.specs.Parts.{expr}
use Rattle.jn_base.specs.Atoms.{Among, atom_of}
use Rattle.jn_base.specs.Paths.{shown}
use Rattle.jn_base.specs.Scopes.{Scope, bound_of}
use Rattle.jn_code.specs.declared.instr.Instr.{Instr}
use Rattle.jn_code.specs.declared.instr.Instr.TheVariants as ins
use Rattle.jn_code.specs.declared.image.Code.{Code}
use Rattle.jn_sem.specs.Acts.{path_behind}
use Rattle.jn_rules.specs.Plans.{Mark}
use Rattle.jn_rules.specs.Questions.{Notes}
use Rattle.jn_laws.specs.LawsOfWritten.{HeaderPaths}
use Rattle.jn_rules.specs.Headers.{scope_of}
use Rattle.jn_rules.specs.Exprs.{Here, site_here, Typed, Passed, expr_types, links_typed, suffix_typed, suffixes_typed, args_typed}
use Rattle.jn_rules.specs.Forms.{given_args, typed_links, typed_args, typed_parts}
use Rattle.jn_rules.specs.Stmts.{In, Before, here, stmt_types, stmts_type}
use Rattle.jn_agree.specs.Naming.{Naming}
use Rattle.jn_agree.specs.Rows.{kind_of_type}
use Rattle.jn_agree.specs.Places.{operator, deciding, decided_by, dropping}
use Rattle.jn_lower.specs.declared.emitter.Emitter.{Emitter}
use Rattle.jn_lower.specs.declared.walk.Parts.{Parts}
use Rattle.jn_lower.specs.declared.walk.Walk.{Walk}
use Rattle.jn_lower.specs.declared.walk_stmts.Jump.{Jump}
use Rattle.jn_lower.specs.Emitted.{Emitted, Adds, Patched}
use Rattle.jn_lower.specs.Forms.{Value}
use Rattle.jn_lower.specs.Composed.{Links, Stmts}
use Rattle.jn_lower.specs.Classes.{AreClassesOf, AddsClass}
use Rattle.jn_lower.specs.Stores.{stored}
use Rattle.jn_lower.specs.Whole.{IsCodeOf}
use Rattle.jn_lower.specs.Formed.{Formed}
use Rattle.jn_lower.specs.Written.{is_reference, written_kind, written_result, param_kind}
use Rattle.jn_lower.specs.Cursors.{Ahead, KindTaken}
use Rattle.jn_lower.specs.Lowering.{PartsAre}
use Rattle.jn_lower.specs.Known.{bare}

-- ---- small steps

-- no name stands twice in the program, so each path has one declaration at most
abbrev pub NoneTwice : Parts → Type 0
NoneTwice g = duplicates g.p.now ≡ []

abbrev pub kind_number : ValKind → ℕ
kind_number kind.Int = 1
kind_number kind.Bool = 2
kind_number kind.Reference = 3

-- a number is printed by PRINTI, and a truth value by PRINTB
abbrev pub printed_by : ℕ → Instr
printed_by zero = ins.Printb
printed_by (suc zero) = ins.Printi
printed_by (suc (suc k)) = ins.Printb

-- the next kind is that of the value that was had
pub record Had (old new : Walk) : Type 0 where
  pub kind : ValKind
  pub taken : KindTaken kind old.marks new.marks
  pub last : new.last ≡ kind_number kind
  pub out : new.out ≡ old.out

-- these instructions were emitted, and nothing else was done
pub record Pushed (xs : List Instr) (old new : Walk) : Type 0 where
  pub adds : Adds xs old.out new.out
  pub marks : new.marks ≡ old.marks
  pub last : new.last ≡ old.last

-- an operator was emitted by the kind of the value that was had last, and its value was had
pub record Operated (o : Op) (old new : Walk) : Type 0 where
  pub mid : Walk
  pub pushed : Pushed (operator o old.last) old mid
  pub had : Had mid new

-- Behind the right operand of `&&` or `||`, whose jump stands at `test`: a jump, the value where the left operand decides,
-- and both jumps with their targets; then the value was had.
pub record Decided (and : Bool) (test : ℕ) (old new : Walk) : Type 0 where
  pub jump : Instr
  pub c1 : Emitter
  pub c2 : Emitter
  pub c3 : Emitter
  pub c4 : Emitter
  pub jumps : Adds (jump ∷ []) old.out c1
  pub decides : Adds (decided_by and ∷ []) c1 c2
  pub past : Patched test (deciding and (length c1.instrs)) c2 c3
  pub behind : Patched (length old.out.instrs) (ins.Jump (length c2.instrs)) c3 c4
  pub had : Had (record { out = c4; marks = old.marks; last = old.last }) new

-- A view change behind its operand: the class of the atom, CONV, and the kind of its value.
pub record ViewedAs (g : Parts) (a : ShownAtom) (old new : Walk) : Type 0 where
  pub at : Emitter
  pub mid : Walk
  pub class : (n : Naming) → AreClassesOf g.t.now n → AddsClass n (atom_of a) old.out at
  pub conv : Adds (ins.Conv ∷ []) at mid.out
  pub marks : mid.marks ≡ old.marks
  pub had : Had mid new

-- Behind both blocks of an `if`: the two jumps have their targets.
pub record JoinedAt (test jump target : ℕ) (old new : Walk) : Type 0 where
  pub c1 : Emitter
  pub past : Patched test (ins.Jfalse target) old.out c1
  pub behind : Patched jump (ins.Jump (length old.out.instrs)) c1 new.out
  pub marks : new.marks ≡ old.marks

abbrev pub Joined : ℕ → Jump → Walk → Walk → Type 0
Joined test j old new = JoinedAt test j.at j.behind old new

-- between both blocks of an `if`: a jump that has no target yet
pub record Jumped (j : Jump) (old new : Walk) : Type 0 where
  pub pushed : Pushed (ins.Jump 0 ∷ []) old new
  pub at : j.at ≡ length old.out.instrs
  pub behind : j.behind ≡ length new.out.instrs

-- Behind the body of a `while`: the jump back, and the one past it.
pub record Repeated (start test : ℕ) (old new : Walk) : Type 0 where
  pub c1 : Emitter
  pub back : Adds (ins.Jump start ∷ []) old.out c1
  pub past : Patched test (ins.Jfalse (length c1.instrs)) c1 new.out
  pub marks : new.marks ≡ old.marks

-- The next local, whose number is q, was bound as one of that written type.
pub record BindsWritten (fixed : Bool) (tt : TypeTerm) (q : ℕ) (old new : Walk) : Type 0 where
  pub number : q ≡ length old.out.locals.kinds
  pub few : q < 256
  pub instrs : new.out.instrs ≡ old.out.instrs ++ stored fixed (is_reference tt) (length old.out.locals.kinds)
  pub kinds : new.out.locals.kinds ≡ old.out.locals.kinds ++ written_kind tt ∷ []
  pub spare : new.out.locals.spare ≡ old.out.locals.spare
  pub scratch : new.out.locals.scratch ≡ old.out.locals.scratch
  pub marks : new.marks ≡ old.marks

-- ---- what a walk stands on, and what it has done

-- each path but the fresh ones, which are numbered from 256, has the bound that it has in the first scope
abbrev pub Low : Scope → Scope → Type 0
Low s t = (q : ℕ) → q < 256 → bound_of t q ≡ bound_of s q

-- The body stands in the class that is told, and the variables that are told are those in scope, but for masks. Local 0 is
-- a reference; the local of each variable in scope has the kind of its type, none is `void`, and none has the number of
-- `this`, or of a fresh path. Paths have the bounds that they have where terms are resolved.
pub record Ready (at : ShownPath) (vs : List Var) (scratch : ℕ) (h : Here) (sc : Scope) (w : Walk) : Type 0 where
  pub class : at ≡ shown h.class
  pub vars : vs ≡ map bare h.vars
  pub above : w.out.locals.scratch ≡ scratch
  pub first : slice_get w.out.locals.kinds 0 ≡ Some 3
  pub kinds : (v : Var) → Among h.vars v → slice_get w.out.locals.kinds v.path ≡ Some (kind_of_type v.ty)
  pub valued : (v : Var) → Among h.vars v → v.ty ≡ ty.Void → ⊥
  pub apart : (v : Var) → Among h.vars v → v.path ≡ 0 → ⊥
  pub few : (v : Var) → Among h.vars v → v.path < 256
  pub paths : (v : Var) → Among h.vars v → HeaderPaths h.vars v.ty
  pub low : Low (scope_of (site_here h)) sc

-- where the variables are those of the parts
abbrev pub ReadyIn : Parts → ℕ → Here → Scope → Walk → Type 0
ReadyIn g scratch h sc w = Ready g.class.now g.vars.now scratch h sc w

-- These marks are left, the form stands where it was emitted, and the value that was had last has the type's kind.
pub record Done (There : Code → ℕ → ℕ → Type 0) (rest : List Mark) (t : Ty) (old new : Walk) : Type 0 where
  pub left : Ahead rest new.marks
  pub emitted : Emitted There old.out new.out
  pub kind : new.last ≡ kind_of_type t

-- ---- expressions

-- an expression whose value is kept, or not
pub record Lowers (g : Parts) (n : Naming) (scratch : ℕ) (h : Here) (sc : Scope) (keeps : Bool) (e : Expr)
    (old new : Walk) : Type 0 where
  pub done : (ms rest : List Mark) (x : Typed) → ReadyIn g scratch h sc old → Notes g.p.now (expr_types h e sc) ms x
      → Ahead (ms ++ rest) old.marks → Done (Value g.p.now n scratch h sc keeps e) rest x.ty old new

-- wherever it stands
abbrev pub LowersAs : Parts → Bool → Expr → Walk → Walk → Type 0
LowersAs g keeps e old new =
    (n : Naming) (scratch : ℕ) (h : Here) (sc : Scope) → PartsAre g.p.now g.t.now g.slots.now g.names.now n
    → Lowers g n scratch h sc keeps e old new

abbrev pub LowersValue : Parts → Expr → Walk → Walk → Type 0
LowersValue g e old new = LowersAs g true e old new

abbrev pub LowersEffect : Parts → Expr → Walk → Walk → Type 0
LowersEffect g e old new = LowersAs g false e old new

-- a condition, and a jump that has no target yet; `test` is its place
pub record Tested (g : Parts) (e : Expr) (test : ℕ) (old new : Walk) : Type 0 where
  pub mid : Walk
  pub first : LowersValue g e old mid
  pub jumps : Pushed (ins.Jfalse 0 ∷ []) mid new
  pub place : test ≡ length mid.out.instrs

abbrev pub LowersNodeAs : Parts → Bool → Node → Walk → Walk → Type 0
LowersNodeAs g keeps x old new = (pl : Place) → LowersAs g keeps (expr pl x) old new

abbrev pub LowersNode : Parts → Node → Walk → Walk → Type 0
LowersNode g x old new = LowersNodeAs g true x old new

-- the operators of a chain, behind a left operand that was had
pub record LowersThem (g : Parts) (n : Naming) (scratch : ℕ) (h : Here) (ls : List Link) (old new : Walk)
    : Type 0 where
  pub done : (at : Place) (x z : Typed) (ms rest : List Mark) → ReadyIn g scratch h x.scope old
      → old.last ≡ kind_of_type x.ty → Notes g.p.now (links_typed h at x (typed_links h ls)) ms z
      → Ahead (ms ++ rest) old.marks → Done (Links g.p.now n scratch h x ls) rest z.ty old new

abbrev pub LowersLinks : Parts → List Link → Walk → Walk → Type 0
LowersLinks g ls old new =
    (n : Naming) (scratch : ℕ) (h : Here) → PartsAre g.p.now g.t.now g.slots.now g.names.now n
    → LowersThem g n scratch h ls old new

-- one operator, with whatever is behind it
abbrev pub LowersLink : Parts → Link → Walk → Walk → Type 0
LowersLink g l old mid =
    (ls : List Link) (new : Walk) → LowersLinks g ls mid new → LowersLinks g (l ∷ ls) old new

-- ---- what stands behind a receiver

-- a field or a call behind a receiver, whose value is kept or not
pub record LowersBehind (g : Parts) (n : Naming) (scratch : ℕ) (h : Here) (keeps : Bool) (f : Named)
    (args : Option (List Expr)) (old new : Walk) : Type 0 where
  pub done : (at : Place) (x y : Typed) (ms rest : List Mark) → ReadyIn g scratch h x.scope old
      → Notes g.p.now (suffix_typed h f (given_args h args) at x) ms y → Ahead (ms ++ rest) old.marks
      → Done (called.Part g.p.now n scratch h x keeps f.name args) rest y.ty old new

abbrev pub LowersMember : Parts → Bool → Named → Option (List Expr) → Walk → Walk → Type 0
LowersMember g keeps f args old new =
    (n : Naming) (scratch : ℕ) (h : Here) → PartsAre g.p.now g.t.now g.slots.now g.names.now n
    → LowersBehind g n scratch h keeps f args old new

abbrev pub LowersPart : Parts → Bool → Suffix → Walk → Walk → Type 0
LowersPart g keeps z old new = LowersMember g keeps (out-Suffix z).name (out-Suffix z).args old new

-- all of them, of which only the last value is kept or not
pub record LowersEach (g : Parts) (n : Naming) (scratch : ℕ) (h : Here) (keeps : Bool) (zs : List Suffix)
    (old new : Walk) : Type 0 where
  pub done : (whole at : Place) (x y : Typed) (ms rest : List Mark) → ReadyIn g scratch h x.scope old
      → Notes g.p.now (suffixes_typed whole at (typed_parts h zs) x) ms y → Ahead (ms ++ rest) old.marks
      → Done (called.Parts g.p.now n scratch h x keeps zs) rest y.ty old new

abbrev pub LowersParts : Parts → Bool → List Suffix → Walk → Walk → Type 0
LowersParts g keeps zs old new =
    (n : Naming) (scratch : ℕ) (h : Here) → PartsAre g.p.now g.t.now g.slots.now g.names.now n → LowersEach g n scratch h keeps zs old new

-- ---- arguments

pub record ArgsDone (There : Code → ℕ → ℕ → Type 0) (rest : List Mark) (old new : Walk) : Type 0 where
  pub left : Ahead rest new.marks
  pub emitted : Emitted There old.out new.out

-- arguments for as many parameters
pub record LowersGiven (g : Parts) (n : Naming) (scratch : ℕ) (h : Here) (es : List Expr) (old new : Walk)
    : Type 0 where
  pub done : (from : List ℕ) (xs : List Var) (to : List ℕ) (sc : Scope) (y : Passed) (ms rest : List Mark)
      → length xs ≡ length es → ReadyIn g scratch h sc old → Notes g.p.now (args_typed h from xs (typed_args h es) to sc) ms y
      → Ahead (ms ++ rest) old.marks → ArgsDone (called.Args g.p.now n scratch h from xs es to sc) rest old new

abbrev pub LowersArgs : Parts → List Expr → Walk → Walk → Type 0
LowersArgs g es old new =
    (n : Naming) (scratch : ℕ) (h : Here) → PartsAre g.p.now g.t.now g.slots.now g.names.now n → LowersGiven g n scratch h es old new

-- the value of a call was had, or there is none: its kind is 0
pub data Settled (kind : ℕ) (old new : Walk) : Type 0 where
  none : kind ≡ 0 → new.last ≡ 3 → new.marks ≡ old.marks → new.out ≡ old.out → Settled kind old new
  some : (kind ≡ 0 → ⊥) → Had old new → Settled kind old new

pub record SettledSo (rest : List Mark) (t : Ty) (old new : Walk) : Type 0 where
  pub left : Ahead rest new.marks
  pub kind : new.last ≡ kind_of_type t
  pub out : new.out ≡ old.out

-- Behind so many arguments: the method of that name at the path is called, by its selector, and its value is had.
pub record CallMade (g : Parts) (keeps : Bool) (path : ShownPath) (f : Name) (count : ℕ) (old new : Walk) : Type 0 where
  pub callee : Callee
  pub mid : Walk
  pub is : (m : Method) → MethodAt g.p.now (reverse path.names) f m → IsCallee g.names.now.methods f m callee
  pub many : length callee.params.items ≡ count
  pub adds : Adds (ins.Call callee.selector ∷ dropping keeps callee.kind) old.out mid.out
  pub marks : mid.marks ≡ old.marks
  pub settled : Settled callee.kind mid new

-- The field of that name, which the class at the path declares, is read by its selector, and its value is had.
pub record FieldRead (g : Parts) (path : ShownPath) (f : Name) (old new : Walk) : Type 0 where
  pub getter : Getter
  pub mid : Walk
  pub is : (field : Field) → FieldAt g.p.now (reverse path.names) f field
      → IsGetter g.t.now g.slots.now g.names.now.fields (reverse path.names) f field getter
  pub adds : Adds (ins.Get getter.selector ∷ []) old.out mid.out
  pub marks : mid.marks ≡ old.marks
  pub had : Had mid new

-- The value on top is given to the field of that name, which the class at the path declares, by its selector.
pub record FieldPut (g : Parts) (path : ShownPath) (f : Name) (old new : Walk) : Type 0 where
  pub getter : Getter
  pub is : (field : Field) → FieldAt g.p.now (reverse path.names) f field
      → IsGetter g.t.now g.slots.now g.names.now.fields (reverse path.names) f field getter
  pub adds : Adds (ins.Put getter.selector ∷ []) old.out new.out
  pub marks : new.marks ≡ old.marks

-- the parts that are left, where there are some
abbrev pub LowersTail : Parts → Bool → List Suffix → Walk → Walk → Type 0
LowersTail g keeps [] old new = new ≡ old
LowersTail g keeps (z ∷ zs) old new = LowersParts g keeps (z ∷ zs) old new

-- whether a value is kept behind which so many parts are left
pub record IsKept (keeps : Bool) (left : ℕ) (kept : Bool) : Type 0 where
  pub last : left ≡ 0 → kept ≡ keeps
  pub other : (left ≡ 0 → ⊥) → kept ≡ true

-- ---- statements

-- the same parts where these variables are in scope
pub record Sees (g : Parts) (vs : List Var) (at : Parts) : Type 0 where
  pub is : at ≡ record g { vars = at.vars }
  pub vars : at.vars.now ≡ vs

-- an expression, where these variables are in scope
abbrev pub LowersSeen : Parts → List Var → Expr → Walk → Walk → Type 0
LowersSeen g vs e old new =
    (n : Naming) (scratch : ℕ) (h : Here) (sc : Scope) (ms rest : List Mark) (x : Typed)
    → PartsAre g.p.now g.t.now g.slots.now g.names.now n → Ready g.class.now vs scratch h sc old
    → Notes g.p.now (expr_types h e sc) ms x → Ahead (ms ++ rest) old.marks
    → Done (Value g.p.now n scratch h sc true e) rest x.ty old new

pub record StmtsDone (There : Code → ℕ → ℕ → Type 0) (class : ShownPath) (vs : List Var) (scratch : ℕ) (b : In)
    (rest : List Mark) (y : Before) (old new : Walk) : Type 0 where
  pub left : Ahead rest new.marks
  pub emitted : Emitted There old.out new.out
  pub ready : Ready class vs scratch (here b y) y.scope new

-- the variables before and behind the statements are us and vs
pub record LowersAll (p : Program) (class : ShownPath) (n : Naming) (scratch : ℕ) (b : In) (ss : List Stmt)
    (us vs : List Var) (old new : Walk) : Type 0 where
  pub done : (x y : Before) (ms rest : List Mark) → Ready class us scratch (here b x) x.scope old
      → Notes p (stmts_type b ss x) ms y → Ahead (ms ++ rest) old.marks
      → StmtsDone (Stmts p n scratch b x ss) class vs scratch b rest y old new

abbrev pub LowersStmts : Parts → List Stmt → List Var → List Var → Walk → Walk → Type 0
LowersStmts g ss us vs old new =
    (n : Naming) (scratch : ℕ) (b : In) → PartsAre g.p.now g.t.now g.slots.now g.names.now n
    → LowersAll g.p.now g.class.now n scratch b ss us vs old new

-- those of a block, whose locals are known in it alone
pub record LowersBlock (g : Parts) (ss : List Stmt) (vs : List Var) (old new : Walk) : Type 0 where
  pub inner : List Var
  pub lowers : LowersStmts g ss vs inner old new

-- These marks are left, and where statements stand behind the statement, all of them stand.
pub record StmtDone (p : Program) (class : ShownPath) (vs : List Var) (n : Naming) (scratch : ℕ) (b : In) (s : Stmt)
    (rest : List Mark) (x y : Before) (old new : Walk) : Type 0 where
  pub left : Ahead rest new.marks
  pub ready : Ready class vs scratch (here b y) y.scope new
  pub behind : (ss : List Stmt) (end : Emitter) → Emitted (Stmts p n scratch b y ss) new.out end
      → Emitted (Stmts p n scratch b x (s ∷ ss)) old.out end

pub record LowersOne (p : Program) (class : ShownPath) (n : Naming) (scratch : ℕ) (b : In) (s : Stmt) (us vs : List Var)
    (old new : Walk) : Type 0 where
  pub done : (x y : Before) (ms rest : List Mark) → Ready class us scratch (here b x) x.scope old
      → Notes p (stmt_types b s x) ms y → Ahead (ms ++ rest) old.marks
      → StmtDone p class vs n scratch b s rest x y old new

-- one statement, wherever it stands
abbrev pub LowersStmt : Parts → Stmt → List Var → List Var → Walk → Walk → Type 0
LowersStmt g s us vs old new =
    (n : Naming) (scratch : ℕ) (b : In) → PartsAre g.p.now g.t.now g.slots.now g.names.now n
    → LowersOne g.p.now g.class.now n scratch b s us vs old new

-- one that changes no variable of the parts
abbrev pub LowersPlain : Parts → Stmt → Walk → Walk → Type 0
LowersPlain g s old new = LowersStmt g s g.vars.now g.vars.now old new

-- ---- bodies

abbrev pub IsAbove : Method → ℕ → Type 0
IsAbove m k = k ≡ path_behind m.body (suc (length m.params))

-- a local for each parameter, and nothing else
pub record DeclaresEach (xs : List Param) (old new : Emitter) : Type 0 where
  pub instrs : new.instrs ≡ old.instrs
  pub kinds : new.locals.kinds ≡ old.locals.kinds ++ map param_kind xs
  pub scratch : new.locals.scratch ≡ old.locals.scratch

-- Nothing is emitted yet, and the kinds of the receiver and of the parameters are known.
pub record Begun (m : Method) (x : Emitter) : Type 0 where
  pub instrs : x.instrs ≡ []
  pub kinds : x.locals.kinds ≡ 3 ∷ map param_kind m.params
  pub scratch : x.locals.scratch ≡ path_behind m.body (suc (length m.params))

-- The code of what was emitted, of which so many locals are parameters, and so many those of variables.
pub record CodeMade (x : Emitter) (count above kind : ℕ) (code : Code) : Type 0 where
  pub is : IsCodeOf x count kind 4096 code
  pub formed : Formed x count above

-- The code has what was emitted: the locals of all variables, and the scratch ones behind them.
pub record Finished (m : Method) (x : Emitter) (code : Code) : Type 0 where
  pub params : code.params ≡ take (suc (length m.params)) x.locals.kinds
  pub locals : code.params ++ code.locals ≡ x.locals.kinds ++ x.locals.spare
  pub scratch : length x.locals.kinds ≡ x.locals.scratch
  pub few : suc (length m.params) ≤ 16
  pub result : code.result ≡ written_result m.result
  pub instrs : code.instrs ≡ x.instrs

-- Example: of `!true` the kind of `true` is taken behind BOOL 1, and the kind of the whole behind NOT.
