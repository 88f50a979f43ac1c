-- When what a frame has still to do fits the operands that it has: a typing of lists of acts.
use Rattle.std.specs.Prelude.{◌≡◌, ◌≤◌, ℕ, List, [], ◌∷◌, length, take, map, Bool, true, false, Option, None}
use Rattle.jn_base.specs.declared.tree.Program.{Program}
use Rattle.jn_base.specs.declared.types.Ty.{Ty}
use Rattle.jn_base.specs.declared.types.Ty.TheVariants as ty
use Rattle.jn_base.specs.declared.names.Var.{Var}
use Rattle.jn_base.specs.Atoms.{atoms_in}
use Rattle.jn_base.specs.Scopes.{Bind, Scope}
use Rattle.jn_base.specs.Members.{MethodAt}
use Rattle.jn_base.specs.declared.tree.Place.{Place}
use Rattle.jn_base.specs.declared.tree.Stmt.TheVariants as stmt
use Rattle.jn_base.specs.Fits.{BindsFit, TypeFits}
use Rattle.jn_base.specs.Resolve.{is_class}
use Rattle.jn_sem.specs.Acts.{Act, Decide, Return, Choose, Repeat, Todo, todo, acts as acts_of, stmts_acts, path_behind}
use Rattle.jn_rules.specs.Questions.{masks_of}
use Rattle.std.specs.Prelude.{Ok}
use Rattle.jn_base.specs.declared.tree.Expr.{Expr}
use Rattle.jn_base.specs.declared.tree.Stmt.{Stmt}
use Rattle.jn_rules.specs.Questions.{Gives}
use Rattle.jn_rules.specs.Stmts.{In, Before, condition, loop_typed, stmt_types, is_void}
use Rattle.jn_base.specs.Atoms.{MasksWithin}
use Rattle.jn_sound.specs.KnownScopes.{Covers, StmtKnown, StandsIn}
use Rattle.jn_sound.specs.Takes.{Opd, opd, Typing, typing, Moves, Takes}

-- a bind with other masks, of which it may have more
pub record Loosened (b c : Bind) : Type 0 where
  pub path : c.path ≡ b.path
  pub atoms : atoms_in c.ty ≡ atoms_in b.ty
  pub masks : MasksWithin (masks_of b.ty) (masks_of c.ty)
  pub kind : is_class c.ty ≡ is_class b.ty
  pub plain : is_class b.ty ≡ false → c.ty ≡ b.ty

-- a scope without some of its binds, with the same or more masks
pub data Narrowed : Scope → Scope → Type 0 where
  none : {s : Scope} → Narrowed s []
  dropped : {b : Bind} {s t : Scope} → Narrowed s t → Narrowed (b ∷ s) t
  kept : {b c : Bind} {s t : Scope} → Loosened b c → Narrowed s t → Narrowed (b ∷ s) (c ∷ t)

-- A loop that stands in a method's body, and is typed in the scope before it, with locals enough.
pub record IsLoop (p : Program) (b : In) (vs : List Var) (s : Scope) (path : ℕ) (e : Expr)
    (body : List Stmt) : Type 0 where
  pub known : StmtKnown p b (record { vars = vs; scope = s; next = path })
  pub method : MethodAt p b.class b.method.name.name b.method
  pub at : Place
  pub inside : StandsIn b.method.body (stmt.While e body at)
  pub after : Before
  pub typed : Gives p (condition b (record { vars = vs; scope = s; next = path }) e
      (loop_typed (map (stmt_types b) body) (record { vars = vs; scope = s; next = path }))) (Ok after)
  pub few : after.next ≤ 256

-- THE TYPING OF WHAT IS STILL TO DO, in the body b. `vs` are the variables in scope, `s` is the scope with fresh
-- paths and present masks, and `ops` are the latest operands that something is known of, the latest first; what
-- stands before them doesn't matter.
pub data Fits (p : Program) (b : In) : List Todo → (vs : List Var) → Scope → List Opd → Type 0 where
  -- the end of a body without a result
  ends : {vs : List Var} {s : Scope} {ops : List Opd} → is_void b.result ≡ true → Fits p b [] vs s ops
  -- an act, and what comes behind it
  acts : {n : ℕ} {a : Act} {k : List Todo} {vs us : List Var} {s : Scope} {ops : List Opd} {z : Typing} → n ≡ length vs
      → Takes p b vs a (typing s ops) us z → Fits p b k us z.scope z.ops → Fits p b (todo n a ∷ k) vs s ops
  -- WHAT IS KNOWN: where nothing acts
  moves : {k : List Todo} {vs : List Var} {s : Scope} {ops : List Opd} {z : Typing} → Moves p (typing s ops) z
      → Fits p b k vs z.scope z.ops
      → Fits p b k vs s ops
  -- a statement ends, or a block: fresh paths and variables are gone, and masks may be more
  narrows : {k : List Todo} {vs us : List Var} {s t : Scope} {ops : List Opd} → us ≡ take (length us) vs
      → length b.method.params ≤ length us → Narrowed s t → BindsFit t → Covers us t
      → Fits p b k us t [] → Fits p b k vs s ops
  -- an expression ends, and its value has no path of its own any more: fresh paths are gone, and masks may be more
  settles : {k : List Todo} {vs : List Var} {s t : Scope} {ops : List Opd} (u : Ty) (q : Option ℕ)
      → length b.method.params ≤ length vs → Narrowed s t → BindsFit t → Covers vs t → TypeFits t u
      → Fits p b k vs t (opd u None ∷ []) → Fits p b k vs s (opd u q ∷ ops)
  -- WHERE THERE ARE TWO WAYS
  -- `&&` and `||`: the right operand comes, or the left one is the value
  decide : {n : ℕ} {k : List Todo} {vs : List Var} {s : Scope} {ops : List Opd} (and : Bool) (e : Expr) (q : Option ℕ)
      → n ≡ length vs
      → Fits p b (acts_of (length vs) e k) vs s ops → Fits p b k vs s (opd ty.Bool None ∷ ops)
      → Fits p b (todo n (Decide and e) ∷ k) vs s (opd ty.Bool q ∷ ops)
  -- an `if` holds back its blocks: each fits with what comes behind it
  choose : {n : ℕ} {k : List Todo} {vs : List Var} {s : Scope} {ops : List Opd} (path : ℕ) (yes no : List Stmt)
      (q : Option ℕ) → n ≡ length vs
      → Fits p b (stmts_acts (length vs) path yes k) vs s [] → Fits p b
      (stmts_acts (length vs) (path_behind yes path) no k) vs s []
      → Fits p b (todo n (Choose path yes no) ∷ k) vs s (opd ty.Bool q ∷ ops)
  -- a `while` holds back its test and its body, which come again: their typing is kept, in the scope t before the
  -- loop, and not what follows from it
  repeat : {n : ℕ} {k : List Todo} {vs : List Var} {s t : Scope} {ops : List Opd} (path : ℕ) (e : Expr)
      (body : List Stmt) (q : Option ℕ) → n ≡ length vs
      → IsLoop p b vs t path e body → Narrowed s t → length b.method.params ≤ length vs → Fits p b k vs t [] →
      Fits p b (todo n (Repeat path e body) ∷ k) vs s (opd ty.Bool q ∷ ops)
  -- WHERE THE BODY ENDS: nothing is asked of what comes behind
  return : {n : ℕ} {k : List Todo} {vs : List Var} {s : Scope} {ops : List Opd} (q : Option ℕ) → n ≡ length vs
      → is_void b.result ≡ false → Fits p b (todo n (Return true) ∷ k) vs s (opd b.result q ∷ ops)
  leave : {n : ℕ} {k : List Todo} {vs : List Var} {s : Scope} {ops : List Opd} → n ≡ length vs
      → is_void b.result ≡ true
      → Fits p b (todo n (Return false) ∷ k) vs s ops
