-- For b charges the instructions of an expression, or of statements, do what its acts do, in the contexts that typing
-- gives, where what stands behind them does.
use Rattle.std.specs.Prelude.{◌≡◌, ℕ, ◌+◌, ◌*◌, List, [], ◌∷◌, ◌++◌, length, Bool, true, false, cond, Some}
use Rattle.jn_base.specs.declared.tree.Expr.{Expr}
use Rattle.jn_base.specs.declared.tree.Stmt.{Stmt}
use Rattle.jn_base.specs.declared.tree.Program.{Program}
use Rattle.jn_base.specs.declared.names.Var.{Var}
use Rattle.jn_base.specs.Atoms.{Among}
use Rattle.jn_base.specs.Scopes.{Scope, Binds}
use Rattle.jn_code.specs.declared.image.Image.{Image}
use Rattle.jn_code.specs.declared.image.Code.{Code}
use Rattle.jn_sem.specs.Acts.{Todo, expr_does, stmts_acts}
use Rattle.jn_sem.specs.LawsOfActs.{args_acts}
use Rattle.jn_sem.specs.State.{Frame}
use Rattle.jn_sem.specs.Does.{Body}
use Rattle.jn_laws.specs.LawsOfWritten.{HeaderPath}
use Rattle.jn_rules.specs.Headers.{Header}
use Rattle.jn_rules.specs.Exprs.{Here, Typed, Passed, replaced_paths}
use Rattle.jn_rules.specs.Stmts.{Before, is_void}
use Rattle.jn_rule_laws.specs.LawsOfForms.{PutFor, header_scope}
use Rattle.jn_sound.specs.Takes.{Opd, opd, Typing, typing, ArgsFit}
use Rattle.jn_sound.specs.KnownScopes.{ScopeKnown, here_in}
use Rattle.jn_sound.specs.Tree.{Fresher, OpsBound}
use Rattle.jn_agree.specs.Naming.{Naming}
use Rattle.jn_node_laws.specs.Cont.{Layout, of_frame, with_value, ContOn}
use Rattle.jn_place_laws.specs.Contexts.{Context, context, Stood, known, in_body, site_at}

-- the value that is left
abbrev pub left : Bool → Typed → List Opd → List Opd
left keeps y ops = cond keeps (opd y.ty y.path ∷ ops) ops

-- a value that is kept isn't void
abbrev pub Kept : Bool → Typed → Type 0
Kept keeps y = keeps ≡ true → is_void y.ty ≡ false

-- these operands, the first one lowest
abbrev pub onto : List Opd → List Opd → List Opd
onto [] ops = ops
onto (a ∷ os) ops = onto os (a ∷ ops)

-- a value of the frame for each of the arguments
abbrev pub framed : List Expr → Layout → Layout
framed [] l = l
framed (e ∷ es) l = framed es (of_frame ∷ l)

-- In a code of a body that was entered with the frame r, whose header is hd.
module _ (p : Program) (i : Image) (n : Naming) (m : ℕ) (code : ℕ) (it : Code) (r : Frame) (hd : Header) where
  -- on operands of that layout, with these variables in scope and this typing: the todo list k, from the place s on,
  -- with w instructions more
  abbrev pub GoOn : Layout → ℕ → List Var → Typing → List Todo → ℕ → ℕ → Type 0
  GoOn l b vs t k s w =
      ContOn p i n m (known p) Context (Stood p r hd) code it r l b (site_at r hd vs) (context vs t) k s w

  -- where all operands are the frame's, as at each statement
  abbrev pub Go : ℕ → List Var → Typing → List Todo → ℕ → ℕ → Type 0
  Go b vs t k s w = GoOn [] b vs t k s w

  abbrev pub at_vars : List Var → Here
  at_vars vs = here_in (in_body r hd) vs

  -- an expression that was typed as y, on operands whose paths are in the scope: it leaves 5 instructions
  abbrev pub ExprGoes : List Var → Scope → (keeps : Bool) → Expr → Typed → ℕ → ℕ → Type 0
  ExprGoes vs sc keeps e y s t =
      Kept keeps y → (l : Layout) (b : ℕ) (k : List Todo) (w : ℕ) (ops : List Opd) → OpsBound sc ops
      → GoOn (with_value keeps l) b vs (typing y.scope (left keeps y ops)) k t (5 + w)
      → GoOn l b vs (typing sc ops) (expr_does e keeps (length vs) k) s w

  -- what stands behind a value x, and gives y
  abbrev pub Behind : List Var → (List Todo → List Todo) → Typed → Typed → (keeps : Bool) → ℕ → ℕ → Type 0
  Behind vs does x y keeps s t =
      Kept keeps y → (l : Layout) (b : ℕ) (k : List Todo) (w : ℕ) (ops : List Opd) → OpsBound x.scope ops
      → GoOn (with_value keeps l) b vs (typing y.scope (left keeps y ops)) k t w
      → GoOn (of_frame ∷ l) b vs (typing x.scope (opd x.ty x.path ∷ ops)) (does k) s w

  -- Arguments es for the parameters xs of the body d with the header c, behind the receiver's path and the paths qs:
  -- each has its parameter's type and a path, and they leave 5 instructions each.
  pub record ArgsGo (vs : List Var) (d : Body) (c : Header) (xs : List Var) (es : List Expr) (sc : Scope) (q : ℕ)
      (qs : List ℕ) (passed : Passed) (s t : ℕ) : Type 0 where
    pub args : List Opd
    pub paths : List ℕ
    pub all : List ℕ
    pub count : length args ≡ length es
    pub is : passed.paths ≡ q ∷ all
    pub split : all ≡ qs ++ paths
    pub grown : Fresher sc passed.scope
    pub known : ScopeKnown p (at_vars vs) passed.scope
    pub put : PutFor (header_scope d c) passed.scope c.vars all
    pub fit : ArgsFit passed.scope (replaced_paths c.vars) (q ∷ all) xs args paths
    -- none has an older path that no variable has
    pub apart : (old : ℕ) → Binds sc old → (HeaderPath vs old → ⊥) → (o : Opd) → Among args o → o.path ≡ Some old → ⊥
    pub go : (l : Layout) (b : ℕ) (k : List Todo) (w : ℕ) (ops : List Opd) → OpsBound sc ops
        → GoOn (framed es l) b vs (typing passed.scope (onto args ops)) k t (5 * length es + w)
        → GoOn l b vs (typing sc ops) (args_acts (length vs) es k) s w

  -- statements from what stands before them to what stands behind
  abbrev pub StmtsGo : Before → Before → List Stmt → ℕ → ℕ → Type 0
  StmtsGo x y ss s t =
      (b : ℕ) (k : List Todo) (w : ℕ) → Go b y.vars (typing y.scope []) k t w
      → Go b x.vars (typing x.scope []) (stmts_acts (length x.vars) x.next ss k) s w

  -- one statement, before any others
  abbrev pub StmtGoes : Before → Before → Stmt → ℕ → ℕ → Type 0
  StmtGoes x y u s t =
      (ss : List Stmt) (b : ℕ) (k : List Todo) (w : ℕ)
      → Go b y.vars (typing y.scope []) (stmts_acts (length y.vars) y.next ss k) t w
      → Go b x.vars (typing x.scope []) (stmts_acts (length x.vars) x.next (u ∷ ss) k) s w
