-- What the induction over places takes for itself: what the rules' typing gives of each expression and statement of a
-- body, and how `new`, `super` and views go, which the files of their own show.
use Rattle.std.specs.Prelude.{◌≡◌, ◌≤◌, ◌<◌, ℕ, List, [], ◌∷◌, ◌++◌, length, Bool, true, Some, Ok, slice_get}
use Rattle.jn_base.specs.declared.tree.Name.{Name}
use Rattle.jn_base.specs.declared.tree.Named.{Named}
use Rattle.jn_base.specs.declared.tree.Place.{Place}
use Rattle.jn_base.specs.declared.tree.Term.{Term}
use Rattle.jn_base.specs.declared.tree.ViewTerm.{ViewTerm}
use Rattle.jn_base.specs.declared.tree.Node.TheVariants as node
use Rattle.jn_base.specs.declared.tree.Expr.{Expr}
use Rattle.jn_base.specs.declared.tree.Stmt.{Stmt}
use Rattle.jn_base.specs.declared.tree.Program.{Program}
use Rattle.jn_base.specs.declared.names.Role.TheVariants as role
use Rattle.jn_base.specs.declared.names.Var.{Var}
use Rattle.jn_base.specs.Parts.{expr}
use Rattle.jn_base.specs.Paths.{Path}
use Rattle.jn_base.specs.Atoms.{Atom, Among}
use Rattle.jn_base.specs.Scopes.{Scope, bound}
use Rattle.jn_code.specs.declared.instr.Instr.{Instr}
use Rattle.jn_code.specs.declared.instr.Instr.TheVariants as ins
use Rattle.jn_code.specs.declared.image.Image.{Image}
use Rattle.jn_code.specs.declared.image.Code.{Code}
use Rattle.jn_code.specs.declared.image.Shape.{Shape}
use Rattle.jn_sem.specs.NormalFunction.{normal_type}
use Rattle.jn_sem.specs.Terms.{TermIs, SuperBound, ViewIs}
use Rattle.jn_sem.specs.State.{Frame}
use Rattle.jn_sem.specs.Does.{Body, IsBody, IsConstructorBody}
use Rattle.jn_laws.specs.LawsOfFits.{AsDeep}
use Rattle.jn_rules.specs.Questions.{Gives}
use Rattle.jn_rules.specs.Headers.{Header}
use Rattle.jn_rules.specs.Exprs.{site_here, Typed, Passed, arg_passed, replaced_paths, made_exact, fresh_with, args_typed, expr_types}
use Rattle.jn_rules.specs.Forms.{typed_args}
use Rattle.jn_rules.specs.Stmts.{In, Before, stmt_types}
use Rattle.jn_rule_laws.specs.LawsOfHeaders.{IsHeader}
use Rattle.jn_rule_laws.specs.LawsOfForms.{PutFor, header_scope}
use Rattle.jn_sound.specs.KnownScopes.{ScopeKnown, here_in, StmtKnown, StandsIn}
use Rattle.jn_sound.specs.Tree.{ExprKnown, Fresher}
use Rattle.jn_agree.specs.Naming.{Naming}
use Rattle.jn_agree.specs.Rows.{IsShape}
use Rattle.jn_agree.specs.Places.{Run, dropping, tuck, ClassCode, CtorCode, MethodOf, HasKind}
use Rattle.jn_place_laws.proofs.Parts.{ExprIn}
use Rattle.jn_place_laws.proofs.Going.{ExprGoes, ArgsGo, at_vars}

-- What the rules' typing gives of the expressions and the statements of a body: behind each stands what is known of the
-- scope there.
pub record TypingKnown (p : Program) (b : In) (body : List Stmt) : Type 0 where
  pub exprs : (vs : List Var) (e : Expr) (s : Scope) (t : Typed) → ExprIn body e → ScopeKnown p (here_in b vs) s
      → Gives p (expr_types (here_in b vs) e s) (Ok t) → ExprKnown p (here_in b vs) t × Fresher s t.scope
  pub stmts : (s : Stmt) (x y : Before) → StandsIn body s → StmtKnown p b x → y.next ≤ 256
      → Gives p (stmt_types b s x) (Ok y) → StmtKnown p b y

module _ (p : Program) (i : Image) (n : Naming) (m : ℕ) (code : ℕ) (it : Code) (r : Frame) (hd : Header)
    (scratch : ℕ) (body : List Stmt) where
  -- the arguments of a call of d, with the header c, of which those for `done` are had
  abbrev pub ArgsThere : List Var → (d : Body) (c : Header) (done xs : List Var) (es : List Expr) → Scope → ℕ
      → List ℕ → ℕ → ℕ → Type 0
  ArgsThere vs d c done xs es sc q qs s t =
      (passed : Passed) → c.vars ≡ done ++ xs → length xs ≡ length es
      → ScopeKnown p (at_vars p i n m code it r hd vs) sc → AsDeep (header_scope d c) sc 0 q
      → PutFor (header_scope d c) sc done qs
      → Gives p (args_typed (at_vars p i n m code it r hd vs) (replaced_paths c.vars) xs
      (typed_args (at_vars p i n m code it r hd vs) es) (q ∷ qs) sc) (Ok passed)
      → ArgsGo p i n m code it r hd vs d c xs es sc q qs passed s t

  -- The forms that are shown apart: each goes where its parts do.
  pub record OtherForms : Type 0 where
    pub new : (vs : List Var) (sc : Scope) (keeps : Bool) (pl : Place) (t : Term) (es : List Expr) (x : Atom)
        (cls ctor : List Instr) (s l e : ℕ) (y : Typed) → ExprIn body (expr pl (node.New t es))
        → ScopeKnown p (at_vars p i n m code it r hd vs) sc
        → Gives p (expr_types (at_vars p i n m code it r hd vs) (expr pl (node.New t es)) sc) (Ok y)
        → TermIs p role.New (site_here (at_vars p i n m code it r hd vs)) t x
        → ((d : Body) (c : Header) → IsConstructorBody p (bound sc x) d → IsHeader p d c
        → ArgsThere vs d c [] c.vars es (fresh_with (normal_type sc (made_exact x)) sc).scope
        (fresh_with (normal_type sc (made_exact x)) sc).path [] s l)
        → (((d : Body) → IsConstructorBody p (bound sc x) d → ⊥) → (es ≡ []) × (l ≡ s))
        → ((d : Body) (c : Header) (C : Name) (P : Path) (j : ℕ) (shape : Shape) → IsConstructorBody p (bound sc x) d
        → IsHeader p d c → x.names ++ x.exact ≡ C ∷ P → MethodOf n C j shape → ctor ≡ ins.Ctor j ∷ []
        → IsShape c.vars c.result shape)
        → ClassCode n x cls → CtorCode n x (length es) ctor
        → Run it.instrs (cls ++ ins.New ∷ (ctor ++ dropping keeps 3)) l e
        → ExprGoes p i n m code it r hd vs sc keeps (expr pl (node.New t es)) y s e
    pub super : (vs : List Var) → ((v : Var) → Among vs v → v.path < scratch) → (sc : Scope) (keeps : Bool) (pl : Place) (t : Term) (f : Named) (e : Expr)
        (es : List Expr) (B : Path) (q kind k j : ℕ) (kinds : List ℕ) (shape : Shape) (s l o a u : ℕ) (y : Typed)
        → ExprIn body (expr pl (node.Super t f (e ∷ es))) → ScopeKnown p (at_vars p i n m code it r hd vs) sc
        → Gives p (expr_types (at_vars p i n m code it r hd vs) (expr pl (node.Super t f (e ∷ es))) sc) (Ok y)
        → ((z : Typed) → Gives p (expr_types (at_vars p i n m code it r hd vs) e sc) (Ok z)
        → ExprGoes p i n m code it r hd vs sc true e z s l)
        → scratch ≤ q → HasKind it q kind → Run it.instrs (tuck q) l o
        → SuperBound p (site_here (at_vars p i n m code it r hd vs)) t B
        → ((d : Body) (c : Header) (v : Var) (xs : List Var) (z : Typed) → IsBody p B f.name d → IsHeader p d c
        → c.vars ≡ v ∷ xs → Gives p (expr_types (at_vars p i n m code it r hd vs) e sc) (Ok z)
        → ArgsThere vs d c (v ∷ []) xs es (arg_passed (replaced_paths c.vars) (0 ∷ []) v z).scope 0
        ((arg_passed (replaced_paths c.vars) (0 ∷ []) v z).path ∷ []) o a)
        → ((d : Body) (c : Header) → IsBody p B f.name d → IsHeader p d c → IsShape c.vars c.result shape)
        → slice_get n.classes k ≡ Some B → MethodOf n f.name j shape → shape.params ≡ kind ∷ kinds
        → length kinds ≡ length es → Run it.instrs (ins.Cls k ∷ ins.Callat j ∷ dropping keeps shape.result) a u
        → ExprGoes p i n m code it r hd vs sc keeps (expr pl (node.Super t f (e ∷ es))) y s u
    pub bare_super : (vs : List Var) (sc : Scope) (keeps : Bool) (pl : Place) (t : Term) (f : Named) (B : Path)
        (k j : ℕ) (shape : Shape) (s u : ℕ) (y : Typed) → ExprIn body (expr pl (node.Super t f []))
        → ScopeKnown p (at_vars p i n m code it r hd vs) sc
        → Gives p (expr_types (at_vars p i n m code it r hd vs) (expr pl (node.Super t f [])) sc) (Ok y)
        → SuperBound p (site_here (at_vars p i n m code it r hd vs)) t B
        → ((d : Body) (c : Header) → IsBody p B f.name d → IsHeader p d c → IsShape c.vars c.result shape)
        → slice_get n.classes k ≡ Some B → MethodOf n f.name j shape → length shape.params ≡ 0
        → Run it.instrs (ins.Load 0 ∷ ins.Cls k ∷ ins.Callat j ∷ dropping keeps shape.result) s u
        → ExprGoes p i n m code it r hd vs sc keeps (expr pl (node.Super t f [])) y s u
    pub view : (vs : List Var) (sc : Scope) (pl : Place) (v : ViewTerm) (e : Expr) (x : Atom) (cls : List Instr)
        (s l t : ℕ) (y : Typed) → ExprIn body (expr pl (node.View v e))
        → ScopeKnown p (at_vars p i n m code it r hd vs) sc
        → Gives p (expr_types (at_vars p i n m code it r hd vs) (expr pl (node.View v e)) sc) (Ok y)
        → ((z : Typed) → Gives p (expr_types (at_vars p i n m code it r hd vs) e sc) (Ok z)
        → ExprGoes p i n m code it r hd vs sc true e z s l)
        → ViewIs p (site_here (at_vars p i n m code it r hd vs)) v x → ClassCode n x cls
        → Run it.instrs (cls ++ ins.Conv ∷ []) l t
        → ExprGoes p i n m code it r hd vs sc true (expr pl (node.View v e)) y s t
