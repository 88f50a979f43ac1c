-- What is known where an expression stands, and when its acts fit.
use Rattle.std.specs.Prelude.{◌≡◌, ◌≤◌, ◌⊎◌, ℕ, List, [], ◌∷◌, length, Bool, true, false, not, cond, ◌&&◌, Some, Ok}
use Rattle.jn_base.specs.declared.tree.Named.{Named}
use Rattle.jn_base.specs.declared.tree.Term.{Term}
use Rattle.jn_base.specs.declared.tree.ViewTerm.{ViewTerm}
use Rattle.jn_base.specs.declared.tree.Place.{Place}
use Rattle.jn_base.specs.declared.tree.Program.{Program}
use Rattle.jn_base.specs.declared.tree.Expr.{Expr}
use Rattle.jn_base.specs.declared.tree.Node.TheVariants as node
use Rattle.jn_base.specs.declared.names.Var.{Var}
use Rattle.jn_base.specs.Atoms.{Among}
use Rattle.jn_base.specs.Parts.{expr}
use Rattle.jn_base.specs.Resolve.{is_class}
use Rattle.jn_base.specs.Scopes.{Bind, Scope, Binds}
use Rattle.jn_base.specs.Members.{MethodAt}
use Rattle.jn_sem.specs.Acts.{Todo, expr_does}
use Rattle.jn_sem.specs.LawsOfSlots.{HeadNamed}
use Rattle.jn_laws.specs.LawsOfWritten.{Shallow, HeaderPath}
use Rattle.jn_laws.specs.LawsOfSources.{WellFormed}
use Rattle.jn_body_laws.specs.BodyForms.{ExprFormed, BodiesOf}
use Rattle.jn_rules.specs.Questions.{Gives}
use Rattle.jn_rules.specs.Exprs.{Here, Typed, expr_types}
use Rattle.jn_rules.specs.Stmts.{In, is_void}
use Rattle.jn_rules.specs.Verdict.{MembersPass}
use Rattle.jn_base.specs.Duplicates.{duplicates}
use Rattle.jn_rule_laws.specs.LawsOfForms.{TypeKnown, PathKnown}
use Rattle.jn_sound.specs.KnownScopes.{here_in, ScopeKnown}
use Rattle.jn_sound.specs.Takes.{Opd, opd}
use Rattle.jn_sound.specs.Fit.{Fits}

-- ---- where an expression stands

-- an expression's type fits the scope behind it, and its path is that of a value of the type
pub record ExprKnown (p : Program) (h : Here) (x : Typed) : Type 0 where
  pub scope : ScopeKnown p h x.scope
  pub type : TypeKnown x.scope x.ty
  pub path : (q : ℕ) → x.path ≡ Some q → PathKnown x.scope q x.ty
  pub class : (q : ℕ) → x.path ≡ Some q → is_class x.ty ≡ true
  -- the path is `this`, a `final` variable of class type, or a fresh one
  pub mentioned : (q : ℕ) → x.path ≡ Some q → HeaderPath h.vars q ⊎ (256 ≤ q)

-- ---- when the acts of an expression fit

-- the later scope has fresh paths more, the newest first
pub data Fresher : Scope → Scope → Type 0 where
  none : {s : Scope} → Fresher s s
  more : {s t : Scope} {b : Bind} → 256 ≤ b.path → Fresher s t → Fresher s (b ∷ t)

-- the paths of the operands below are in the scope
abbrev pub OpsBound : Scope → List Opd → Type 0
OpsBound s ops = (o : Opd) → Among ops o → (q : ℕ) → o.path ≡ Some q → Binds s q

-- From the scope s and the operands `before`, these acts lead to what was typed: whatever fits behind them fits with
-- them before it. A void value is never kept.
pub record GoesTo (p : Program) (b : In) (h : Here) (does : List Todo → List Todo) (s : Scope)
    (before : List Opd → List Opd) (t : Typed) : Type 0 where
  pub known : ExprKnown p h t
  pub grown : Fresher s t.scope
  pub fits : (k : List Todo) (ops : List Opd) → OpsBound s ops → is_void t.ty ≡ false
      → Fits p b k h.vars t.scope (opd t.ty t.path ∷ ops) → Fits p b (does k) h.vars s (before ops)

abbrev pub as_they_are : List Opd → List Opd
as_they_are ops = ops

-- the value of a call, where it is kept and is none of void
abbrev pub valued : Bool → Typed → List Opd → List Opd
valued keeps t ops = cond (keeps && not (is_void t.ty)) (opd t.ty t.path ∷ ops) ops

-- The same of a call, `new` or `super`, whose value is kept or not.
pub record CallGoes (p : Program) (b : In) (h : Here) (does : Bool → List Todo → List Todo) (s : Scope)
    (before : List Opd → List Opd) (t : Typed) : Type 0 where
  pub known : ExprKnown p h t
  pub grown : Fresher s t.scope
  pub fits : (keeps : Bool) (k : List Todo) (ops : List Opd) → OpsBound s ops → (is_void t.ty ≡ true → keeps ≡ false)
      → Fits p b k h.vars t.scope (valued keeps t ops) → Fits p b (does keeps k) h.vars s (before ops)

-- an expression whose value is kept, wherever it is typed
abbrev pub ExprFits : Program → In → Here → Expr → Type 0
ExprFits p b h e = (s : Scope) (t : Typed) → ScopeKnown p h s → Gives p (expr_types h e s) (Ok t)
    → GoesTo p b h (expr_does e true (length h.vars)) s as_they_are t

abbrev pub AllFit : Program → In → Here → List Expr → Type 0
AllFit p b h es = (e : Expr) → Among es e → ExprFits p b h e

-- a call, `new` or `super`, wherever it is typed
abbrev pub CallFits : Program → In → Here → Expr → Type 0
CallFits p b h e = (s : Scope) (t : Typed) → ScopeKnown p h s → Gives p (expr_types h e s) (Ok t)
    → CallGoes p b h (λ keeps. expr_does e keeps (length h.vars)) s as_they_are t

-- ---- `new`, `super` and `view`

-- each fits where its parts do, and names stand before the bracket of its term
pub record OtherForms (p : Program) (b : In) (h : Here) : Type 0 where
  pub new : (at : Place) (t : Term) (es : List Expr) → HeadNamed t.head → AllFit p b h es → CallFits p b h
      (expr at (node.New t es))
  pub super : (at : Place) (t : Term) (m : Named) (es : List Expr) → HeadNamed t.head → AllFit p b h es → CallFits p b h
      (expr at (node.Super t m es))
  pub view : (at : Place) (v : ViewTerm) (e : Expr) → HeadNamed v.term.head → ExprFits p b h e → ExprFits p b h
      (expr at (node.View v e))

-- ---- the law

-- What is known of a program within the limits whose headers and members pass.
pub record ProgramKnown (p : Program) : Type 0 where
  pub once : duplicates p ≡ []
  pub members : MembersPass p
  pub shallow : Shallow p
  pub well : WellFormed p
  pub bodies : BodiesOf p

-- EACH EXPRESSION THAT THE RULES ACCEPT FITS, in a body of such a program, where names stand before its brackets.
abbrev pub ExpressionsFit : Type 0
ExpressionsFit = (p : Program) (b : In) (vs : List Var) → ProgramKnown p
    → MethodAt p b.class b.method.name.name b.method → (e : Expr) → ExprFormed e → ExprFits p b (here_in b vs) e
