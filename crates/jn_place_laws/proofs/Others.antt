-- `new`, `super` and views go where their parts do, in a body of a program within the limits that is accepted.
use Rattle.std.proofs.Common.{◌≡◌, ◌≤◌, ◌<◌, ℕ, List, [], ◌∷◌, ◌++◌, Some, true, arith}
use Rattle.std.specs.Prelude.{slice_get, Ok}
use Rattle.std.proofs.lemmas.Option.{slice_get_within}
use Rattle.jn_base.specs.declared.tree.Stmt.{Stmt}
use Rattle.jn_base.specs.declared.tree.Expr.{Expr}
use Rattle.jn_base.specs.declared.tree.Node.TheVariants as node
use Rattle.jn_base.specs.declared.tree.Program.{Program}
use Rattle.jn_base.specs.declared.names.Var.{Var}
use Rattle.jn_base.specs.Parts.{expr}
use Rattle.jn_base.specs.Atoms.{Among, first}
use Rattle.jn_base.specs.Scopes.{Scope}
use Rattle.jn_code.specs.declared.image.Image.{Image}
use Rattle.jn_code.specs.declared.image.Code.{Code}
use Rattle.jn_sem.specs.State.{Frame}
use Rattle.jn_laws.specs.LawsOfSources.{KeepsLimits}
use Rattle.jn_body_laws.specs.BodyForms.{StmtFormed}
use Rattle.jn_rules.specs.Headers.{Header}
use Rattle.jn_rules.specs.Questions.{Gives}
use Rattle.jn_rules.specs.Exprs.{Typed, expr_types}
use Rattle.jn_sound.specs.KnownScopes.{ScopeKnown, StandsIn}
use Rattle.jn_sound.proofs.Laws.{Laws}
use Rattle.jn_sound.specs.Tree.{ExprKnown, Fresher, ProgramKnown}
use Rattle.jn_agree.specs.Naming.{Naming}
use Rattle.jn_agree.specs.Rows.{RowsAre}
use Rattle.jn_agree.specs.Places.{HasKind}
use Rattle.jn_node_laws.specs.Facts.{FewNumbers, ScratchLocal}
use Rattle.jn_node_laws.specs.LawsOfLaidNodes.{LaidNodesOf}
use Rattle.jn_place_laws.specs.Contexts.{Context, Stood, known, in_body, site_at}
use Rattle.jn_place_laws.specs.LawsOfContexts.{ActsLead, FactsHold}
use Rattle.jn_place_laws.proofs.Parts.{ExprIn, in_super, in_view}
use Rattle.jn_place_laws.proofs.Going.{ExprGoes, at_vars}
use Rattle.jn_place_laws.proofs.Premises.{TypingKnown, OtherForms}
use Rattle.jn_place_laws.proofs.Formed.{expr_formed, new_named, super_named, view_named}
use Rattle.jn_place_laws.proofs.SuperTerms.{super_is_typed}
use Rattle.jn_place_laws.proofs.Supers.{bare_super_goes, super_goes}
use Rattle.jn_place_laws.proofs.Views.{view_goes}
use Rattle.jn_place_laws.proofs.NewTerms.{new_is_typed, new_there}
use Rattle.jn_place_laws.proofs.News.{new_goes}

-- a local above those of the variables in scope is free for `this`
free_local : (it : Code) (r : Frame) (hd : Header) (vs : List Var) (scratch q kind : ℕ) → 0 < scratch
    → ((v : Var) → Among vs v → v.path < scratch) → scratch ≤ q → HasKind it q kind → ScratchLocal it (site_at r hd vs) q
free_local it r hd vs scratch q kind some older le has = record {
  room = slice_get_within (it.params ++ it.locals) q kind has;
  not_this = λ e. omega (arith, some, le, e);
  free = λ y a e. let l = older y a in omega (arith, l, le, e);
}

module _ (p : Program) (its : ProgramKnown p) (laws : Laws p) (limits : KeepsLimits p) (i : Image) (n : Naming)
    (rows : RowsAre p i n) (few : FewNumbers n) (m : ℕ) (high : m < 4294967296) (code : ℕ) (it : Code)
    (there : slice_get i.codes code ≡ Some it) (r : Frame) (hd : Header)
    (laid : LaidNodesOf p i n m (known p) Context (Stood p r hd) code it r) (leads : ActsLead p i n m code it r hd)
    (facts : (vs : List Var) (s : Scope) → FactsHold p i n m code it r hd vs s) (scratch : ℕ) (some : 0 < scratch)
    (body : List Stmt) (formed : (s : Stmt) → StandsIn body s → StmtFormed p s) (tk : TypingKnown p (in_body r hd) body)
  where
    -- an expression that goes, with what is known of it
    had : (vs : List Var) (sc : Scope) (e : Expr) (s l : ℕ) → ExprIn body e
        → ScopeKnown p (at_vars p i n m code it r hd vs) sc
        → ((z : Typed) → Gives p (expr_types (at_vars p i n m code it r hd vs) e sc) (Ok z)
        → ExprGoes p i n m code it r hd vs sc true e z s l)
        → (z : Typed) → Gives p (expr_types (at_vars p i n m code it r hd vs) e sc) (Ok z)
        → ExprKnown p (at_vars p i n m code it r hd vs) z × Fresher sc z.scope
        × ExprGoes p i n m code it r hd vs sc true e z s l
    had vs sc e s l inn good one z g = let k = tk.exprs vs e sc z inn good g in (k.0, k.1, one z g)

    pub other_forms : OtherForms p i n m code it r hd scratch body
    other_forms = record {
      new = λ vs sc keeps pl t es x cls ctor s l e y inn good g term args none shapes class ctors runs.
          new_goes p its laws limits i n rows few m high code it there r hd laid leads vs sc good t x
          (new_there p (in_body r hd) vs its sc good t
          (new_named pl t es (expr_formed p body formed (expr pl (node.New t es)) inn)) x term) es y s l e keeps pl cls ctor
          (new_is_typed p (at_vars p i n m code it r hd vs) pl sc t x es y term g)
          (λ d c passed is head split long there2 deep put given.
          args d c is head passed split long there2 deep put given) none shapes class ctors runs;
      super = λ vs older sc keeps pl t f e es C q kind k j kinds shape s l o a u y inn good g one le has tucks bound args
          shapes class sel params many runs.
          super_goes p its laws i n m code it there r hd laid leads vs (facts vs) sc good t f e es y
          (super_named pl t f (e ∷ es) (expr_formed p body formed (expr pl (node.Super t f (e ∷ es))) inn))
          (super_is_typed p (at_vars p i n m code it r hd vs) pl sc t f (e ∷ es) y g) keeps pl C q kind k j kinds shape s l o
          a u (had vs sc e s l (in_super pl t f (e ∷ es) e inn first) good one)
          (free_local it r hd vs scratch q kind some older le has) tucks bound
          (λ d c v xs z is head split gz passed split2 long there2 deep put given.
          args d c v xs z is head split gz passed split2 long there2 deep put given) shapes class sel params many runs;
      bare_super = λ vs sc keeps pl t f C k j shape s u y inn good g bound shapes class sel none runs.
          bare_super_goes p its laws i n m code it there r hd laid leads vs (facts vs) sc good t f y
          (super_named pl t f [] (expr_formed p body formed (expr pl (node.Super t f [])) inn))
          (super_is_typed p (at_vars p i n m code it r hd vs) pl sc t f [] y g) keeps pl C k j shape s u bound shapes class
          sel none runs;
      view = λ vs sc pl v e x cls s l t y inn good g one is class runs.
          view_goes p its limits i n rows few m code it there r hd laid leads vs pl v e sc x cls s l t y
          (view_named pl v e (expr_formed p body formed (expr pl (node.View v e)) inn)) g
          (had vs sc e s l (in_view pl v e inn) good one) is class runs;
    }
