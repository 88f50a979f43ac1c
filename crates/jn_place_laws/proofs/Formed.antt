-- The expressions that stand in a formed body are formed; so what the rules accept of them is known.
use Rattle.std.proofs.Common.{◌≡◌, List, [], ◌∷◌, ◌++◌, map, Some, Option, ◌∙◌, subst}
use Rattle.std.proofs.lemmas.List.Elements.{Contains-append_left, Contains-append_right}
use Rattle.jn_base.specs.declared.tree.Term.{Term}
use Rattle.jn_base.specs.declared.tree.Expr.{Expr}
use Rattle.jn_base.specs.declared.tree.Node.{Node}
use Rattle.jn_base.specs.declared.tree.Node.TheVariants as node
use Rattle.jn_base.specs.declared.tree.Place.{Place}
use Rattle.jn_base.specs.declared.tree.Stmt.{Stmt}
use Rattle.jn_base.specs.declared.tree.Stmt.TheVariants as stmt
use Rattle.jn_base.specs.declared.tree.Program.{Program}
use Rattle.jn_base.specs.Forms.{Mentions, Mention, Viewed, Termed, all_of, of_view, of_type, of_node, of_expr, of_link, of_suffix, of_stmt}
use Rattle.jn_base.specs.Members.{MethodAt}
use Rattle.jn_base.specs.Parts.{expr}
use Rattle.jn_base.specs.Atoms.{Among}
use Rattle.jn_base.specs.declared.tree.Named.{Named}
use Rattle.jn_base.specs.declared.tree.ViewTerm.{ViewTerm}
use Rattle.jn_base.proofs.NameTests.{first as in_first}
use Rattle.jn_base.proofs.FormEquations.{of_args, at_new, at_super, at_post, at_inverse, at_negative, at_view, at_chain, at_expr, at_link, at_suffix, at_local, at_assign, at_set, at_do, at_if, at_while, at_return, at_print}
use Rattle.jn_sem.specs.LawsOfSlots.{HeadNamed}
use Rattle.jn_body_laws.specs.BodyForms.{TermsNamed, ExprFormed, StmtFormed}
use Rattle.jn_body_laws.proofs.ListedForms.{in_all}
use Rattle.jn_rules.specs.Stmts.{In}
use Rattle.jn_sound.specs.KnownScopes.{StandsIn}
use Rattle.jn_sound.specs.Tree.{ProgramKnown}
use Rattle.jn_sound.proofs.EachStmt.{all_fit}
use Rattle.jn_sound.proofs.FormedParts.{stands_formed}
use Rattle.jn_sound.specs.Stmts.{BodyKnown}
use Rattle.jn_sound.proofs.OtherExprs.{expressions_fit, calls_fit}
use Rattle.jn_place_laws.proofs.Parts.{ExprIn, of_local, of_assign, of_receiver, of_stored, of_do, of_if, of_while, of_return, of_print, in_not, in_neg, in_view, in_post, in_part, in_chain, in_link, in_new, in_super}
use Rattle.jn_place_laws.proofs.Premises.{TypingKnown}

-- what is named in the whole is named in its parts
left_part : (xs ys : Mentions) → TermsNamed (xs ++ ys) → TermsNamed xs
left_part xs ys all t c = all t (Contains-append_left xs ys (Termed t) c)

right_part : (xs ys : Mentions) → TermsNamed (xs ++ ys) → TermsNamed ys
right_part xs ys all t c = all t (Contains-append_right xs ys (Termed t) c)

behind_one : (x : Mention) (ys : Mentions) → TermsNamed (x ∷ ys) → TermsNamed ys
behind_one x ys all t c = all t (Contains-append_right (x ∷ []) ys (Termed t) c)

one_of_all : {A : Type 0} (f : A → Mentions) (xs : List A) (x : A) → TermsNamed (all_of (map f xs)) → Among xs x
    → TermsNamed (f x)
one_of_all f xs x all m t c = all t (in_all f xs x (Termed t) m c)

-- the node of a formed expression
of_its_node : (at : Place) (m : Node) (xs : Mentions) → of_node m ≡ xs → ExprFormed (expr at m) → TermsNamed xs
of_its_node at m xs is f = subst TermsNamed (at_expr (expr at m) ∙ is) f

-- names stand before the bracket of the term of a `new`, a `super` or a view
pub new_named : (at : Place) (t : Term) (es : List Expr) → ExprFormed (expr at (node.New t es)) → HeadNamed t.head
new_named at t es f =
    of_its_node at (node.New t es) (Termed t ∷ all_of (map of_expr es)) (at_new t es) f t (in_first (Termed t) _)

pub super_named : (at : Place) (t : Term) (x : Named) (es : List Expr) → ExprFormed (expr at (node.Super t x es))
    → HeadNamed t.head
super_named at t x es f =
    of_its_node at (node.Super t x es) (Termed t ∷ all_of (map of_expr es)) (at_super t x es) f t
    (in_first (Termed t) _)

pub view_named : (at : Place) (v : ViewTerm) (e : Expr) → ExprFormed (expr at (node.View v e)) → HeadNamed v.term.head
view_named at v e f =
    left_part (of_view v) (of_expr e) (behind_one Viewed (of_view v ++ of_expr e)
    (of_its_node at (node.View v e) (Viewed ∷ (of_view v ++ of_expr e)) (at_view v e) f)) v.term
    (in_first (Termed v.term) _)

module _ (p : Program) (body : List Stmt) (formed : (s : Stmt) → StandsIn body s → StmtFormed p s) where
  terms_of : (s : Stmt) (xs : Mentions) → StandsIn body s → of_stmt s ≡ xs → TermsNamed xs
  terms_of s xs i e = subst TermsNamed e (formed s i).terms

  pub expr_formed : (e : Expr) → ExprIn body e → ExprFormed e
  expr_formed e (of_local final t x _ i) = right_part (of_type t) (of_expr e)
      (terms_of (stmt.Local final t x e) _ i (at_local final t x e))
  expr_formed e (of_assign x _ i) = terms_of (stmt.Assign x e) _ i (at_assign x e)
  expr_formed r (of_receiver _ f e i) = left_part (of_expr r) (of_expr e) (terms_of (stmt.Set r f e) _ i (at_set r f e))
  expr_formed e (of_stored r f _ i) = right_part (of_expr r) (of_expr e) (terms_of (stmt.Set r f e) _ i (at_set r f e))
  expr_formed e (of_do _ i) = terms_of (stmt.Do e) _ i (at_do e)
  expr_formed e (of_if _ one other at i) = left_part (of_expr e) (all_of (map of_stmt one) ++ all_of (map of_stmt other))
      (terms_of (stmt.If e one other at) _ i (at_if e one other at))
  expr_formed e (of_while _ ss at i) = left_part (of_expr e) (all_of (map of_stmt ss))
      (terms_of (stmt.While e ss at) _ i (at_while e ss at))
  expr_formed e (of_return _ at i) = terms_of (stmt.Return (Some e) at) _ i (at_return (Some e) at)
  expr_formed e (of_print _ at i) = terms_of (stmt.Print e at) _ i (at_print e at)
  expr_formed e (in_not at _ i) = of_its_node at (node.Not e) _ (at_inverse e) (expr_formed (expr at (node.Not e)) i)
  expr_formed e (in_neg at _ i) = of_its_node at (node.Neg e) _ (at_negative e) (expr_formed (expr at (node.Neg e)) i)
  expr_formed e (in_view at v _ i) = right_part (of_view v) (of_expr e) (behind_one Viewed (of_view v ++ of_expr e)
      (of_its_node at (node.View v e) (Viewed ∷ (of_view v ++ of_expr e)) (at_view v e) (expr_formed (expr at (node.View v e)) i)))
  expr_formed e (in_post at _ xs i) = left_part (of_expr e) (all_of (map of_suffix xs))
      (of_its_node at (node.Post e xs) _ (at_post e xs) (expr_formed (expr at (node.Post e xs)) i))
  expr_formed a (in_part at e xs x es _ i m is n) =
      one_of_all of_expr es a (subst (λ (o : Option (List Expr)). TermsNamed (of_args o)) is
      (subst TermsNamed (at_suffix x)
      (one_of_all of_suffix xs x (right_part (of_expr e) (all_of (map of_suffix xs))
      (of_its_node at (node.Post e xs) _ (at_post e xs) (expr_formed (expr at (node.Post e xs)) i))) m))) n
  expr_formed e (in_chain at level _ ls i) = left_part (of_expr e) (all_of (map of_link ls))
      (of_its_node at (node.Chain level e ls) _ (at_chain level e ls) (expr_formed (expr at (node.Chain level e ls)) i))
  expr_formed _ (in_link at level e ls l i m) = subst TermsNamed (at_link l)
      (one_of_all of_link ls l (right_part (of_expr e) (all_of (map of_link ls))
      (of_its_node at (node.Chain level e ls) _ (at_chain level e ls)
      (expr_formed (expr at (node.Chain level e ls)) i))) m)
  expr_formed a (in_new at t es _ i m) = one_of_all of_expr es a (behind_one (Termed t) (all_of (map of_expr es))
      (of_its_node at (node.New t es) (Termed t ∷ all_of (map of_expr es)) (at_new t es) (expr_formed (expr at (node.New t es)) i))) m
  expr_formed a (in_super at t x es _ i m) = one_of_all of_expr es a (behind_one (Termed t) (all_of (map of_expr es))
      (of_its_node at (node.Super t x es) (Termed t ∷ all_of (map of_expr es)) (at_super t x es) (expr_formed (expr at (node.Super t x es)) i))) m

pub body_known : (p : Program) (b : In) → ProgramKnown p → MethodAt p b.class b.method.name.name b.method → BodyKnown p b
body_known p b its method = record {
  shallow = its.shallow;
  well = its.well;
  method = method;
  formed = stands_formed p b.method.body (its.bodies.formed b.class b.method.name.name b.method method);
  exprs = λ vs e. expressions_fit p b vs its method e;
  calls = λ vs e. calls_fit p b vs its e;
}

-- WHAT THE RULES' TYPING GIVES, in a body of a program within the limits
pub typing_known : (p : Program) (b : In) → ProgramKnown p → MethodAt p b.class b.method.name.name b.method
    → TypingKnown p b b.method.body
typing_known p b its method = record {
  exprs = λ vs e s t inn good g.
      let k = known.exprs vs e (expr_formed p b.method.body known.formed e inn) s t good g in (k.known, k.grown);
  stmts = λ s x y i known_x few g. (all_fit p b known s x y known_x few i g).known;
} where
  known : BodyKnown p b
  known = body_known p b its method
