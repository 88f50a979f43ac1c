-- The statements in the blocks of a statement have its forms, and so each that stands in a body has the body's.
use Rattle.std.proofs.Common.{◌≡◌, List, ◌++◌, map, sym, subst, Contains}
use Rattle.std.proofs.lemmas.List.Elements.{Contains-append_left, Contains-append_right}
use Rattle.jn_base.specs.declared.tree.Place.{Place}
use Rattle.jn_base.specs.declared.tree.Expr.{Expr}
use Rattle.jn_base.specs.declared.tree.Stmt.{Stmt}
use Rattle.jn_base.specs.declared.tree.Stmt.TheVariants as stmt
use Rattle.jn_base.specs.declared.tree.Program.{Program}
use Rattle.jn_base.specs.Forms.{Termed, all_of, of_expr, of_stmt}
use Rattle.jn_base.proofs.FormEquations.{at_block, at_if, at_while}
use Rattle.jn_laws.specs.LawsOfBodies.{local_types}
use Rattle.jn_body_laws.specs.BodyForms.{uses, StmtFormed, StmtsFormed}
use Rattle.jn_body_laws.proofs.ListedForms.{in_all, uses_rolled}
use Rattle.jn_sound.specs.KnownScopes.{StandsIn, itself, in_block, in_first, in_second, in_loop}
use Rattle.jn_sound.proofs.LocalsFit.{locals_rolled}

-- what is mentioned in a part is mentioned in the whole
carried : {A : Type 0} (xs ys : List A) (x : A) → xs ≡ ys → Contains ys x → Contains xs x
carried xs ys x e c = subst (λ (zs : List _). Contains zs x) (sym e) c

module _ (p : Program) where
  block_parts : (ss : List Stmt) → StmtFormed p (stmt.Block ss) → StmtsFormed p ss
  block_parts ss f s m = record {
    terms = λ t c. f.terms t (carried _ _ (Termed t) (at_block ss) (in_all of_stmt ss s (Termed t) m c));
    locals = λ t c. f.locals t (carried _ _ t (locals_rolled _ _ (stmt.rolls-Block ss))
        (in_all local_types ss s t m c));
    forms = λ u c. f.forms u (carried _ _ u (uses_rolled _ _ (stmt.rolls-Block ss)) (in_all uses ss s u m c));
  }

  first_parts : (e : Expr) (one other : List Stmt) (at : Place) → StmtFormed p (stmt.If e one other at)
      → StmtsFormed p one
  first_parts e one other at f s m = record {
    terms = λ t c. f.terms t (carried _ _ (Termed t) (at_if e one other at)
        (Contains-append_right (of_expr e) (all_of (map of_stmt one) ++ all_of (map of_stmt other)) (Termed t)
        (Contains-append_left (all_of (map of_stmt one)) (all_of (map of_stmt other)) (Termed t)
        (in_all of_stmt one s (Termed t) m c))));
    locals = λ t c. f.locals t (carried _ _ t (locals_rolled _ _ (stmt.rolls-If e one other at))
        (Contains-append_left (all_of (map local_types one)) (all_of (map local_types other)) t
        (in_all local_types one s t m c)));
    forms = λ u c. f.forms u (carried _ _ u (uses_rolled _ _ (stmt.rolls-If e one other at))
        (Contains-append_left (all_of (map uses one)) (all_of (map uses other)) u (in_all uses one s u m c)));
  }

  second_parts : (e : Expr) (one other : List Stmt) (at : Place) → StmtFormed p (stmt.If e one other at)
      → StmtsFormed p other
  second_parts e one other at f s m = record {
    terms = λ t c. f.terms t (carried _ _ (Termed t) (at_if e one other at)
        (Contains-append_right (of_expr e) (all_of (map of_stmt one) ++ all_of (map of_stmt other)) (Termed t)
        (Contains-append_right (all_of (map of_stmt one)) (all_of (map of_stmt other)) (Termed t)
        (in_all of_stmt other s (Termed t) m c))));
    locals = λ t c. f.locals t (carried _ _ t (locals_rolled _ _ (stmt.rolls-If e one other at))
        (Contains-append_right (all_of (map local_types one)) (all_of (map local_types other)) t
        (in_all local_types other s t m c)));
    forms = λ u c. f.forms u (carried _ _ u (uses_rolled _ _ (stmt.rolls-If e one other at))
        (Contains-append_right (all_of (map uses one)) (all_of (map uses other)) u (in_all uses other s u m c)));
  }

  loop_parts : (e : Expr) (body : List Stmt) (at : Place) → StmtFormed p (stmt.While e body at) → StmtsFormed p body
  loop_parts e body at f s m = record {
    terms = λ t c. f.terms t (carried _ _ (Termed t) (at_while e body at)
        (Contains-append_right (of_expr e) (all_of (map of_stmt body)) (Termed t)
        (in_all of_stmt body s (Termed t) m c)));
    locals = λ t c. f.locals t (carried _ _ t (locals_rolled _ _ (stmt.rolls-While e body at))
        (in_all local_types body s t m c));
    forms = λ u c. f.forms u (carried _ _ u (uses_rolled _ _ (stmt.rolls-While e body at)) (in_all uses body s u m c));
  }

  -- each statement that stands in a formed body is formed
  pub stands_formed : (body : List Stmt) → StmtsFormed p body → (s : Stmt) → StandsIn body s → StmtFormed p s
  stands_formed body all s (itself m) = all s m
  stands_formed body all s (in_block ss i m) = block_parts ss (stands_formed body all (stmt.Block ss) i) s m
  stands_formed body all s (in_first e one other at i m) =
      first_parts e one other at (stands_formed body all (stmt.If e one other at) i) s m
  stands_formed body all s (in_second e one other at i m) =
      second_parts e one other at (stands_formed body all (stmt.If e one other at) i) s m
  stands_formed body all s (in_loop e ss at i m) =
      loop_parts e ss at (stands_formed body all (stmt.While e ss at) i) s m
