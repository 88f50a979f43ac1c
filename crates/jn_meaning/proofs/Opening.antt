-- What is put in the place of an expression or a statement is what it has to do.
use Rattle.std.proofs.Common.{◌≡◌, ◌≢◌, ℕ, suc, List, ◌∷◌, length, Option, Some, None, Bool, refl, sym, ap, ◌∙◌}
use Rattle.std.specs.Prelude.{ℤ}
use Rattle.jn_base.specs.declared.tree.Name.{Name}
use Rattle.jn_base.specs.declared.tree.Named.{Named}
use Rattle.jn_base.specs.declared.tree.Place.{Place}
use Rattle.jn_base.specs.declared.tree.Term.{Term}
use Rattle.jn_base.specs.declared.tree.ViewTerm.{ViewTerm}
use Rattle.jn_base.specs.declared.tree.TypeTerm.{TypeTerm}
use Rattle.jn_base.specs.declared.tree.Level.{Level}
use Rattle.jn_base.specs.declared.tree.Op.{Op}
use Rattle.jn_base.specs.declared.tree.Op.TheVariants as op
use Rattle.jn_base.specs.declared.tree.Node.{Node}
use Rattle.jn_base.specs.declared.tree.Node.TheVariants as node
use Rattle.jn_base.specs.declared.tree.Expr.{Expr}
use Rattle.jn_base.specs.declared.tree.Link.{Link}
use Rattle.jn_base.specs.declared.tree.Suffix.{Suffix}
use Rattle.jn_base.specs.declared.tree.Stmt.{Stmt}
use Rattle.jn_base.specs.declared.tree.Stmt.TheVariants as stmt
use Rattle.jn_base.specs.Parts.{expr}
use Rattle.jn_sem.specs.Values.{Number, Truth, Null}
use Rattle.jn_sem.specs.Acts.{Act, Push, Read, This, Invert, Negate, Operate, Make, Super, View, Bind, Assign, Put, Choose, Repeat, Print, PrintText, Todo, todo, expr_does, acts, call_acts, stmts_acts, path_behind, return_does}
use Rattle.jn_sem.specs.LawsOfActs.{args_acts, link_acts, links_acts, parts_acts, ExprActs, StmtActs}
use Rattle.jn_sem.proofs.ActLaws.{acts_are}

-- ---- expressions

-- an act behind its operands, of which there are m
with_args : (n : ℕ) (es ss : List Expr) (m : ℕ) (a : ℕ → Act) (k : List Todo) → ss ≡ es → m ≡ length ss
    → args_acts n ss (todo n (a m) ∷ k) ≡ args_acts n es (todo n (a (length es)) ∷ k)
with_args n es ss m a k e l =
    ap (λ (i : ℕ). args_acts n ss (todo n (a i) ∷ k)) l ∙ ap (λ (xs : List Expr). args_acts n xs (todo n (a (length xs)) ∷ k)) e

module _ (e : Expr) (keeps : Bool) (n : ℕ) (k : List Todo) where
  of_node : (x : Node) → e.node ≡ x → expr_does (expr e.at x) keeps n k ≡ expr_does e keeps n k
  of_node x h = ap (λ (y : Node). expr_does (expr e.at y) keeps n k) (sym h)

  laws : ExprActs e.at keeps n k
  laws = acts_are.exprs e.at keeps n k

  pub is_number : (z y : ℤ) (w : List Todo) → e.node ≡ node.Int z → y ≡ z → w ≡ todo n (Push (Number y)) ∷ k → w ≡ expr_does e keeps n k
  is_number z y w h s p = p ∙ ap (λ (x : ℤ). todo n (Push (Number x)) ∷ k) s ∙ sym (laws.number z) ∙ of_node _ h

  pub is_truth : (b : Bool) (w : List Todo) → e.node ≡ node.Bool b → w ≡ todo n (Push (Truth b)) ∷ k → w ≡ expr_does e keeps n k
  is_truth b w h p = p ∙ sym (laws.truth b) ∙ of_node _ h

  pub is_null : (w : List Todo) → e.node ≡ node.Null → w ≡ todo n (Push Null) ∷ k → w ≡ expr_does e keeps n k
  is_null w h p = p ∙ sym laws.null ∙ of_node _ h

  pub is_this : (w : List Todo) → e.node ≡ node.This → w ≡ todo n This ∷ k → w ≡ expr_does e keeps n k
  is_this w h p = p ∙ sym laws.this ∙ of_node _ h

  pub is_var : (x : Name) (w : List Todo) → e.node ≡ node.Var x → w ≡ todo n (Read x) ∷ k → w ≡ expr_does e keeps n k
  is_var x w h p = p ∙ sym (laws.var x) ∙ of_node _ h

  pub is_new : (t : Term) (es ss : List Expr) (m : ℕ) (w : List Todo) → e.node ≡ node.New t es → ss ≡ es → m ≡ length ss
      → w ≡ args_acts n ss (todo n (Make t m keeps) ∷ k) → w ≡ expr_does e keeps n k
  is_new t es ss m w h s l p = p ∙ with_args n es ss m (λ (i : ℕ). Make t i keeps) k s l ∙ sym (laws.new t es) ∙ of_node _ h

  pub is_super : (t : Term) (x : Named) (es ss : List Expr) (m : ℕ) (w : List Todo) → e.node ≡ node.Super t x es → ss ≡ es → m ≡ length ss
      → w ≡ args_acts n ss (todo n (Super t x.name m keeps) ∷ k) → w ≡ expr_does e keeps n k
  is_super t x es ss m w h s l p = p ∙ with_args n es ss m (λ (i : ℕ). Super t x.name i keeps) k s l ∙ sym (laws.super t x es) ∙ of_node _ h

  pub is_post : (f g : Expr) (ss rs : List Suffix) (w : List Todo) → e.node ≡ node.Post f ss → g ≡ f → rs ≡ ss
      → w ≡ acts n g (parts_acts rs keeps n k) → w ≡ expr_does e keeps n k
  is_post f g ss rs w h s l p =
      p ∙ ap (λ (x : Expr). acts n x (parts_acts rs keeps n k)) s ∙ ap (λ (xs : List Suffix). acts n f (parts_acts xs keeps n k)) l
      ∙ sym (laws.post f ss) ∙ of_node _ h

  pub is_not : (f g : Expr) (w : List Todo) → e.node ≡ node.Not f → g ≡ f → w ≡ acts n g (todo n Invert ∷ k) → w ≡ expr_does e keeps n k
  is_not f g w h s p = p ∙ ap (λ (x : Expr). acts n x (todo n Invert ∷ k)) s ∙ sym (laws.invert f) ∙ of_node _ h

  pub is_neg : (f g : Expr) (w : List Todo) → e.node ≡ node.Neg f → g ≡ f → w ≡ acts n g (todo n Negate ∷ k) → w ≡ expr_does e keeps n k
  is_neg f g w h s p = p ∙ ap (λ (x : Expr). acts n x (todo n Negate ∷ k)) s ∙ sym (laws.negate f) ∙ of_node _ h

  pub is_view : (v : ViewTerm) (f g : Expr) (w : List Todo) → e.node ≡ node.View v f → g ≡ f → w ≡ acts n g (todo n (View v) ∷ k) → w ≡ expr_does e keeps n k
  is_view v f g w h s p = p ∙ ap (λ (x : Expr). acts n x (todo n (View v) ∷ k)) s ∙ sym (laws.view v f) ∙ of_node _ h

  pub is_chain : (level : Level) (f g : Expr) (ls rs : List Link) (w : List Todo) → e.node ≡ node.Chain level f ls → g ≡ f → rs ≡ ls
      → w ≡ acts n g (links_acts n rs k) → w ≡ expr_does e keeps n k
  is_chain level f g ls rs w h s l p =
      p ∙ ap (λ (x : Expr). acts n x (links_acts n rs k)) s ∙ ap (λ (xs : List Link). acts n f (links_acts n xs k)) l
      ∙ sym (laws.chain level f ls) ∙ of_node _ h

-- an operator other than `&&` and `||` acts behind its right operand
pub is_operator : (o : Op) (e : Expr) (n : ℕ) (k w : List Todo) → o ≢ op.And → o ≢ op.Or → w ≡ acts n e (todo n (Operate o) ∷ k) → w ≡ link_acts o e n k
is_operator op.And e n k w a b p = absurd (a refl)
is_operator op.Or e n k w a b p = absurd (b refl)
is_operator op.Eq e n k w a b p = p
is_operator op.Ne e n k w a b p = p
is_operator op.Lt e n k w a b p = p
is_operator op.Le e n k w a b p = p
is_operator op.Gt e n k w a b p = p
is_operator op.Ge e n k w a b p = p
is_operator op.Add e n k w a b p = p
is_operator op.Sub e n k w a b p = p
is_operator op.Mul e n k w a b p = p
is_operator op.Div e n k w a b p = p
is_operator op.Rem e n k w a b p = p

-- ---- statements

module _ (n path : ℕ) (ss : List Stmt) (k : List Todo) (s : Stmt) where
  of_stmt : (x : Stmt) → s ≡ x → stmts_acts n path (x ∷ ss) k ≡ stmts_acts n path (s ∷ ss) k
  of_stmt x h = ap (λ (y : Stmt). stmts_acts n path (y ∷ ss) k) (sym h)

  rules : StmtActs n path ss k
  rules = acts_are.stmts n path ss k

  pub is_block : (body bs : List Stmt) (w : List Todo) → s ≡ stmt.Block body → bs ≡ body
      → w ≡ stmts_acts n path bs (stmts_acts n (path_behind bs path) ss k) → w ≡ stmts_acts n path (s ∷ ss) k
  is_block body bs w h e p =
      p ∙ ap (λ (xs : List Stmt). stmts_acts n path xs (stmts_acts n (path_behind xs path) ss k)) e ∙ sym (rules.block body) ∙ of_stmt _ h

  pub is_local : (fixed : Bool) (t : TypeTerm) (x : Named) (e : Expr) (w : List Todo) → s ≡ stmt.Local fixed t x e
      → w ≡ acts n e (todo n (Bind fixed t x.name path) ∷ stmts_acts (suc n) (suc path) ss k) → w ≡ stmts_acts n path (s ∷ ss) k
  is_local fixed t x e w h p = p ∙ sym (rules.local fixed t x e) ∙ of_stmt _ h

  pub is_assign : (x : Named) (e : Expr) (w : List Todo) → s ≡ stmt.Assign x e
      → w ≡ acts n e (todo n (Assign x.name) ∷ stmts_acts n path ss k) → w ≡ stmts_acts n path (s ∷ ss) k
  is_assign x e w h p = p ∙ sym (rules.assign x e) ∙ of_stmt _ h

  pub is_set : (r : Expr) (x : Named) (e : Expr) (w : List Todo) → s ≡ stmt.Set r x e
      → w ≡ acts n r (acts n e (todo n (Put x.name) ∷ stmts_acts n path ss k)) → w ≡ stmts_acts n path (s ∷ ss) k
  is_set r x e w h p = p ∙ sym (rules.set r x e) ∙ of_stmt _ h

  pub is_call : (e : Expr) (w : List Todo) → s ≡ stmt.Do e → w ≡ call_acts n e (stmts_acts n path ss k) → w ≡ stmts_acts n path (s ∷ ss) k
  is_call e w h p = p ∙ sym (rules.call e) ∙ of_stmt _ h

  pub is_choice : (e : Expr) (one a other b : List Stmt) (at : Place) (w : List Todo) → s ≡ stmt.If e one other at → a ≡ one → b ≡ other
      → w ≡ acts n e (todo n (Choose path a b) ∷ stmts_acts n (path_behind b (path_behind a path)) ss k) → w ≡ stmts_acts n path (s ∷ ss) k
  is_choice e one a other b at w h f g p =
      p ∙ ap (λ (x : List Stmt). acts n e (todo n (Choose path x b) ∷ stmts_acts n (path_behind b (path_behind x path)) ss k)) f
      ∙ ap (λ (x : List Stmt). acts n e (todo n (Choose path one x) ∷ stmts_acts n (path_behind x (path_behind one path)) ss k)) g
      ∙ sym (rules.choice e one other at) ∙ of_stmt _ h

  pub is_loop : (e : Expr) (body b : List Stmt) (at : Place) (w : List Todo) → s ≡ stmt.While e body at → b ≡ body
      → w ≡ acts n e (todo n (Repeat path e b) ∷ stmts_acts n (path_behind b path) ss k) → w ≡ stmts_acts n path (s ∷ ss) k
  is_loop e body b at w h f p =
      p ∙ ap (λ (x : List Stmt). acts n e (todo n (Repeat path e x) ∷ stmts_acts n (path_behind x path) ss k)) f
      ∙ sym (rules.loop e body at) ∙ of_stmt _ h

  at_return : (e : Option Expr) (at : Place) → return_does e n (stmts_acts n path ss k) ≡ stmts_acts n path (stmt.Return e at ∷ ss) k
  at_return None at = sym (rules.returns_none at)
  at_return (Some e) at = sym (rules.returns e at)

  pub is_return : (e : Option Expr) (at : Place) (w : List Todo) → s ≡ stmt.Return e at → w ≡ return_does e n (stmts_acts n path ss k)
      → w ≡ stmts_acts n path (s ∷ ss) k
  is_return e at w h p = p ∙ at_return e at ∙ of_stmt _ h

  pub is_print : (e : Expr) (at : Place) (w : List Todo) → s ≡ stmt.Print e at
      → w ≡ acts n e (todo n Print ∷ stmts_acts n path ss k) → w ≡ stmts_acts n path (s ∷ ss) k
  is_print e at w h p = p ∙ sym (rules.prints e at) ∙ of_stmt _ h

  pub is_print_text : (t : ℕ) (at : Place) (w : List Todo) → s ≡ stmt.PrintText t at
      → w ≡ todo n (PrintText t) ∷ stmts_acts n path ss k → w ≡ stmts_acts n path (s ∷ ss) k
  is_print_text t at w h p = p ∙ sym (rules.prints_text t at) ∙ of_stmt _ h
