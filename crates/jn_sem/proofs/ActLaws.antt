-- What each form has to do.
use Rattle.std.proofs.Common.{◌≡◌, ℕ, suc, List, [], ◌∷◌, length, map, Option, Some, None, Bool, true, refl, sym, ap, ◌∙◌}
use Rattle.jn_base.specs.declared.tree.Named.{Named}
use Rattle.jn_base.specs.declared.tree.Place.{Place}
use Rattle.jn_base.specs.declared.tree.Op.{Op}
use Rattle.jn_base.specs.declared.tree.Op.TheVariants as op
use Rattle.jn_base.specs.declared.tree.Expr.{Expr}
use Rattle.jn_base.specs.declared.tree.Link.{Link}
use Rattle.jn_base.specs.declared.tree.Suffix.{Suffix, out-Suffix, roll-out-Suffix}
use Rattle.jn_base.specs.declared.tree.Node.{Node, roll-Node}
use Rattle.jn_base.specs.declared.tree.Node.TheOpen.{Node-F}
use Rattle.jn_base.specs.declared.tree.Stmt.{Stmt, roll-Stmt}
use Rattle.jn_base.specs.declared.tree.Stmt.TheOpen.{Stmt-F}
use Rattle.jn_base.specs.declared.tree.Stmt.TheFolds.{para-roll-Stmt, map-Stmt}
use Rattle.jn_base.specs.declared.tree.Node.TheFolds.{para-roll-Expr, para-roll-Node, para-roll-Link, para-roll-Suffix, map-Node, map-Suffix}
use Rattle.jn_base.specs.declared.tree.Node.TheVariants as node
use Rattle.jn_base.specs.declared.tree.Stmt.TheVariants as stmt
use Rattle.jn_base.specs.Parts.{expr}
use Rattle.jn_sem.specs.Acts.{Doing, InBody, todo, Todo, Make, Super, Call, Choose, Repeat, stmt_step, node_step, expr_step, link_step, suffix_step, node_does, expr_does, link_does, suffix_does, all_do, links_do, suffixes_do, link_at, acts, in_body, with_work, trees, stmts_acts, path_behind}
use Rattle.jn_sem.specs.LawsOfActs.{args_acts, link_acts, links_acts, part_acts, suffix_acts, parts_acts, ExprActs, StmtActs, ActsAre}

-- ---- one level

node_pair : Node → Node × Doing
node_pair n = (n, node_does n)

expr_pair : Expr → Expr × Doing
expr_pair e = (e, expr_does e)

link_pair : Link → Link × Doing
link_pair l = (l, link_does l)

suffix_pair : Suffix → Suffix × Doing
suffix_pair s = (s, suffix_does s)

node_is : (n : Node) (d : Node-F Node Expr Link Suffix) → roll-Node d ≡ n
    → node_does n ≡ node_step (map-Node _ _ _ _ _ _ _ _ node_pair expr_pair link_pair suffix_pair d)
unfolding node_pair expr_pair link_pair suffix_pair
node_is n d e = ap node_does (sym e) ∙ para-roll-Node Doing Doing Doing Doing node_step expr_step link_step suffix_step d

expr_is : (e : Expr) → expr_does e ≡ node_does e.node
expr_is e = para-roll-Expr Doing Doing Doing Doing node_step expr_step link_step suffix_step (record { at = e.at; node = e.node })

here : (at : Place) (n : Node) (d : Node-F Node Expr Link Suffix) → roll-Node d ≡ n
    → expr_does (expr at n) ≡ node_step (map-Node _ _ _ _ _ _ _ _ node_pair expr_pair link_pair suffix_pair d)
here at n d e = expr_is (expr at n) ∙ node_is n d e

link_is : (l : Link) → link_does l ≡ link_at l.op (l.right, expr_does l.right)
link_is l = para-roll-Link Doing Doing Doing Doing node_step expr_step link_step suffix_step (record { op = l.op; at = l.at; right = l.right })

suffix_is : (s : Suffix) → suffix_does s ≡ suffix_step (map-Suffix _ _ _ _ _ _ _ _ node_pair expr_pair link_pair suffix_pair (out-Suffix s))
unfolding node_pair expr_pair link_pair suffix_pair
suffix_is s =
    ap suffix_does (sym (roll-out-Suffix s)) ∙ para-roll-Suffix Doing Doing Doing Doing node_step expr_step link_step suffix_step (out-Suffix s)

stmt_is : (s : Stmt) (d : Stmt-F Stmt) → roll-Stmt d ≡ s → in_body s ≡ stmt_step (map-Stmt _ _ with_work d)
stmt_is s d e = ap in_body (sym e) ∙ para-roll-Stmt InBody stmt_step d

-- ---- lists

args_are : (n : ℕ) (es : List Expr) (k : List Todo) → all_do (map expr_pair es) n k ≡ args_acts n es k
unfolding expr_pair
args_are n [] k = refl
args_are n (e ∷ es) k = ap (acts n e) (args_are n es k)

counted : (es : List Expr) → length (map expr_pair es) ≡ length es
counted [] = refl
counted (e ∷ es) = ap suc (counted es)

at_link : (o : Op) (e : Expr) (keeps : Bool) (n : ℕ) (k : List Todo) → link_at o (e, expr_does e) keeps n k ≡ link_acts o e n k
at_link op.And e keeps n k = refl
at_link op.Or e keeps n k = refl
at_link op.Eq e keeps n k = refl
at_link op.Ne e keeps n k = refl
at_link op.Lt e keeps n k = refl
at_link op.Le e keeps n k = refl
at_link op.Gt e keeps n k = refl
at_link op.Ge e keeps n k = refl
at_link op.Add e keeps n k = refl
at_link op.Sub e keeps n k = refl
at_link op.Mul e keeps n k = refl
at_link op.Div e keeps n k = refl
at_link op.Rem e keeps n k = refl

links_are : (n : ℕ) (ls : List Link) (k : List Todo) → links_do (map link_pair ls) n k ≡ links_acts n ls k
unfolding link_pair
links_are n [] k = refl
links_are n (l ∷ ls) k =
    ap (λ (d : Doing). d true n (links_do (map link_pair ls) n k)) (link_is l)
    ∙ at_link l.op l.right true n (links_do (map link_pair ls) n k)
    ∙ ap (link_acts l.op l.right n) (links_are n ls k)

at_part : (x : Named) (args : Option (List Expr)) (keeps : Bool) (n : ℕ) (k : List Todo)
    → suffix_step (map-Suffix _ _ _ _ _ _ _ _ node_pair expr_pair link_pair suffix_pair (record { name = x; args = args })) keeps n k
    ≡ part_acts x.name args keeps n k
at_part x None keeps n k = refl
at_part x (Some es) keeps n k =
    ap (λ (c : ℕ). all_do (map expr_pair es) n (todo n (Call x.name c keeps) ∷ k)) (counted es) ∙ args_are n es (todo n (Call x.name (length es) keeps) ∷ k)

at_suffix : (s : Suffix) (keeps : Bool) (n : ℕ) (k : List Todo) → suffix_does s keeps n k ≡ suffix_acts s keeps n k
at_suffix s keeps n k = ap (λ (d : Doing). d keeps n k) (suffix_is s) ∙ at_part (out-Suffix s).name (out-Suffix s).args keeps n k

parts_are : (ss : List Suffix) (keeps : Bool) (n : ℕ) (k : List Todo) → suffixes_do (map suffix_pair ss) keeps n k ≡ parts_acts ss keeps n k
unfolding suffix_pair
parts_are [] keeps n k = refl
parts_are (s ∷ []) keeps n k = at_suffix s keeps n k
parts_are (s ∷ (t ∷ ts)) keeps n k =
    at_suffix s true n (suffixes_do (map suffix_pair (t ∷ ts)) keeps n k) ∙ ap (suffix_acts s true n) (parts_are (t ∷ ts) keeps n k)

-- ---- expressions

as_done : (at : Place) (m : Node) (d : Node-F Node Expr Link Suffix) → roll-Node d ≡ m → (keeps : Bool) (n : ℕ) (k : List Todo)
    → expr_does (expr at m) keeps n k ≡ node_step (map-Node _ _ _ _ _ _ _ _ node_pair expr_pair link_pair suffix_pair d) keeps n k
as_done at m d e keeps n k = ap (λ (f : Doing). f keeps n k) (here at m d e)

expr_acts : (at : Place) (keeps : Bool) (n : ℕ) (k : List Todo) → ExprActs at keeps n k
unfolding node_pair expr_pair
expr_acts at keeps n k = record {
  number = λ z. as_done at _ _ (node.rolls-Int z) keeps n k;
  truth = λ b. as_done at _ _ (node.rolls-Bool b) keeps n k;
  null = as_done at _ _ node.rolls-Null keeps n k;
  this = as_done at _ _ node.rolls-This keeps n k;
  var = λ x. as_done at _ _ (node.rolls-Var x) keeps n k;
  new = λ t es. as_done at _ _ (node.rolls-New t es) keeps n k
      ∙ ap (λ (c : ℕ). all_do (map expr_pair es) n (todo n (Make t c keeps) ∷ k)) (counted es) ∙ args_are n es _;
  super = λ t m es. as_done at _ _ (node.rolls-Super t m es) keeps n k
      ∙ ap (λ (c : ℕ). all_do (map expr_pair es) n (todo n (Super t m.name c keeps) ∷ k)) (counted es) ∙ args_are n es _;
  post = λ e ss. as_done at _ _ (node.rolls-Post e ss) keeps n k ∙ ap (acts n e) (parts_are ss keeps n k);
  invert = λ e. as_done at _ _ (node.rolls-Not e) keeps n k;
  negate = λ e. as_done at _ _ (node.rolls-Neg e) keeps n k;
  view = λ v e. as_done at _ _ (node.rolls-View v e) keeps n k;
  chain = λ level e ls. as_done at _ _ (node.rolls-Chain level e ls) keeps n k ∙ ap (acts n e) (links_are n ls k);
}

-- ---- statements

trees_are : (ss : List Stmt) → trees (map with_work ss) ≡ ss
trees_are [] = refl
trees_are (s ∷ ss) = ap (λ (t : List Stmt). s ∷ t) (trees_are ss)

-- the statement s, whose layer is d, and those behind it
first_of_all : (s : Stmt) (d : Stmt-F Stmt) → roll-Stmt d ≡ s → (n path : ℕ) (ss : List Stmt) (k : List Todo)
    → stmts_acts n path (s ∷ ss) k
    ≡ (stmt_step (map-Stmt _ _ with_work d)).does n path
    (stmts_acts ((stmt_step (map-Stmt _ _ with_work d)).scope_after n) ((stmt_step (map-Stmt _ _ with_work d)).path_after path) ss k)
first_of_all s d e n path ss k =
    ap (λ (b : InBody). b.does n path (stmts_acts (b.scope_after n) (b.path_after path) ss k)) (stmt_is s d e)

stmt_acts : (n path : ℕ) (ss : List Stmt) (k : List Todo) → StmtActs n path ss k
stmt_acts n path ss k = record {
  none = refl;
  block = λ body. first_of_all _ _ (stmt.rolls-Block body) n path ss k;
  local = λ fixed t x e. first_of_all _ _ (stmt.rolls-Local fixed t x e) n path ss k;
  assign = λ x e. first_of_all _ _ (stmt.rolls-Assign x e) n path ss k;
  set = λ r x e. first_of_all _ _ (stmt.rolls-Set r x e) n path ss k;
  call = λ e. first_of_all _ _ (stmt.rolls-Do e) n path ss k;
  choice = λ e one other at. first_of_all _ _ (stmt.rolls-If e one other at) n path ss k
      ∙ ap (λ (t : List Stmt). acts n e (todo n (Choose path t (trees (map with_work other))) ∷ stmts_acts n (path_behind other (path_behind one path)) ss k)) (trees_are one)
      ∙ ap (λ (t : List Stmt). acts n e (todo n (Choose path one t) ∷ stmts_acts n (path_behind other (path_behind one path)) ss k)) (trees_are other);
  loop = λ e body at. first_of_all _ _ (stmt.rolls-While e body at) n path ss k
      ∙ ap (λ (t : List Stmt). acts n e (todo n (Repeat path e t) ∷ stmts_acts n (path_behind body path) ss k)) (trees_are body);
  returns = λ e at. first_of_all _ _ (stmt.rolls-Return (Some e) at) n path ss k;
  returns_none = λ at. first_of_all _ _ (stmt.rolls-Return None at) n path ss k;
  prints = λ e at. first_of_all _ _ (stmt.rolls-Print e at) n path ss k;
  prints_text = λ t at. first_of_all _ _ (stmt.rolls-PrintText t at) n path ss k;
}

pub acts_are : ActsAre
acts_are = record { exprs = expr_acts; stmts = stmt_acts }
