-- What has to be asked of each form.
use Rattle.std.proofs.Common.{◌≡◌, List, [], ◌∷◌, map, Option, Some, None, refl, sym, ap, ◌∙◌}
use Rattle.jn_base.specs.declared.tree.Named.{Named}
use Rattle.jn_base.specs.declared.tree.Place.{Place}
use Rattle.jn_base.specs.declared.tree.Expr.{Expr}
use Rattle.jn_base.specs.declared.tree.Link.{Link}
use Rattle.jn_base.specs.declared.tree.Suffix.{Suffix, out-Suffix, roll-out-Suffix}
use Rattle.jn_base.specs.declared.tree.Node.{Node, roll-Node}
use Rattle.jn_base.specs.declared.tree.Node.TheOpen.{Node-F}
use Rattle.jn_base.specs.declared.tree.Node.TheFolds.{para-roll-Expr, para-roll-Node, para-roll-Link, para-roll-Suffix, map-Node, map-Suffix}
use Rattle.jn_base.specs.declared.tree.Node.TheVariants as node
use Rattle.jn_base.specs.declared.tree.Stmt.{Stmt, roll-Stmt}
use Rattle.jn_base.specs.declared.tree.Stmt.TheOpen.{Stmt-F}
use Rattle.jn_base.specs.declared.tree.Stmt.TheFolds.{fold-roll-Stmt, map-Stmt}
use Rattle.jn_base.specs.declared.tree.Stmt.TheVariants as stmt
use Rattle.jn_base.specs.declared.tree.Member.{Member, out-Member, fold-Member}
use Rattle.jn_base.specs.declared.tree.Member.TheOpen.{Member-F}
use Rattle.jn_base.specs.declared.tree.Member.TheFolds.{map-Member, fold_out-Member, fold_out-Decl}
use Rattle.jn_base.specs.declared.tree.Decl.{Decl}
use Rattle.jn_base.specs.Paths.{Path}
use Rattle.jn_base.specs.Parts.{expr}
use Rattle.jn_base.specs.Scopes.{Scope}
use Rattle.jn_sem.specs.NotFamily.{own_listed}
use Rattle.jn_rules.specs.Plans.{Plan, then_do, Nothing, in_turn}
use Rattle.jn_rules.specs.Headers.{Asked, asked_at, listed_asked, member_asked, decl_asked, decl_headers}
use Rattle.jn_rules.specs.Exprs.{Here, Typing, NodeTyping, SuffixTyping, node_step, expr_step, link_step, suffix_step, suffix_typed, suffixes_typed, links_typed, node_types, link_types, suffix_types, expr_types}
use Rattle.jn_rules.specs.Stmts.{Before, In, StmtTyping, stmt_step, stmt_types, member_bodies, bodies_step, decl_bodies}
use Rattle.jn_rules.specs.Forms.{typed_expr, given_args, typed_link, typed_links, part_types, typed_part, typed_parts, ExprForms, StmtForms, member_headers, headers_in, member_body, bodies_in, DeclForms, FormsAre}

-- ---- expressions

module _ (h : Here) where
  node_pair : Node → Node × NodeTyping
  node_pair n = (n, node_types h n)

  link_pair : Link → Link × Typing
  link_pair l = (l, link_types h l)

  suffix_pair : Suffix → Suffix × SuffixTyping
  suffix_pair x = (x, suffix_types h x)

  node_is : (n : Node) (d : Node-F Node Expr Link Suffix) → roll-Node d ≡ n
      → node_types h n ≡ node_step h (map-Node _ _ _ _ _ _ _ _ node_pair (typed_expr h) link_pair suffix_pair d)
  unfolding node_pair link_pair suffix_pair
  node_is n d e =
      ap (node_types h) (sym e) ∙ para-roll-Node NodeTyping Typing Typing SuffixTyping (node_step h) expr_step link_step (suffix_step h) d

  types_at : (at : Place) (m : Node) (d : Node-F Node Expr Link Suffix) → roll-Node d ≡ m → (s : Scope)
      → expr_types h (expr at m) s ≡ node_step h (map-Node _ _ _ _ _ _ _ _ node_pair (typed_expr h) link_pair suffix_pair d) at s
  types_at at m d e s =
      ap (λ (f : Typing). f s) (para-roll-Expr NodeTyping Typing Typing SuffixTyping (node_step h) expr_step link_step (suffix_step h) (record { at = at; node = m }))
      ∙ ap (λ (f : NodeTyping). f at s) (node_is m d e)

  link_is : (l : Link) → link_types h l ≡ expr_types h l.right
  link_is l =
      para-roll-Link NodeTyping Typing Typing SuffixTyping (node_step h) expr_step link_step (suffix_step h) (record { op = l.op; at = l.at; right = l.right })

  links_are : (ls : List Link) → map link_pair ls ≡ typed_links h ls
  unfolding link_pair
  links_are [] = refl
  links_are (l ∷ ls) =
      ap (λ (t : Typing). (l, t) ∷ map link_pair ls) (link_is l) ∙ ap (λ (ts : List (Link × Typing)). typed_link h l ∷ ts) (links_are ls)

  at_part : (x : Named) (args : Option (List Expr))
      → suffix_step h (map-Suffix _ _ _ _ _ _ _ _ node_pair (typed_expr h) link_pair suffix_pair (record { name = x; args = args }))
      ≡ suffix_typed h x (given_args h args)
  at_part x None = refl
  at_part x (Some es) = refl

  part_is : (x : Suffix) → suffix_types h x ≡ part_types h x
  unfolding node_pair link_pair suffix_pair
  part_is x =
      ap (suffix_types h) (sym (roll-out-Suffix x))
      ∙ para-roll-Suffix NodeTyping Typing Typing SuffixTyping (node_step h) expr_step link_step (suffix_step h) (out-Suffix x)
      ∙ at_part (out-Suffix x).name (out-Suffix x).args

  parts_are : (xs : List Suffix) → map suffix_pair xs ≡ typed_parts h xs
  unfolding suffix_pair
  parts_are [] = refl
  parts_are (x ∷ xs) =
      ap (λ (t : SuffixTyping). (x, t) ∷ map suffix_pair xs) (part_is x)
      ∙ ap (λ (ts : List (Suffix × SuffixTyping)). typed_part h x ∷ ts) (parts_are xs)

  pub expr_forms : (at : Place) (s : Scope) → ExprForms h at s
  expr_forms at s = record {
    number = λ z. types_at at _ _ (node.rolls-Int z) s;
    truth = λ b. types_at at _ _ (node.rolls-Bool b) s;
    null = types_at at _ _ node.rolls-Null s;
    this = types_at at _ _ node.rolls-This s;
    var = λ x. types_at at _ _ (node.rolls-Var x) s;
    new = λ t es. types_at at _ _ (node.rolls-New t es) s;
    super = λ t m es. types_at at _ _ (node.rolls-Super t m es) s;
    post = λ e xs. types_at at _ _ (node.rolls-Post e xs) s
        ∙ ap (λ (ts : List (Suffix × SuffixTyping)). then_do (expr_types h e s) (suffixes_typed at e.at ts)) (parts_are xs);
    invert = λ e. types_at at _ _ (node.rolls-Not e) s;
    negate = λ e. types_at at _ _ (node.rolls-Neg e) s;
    view = λ v e. types_at at _ _ (node.rolls-View v e) s;
    chain = λ level e ls. types_at at _ _ (node.rolls-Chain level e ls) s
        ∙ ap (λ (ts : List (Link × Typing)). then_do (expr_types h e s) (λ x. links_typed h e.at x ts)) (links_are ls);
  }

-- ---- statements

stmt_is : (b : In) (s : Stmt) (d : Stmt-F Stmt) → roll-Stmt d ≡ s → (x : Before)
    → stmt_types b s x ≡ stmt_step b (map-Stmt _ _ (stmt_types b) d) x
stmt_is b s d e x =
    ap (λ (t : Stmt). stmt_types b t x) (sym e) ∙ ap (λ (f : StmtTyping). f x) (fold-roll-Stmt StmtTyping (stmt_step b) d)

pub stmt_forms : (b : In) (x : Before) → StmtForms b x
stmt_forms b x = record {
  block = λ ss. stmt_is b _ _ (stmt.rolls-Block ss) x;
  local = λ fixed t n e. stmt_is b _ _ (stmt.rolls-Local fixed t n e) x;
  assign = λ n e. stmt_is b _ _ (stmt.rolls-Assign n e) x;
  set = λ r f e. stmt_is b _ _ (stmt.rolls-Set r f e) x;
  call = λ e. stmt_is b _ _ (stmt.rolls-Do e) x;
  choice = λ e one other at. stmt_is b _ _ (stmt.rolls-If e one other at) x;
  loop = λ e body at. stmt_is b _ _ (stmt.rolls-While e body at) x;
  returns = λ e at. stmt_is b _ _ (stmt.rolls-Return e at) x;
  prints = λ e at. stmt_is b _ _ (stmt.rolls-Print e at) x;
  prints_text = λ t at. stmt_is b _ _ (stmt.rolls-PrintText t at) x;
  none = refl;
  more = λ s ss. refl;
}

-- ---- declarations

member_plan : Member → Asked
member_plan = fold-Member Asked Asked member_asked decl_asked

header_at : (R : Path) (d : Member-F Member Decl) → member_asked (map-Member _ _ _ _ member_plan decl_headers d) R ≡ member_headers R d
header_at R (Member-F.Inner d) = refl
header_at R (Member-F.Slot f) = refl
header_at R (Member-F.Body m) = refl

member_header : (R : Path) (m : Member) → member_plan m R ≡ member_headers R (out-Member m)
unfolding member_plan decl_headers
member_header R m = ap (λ (f : Asked). f R) (fold_out-Member Asked Asked member_asked decl_asked m) ∙ header_at R (out-Member m)

headers_are : (R : Path) (ms : List Member) → map (asked_at R) (map member_plan ms) ≡ headers_in R ms
headers_are R [] = refl
headers_are R (m ∷ ms) =
    ap (λ (x : Plan Nothing). x ∷ map (asked_at R) (map member_plan ms)) (member_header R m)
    ∙ ap (λ (xs : List (Plan Nothing)). member_headers R (out-Member m) ∷ xs) (headers_are R ms)

decl_header : (d : Decl) (P : Path) → decl_headers d P
    ≡ then_do (in_turn (map listed_asked (own_listed d.name.name d.shares d.adapts P))) (λ u. in_turn (map (asked_at (d.name.name ∷ P)) (map member_plan d.members)))
unfolding member_plan decl_headers
decl_header d P = ap (λ (f : Asked). f P) (fold_out-Decl Asked Asked member_asked decl_asked d)

body_plan_of : Member → Asked
body_plan_of = fold-Member Asked Asked member_bodies bodies_step

body_at : (R : Path) (d : Member-F Member Decl) → member_bodies (map-Member _ _ _ _ body_plan_of decl_bodies d) R ≡ member_body R d
body_at R (Member-F.Inner d) = refl
body_at R (Member-F.Slot f) = refl
body_at R (Member-F.Body m) = refl

body_of_member : (R : Path) (m : Member) → body_plan_of m R ≡ member_body R (out-Member m)
unfolding body_plan_of decl_bodies
body_of_member R m = ap (λ (f : Asked). f R) (fold_out-Member Asked Asked member_bodies bodies_step m) ∙ body_at R (out-Member m)

bodies_are : (R : Path) (ms : List Member) → map (asked_at R) (map body_plan_of ms) ≡ bodies_in R ms
bodies_are R [] = refl
bodies_are R (m ∷ ms) =
    ap (λ (x : Plan Nothing). x ∷ map (asked_at R) (map body_plan_of ms)) (body_of_member R m)
    ∙ ap (λ (xs : List (Plan Nothing)). member_body R (out-Member m) ∷ xs) (bodies_are R ms)

decl_body : (d : Decl) (P : Path) → decl_bodies d P ≡ in_turn (map (asked_at (d.name.name ∷ P)) (map body_plan_of d.members))
unfolding body_plan_of decl_bodies
decl_body d P = ap (λ (f : Asked). f P) (fold_out-Decl Asked Asked member_bodies bodies_step d)

pub decl_forms : (d : Decl) (P : Path) → DeclForms d P
decl_forms d P = record {
  headers = decl_header d P
      ∙ ap (λ (xs : List (Plan Nothing)). then_do (in_turn (map listed_asked (own_listed d.name.name d.shares d.adapts P))) (λ u. in_turn xs)) (headers_are (d.name.name ∷ P) d.members);
  bodies = decl_body d P ∙ ap in_turn (bodies_are (d.name.name ∷ P) d.members);
}

pub forms_are : FormsAre
forms_are = record { exprs = expr_forms; stmts = stmt_forms; decls = decl_forms }
