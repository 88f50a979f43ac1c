-- The canonical text of a program does not hang on its places.
use Rattle.std.proofs.Common.{◌≡◌, ℕ, false, List, [], ◌∷◌, ◌++◌, map, Option, Some, None, codes, refl, sym, ap, ap₂, subst, ◌∙◌}
use Rattle.jn_base.specs.declared.tree.Named.{Named}
use Rattle.jn_base.specs.declared.tree.Text.{Text}
use Rattle.jn_base.specs.declared.tree.Kind.{Kind}
use Rattle.jn_base.specs.declared.tree.TypeTerm.{TypeTerm}
use Rattle.jn_base.specs.declared.tree.Expr.{Expr}
use Rattle.jn_base.specs.declared.tree.Stmt.{Stmt, roll-Stmt}
use Rattle.jn_base.specs.declared.tree.Stmt.TheOpen.{Stmt-F}
use Rattle.jn_base.specs.declared.tree.Stmt.TheFolds.{map-Stmt, ind-Stmt, fold-roll-Stmt}
use Rattle.jn_base.specs.declared.tree.Param.{Param}
use Rattle.jn_base.specs.declared.tree.Constraint.{Constraint}
use Rattle.jn_base.specs.declared.tree.Field.{Field}
use Rattle.jn_base.specs.declared.tree.Method.{Method}
use Rattle.jn_base.specs.declared.tree.Program.{Program}
use Rattle.jn_base.specs.declared.tree.Decl.{Decl, roll-Decl}
use Rattle.jn_base.specs.declared.tree.Member.{Member, roll-Member}
use Rattle.jn_base.specs.declared.tree.Member.TheOpen.{Member-F, Decl-F}
use Rattle.jn_base.specs.declared.tree.Member.TheFolds.{map-Member, map-Decl, ind-Decl, fold-roll-Member, fold-roll-Decl}
use Rattle.jn_base.specs.GrammarDecl.{decl}
use Rattle.jn_printer.specs.declared.symbol.Symbol.{Symbol}
use Rattle.jn_printer.specs.declared.symbol.Symbol.TheVariants as symbol
use Rattle.jn_printer.specs.Pieces.{text_if, name_text, named_text}
use Rattle.jn_printer.specs.ExprText.{Writer, expr_text}
use Rattle.jn_printer.specs.StmtText.{Indented, lines, braced, else_text, given_text, escaped, stmt_text, body_text}
use Rattle.jn_printer.specs.StmtText as StmtText
use Rattle.jn_printer.specs.DeclText.{kind_text, list_text, field_text, result_text, param_text, params_text, constraint_text, sharing_text, signature_text, method_text, heading_text, member_text, decl_text, program_text}
use Rattle.jn_printer.specs.DeclText as DeclText
use Rattle.jn_base.specs.Unplaced.{nowhere, unplaced_named, unplaced_view, unplaced_type, unplaced_expr, unplaced_given, unplaced_stmt, unplaced_param, unplaced_constraint, unplaced_field, unplaced_result, unplaced_method, unplaced_member, unplaced_decl, unplaced}
use Rattle.jn_base.specs.Unplaced as Unplaced
use Rattle.jn_printer.proofs.StmtTexts
use Rattle.jn_printer.proofs.DeclTexts
use Rattle.jn_printer.proofs.PlacesUnseen.{joined_same, named_same, view_unseen, type_unseen, expr_unseen}

at_symbol : (ns : List Text) (e : Expr) (s : Symbol) → expr_text ns (unplaced_expr e) s ≡ expr_text ns e s
at_symbol ns e s = ap (λ (w : Writer). w s) (expr_unseen ns e)

-- ---- statements

abbrev StmtSame : (ns ts : List Text) → Stmt → Type 0
StmtSame ns ts t = stmt_text ns ts (unplaced_stmt t) ≡ stmt_text ns ts t

abbrev ToldStmt : (ns ts : List Text) → Type 0
ToldStmt ns ts = Stmt-F ((t : Stmt) × StmtSame ns ts t)

abbrev layer : (ns ts : List Text) → ToldStmt ns ts → Stmt-F Stmt
layer ns ts = map-Stmt _ _ (λ e. e.0)

stmts_same : (ns ts : List Text) (ss : List ((t : Stmt) × StmtSame ns ts t)) → map (stmt_text ns ts) (map unplaced_stmt (map (λ e. e.0) ss)) ≡ map (stmt_text ns ts) (map (λ e. e.0) ss)
stmts_same ns ts [] = refl
stmts_same ns ts (t ∷ ss) = ap₂ (λ (w : Indented) (ws : List Indented). w ∷ ws) t.1 (stmts_same ns ts ss)

abbrev written : (ns ts : List Text) → Stmt-F Stmt → Indented
written ns ts f = StmtText.stmt_step ns ts (map-Stmt Stmt Indented (stmt_text ns ts) f)

written_roll : (ns ts : List Text) (f : Stmt-F Stmt) → stmt_text ns ts (roll-Stmt f) ≡ written ns ts f
unfolding stmt_text
written_roll ns ts f = fold-roll-Stmt Indented (StmtText.stmt_step ns ts) f

abbrev stripped : Stmt-F Stmt → Stmt
stripped f = Unplaced.stmt_step (map-Stmt Stmt Stmt unplaced_stmt f)

stripped_roll : (f : Stmt-F Stmt) → unplaced_stmt (roll-Stmt f) ≡ stripped f
unfolding unplaced_stmt
stripped_roll f = fold-roll-Stmt Stmt Unplaced.stmt_step f

layer_same : (ns ts : List Text) (y : ToldStmt ns ts) (i : List ℕ) → stmt_text ns ts (stripped (layer ns ts y)) i ≡ written ns ts (layer ns ts y) i
layer_same ns ts (Stmt-F.Block ss) i =
    StmtTexts.block_text ns ts (map unplaced_stmt (map (λ e. e.0) ss)) i ∙ ap (λ (ws : List Indented). braced i ws) (stmts_same ns ts ss)
layer_same ns ts (Stmt-F.Local fixed t x e) i =
    StmtTexts.local_text ns ts fixed (unplaced_type t) (unplaced_named x) (unplaced_expr e) i
    ∙ ap₂ (λ (a b : List ℕ). text_if fixed (codes "final ") ++ (a ++ (codes " " ++ (name_text ns x.name ++ (codes " = " ++ (b ++ codes ";")))))) (type_unseen ns t) (at_symbol ns e symbol.Expression)
layer_same ns ts (Stmt-F.Assign x e) i =
    StmtTexts.assign_text ns ts (unplaced_named x) (unplaced_expr e) i ∙ ap (λ (b : List ℕ). name_text ns x.name ++ (codes " = " ++ (b ++ codes ";"))) (at_symbol ns e symbol.Expression)
layer_same ns ts (Stmt-F.Set of x e) i =
    StmtTexts.set_text ns ts (unplaced_expr of) (unplaced_named x) (unplaced_expr e) i
    ∙ ap₂ (λ (a b : List ℕ). a ++ (codes "." ++ (name_text ns x.name ++ (codes " = " ++ (b ++ codes ";"))))) (at_symbol ns of symbol.Post) (at_symbol ns e symbol.Expression)
layer_same ns ts (Stmt-F.Do e) i = StmtTexts.do_text ns ts (unplaced_expr e) i ∙ ap (λ (b : List ℕ). b ++ codes ";") (at_symbol ns e symbol.Post)
layer_same ns ts (Stmt-F.If e ss rs p) i =
    StmtTexts.if_text ns ts (unplaced_expr e) (map unplaced_stmt (map (λ e. e.0) ss)) (map unplaced_stmt (map (λ e. e.0) rs)) nowhere i
    ∙ ap (λ (b : List ℕ). codes "if (" ++ (b ++ (codes ") " ++ (braced i (map (stmt_text ns ts) (map unplaced_stmt (map (λ e. e.0) ss))) ++ else_text i (map (stmt_text ns ts) (map unplaced_stmt (map (λ e. e.0) rs))))))) (at_symbol ns e symbol.Expression)
    ∙ ap₂ (λ (ws vs : List Indented). codes "if (" ++ (expr_text ns e symbol.Expression ++ (codes ") " ++ (braced i ws ++ else_text i vs)))) (stmts_same ns ts ss) (stmts_same ns ts rs)
layer_same ns ts (Stmt-F.While e ss p) i =
    StmtTexts.while_text ns ts (unplaced_expr e) (map unplaced_stmt (map (λ e. e.0) ss)) nowhere i
    ∙ ap₂ (λ (b : List ℕ) (ws : List Indented). codes "while (" ++ (b ++ (codes ") " ++ braced i ws))) (at_symbol ns e symbol.Expression) (stmts_same ns ts ss)
layer_same ns ts (Stmt-F.Return None p) i = StmtTexts.return_text ns ts None nowhere i
layer_same ns ts (Stmt-F.Return (Some e) p) i =
    StmtTexts.return_text ns ts (Some (unplaced_expr e)) nowhere i ∙ ap (λ (b : List ℕ). codes "return" ++ ((codes " " ++ b) ++ codes ";")) (at_symbol ns e symbol.Expression)
layer_same ns ts (Stmt-F.Print e p) i =
    StmtTexts.print_text ns ts (unplaced_expr e) nowhere i ∙ ap (λ (b : List ℕ). codes "print(" ++ (b ++ codes ");")) (at_symbol ns e symbol.Expression)
layer_same ns ts (Stmt-F.PrintText n p) i = StmtTexts.string_text ns ts n nowhere i

stmt_same : (ns ts : List Text) (y : ToldStmt ns ts) → StmtSame ns ts (roll-Stmt (layer ns ts y))
stmt_same ns ts y k i = (ap (λ (t : Stmt). stmt_text ns ts t i) (stripped_roll (layer ns ts y)) ∙ layer_same ns ts y i ∙ sym (ap (λ (w : Indented). w i) (written_roll ns ts (layer ns ts y)))) k

stmt_unseen : (ns ts : List Text) (t : Stmt) → stmt_text ns ts (unplaced_stmt t) ≡ stmt_text ns ts t
stmt_unseen ns ts = ind-Stmt (StmtSame ns ts) (λ x y is. subst (λ z. StmtSame ns ts (roll-Stmt z)) is (stmt_same ns ts y))

mapped_stmts : (ns ts : List Text) (ss : List Stmt) → map (stmt_text ns ts) (map unplaced_stmt ss) ≡ map (stmt_text ns ts) ss
mapped_stmts ns ts [] = refl
mapped_stmts ns ts (t ∷ ss) = ap₂ (λ (w : Indented) (ws : List Indented). w ∷ ws) (stmt_unseen ns ts t) (mapped_stmts ns ts ss)

-- ---- declarations

field_unseen : (ns : List Text) (f : Field) → field_text ns (unplaced_field f) ≡ field_text ns f
field_unseen ns f = ap (λ (a : List ℕ). a ++ (codes " " ++ (name_text ns f.name.name ++ codes ";"))) (type_unseen ns f.ty)

result_unseen : (ns : List Text) (t : Option TypeTerm) → result_text ns (unplaced_result t) ≡ result_text ns t
result_unseen ns None = refl
result_unseen ns (Some t) = type_unseen ns t

param_unseen : (ns : List Text) (p : Param) → param_text ns (unplaced_param p) ≡ param_text ns p
param_unseen ns p = ap (λ (a : List ℕ). text_if p.fixed (codes "final ") ++ (a ++ (codes " " ++ name_text ns p.name.name))) (type_unseen ns p.ty)

constraint_unseen : (ns : List Text) (c : Constraint) → constraint_text ns (unplaced_constraint c) ≡ constraint_text ns c
constraint_unseen ns c = ap₂ (λ (a b : List ℕ). a ++ (codes " -> " ++ b)) (view_unseen ns c.from) (view_unseen ns c.to)

sharing_unseen : (ns : List Text) (cs : List Constraint) → sharing_text ns (map unplaced_constraint cs) ≡ sharing_text ns cs
sharing_unseen ns [] = refl
sharing_unseen ns (c ∷ cs) = ap (λ (a : List ℕ). codes " sharing " ++ a) (joined_same (constraint_text ns) unplaced_constraint (constraint_unseen ns) (codes ", ") false (c ∷ cs))

params_unseen : (ns : List Text) (ps : List Param) → params_text ns (map unplaced_param ps) ≡ params_text ns ps
unfolding params_text
params_unseen ns ps = ap (λ (a : List ℕ). codes "(" ++ (a ++ codes ")")) (joined_same (param_text ns) unplaced_param (param_unseen ns) (codes ", ") false ps)

signature_unseen : (ns : List Text) (m : Method) → signature_text ns (unplaced_method m) ≡ signature_text ns m
unfolding signature_text
signature_unseen ns m =
    ap (λ (a : List ℕ). a ++ (codes " " ++ (name_text ns m.name.name ++ (params_text ns (map unplaced_param m.params) ++ sharing_text ns (map unplaced_constraint m.sharing))))) (result_unseen ns m.result)
    ∙ ap₂ (λ (a b : List ℕ). result_text ns m.result ++ (codes " " ++ (name_text ns m.name.name ++ (a ++ b)))) (params_unseen ns m.params) (sharing_unseen ns m.sharing)

method_unseen : (ns ts : List Text) (m : Method) (i : List ℕ) → method_text ns ts (unplaced_method m) i ≡ method_text ns ts m i
method_unseen ns ts m i = ap₂ (λ (a : List ℕ) (ws : List Indented). a ++ (codes " " ++ braced i ws)) (signature_unseen ns m) (mapped_stmts ns ts m.body)

list_unseen : (ns : List Text) (word : List ℕ) (xs : List Named) → list_text ns word (map unplaced_named xs) ≡ list_text ns word xs
list_unseen ns word [] = refl
list_unseen ns word (x ∷ xs) = ap (λ (a : List ℕ). word ++ a) (joined_same (named_text ns) unplaced_named (named_same ns) (codes " & ") false (x ∷ xs))

heading_unseen : (ns : List Text) (k : Kind) (x : Named) (es ss adapted : List Named)
    → heading_text ns k (unplaced_named x) (map unplaced_named es) (map unplaced_named ss) (map unplaced_named adapted) ≡ heading_text ns k x es ss adapted
unfolding heading_text
heading_unseen ns k x es ss adapted =
    ap (λ (a : List ℕ). kind_text k ++ (name_text ns x.name ++ (a ++ (list_text ns (codes " shares ") (map unplaced_named ss) ++ list_text ns (codes " adapts ") (map unplaced_named adapted))))) (list_unseen ns (codes " extends ") es)
    ∙ ap₂ (λ (a b : List ℕ). kind_text k ++ (name_text ns x.name ++ (list_text ns (codes " extends ") es ++ (a ++ b)))) (list_unseen ns (codes " shares ") ss) (list_unseen ns (codes " adapts ") adapted)

abbrev MemberSame : (ns ts : List Text) → Member → Type 0
MemberSame ns ts m = (i : List ℕ) → member_text ns ts (unplaced_member m) i ≡ member_text ns ts m i

abbrev DeclSame : (ns ts : List Text) → Decl → Type 0
DeclSame ns ts d = (i : List ℕ) → decl_text ns ts (unplaced_decl d) i ≡ decl_text ns ts d i

abbrev ToldMember : (ns ts : List Text) → Type 0
ToldMember ns ts = Member-F ((m : Member) × MemberSame ns ts m) ((d : Decl) × DeclSame ns ts d)

abbrev layer_member : (ns ts : List Text) → ToldMember ns ts → Member-F Member Decl
layer_member ns ts = map-Member _ _ _ _ (λ e. e.0) (λ e. e.0)

stripped_member : (f : Member-F Member Decl) → unplaced_member (roll-Member f) ≡ Unplaced.member_step (map-Member Member Decl Member Decl unplaced_member unplaced_decl f)
unfolding unplaced_member unplaced_decl
stripped_member f = fold-roll-Member Member Decl Unplaced.member_step Unplaced.decl_step f

written_member : (ns ts : List Text) (f : Member-F Member Decl) → member_text ns ts (roll-Member f) ≡ DeclText.member_step ns ts (map-Member Member Decl Indented Indented (member_text ns ts) (decl_text ns ts) f)
unfolding member_text decl_text
written_member ns ts f = fold-roll-Member Indented Indented (DeclText.member_step ns ts) (DeclText.decl_step ns ts) f

member_layer : (ns ts : List Text) (y : ToldMember ns ts) (i : List ℕ)
    → member_text ns ts (Unplaced.member_step (map-Member Member Decl Member Decl unplaced_member unplaced_decl (layer_member ns ts y))) i
    ≡ DeclText.member_step ns ts (map-Member Member Decl Indented Indented (member_text ns ts) (decl_text ns ts) (layer_member ns ts y)) i
member_layer ns ts (Member-F.Inner d) i = DeclTexts.inner_text ns ts (unplaced_decl d.0) i ∙ d.1 i
member_layer ns ts (Member-F.Slot f) i = DeclTexts.slot_text ns ts (unplaced_field f) i ∙ field_unseen ns f
member_layer ns ts (Member-F.Body m) i = DeclTexts.body_member ns ts (unplaced_method m) i ∙ method_unseen ns ts m i

member_same : (ns ts : List Text) (y : ToldMember ns ts) → MemberSame ns ts (roll-Member (layer_member ns ts y))
member_same ns ts y i =
    ap (λ (m : Member). member_text ns ts m i) (stripped_member (layer_member ns ts y)) ∙ member_layer ns ts y i ∙ sym (ap (λ (w : Indented). w i) (written_member ns ts (layer_member ns ts y)))

members_lines : (ns ts : List Text) (ms : List ((m : Member) × MemberSame ns ts m)) (i : List ℕ)
    → lines i (map (member_text ns ts) (map unplaced_member (map (λ e. e.0) ms))) ≡ lines i (map (member_text ns ts) (map (λ e. e.0) ms))
members_lines ns ts [] i = refl
members_lines ns ts (m ∷ ms) i = ap₂ (λ (a b : List ℕ). i ++ (a ++ (codes "\n" ++ b))) (m.1 i) (members_lines ns ts ms i)

abbrev ToldDecl : (ns ts : List Text) → Type 0
ToldDecl ns ts = Decl-F ((m : Member) × MemberSame ns ts m) ((d : Decl) × DeclSame ns ts d)

abbrev layer_decl : (ns ts : List Text) → ToldDecl ns ts → Decl-F Member Decl
layer_decl ns ts = map-Decl _ _ _ _ (λ e. e.0) (λ e. e.0)

stripped_decl : (f : Decl-F Member Decl) → unplaced_decl (roll-Decl f) ≡ Unplaced.decl_step (map-Decl Member Decl Member Decl unplaced_member unplaced_decl f)
unfolding unplaced_member unplaced_decl
stripped_decl f = fold-roll-Decl Member Decl Unplaced.member_step Unplaced.decl_step f

decl_same : (ns ts : List Text) (y : ToldDecl ns ts) → DeclSame ns ts (roll-Decl (layer_decl ns ts y))
decl_same ns ts y i =
    let f = layer_decl ns ts y in
    let ms = map unplaced_member (map (λ e. e.0) y.members) in
    ap (λ (d : Decl). decl_text ns ts d i) (stripped_decl f)
    ∙ DeclTexts.decl_parts ns ts (decl f.kind (unplaced_named f.name) (map unplaced_named f.extends) (map unplaced_named f.shares) (map unplaced_named f.adapts) ms) i
    ∙ ap₂ (λ (a b : List ℕ). a ++ (codes " " ++ (codes "{\n" ++ (b ++ (i ++ codes "}"))))) (heading_unseen ns f.kind f.name f.extends f.shares f.adapts) (members_lines ns ts y.members (StmtText.deeper i))
    ∙ sym (DeclTexts.decl_parts ns ts (roll-Decl f) i)

decl_unseen : (ns ts : List Text) (d : Decl) → DeclSame ns ts d
decl_unseen ns ts = ind-Decl (MemberSame ns ts) (DeclSame ns ts)
    (λ x y is. subst (λ z. MemberSame ns ts (roll-Member z)) is (member_same ns ts y))
    (λ x y is. subst (λ z. DeclSame ns ts (roll-Decl z)) is (decl_same ns ts y))

decls_lines : (ns ts : List Text) (ds : List Decl) → lines [] (map (decl_text ns ts) (map unplaced_decl ds)) ≡ lines [] (map (decl_text ns ts) ds)
decls_lines ns ts [] = refl
decls_lines ns ts (d ∷ ds) = ap₂ (λ (a b : List ℕ). a ++ (codes "\n" ++ b)) (decl_unseen ns ts d []) (decls_lines ns ts ds)

text_unseen : (p : Program) → program_text (unplaced p) ≡ program_text p
text_unseen p = decls_lines p.names p.texts p.decls

pub same_text : (p q : Program) → unplaced p ≡ unplaced q → program_text p ≡ program_text q
same_text p q h = sym (text_unseen p) ∙ ap program_text h ∙ text_unseen q
