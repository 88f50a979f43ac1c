-- What stands twice in a tree, one level deep.
use Rattle.std.proofs.Common.{◌≡◌, ◌∙◌, ℕ, Bool, List, [], ◌∷◌, ◌++◌, map, ap, Option}
use Rattle.jn_base.specs.declared.tree.Named.{Named}
use Rattle.jn_base.specs.declared.tree.Place.{Place}
use Rattle.jn_base.specs.declared.tree.TypeTerm.{TypeTerm}
use Rattle.jn_base.specs.declared.tree.Expr.{Expr}
use Rattle.jn_base.specs.declared.tree.Field.{Field}
use Rattle.jn_base.specs.declared.tree.Method.{Method}
use Rattle.jn_base.specs.declared.tree.Decl.{Decl}
use Rattle.jn_base.specs.declared.tree.Stmt.{Stmt, out-Stmt}
use Rattle.jn_base.specs.declared.tree.Stmt.TheOpen.{Stmt-F}
use Rattle.jn_base.specs.declared.tree.Stmt.TheFolds.{map-Stmt, fold_out-Stmt}
use Rattle.jn_base.specs.declared.tree.Stmt.TheVariants as stmt
use Rattle.jn_base.specs.declared.tree.Stmt.TheVariants.{outs-Block, outs-Local, outs-Assign, outs-Set, outs-Do, outs-If, outs-While, outs-Return, outs-Print, outs-PrintText}
use Rattle.jn_base.specs.declared.tree.Member.{Member, out-Member}
use Rattle.jn_base.specs.declared.tree.Member.TheOpen.{Member-F}
use Rattle.jn_base.specs.declared.tree.Member.TheFolds.{map-Member, fold_out-Member, fold_out-Decl}
use Rattle.jn_base.specs.declared.tree.Member.TheVariants as member
use Rattle.jn_base.specs.declared.tree.Member.TheVariants.{outs-Inner, outs-Slot, outs-Body}
use Rattle.jn_base.specs.Duplicates.{InStmt, InMember, InDecl, of_decls, of_fields, of_methods, nothing, only_if, has_name, duplicate, stmt_step, member_step, decl_step, in_block, in_stmt, in_member, in_decl, in_members, in_lists, in_method}

stmt_from : (s : Stmt) (f : Stmt-F Stmt) → out-Stmt s ≡ f → in_stmt s ≡ stmt_step (map-Stmt _ _ in_stmt f)
stmt_from s f e = fold_out-Stmt InStmt stmt_step s ∙ ap (λ (x : Stmt-F Stmt). stmt_step (map-Stmt _ _ in_stmt x)) e

pub at_block : (body : List Stmt) → in_stmt (stmt.Block body) ≡ record { found = in_block (map in_stmt body); binds = [] }
at_block body = stmt_from (stmt.Block body) _ (outs-Block body)

pub at_local : (fixed : Bool) (ty : TypeTerm) (name : Named) (e : Expr)
    → in_stmt (stmt.Local fixed ty name e) ≡ record { found = λ scope. only_if (has_name scope name.name) (name ∷ []); binds = name.name ∷ [] }
at_local fixed ty name e = stmt_from (stmt.Local fixed ty name e) _ (outs-Local fixed ty name e)

pub at_if : (e : Expr) (body other : List Stmt) (at : Place)
    → in_stmt (stmt.If e body other at) ≡ record { found = λ scope. in_block (map in_stmt body) scope ++ in_block (map in_stmt other) scope; binds = [] }
at_if e body other at = stmt_from (stmt.If e body other at) _ (outs-If e body other at)

pub at_while : (e : Expr) (body : List Stmt) (at : Place) → in_stmt (stmt.While e body at) ≡ record { found = in_block (map in_stmt body); binds = [] }
at_while e body at = stmt_from (stmt.While e body at) _ (outs-While e body at)

pub at_assign : (n : Named) (e : Expr) → in_stmt (stmt.Assign n e) ≡ nothing
at_assign n e = stmt_from (stmt.Assign n e) _ (outs-Assign n e)

pub at_set : (a : Expr) (n : Named) (e : Expr) → in_stmt (stmt.Set a n e) ≡ nothing
at_set a n e = stmt_from (stmt.Set a n e) _ (outs-Set a n e)

pub at_do : (e : Expr) → in_stmt (stmt.Do e) ≡ nothing
at_do e = stmt_from (stmt.Do e) _ (outs-Do e)

pub at_return : (e : Option Expr) (at : Place) → in_stmt (stmt.Return e at) ≡ nothing
at_return e at = stmt_from (stmt.Return e at) _ (outs-Return e at)

pub at_print : (e : Expr) (at : Place) → in_stmt (stmt.Print e at) ≡ nothing
at_print e at = stmt_from (stmt.Print e at) _ (outs-Print e at)

pub at_text : (t : ℕ) (at : Place) → in_stmt (stmt.PrintText t at) ≡ nothing
at_text t at = stmt_from (stmt.PrintText t at) _ (outs-PrintText t at)

-- ---- members and declarations

member_from : (m : Member) (f : Member-F Member Decl) → out-Member m ≡ f → in_member m ≡ member_step (map-Member _ _ _ _ in_member in_decl f)
member_from m f e = fold_out-Member InMember InDecl member_step decl_step m ∙ ap (λ (x : Member-F Member Decl). member_step (map-Member _ _ _ _ in_member in_decl x)) e

pub at_inner : (d : Decl) → in_member (member.Inner d) ≡ record { given = record { space = of_decls; name = (in_decl d).name }; inside = (in_decl d).inside }
at_inner d = member_from (member.Inner d) _ (outs-Inner d)

pub at_slot : (f : Field) → in_member (member.Slot f) ≡ record { given = record { space = of_fields; name = f.name }; inside = λ R. [] }
at_slot f = member_from (member.Slot f) _ (outs-Slot f)

pub at_body : (m : Method) → in_member (member.Body m) ≡ record { given = record { space = of_methods; name = m.name }; inside = λ R. map (duplicate R) (in_method m) }
at_body m = member_from (member.Body m) _ (outs-Body m)

pub at_decl : (d : Decl) → in_decl d ≡ record {
  name = d.name;
  inside = λ P. in_lists (d.name.name ∷ P) d.extends d.shares d.adapts ++ in_members (d.name.name ∷ P) [] (map in_member d.members);
}
at_decl d = fold_out-Decl InMember InDecl member_step decl_step d
