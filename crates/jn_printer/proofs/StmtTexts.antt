-- The equations of statements' texts, one level deep.
use Rattle.std.proofs.Common.{◌≡◌, ℕ, Bool, List, ◌++◌, map, ap, ◌∙◌, Option}
use Rattle.std.specs.Prelude.{codes, slice_get}
use Rattle.jn_base.specs.declared.tree.Text.{Text}
use Rattle.jn_base.specs.declared.tree.Place.{Place}
use Rattle.jn_base.specs.declared.tree.Named.{Named}
use Rattle.jn_base.specs.declared.tree.TypeTerm.{TypeTerm}
use Rattle.jn_base.specs.declared.tree.Expr.{Expr}
use Rattle.jn_base.specs.declared.tree.Stmt.{Stmt, out-Stmt}
use Rattle.jn_base.specs.declared.tree.Stmt.TheOpen.{Stmt-F}
use Rattle.jn_base.specs.declared.tree.Stmt.TheFolds.{map-Stmt, fold_out-Stmt}
use Rattle.jn_base.specs.declared.tree.Stmt.TheVariants as stmt
use Rattle.jn_base.specs.declared.tree.Stmt.TheVariants.{outs-Block, outs-Local, outs-Assign, outs-Set, outs-Do, outs-If, outs-While, outs-Return, outs-Print, outs-PrintText}
use Rattle.jn_printer.specs.declared.symbol.Symbol.TheVariants as symbol
use Rattle.jn_printer.specs.Pieces.{text_if, bytes_of, name_text, type_text}
use Rattle.jn_printer.specs.ExprText.{expr_text}
use Rattle.jn_printer.specs.StmtText.{Indented, braced, else_text, given_text, escaped, stmt_step, stmt_text}

from : (ns ts : List Text) (s : Stmt) (f : Stmt-F Stmt) → out-Stmt s ≡ f → (indent : List ℕ)
    → stmt_text ns ts s indent ≡ stmt_step ns ts (map-Stmt Stmt Indented (stmt_text ns ts) f) indent
unfolding stmt_text
from ns ts s f e indent =
    ap (λ (w : Indented). w indent) (fold_out-Stmt Indented (stmt_step ns ts) s)
    ∙ ap (λ (x : Stmt-F Stmt). stmt_step ns ts (map-Stmt Stmt Indented (stmt_text ns ts) x) indent) e

pub block_text : (ns ts : List Text) (body : List Stmt) (indent : List ℕ)
    → stmt_text ns ts (stmt.Block body) indent ≡ braced indent (map (stmt_text ns ts) body)
block_text ns ts body indent = from ns ts (stmt.Block body) _ (outs-Block body) indent

pub local_text : (ns ts : List Text) (fixed : Bool) (ty : TypeTerm) (x : Named) (e : Expr) (indent : List ℕ)
    → stmt_text ns ts (stmt.Local fixed ty x e) indent
    ≡ text_if fixed (codes "final ") ++ (type_text ns ty ++ (codes " " ++ (name_text ns x.name ++ (codes " = " ++ (expr_text ns e symbol.Expression ++ codes ";")))))
local_text ns ts fixed ty x e indent = from ns ts (stmt.Local fixed ty x e) _ (outs-Local fixed ty x e) indent

pub assign_text : (ns ts : List Text) (x : Named) (e : Expr) (indent : List ℕ)
    → stmt_text ns ts (stmt.Assign x e) indent ≡ name_text ns x.name ++ (codes " = " ++ (expr_text ns e symbol.Expression ++ codes ";"))
assign_text ns ts x e indent = from ns ts (stmt.Assign x e) _ (outs-Assign x e) indent

pub set_text : (ns ts : List Text) (of : Expr) (x : Named) (e : Expr) (indent : List ℕ)
    → stmt_text ns ts (stmt.Set of x e) indent
    ≡ expr_text ns of symbol.Post ++ (codes "." ++ (name_text ns x.name ++ (codes " = " ++ (expr_text ns e symbol.Expression ++ codes ";"))))
set_text ns ts of x e indent = from ns ts (stmt.Set of x e) _ (outs-Set of x e) indent

pub do_text : (ns ts : List Text) (e : Expr) (indent : List ℕ) → stmt_text ns ts (stmt.Do e) indent ≡ expr_text ns e symbol.Post ++ codes ";"
do_text ns ts e indent = from ns ts (stmt.Do e) _ (outs-Do e) indent

pub if_text : (ns ts : List Text) (e : Expr) (body other : List Stmt) (at : Place) (indent : List ℕ)
    → stmt_text ns ts (stmt.If e body other at) indent
    ≡ codes "if (" ++ (expr_text ns e symbol.Expression ++ (codes ") " ++ (braced indent (map (stmt_text ns ts) body) ++ else_text indent (map (stmt_text ns ts) other))))
if_text ns ts e body other at indent = from ns ts (stmt.If e body other at) _ (outs-If e body other at) indent

pub while_text : (ns ts : List Text) (e : Expr) (body : List Stmt) (at : Place) (indent : List ℕ)
    → stmt_text ns ts (stmt.While e body at) indent
    ≡ codes "while (" ++ (expr_text ns e symbol.Expression ++ (codes ") " ++ braced indent (map (stmt_text ns ts) body)))
while_text ns ts e body at indent = from ns ts (stmt.While e body at) _ (outs-While e body at) indent

pub return_text : (ns ts : List Text) (e : Option Expr) (at : Place) (indent : List ℕ)
    → stmt_text ns ts (stmt.Return e at) indent ≡ codes "return" ++ (given_text ns e ++ codes ";")
return_text ns ts e at indent = from ns ts (stmt.Return e at) _ (outs-Return e at) indent

pub print_text : (ns ts : List Text) (e : Expr) (at : Place) (indent : List ℕ)
    → stmt_text ns ts (stmt.Print e at) indent ≡ codes "print(" ++ (expr_text ns e symbol.Expression ++ codes ");")
print_text ns ts e at indent = from ns ts (stmt.Print e at) _ (outs-Print e at) indent

pub string_text : (ns ts : List Text) (n : ℕ) (at : Place) (indent : List ℕ)
    → stmt_text ns ts (stmt.PrintText n at) indent ≡ codes "print(\"" ++ (escaped (bytes_of (slice_get ts n)) ++ codes "\");")
string_text ns ts n at indent = from ns ts (stmt.PrintText n at) _ (outs-PrintText n at) indent
