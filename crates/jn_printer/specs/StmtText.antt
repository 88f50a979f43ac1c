-- Statements as they are written: each without its indentation and the line feed at its end.
use Rattle.std.specs.Prelude.{ℕ, List, [], ◌∷◌, ◌++◌, map, Option, Some, None, codes, slice_get, ◌==◌, if◌then◌else◌}
use Rattle.jn_base.specs.declared.tree.Text.{Text}
use Rattle.jn_base.specs.declared.tree.Expr.{Expr}
use Rattle.jn_base.specs.declared.tree.Stmt.{Stmt, fold-Stmt}
use Rattle.jn_base.specs.declared.tree.Stmt.TheOpen.{Stmt-F}
use Rattle.jn_base.specs.Tokens.{quote, backslash, line_feed}
use Rattle.jn_printer.specs.declared.symbol.Symbol.TheVariants as symbol
use Rattle.jn_printer.specs.Pieces.{text_if, bytes_of, name_text, type_text}
use Rattle.jn_printer.specs.ExprText.{expr_text}

-- what is written with an indentation in front of its lines
abbrev pub Indented : Type 0
Indented = List ℕ → List ℕ

abbrev pub deeper : List ℕ → List ℕ
deeper indent = indent ++ codes "  "

-- each on lines of its own
abbrev pub lines : List ℕ → List Indented → List ℕ
lines indent [] = []
lines indent (w ∷ ws) = indent ++ (w indent ++ (codes "\n" ++ lines indent ws))

-- in braces, two spaces further to the right
abbrev pub braced : List ℕ → List Indented → List ℕ
braced indent ws = codes "{\n" ++ (lines (deeper indent) ws ++ (indent ++ codes "}"))

-- an empty block is the same as no `else`
abbrev pub else_text : List ℕ → List Indented → List ℕ
else_text indent [] = []
else_text indent (w ∷ ws) = codes " else " ++ braced indent (w ∷ ws)

abbrev pub given_text : List Text → Option Expr → List ℕ
given_text ns None = []
given_text ns (Some e) = codes " " ++ expr_text ns e symbol.Expression

-- the escapes `\"`, `\\` and `\n`, and every other byte as it is
abbrev pub escape : ℕ → List ℕ
escape c = if c == quote then codes "\\\"" else if c == backslash then codes "\\\\" else if c == line_feed then codes "\\n" else c ∷ []

abbrev pub escaped : List ℕ → List ℕ
escaped [] = []
escaped (c ∷ cs) = escape c ++ escaped cs

-- The place of a call asks for a Post: what is no call of the grammar can stand there in no way. So does what stands in
-- front of the last name of `E.f = E;`.
abbrev pub stmt_step : (names texts : List Text) → Stmt-F Indented → Indented
stmt_step ns ts (Stmt-F.Block body) indent = braced indent body
stmt_step ns ts (Stmt-F.Local fixed ty name e) indent =
    text_if fixed (codes "final ") ++ (type_text ns ty ++ (codes " " ++ (name_text ns name.name ++ (codes " = " ++ (expr_text ns e symbol.Expression ++ codes ";")))))
stmt_step ns ts (Stmt-F.Assign name e) indent =
    name_text ns name.name ++ (codes " = " ++ (expr_text ns e symbol.Expression ++ codes ";"))
stmt_step ns ts (Stmt-F.Set of name e) indent =
    expr_text ns of symbol.Post ++ (codes "." ++ (name_text ns name.name ++ (codes " = " ++ (expr_text ns e symbol.Expression ++ codes ";"))))
stmt_step ns ts (Stmt-F.Do e) indent = expr_text ns e symbol.Post ++ codes ";"
stmt_step ns ts (Stmt-F.If e body other at) indent =
    codes "if (" ++ (expr_text ns e symbol.Expression ++ (codes ") " ++ (braced indent body ++ else_text indent other)))
stmt_step ns ts (Stmt-F.While e body at) indent =
    codes "while (" ++ (expr_text ns e symbol.Expression ++ (codes ") " ++ braced indent body))
stmt_step ns ts (Stmt-F.Return e at) indent = codes "return" ++ (given_text ns e ++ codes ";")
stmt_step ns ts (Stmt-F.Print e at) indent = codes "print(" ++ (expr_text ns e symbol.Expression ++ codes ");")
stmt_step ns ts (Stmt-F.PrintText text at) indent =
    codes "print(\"" ++ (escaped (bytes_of (slice_get ts text)) ++ codes "\");")

unfoldable pub stmt_text : (names texts : List Text) → Stmt → Indented
stmt_text ns ts = fold-Stmt Indented (stmt_step ns ts)

-- the statements of a body
abbrev pub body_text : (names texts : List Text) → List Stmt → Indented
body_text ns ts body indent = braced indent (map (stmt_text ns ts) body)
