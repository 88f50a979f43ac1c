-- Expressions as they are written.
use Rattle.std.specs.Prelude.{ℕ, Bool, true, false, List, [], ◌∷◌, ◌++◌, map, Option, Some, None, codes, not, nat_le}
use Rattle.std.specs.Fmt.{signed_decimal}
use Rattle.jn_base.specs.declared.tree.Text.{Text}
use Rattle.jn_base.specs.declared.tree.Level.{Level}
use Rattle.jn_base.specs.declared.tree.Level.TheVariants as level
use Rattle.jn_base.specs.declared.tree.Op.{Op}
use Rattle.jn_base.specs.declared.tree.Op.TheVariants as op
use Rattle.jn_base.specs.declared.tree.Expr.{Expr, fold-Expr}
use Rattle.jn_base.specs.declared.tree.Node.{Node, fold-Node, out-Node}
use Rattle.jn_base.specs.declared.tree.Link.{Link, fold-Link}
use Rattle.jn_base.specs.declared.tree.Suffix.{Suffix, fold-Suffix}
use Rattle.jn_base.specs.declared.tree.Node.TheOpen.{Node-F, Expr-F, Link-F, Suffix-F}
use Rattle.jn_printer.specs.declared.symbol.Symbol.{Symbol}
use Rattle.jn_printer.specs.declared.symbol.Symbol.TheVariants as symbol
use Rattle.jn_printer.specs.Pieces.{text_if, joined, name_text, term_text, view_text}

-- The symbols of the grammar by how tightly they bind. Each rule may take one operand of the next symbol alone, so an
-- instance of a symbol is an instance of each looser one, and of no tighter one.
abbrev pub tightness : Symbol → ℕ
tightness symbol.Expression = 0
tightness symbol.Conjunction = 1
tightness symbol.Equality = 2
tightness symbol.Comparison = 3
tightness symbol.Sum = 4
tightness symbol.Product = 5
tightness symbol.Unary = 6
tightness symbol.Post = 7
tightness symbol.Prim = 8

abbrev pub is_instance : Symbol → Symbol → Bool
is_instance own asked = nat_le (tightness asked) (tightness own)

-- the symbol of a chain of the level, and the one that the grammar asks for at its operands
abbrev pub chain_symbol : Level → Symbol
chain_symbol level.Or = symbol.Expression
chain_symbol level.And = symbol.Conjunction
chain_symbol level.Equal = symbol.Equality
chain_symbol level.Compare = symbol.Comparison
chain_symbol level.Sum = symbol.Sum
chain_symbol level.Product = symbol.Product

abbrev pub operand_symbol : Level → Symbol
operand_symbol level.Or = symbol.Conjunction
operand_symbol level.And = symbol.Equality
operand_symbol level.Equal = symbol.Comparison
operand_symbol level.Compare = symbol.Sum
operand_symbol level.Sum = symbol.Product
operand_symbol level.Product = symbol.Unary

-- the tightest symbol of which an expression of this form is an instance
abbrev pub symbol_at : {N E L S : Type 0} → Node-F N E L S → Symbol
symbol_at (Node-F.Int n) = symbol.Prim
symbol_at (Node-F.Bool b) = symbol.Prim
symbol_at Node-F.Null = symbol.Prim
symbol_at Node-F.This = symbol.Prim
symbol_at (Node-F.Var x) = symbol.Prim
symbol_at (Node-F.New term args) = symbol.Prim
symbol_at (Node-F.Super term name args) = symbol.Prim
symbol_at (Node-F.Post first suffixes) = symbol.Post
symbol_at (Node-F.Not e) = symbol.Unary
symbol_at (Node-F.Neg e) = symbol.Unary
symbol_at (Node-F.View view e) = symbol.Unary
symbol_at (Node-F.Chain level first links) = chain_symbol level

abbrev pub symbol_of : Node → Symbol
symbol_of n = symbol_at (out-Node n)

abbrev pub op_text : Op → List ℕ
op_text op.Or = codes " || "
op_text op.And = codes " && "
op_text op.Eq = codes " == "
op_text op.Ne = codes " != "
op_text op.Lt = codes " < "
op_text op.Le = codes " <= "
op_text op.Gt = codes " > "
op_text op.Ge = codes " >= "
op_text op.Add = codes " + "
op_text op.Sub = codes " - "
op_text op.Mul = codes " * "
op_text op.Div = codes " / "
op_text op.Rem = codes " % "

abbrev pub truth : Bool → List ℕ
truth true = codes "true"
truth false = codes "false"

-- what is written at a place that asks for a symbol
abbrev pub Writer : Type 0
Writer = Symbol → List ℕ

-- an expression without parentheses round it, and its symbol
pub record Bare : Type 0 where
  pub symbol : Symbol
  pub text : List ℕ

-- An operand stands in parentheses exactly where it is no instance of the symbol that its place asks for.
abbrev pub placed : Bare → Writer
placed e asked = text_if (not (is_instance e.symbol asked)) (codes "(")
    ++ (e.text ++ text_if (not (is_instance e.symbol asked)) (codes ")"))

-- where any expression may stand
abbrev pub whole : Writer → List ℕ
whole w = w symbol.Expression

abbrev pub args_text : List Writer → List ℕ
args_text ws = codes "(" ++ (joined whole (codes ", ") false ws ++ codes ")")

abbrev pub given_args : Option (List Writer) → List ℕ
given_args None = []
given_args (Some ws) = args_text ws

-- each at a place that asks for the symbol, one behind the other
abbrev pub all_at : Symbol → List Writer → List ℕ
all_at asked [] = []
all_at asked (w ∷ ws) = w asked ++ all_at asked ws

abbrev pub all_of : List (List ℕ) → List ℕ
all_of [] = []
all_of (w ∷ ws) = w ++ all_of ws

abbrev pub bare_text : List Text → Node-F Bare Writer Writer (List ℕ) → List ℕ
bare_text ns (Node-F.Int n) = signed_decimal n
bare_text ns (Node-F.Bool b) = truth b
bare_text ns Node-F.Null = codes "null"
bare_text ns Node-F.This = codes "this"
bare_text ns (Node-F.Var x) = name_text ns x
bare_text ns (Node-F.New term args) = codes "new " ++ (term_text ns term ++ args_text args)
bare_text ns (Node-F.Super term name args) =
    codes "super[" ++ (term_text ns term ++ (codes "]." ++ (name_text ns name.name ++ args_text args)))
bare_text ns (Node-F.Post first suffixes) = first symbol.Prim ++ all_of suffixes
bare_text ns (Node-F.Not e) = codes "!" ++ e symbol.Unary
bare_text ns (Node-F.Neg e) = codes "-" ++ e symbol.Unary
bare_text ns (Node-F.View view e) = codes "(view " ++ (view_text ns view ++ (codes ") " ++ e symbol.Unary))
bare_text ns (Node-F.Chain level first links) = first (operand_symbol level) ++ all_at (operand_symbol level) links

abbrev pub node_step : List Text → Node-F Bare Writer Writer (List ℕ) → Bare
node_step ns n = record { symbol = symbol_at n; text = bare_text ns n }

abbrev pub expr_step : List Text → Expr-F Bare Writer Writer (List ℕ) → Writer
expr_step ns e = placed e.node

-- an operator and its right operand
abbrev pub link_step : List Text → Link-F Bare Writer Writer (List ℕ) → Writer
link_step ns l asked = op_text l.op ++ l.right asked

abbrev pub suffix_step : List Text → Suffix-F Bare Writer Writer (List ℕ) → List ℕ
suffix_step ns s = codes "." ++ (name_text ns s.name.name ++ given_args s.args)

unfoldable pub node_bare : List Text → Node → Bare
node_bare ns = fold-Node Bare Writer Writer (List ℕ) (node_step ns) (expr_step ns) (link_step ns) (suffix_step ns)

unfoldable pub expr_text : List Text → Expr → Writer
expr_text ns = fold-Expr Bare Writer Writer (List ℕ) (node_step ns) (expr_step ns) (link_step ns) (suffix_step ns)

unfoldable pub link_text : List Text → Link → Writer
link_text ns = fold-Link Bare Writer Writer (List ℕ) (node_step ns) (expr_step ns) (link_step ns) (suffix_step ns)

unfoldable pub suffix_text : List Text → Suffix → List ℕ
suffix_text ns = fold-Suffix Bare Writer Writer (List ℕ) (node_step ns) (expr_step ns) (link_step ns) (suffix_step ns)

-- the arguments of a suffix, where there are any
abbrev pub map_args : List Text → Option (List Expr) → Option (List Writer)
map_args ns None = None
map_args ns (Some es) = Some (map (expr_text ns) es)
