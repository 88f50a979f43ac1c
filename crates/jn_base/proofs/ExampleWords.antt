-- Words for the examples: names by their numbers, and places by their columns in line 1.
use Rattle.std.specs.Prelude.{ℕ, pos, List, []}
use Rattle.jn_base.specs.declared.tree.Name.{Name}
use Rattle.jn_base.specs.declared.tree.Place.{Place}
use Rattle.jn_base.specs.declared.tree.Expr.{Expr}
use Rattle.jn_base.specs.declared.tree.Node.TheVariants as node
use Rattle.jn_base.specs.Parts.{Part, name, number, expr}
use Rattle.jn_base.specs.GrammarTypes.{one_name, loose, IsTerm, plain}
use Rattle.jn_base.specs.GrammarExpr.{IsPrim, variable, constant, no_suffix, post, IsUnary, unsigned, IsProduct, product, no_factor, IsSum, sum, no_summand, one_sum, IsEquality, one_side, IsConjunction, conjunction, no_conjunct, IsExpr, disjunction, no_disjunct}
use Rattle.jn_base.specs.Parts.{term}
use Rattle.jn_base.specs.declared.tree.Head.TheVariants as head
use Rattle.std.specs.Prelude.{◌∷◌, ◌++◌}

abbrev pub called : ℕ → Name
called n = record { 0 = n }

abbrev pub at : ℕ → Place
at n = record { line = 1; column = n }

-- an operand is an expression of each looser level
pub to_product : {d : ℕ} {p : Place} {w : List Part} {e : Expr} → IsUnary d p w e → IsProduct d p (w ++ []) e
to_product u = product u no_factor

pub to_sum : {d : ℕ} {p : Place} {w : List Part} {e : Expr} → IsProduct d p w e → IsSum d p (w ++ []) e
to_sum e = sum e no_summand

pub to_conjunction : {d : ℕ} {p : Place} {w : List Part} {e : Expr} → IsEquality d p w e → IsConjunction d p (w ++ []) e
to_conjunction e = conjunction e no_conjunct

pub to_expr : {d : ℕ} {p : Place} {w : List Part} {e : Expr} → IsConjunction d p w e → IsExpr d p (w ++ []) e
to_expr e = disjunction e no_disjunct

pub sum_to_expr : {d : ℕ} {p : Place} {w : List Part} {e : Expr} → IsSum d p w e → IsExpr d p ((w ++ []) ++ []) e
sum_to_expr e = to_expr (to_conjunction (one_side (one_sum e)))

pub unary_to_expr : {d : ℕ} {p : Place} {w : List Part} {e : Expr} → IsUnary d p w e → IsExpr d p ((((w ++ []) ++ []) ++ []) ++ []) e
unary_to_expr u = sum_to_expr (to_sum (to_product u))

-- the variable of a name, a number, and a class by its name
pub var_prim : (d x p : ℕ) → IsPrim d (at p) (name (called x) (at p) ∷ []) (expr (at p) (node.Var (called x)))
var_prim d x p = variable

pub var : (d x p : ℕ) → IsUnary d (at p) (name (called x) (at p) ∷ []) (expr (at p) (node.Var (called x)))
var d x p = unsigned (post (var_prim d x p) no_suffix)

pub num : (d v p : ℕ) → IsUnary d (at p) (number (pos v) (at p) ∷ []) (expr (at p) (node.Int (pos v)))
num d v p = unsigned (post constant no_suffix)

pub var_expr : (d x p : ℕ) → IsExpr d (at p) (name (called x) (at p) ∷ []) (expr (at p) (node.Var (called x)))
var_expr d x p = unary_to_expr (var d x p)

pub by_name : (d x p : ℕ) → IsTerm d (at p) (name (called x) (at p) ∷ []) (term head.Plain [] (called x ∷ []) (at p))
by_name d x p = plain (loose one_name)
