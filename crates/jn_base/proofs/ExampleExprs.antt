-- Worked expressions and terms: words with their trees.
use Rattle.std.specs.Prelude.{pos, true, [], ◌∷◌, ◌++◌, Some, None}
use Rattle.jn_base.specs.declared.tree.Node.TheVariants as node
use Rattle.jn_base.specs.declared.tree.Head.TheVariants as head
use Rattle.jn_base.specs.declared.tree.Ref.TheVariants as ref
use Rattle.jn_base.specs.declared.tree.TypeTerm.TheVariants as type_term
use Rattle.jn_base.specs.declared.tree.Level.TheVariants as level
use Rattle.jn_base.specs.declared.tree.Op.TheVariants as op
use Rattle.jn_base.specs.declared.word.Keyword.TheVariants as keyword
use Rattle.jn_base.specs.declared.word.Mark.TheVariants as marks
use Rattle.jn_base.specs.Parts.{key, mark, name, number, opening, atom, named, term, expr, suffix, link}
use Rattle.jn_base.specs.GrammarTypes.{one_name, more_names, no_dot, dot, loose, exact, tail, this, variable as variable_of, IsTerm, plain, own, in_prefix, no_mask, mask, view, last_atom, then_atom, IsType, class}
use Rattle.jn_base.specs.GrammarExpr.{or, and, equal, less, plus, minus, times, IsForm, super_call, yes, parens, field, call, no_suffix, then_suffix, post, IsUnary, inverse, negative, viewed, unsigned, product, then_factor, no_factor, sum, then_summand, no_summand, one_sum, two_sums, one_side, two_sides, conjunction, then_conjunct, no_conjunct, IsExpr, disjunction, then_disjunct, no_disjunct, no_arg, args, then_arg, no_more_arg}
use Rattle.jn_base.proofs.ExampleWords.{called, at, to_product, to_sum, to_conjunction, sum_to_expr, unary_to_expr, var_prim, var, num, var_expr, by_name}

-- A.B!.C & D\f\g, with the names A 0, B 1, C 2, D 3, f 4, g 5
pub masked_type : IsType 0
    (atom 1 (name (called 0) (at 1) ∷ mark marks.Dot (at 2) ∷ name (called 1) (at 3) ∷ mark marks.Bang (at 4) ∷ mark marks.Dot (at 5) ∷ name (called 2) (at 6) ∷ [])
    ++ mark marks.Ampersand (at 8) ∷ atom 2 (name (called 3) (at 10) ∷ [])
    ++ mark marks.Backslash (at 11) ∷ name (called 4) (at 12) ∷ mark marks.Backslash (at 13) ∷ name (called 5) (at 14) ∷ [])
    (type_term.Class (term head.Plain (called 0 ∷ called 1 ∷ []) (called 2 ∷ []) (at 1) ∷ term head.Plain [] (called 3 ∷ []) (at 10) ∷ [])
    (named (called 4) (at 12) ∷ named (called 5) (at 14) ∷ []))
masked_type = class
    (then_atom (at 8) (plain {d = 0} (exact (at 4) (more_names {x = called 0} {p = at 1} {q = at 3} (at 2) (one_name {x = called 1})) (dot {x = called 2} {o = at 5} {p = at 6} no_dot)))
    (last_atom (by_name 0 3 10)))
    (mask {x = called 4} {o = at 11} {p = at 12} (mask {x = called 5} {o = at 13} {p = at 14} no_mask))

-- this.class.N
pub own_term : IsTerm 0 (at 1)
    (key keyword.This (at 1) ∷ mark marks.Dot (at 5) ∷ key keyword.Class (at 6) ∷ mark marks.Dot (at 11) ∷ name (called 0) (at 12) ∷ [])
    (term (head.Own ref.This) [] (called 0 ∷ []) (at 1))
own_term = own (at 5) (at 6) this (tail {o = at 11} (loose (one_name {x = called 0} {p = at 12})))

-- P[p.class].T, with the names P 0, p 1, T 2
pub prefix_term : IsTerm 0 (at 1)
    (name (called 0) (at 1) ∷ opening 0 marks.OpenBracket (at 2) ∷ name (called 1) (at 3) ∷ mark marks.Dot (at 4) ∷ key keyword.Class (at 5)
    ∷ mark marks.CloseBracket (at 10) ∷ mark marks.Dot (at 11) ∷ name (called 2) (at 12) ∷ [])
    (term (head.Prefix (called 0 ∷ []) (ref.Var (called 1))) [] (called 2 ∷ []) (at 1))
prefix_term = in_prefix {q = at 3} (at 2) (at 4) (at 5) (at 10) (one_name {x = called 0}) (variable_of {x = called 1})
    (tail {o = at 11} (loose (one_name {x = called 2} {p = at 12})))

-- a + b * c - 1
pub sums : IsExpr 0 (at 1)
    (name (called 0) (at 1) ∷ mark marks.Plus (at 3) ∷ name (called 1) (at 5) ∷ mark marks.Star (at 7) ∷ name (called 2) (at 9) ∷ mark marks.Minus (at 11) ∷ number (pos 1) (at 13) ∷ [])
    (expr (at 1) (node.Chain level.Sum (expr (at 1) (node.Var (called 0)))
    (link op.Add (at 3) (expr (at 5) (node.Chain level.Product (expr (at 5) (node.Var (called 1))) (link op.Mul (at 7) (expr (at 9) (node.Var (called 2))) ∷ [])))
    ∷ link op.Sub (at 11) (expr (at 13) (node.Int (pos 1))) ∷ [])))
sums = sum_to_expr (sum (to_product (var 0 0 1))
    (then_summand {p = at 3} plus (product (var 0 1 5) (then_factor {p = at 7} times (var 0 2 9) no_factor))
    (then_summand {p = at 11} minus (to_product (num 0 1 13)) no_summand)))

-- (a + b) * c: the product stands at the parenthesis, the sum at its first operand
pub grouped : IsExpr 0 (at 1)
    (opening 0 marks.OpenParen (at 1) ∷ name (called 0) (at 2) ∷ mark marks.Plus (at 4) ∷ name (called 1) (at 6) ∷ mark marks.CloseParen (at 7) ∷ mark marks.Star (at 9) ∷ name (called 2) (at 11) ∷ [])
    (expr (at 1) (node.Chain level.Product
    (expr (at 2) (node.Chain level.Sum (expr (at 2) (node.Var (called 0))) (link op.Add (at 4) (expr (at 6) (node.Var (called 1))) ∷ [])))
    (link op.Mul (at 9) (expr (at 11) (node.Var (called 2))) ∷ [])))
grouped = sum_to_expr (to_sum (product
    (unsigned (post {p = at 1} (parens (at 7) (sum_to_expr (sum (to_product (var 1 0 2)) (then_summand {p = at 4} plus (to_product (var 1 1 6)) no_summand)))) no_suffix))
    (then_factor {p = at 9} times (var 0 2 11) no_factor)))

-- a < b == true && c || !d: a chain of each of the four loose levels
pub levels : IsExpr 0 (at 1)
    (name (called 0) (at 1) ∷ mark marks.Less (at 3) ∷ name (called 1) (at 5) ∷ mark marks.EqualEqual (at 7) ∷ key keyword.True (at 10) ∷ mark marks.AndAnd (at 15)
    ∷ name (called 2) (at 18) ∷ mark marks.OrOr (at 20) ∷ opening 0 marks.Bang (at 23) ∷ name (called 3) (at 24) ∷ [])
    (expr (at 1) (node.Chain level.Or
    (expr (at 1) (node.Chain level.And
    (expr (at 1) (node.Chain level.Equal
    (expr (at 1) (node.Chain level.Compare (expr (at 1) (node.Var (called 0))) (link op.Lt (at 3) (expr (at 5) (node.Var (called 1))) ∷ [])))
    (link op.Eq (at 7) (expr (at 10) (node.Bool true)) ∷ [])))
    (link op.And (at 15) (expr (at 18) (node.Var (called 2))) ∷ [])))
    (link op.Or (at 20) (expr (at 23) (node.Not (expr (at 24) (node.Var (called 3))))) ∷ [])))
levels = disjunction
    (conjunction
    (two_sides (at 7) (two_sums (at 3) (to_sum (to_product (var 0 0 1))) less (to_sum (to_product (var 0 1 5)))) equal
    (one_sum (to_sum (to_product (unsigned (post (yes {d = 0} {p = at 10}) no_suffix))))))
    (then_conjunct {p = at 15} and (one_side (one_sum (to_sum (to_product (var 0 2 18))))) no_conjunct))
    (then_disjunct {p = at 20} or (to_conjunction (one_side (one_sum (to_sum (to_product (inverse {p = at 23} (var 1 3 24))))))) no_disjunct)

-- (view T\f) x.g
pub view_of : IsUnary 0 (at 1)
    (opening 0 marks.OpenParen (at 1) ∷ key keyword.View (at 2) ∷ name (called 0) (at 7) ∷ mark marks.Backslash (at 8) ∷ name (called 1) (at 9) ∷ mark marks.CloseParen (at 10)
    ∷ name (called 2) (at 12) ∷ mark marks.Dot (at 13) ∷ name (called 3) (at 14) ∷ [])
    (expr (at 1) (node.View (record { term = term head.Plain [] (called 0 ∷ []) (at 7); masks = named (called 1) (at 9) ∷ [] })
    (expr (at 12) (node.Post (expr (at 12) (node.Var (called 2))) (suffix (called 3) (at 14) None ∷ [])))))
view_of = viewed (at 2) (at 10) (view (by_name 1 0 7) (mask {x = called 1} {o = at 8} {p = at 9} no_mask))
    (unsigned (post (var_prim 1 2 12) (then_suffix (field {x = called 3} {o = at 13} {p = at 14}) no_suffix)))

-- -a.m(1, b): the sign is open to the end of the call
pub signed_call : IsUnary 0 (at 1)
    (opening 0 marks.Minus (at 1) ∷ name (called 0) (at 2) ∷ mark marks.Dot (at 3) ∷ name (called 1) (at 4) ∷ opening 1 marks.OpenParen (at 5)
    ∷ number (pos 1) (at 6) ∷ mark marks.Comma (at 7) ∷ name (called 2) (at 9) ∷ mark marks.CloseParen (at 10) ∷ [])
    (expr (at 1) (node.Neg (expr (at 2) (node.Post (expr (at 2) (node.Var (called 0)))
    (suffix (called 1) (at 4) (Some (expr (at 6) (node.Int (pos 1)) ∷ expr (at 9) (node.Var (called 2)) ∷ [])) ∷ [])))))
signed_call = negative {p = at 1} (unsigned (post (var_prim 1 0 2)
    (then_suffix (call {x = called 1} {o = at 3} {p = at 4} {q = at 5} (at 10) (args (unary_to_expr (num 2 1 6)) (then_arg {o = at 7} (var_expr 2 2 9) no_more_arg))) no_suffix)))

-- super[B].m()
pub super_form : IsForm 0 (at 1)
    (key keyword.Super (at 1) ∷ opening 0 marks.OpenBracket (at 6) ∷ name (called 0) (at 7) ∷ mark marks.CloseBracket (at 8) ∷ mark marks.Dot (at 9) ∷ name (called 1) (at 10)
    ∷ opening 0 marks.OpenParen (at 11) ∷ mark marks.CloseParen (at 12) ∷ [])
    (expr (at 1) (node.Super (term head.Plain [] (called 0 ∷ []) (at 7)) (named (called 1) (at 10)) []))
super_form = super_call (at 6) (at 8) (at 9) (at 10) (at 11) (at 12) (by_name 1 0 7) no_arg
