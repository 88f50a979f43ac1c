-- What the grammar says of operands: which expressions are instances of which symbols.
use Rattle.std.specs.Prelude.{◌≡◌, ℕ, suc, true, List, [], ◌∷◌, ◌++◌, ◌⊎◌}
use Rattle.jn_base.specs.declared.tree.Place.{Place}
use Rattle.jn_base.specs.declared.tree.Expr.{Expr}
use Rattle.jn_base.specs.declared.word.Mark.TheVariants.{CloseParen, OpenParen}
use Rattle.jn_base.specs.Parts.{Part, mark, opening}
use Rattle.jn_base.specs.GrammarExpr.{IsPrim, IsPost, IsUnary, IsProduct, IsSum, IsComparison, IsEquality, IsConjunction, IsExpr}
use Rattle.jn_printer.specs.declared.symbol.Symbol.{Symbol}
use Rattle.jn_printer.specs.declared.symbol.Symbol.TheVariants as symbol
use Rattle.jn_printer.specs.ExprText.{is_instance, symbol_of}

-- `IsInstance s d p w e`: the words w are an instance of the symbol s with the tree e.
abbrev pub IsInstance : Symbol → ℕ → Place → List Part → Expr → Type 0
IsInstance symbol.Expression d p w e = IsExpr d p w e
IsInstance symbol.Conjunction d p w e = IsConjunction d p w e
IsInstance symbol.Equality d p w e = IsEquality d p w e
IsInstance symbol.Comparison d p w e = IsComparison d p w e
IsInstance symbol.Sum d p w e = IsSum d p w e
IsInstance symbol.Product d p w e = IsProduct d p w e
IsInstance symbol.Unary d p w e = IsUnary d p w e
IsInstance symbol.Post d p w e = IsPost d p w e
IsInstance symbol.Prim d p w e = IsPrim d p w e

-- the words are an expression in parentheses, with the tree e
pub record IsInParentheses (d : ℕ) (w : List Part) (e : Expr) : Type 0 where
  pub opened : Place
  pub first : Place
  pub inside : List Part
  pub closed : Place
  pub words : w ≡ opening d OpenParen opened ∷ (inside ++ mark CloseParen closed ∷ [])
  pub is_expr : IsExpr (suc d) first inside e

-- The symbol of an expression tells at which places it stands without parentheses. Where `is_instance` says so, an
-- instance of the one symbol is an instance of the other. Where an expression stands at the place of a symbol, its own
-- symbol is an instance of that one, or it is in parentheses.
pub record OperandLaw : Type 0 where
  pub looser : (own asked : Symbol) → is_instance own asked ≡ true
      → (d : ℕ) (p : Place) (w : List Part) (e : Expr) → IsInstance own d p w e → IsInstance asked d p w e
  pub without : (asked : Symbol) (d : ℕ) (p : Place) (w : List Part) (e : Expr) → IsInstance asked d p w e
      → (is_instance (symbol_of e.node) asked ≡ true) ⊎ IsInParentheses d w e
