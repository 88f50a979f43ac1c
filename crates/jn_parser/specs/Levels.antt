-- The operands of each level of operators: expressions of the next level. And the method of a `super`.
use Rattle.std.specs.Prelude.{List}
use Rattle.jn_base.specs.declared.tree.Expr.{Expr}
use Rattle.jn_base.specs.declared.tree.Level.{Level}
use Rattle.jn_base.specs.declared.tree.Level.TheVariants.{Or, And, Equal, Compare, Sum, Product}
use Rattle.jn_base.specs.declared.word.Lexeme.{Lexeme}
use Rattle.jn_base.specs.declared.tree.Named.{Named}
use Rattle.jn_base.specs.declared.word.Mark.TheVariants.{CloseBracket, Dot}
use Rattle.jn_base.specs.declared.word.Word.TheVariants.{Mark as Marked}
use Rattle.jn_grammar.specs.Answers.{Answer, ◌>>=◌, expect, name_in}
use Rattle.jn_grammar.specs.ReadExprs.{Inner, conjunction_in, equality_in, comparison_in, sum_in, product_in, unary_in}

abbrev pub operand_in : Inner → Level → List Lexeme → Answer Expr
operand_in b Or = conjunction_in b
operand_in b And = equality_in b
operand_in b Equal = comparison_in b
operand_in b Compare = sum_in b
operand_in b Sum = product_in b
operand_in b Product = unary_in b

-- "]", "." and the name of the method, behind the class of a `super`
unfoldable pub super_method_in : List Lexeme → Answer Named
super_method_in ts = do
  shut ← expect (Marked CloseBracket) ts
  o ← expect (Marked Dot) shut.1
  name_in o.1
