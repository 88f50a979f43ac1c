use Rattle.std.specs.Prelude.{true}
use Rattle.jn_base.specs.GrammarExpr.{IsExpr}
use Rattle.jn_base.specs.declared.tree.Level.TheVariants.{Or}
use Rattle.jn_grammar.specs.Expected.{Expr}
use Rattle.jn_grammar.specs.ReadWhole.{inner_expr, IsWholeExpr, whole_in, first}
use Rattle.jn_grammar.proofs.FirstFault.{syntax_at, limit_at}
use Rattle.jn_grammar.proofs.Whole.{spelled, only_so, whole_reader}
use Rattle.jn_grammar.proofs.WholeInners.{exprs}
use Rattle.jn_grammar.proofs.laws.whole_expressions.Goals as goal

pub returns-clause-found : goal.returns-clause-found
returns-clause-found c ws x h = spelled (IsExpr 0) inner_expr (Expr Or) exprs true 200 ws x h

pub returns-clause-only : goal.returns-clause-only
returns-clause-only c parts x i h = only_so (IsExpr 0) inner_expr (Expr Or) exprs parts x i h

pub returns-clause-syntax : goal.returns-clause-syntax
returns-clause-syntax c ws l h = syntax_at IsWholeExpr (whole_in inner_expr) (first (Expr Or)) (whole_reader (IsExpr 0) inner_expr (Expr Or) exprs) ws l h

pub returns-clause-limit : goal.returns-clause-limit
returns-clause-limit c ws k l h = limit_at IsWholeExpr (whole_in inner_expr) (first (Expr Or)) (whole_reader (IsExpr 0) inner_expr (Expr Or) exprs) ws k l h
