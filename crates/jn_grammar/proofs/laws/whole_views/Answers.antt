use Rattle.std.specs.Prelude.{true}
use Rattle.jn_grammar.specs.Expected.{View}
use Rattle.jn_grammar.specs.ReadWhole.{IsViewAt, inner_view, IsWholeView, whole_in, first}
use Rattle.jn_grammar.proofs.FirstFault.{syntax_at, limit_at}
use Rattle.jn_grammar.proofs.Whole.{spelled, only_so, whole_reader}
use Rattle.jn_grammar.proofs.WholeInners.{views}
use Rattle.jn_grammar.proofs.laws.whole_views.Goals as goal

pub returns-clause-found : goal.returns-clause-found
returns-clause-found c ws x h = spelled IsViewAt inner_view View views true 200 ws x h

pub returns-clause-only : goal.returns-clause-only
returns-clause-only c parts x i h = only_so IsViewAt inner_view View views parts x i h

pub returns-clause-syntax : goal.returns-clause-syntax
returns-clause-syntax c ws l h = syntax_at IsWholeView (whole_in inner_view) (first View) (whole_reader IsViewAt inner_view View views) ws l h

pub returns-clause-limit : goal.returns-clause-limit
returns-clause-limit c ws k l h = limit_at IsWholeView (whole_in inner_view) (first View) (whole_reader IsViewAt inner_view View views) ws k l h
