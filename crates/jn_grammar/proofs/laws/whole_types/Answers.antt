use Rattle.std.specs.Prelude.{true}
use Rattle.jn_grammar.specs.ReadTypes.{type_in}
use Rattle.jn_grammar.specs.Expected.{Type_}
use Rattle.jn_grammar.specs.ReadWhole.{IsTypeAt, IsWholeType, whole_in, first}
use Rattle.jn_grammar.proofs.FirstFault.{syntax_at, limit_at}
use Rattle.jn_grammar.proofs.Whole.{spelled, only_so, whole_reader}
use Rattle.jn_grammar.proofs.WholeInners.{types}
use Rattle.jn_grammar.proofs.laws.whole_types.Goals as goal

pub returns-clause-found : goal.returns-clause-found
returns-clause-found c ws x h = spelled IsTypeAt type_in Type_ types true 200 ws x h

pub returns-clause-only : goal.returns-clause-only
returns-clause-only c parts x i h = only_so IsTypeAt type_in Type_ types parts x i h

pub returns-clause-syntax : goal.returns-clause-syntax
returns-clause-syntax c ws l h = syntax_at IsWholeType (whole_in type_in) (first Type_) (whole_reader IsTypeAt type_in Type_ types) ws l h

pub returns-clause-limit : goal.returns-clause-limit
returns-clause-limit c ws k l h = limit_at IsWholeType (whole_in type_in) (first Type_) (whole_reader IsTypeAt type_in Type_ types) ws k l h
