use Rattle.jn_grammar.proofs.Sources.{source_spelled, source_refused}
use Rattle.jn_grammar.proofs.laws.checked_sources.Goals as goal

pub returns-clause-spelled : goal.returns-clause-spelled
returns-clause-spelled c bytes ns texts ws x a e = source_spelled bytes ns texts ws x a e

pub returns-clause-refused : goal.returns-clause-refused
returns-clause-refused c bytes ns texts ws f l a e = source_refused bytes ns texts ws f l a e
