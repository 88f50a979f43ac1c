use Rattle.std.specs.Prelude.{true}
use Rattle.jn_base.specs.GrammarDecl.{IsProgram}
use Rattle.jn_grammar.specs.Expected.{Tops}
use Rattle.jn_grammar.specs.ReadDecls.{tops_in}
use Rattle.jn_grammar.specs.ReadWhole.{whole_in, first}
use Rattle.jn_grammar.proofs.DeclSound.{IsTops}
use Rattle.jn_grammar.proofs.FirstFault.{syntax_at, limit_at}
use Rattle.jn_grammar.proofs.Whole.{only_so}
use Rattle.jn_grammar.proofs.Programs.{tops, whole_of, program_reader}
use Rattle.jn_grammar.proofs.laws.whole_programs.Goals as goal

pub returns-clause-found : goal.returns-clause-found
returns-clause-found c ws x h = program_reader.sound true 200 ws x h

pub returns-clause-only : goal.returns-clause-only
returns-clause-only c parts x i h = only_so IsTops tops_in Tops tops parts x (whole_of i) h

pub returns-clause-syntax : goal.returns-clause-syntax
returns-clause-syntax c ws l h = syntax_at IsProgram (whole_in tops_in) (first Tops) program_reader ws l h

pub returns-clause-limit : goal.returns-clause-limit
returns-clause-limit c ws k l h = limit_at IsProgram (whole_in tops_in) (first Tops) program_reader ws k l h
