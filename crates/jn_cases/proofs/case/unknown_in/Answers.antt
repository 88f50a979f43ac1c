use Rattle.jn_cases.proofs.Keys.{none_in}
use Rattle.jn_cases.specs.Cases.{IsUnknown}
use Rattle.jn_cases.proofs.case.unknown_in.Goals as goal

pub returns-clause-none : goal.returns-clause-none
returns-clause-none c =
    none_in c.first_unknown.result (λ key. ¬ IsUnknown c.args.known.now key) c.args.table.now c.first_unknown.ensures.none
