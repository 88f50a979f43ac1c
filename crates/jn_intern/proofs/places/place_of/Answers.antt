use Rattle.jn_intern.proofs.Standing.{lacks_both, none_more}
use Rattle.jn_intern.proofs.places.place_of.Goals as goal

pub returns-in-None-clause-none : goal.returns-in-None-clause-none
returns-in-None-clause-none c =
    none_more c.first_of-in-None.result (λ f. lacks_both c.args.binds.now c.args.path c.expected-n.result f c.in-None.ensures.none) c.first_of-in-None.ensures.none
