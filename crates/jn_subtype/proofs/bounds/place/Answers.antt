use Rattle.jn_subtype.proofs.Newest.{only_newest}
use Rattle.jn_subtype.proofs.bounds.place.Goals as goal

pub returns-then-once-clause-newest : goal.returns-then-once-clause-newest
returns-then-once-clause-newest c =
    only_newest c.args.binds.now c.args.path c.place_of.result (c.requires c.if-once.true) c.place_of.ensures.some c.place_of.ensures.none
