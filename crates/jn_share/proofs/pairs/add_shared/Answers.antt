use Rattle.std.proofs.Common.{◌<◌, length}
use Rattle.std.proofs.lemmas.Result.{on_ok_weaker}
use Rattle.jn_share.proofs.PairsFound.{adds_no_shared, adds_shared}
use Rattle.jn_share.proofs.pairs.add_shared.Goals as goal

pub returns-in-None-clause-adds : goal.returns-in-None-clause-adds
returns-in-None-clause-adds c = λ p f.
    adds_no_shared p c.args.t.now f c.args.x.now c.requires (λ k. k < length c.args.t.now.known.items) c.args.pairs.now.items c.in-None.ensures.none

pub returns-in-Some-clause-adds : goal.returns-in-Some-clause-adds
returns-in-Some-clause-adds c =
    on_ok_weaker c.add_pair.result
    (λ h. λ p f.
    adds_shared p c.args.t.now f c.args.x.now c.requires (λ k. k < length c.args.t.now.known.items) c.in-Some.id c.args.pairs.now.items c.add_pair.new.pairs.items
    c.in-Some.ensures.path (h p f))
    c.add_pair.ensures.adds
