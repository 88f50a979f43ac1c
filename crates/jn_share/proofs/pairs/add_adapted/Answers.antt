use Rattle.std.proofs.Common.{◌<◌, length}
use Rattle.std.proofs.lemmas.Result.{on_ok_weaker}
use Rattle.jn_share.proofs.PairsFound.{adds_no_family, adds_family}
use Rattle.jn_share.proofs.pairs.add_adapted.Goals as goal

pub returns-in-None-clause-adds : goal.returns-in-None-clause-adds
returns-in-None-clause-adds c = λ p f b.
    adds_no_family p c.args.t.now f c.args.classes.now b c.args.x.now c.requires c.as_slice.result.now c.as_slice.ensures c.in_ok-family.family c.in_ok-family.ensures
    (λ k. k < length c.args.t.now.known.items) c.args.pairs.now.items c.in-None.ensures.none

pub returns-clause-adds : goal.returns-clause-adds
returns-clause-adds c =
    on_ok_weaker c.add_among.result
    (λ h. λ p f b.
    adds_family p c.args.t.now f c.args.classes.now b c.args.x.now c.requires c.as_slice.result.now c.as_slice.ensures c.in_ok-family.family c.in_ok-family.ensures
    (λ k. k < length c.args.t.now.known.items) c.in-Some.id c.row_at.result.now c.args.pairs.now.items c.add_among.new.pairs.items c.in-Some.ensures.some c.row_at.ensures (h p f))
    c.add_among.ensures.adds
