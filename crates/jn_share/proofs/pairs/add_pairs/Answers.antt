use Rattle.std.proofs.lemmas.Result.{on_ok_weaker}
use Rattle.jn_share.proofs.pairs.add_pairs.Goals as goal

pub returns-in-Shares-clause-adds : goal.returns-in-Shares-clause-adds
returns-in-Shares-clause-adds c = on_ok_weaker c.add_shared.result (λ h. λ p f b. h p f) c.add_shared.ensures.adds
