use Rattle.std.proofs.Common.{length, ap}
use Rattle.std.proofs.lemmas.Result.{IfOk-weaker}
use Rattle.jn_share.proofs.Making.{links, lowest, firsts_within}
use Rattle.jn_share.proofs.groups.firsts_of.Goals as goal

pub returns-clause-links : goal.returns-clause-links
returns-clause-links c =
    IfOk-weaker c.class_firsts.result _ _
    (λ firsts h. λ p f a. links p c.args.t.now f (length c.known.result.now) c.args.pairs.now firsts.items (ap length c.known.ensures) h a)
    c.class_firsts.ensures.classes

pub returns-clause-low : goal.returns-clause-low
returns-clause-low c =
    IfOk-weaker c.class_firsts.result _ _ (λ firsts h. lowest (length c.known.result.now) _ firsts.items h) c.class_firsts.ensures.firsts

pub returns-clause-within : goal.returns-clause-within
returns-clause-within c =
    IfOk-weaker c.class_firsts.result _ _ (λ firsts h. firsts_within firsts.items (lowest (length c.known.result.now) _ firsts.items h)) c.class_firsts.ensures.firsts
