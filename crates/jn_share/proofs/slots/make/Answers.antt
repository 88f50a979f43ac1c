use Rattle.std.proofs.Common.{subst, sym}
use Rattle.jn_share.specs.Refining.{AreSettled}
use Rattle.jn_share.proofs.slots.make.Goals as goal

pub returns-clause-firsts : goal.returns-clause-firsts
returns-clause-firsts c = λ p asked.
    let ready = c.in_ok-all.ensures p asked.filled asked.typed in
    c.in_ok-rows.ensures.firsts p asked ready (subst (AreSettled p c.args.t.now.known.items) (sym c.deref.ensures.value) (c.in_ok-parts.ensures p asked ready))
