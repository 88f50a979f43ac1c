use Rattle.jn_rules.specs.Plans.{Nothing}
use Rattle.jn_header.proofs.Judging.{slots_refused}
use Rattle.jn_share_laws.proofs.Limited.{limits_agree}
use Rattle.jn_header.proofs.shared.slots_of.Goals as goal

pub returns-in-Ok : goal.returns-in-Ok
returns-in-Ok c =
    let h = c.in-Ok.ensures.gives c.args.p.now c.requires.asked in
    ((limits_agree c.args.p.now c.requires.members).passes h.0, h.1)

pub returns-in-Err : goal.returns-in-Err
returns-in-Err c =
    slots_refused c.args.p.now (λ (u : Nothing). Nothing) c.args.t.now.known.items c.requires.members c.in-Err.fault c.of_share.result c.of_share.ensures
    (c.in-Err.ensures.gives c.args.p.now c.requires.asked)
