use Rattle.jn_rules.specs.Plans.{Nothing}
use Rattle.jn_header.proofs.Judging.{groups_memory}
use Rattle.jn_header.proofs.shared.groups_of.Goals as goal

pub returns-in-Err : goal.returns-in-Err
returns-in-Err c =
    groups_memory c.args.p.now (λ (u : Nothing). Nothing) c.args.t.now.known.items c.requires.members c.in-Err.fault c.of_share.result c.of_share.ensures (c.in-Err.ensures.gives c.requires.filled)
