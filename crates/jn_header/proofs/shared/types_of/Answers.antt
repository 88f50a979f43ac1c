use Rattle.jn_rules.specs.Plans.{Nothing}
use Rattle.jn_header.proofs.Judging.{types_there, types_memory}
use Rattle.jn_header.proofs.shared.types_of.Goals as goal

pub returns-in-Ok-clause-told : goal.returns-in-Ok-clause-told
returns-in-Ok-clause-told c = types_there c.args.p.now c.args.t.now c.in-Ok.types (c.in-Ok.ensures.told c.requires.filled)

pub returns-in-Err-clause-told : goal.returns-in-Err-clause-told
returns-in-Err-clause-told c =
    types_memory c.args.p.now (λ (u : Nothing). Nothing) c.args.t.now c.requires.members c.in-Err.fault c.of_names.result c.of_names.ensures (c.in-Err.ensures.told c.requires.filled)
