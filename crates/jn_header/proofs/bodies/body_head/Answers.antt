use Rattle.jn_heads.specs.Params.{header_in}
use Rattle.jn_rules.specs.Plans.{Nothing}
use Rattle.jn_header.proofs.BodyRows.{header_memory}
use Rattle.jn_header.proofs.bodies.body_head.Goals as goal

pub returns-in-Err-clause-told : goal.returns-in-Err-clause-told
returns-in-Err-clause-told c =
    header_memory c.args.p.now c.args.t.now c.args.masks.now c.requires.judged (λ (u : Nothing). Nothing) c.args.class.now c.args.m.now c.requires.declared (header_in c.header_of.new.pool) c.in-Err.fault c.in-Err.ensures.told
