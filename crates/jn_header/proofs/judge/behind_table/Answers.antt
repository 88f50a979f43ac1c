use Rattle.jn_intern.proofs.Pools.{keeps_more}
use Rattle.jn_header.proofs.Judging.{ready_there, judged_there}
use Rattle.jn_header.proofs.judge.behind_table.Goals as goal

pub check_types-requires : goal.check_types-requires
check_types-requires c = ready_there c.args.p.now c.args.t.now c.in_ok-masks.masks.items c.deref.result.now c.requires.limits c.requires.filled c.in_ok-masks.ensures c.deref.ensures.value

pub behind_types-requires-clause-judged : goal.behind_types-requires-clause-judged
behind_types-requires-clause-judged c =
    judged_there c.args.p.now c.args.t.now c.check_types.new.t c.in_ok-masks.masks.items c.requires.limits c.requires.once c.requires.filled c.requires.table c.in-Ok.ensures.told c.in_ok-masks.ensures
    c.in-Ok.ensures.kept

pub returns-in-Ok-clause-keeps : goal.returns-in-Ok-clause-keeps
returns-in-Ok-clause-keeps c = keeps_more c.in-Ok.ensures.keeps c.behind_types.ensures.keeps
