use Rattle.std.proofs.Common.{sym}
use Rattle.jn_share.proofs.Reading.{no_group, no_numbers, present_here, absent_here}
use Rattle.jn_share.proofs.groups.counterpart.Goals as goal

pub returns-in-None-clause-none : goal.returns-in-None-clause-none
returns-in-None-clause-none c = no_group c.args.rows.now c.args.members.now c.args.id c.args.family c.in-None.ensures.none

pub returns-in-None-at-clause-none : goal.returns-in-None-at-clause-none
returns-in-None-at-clause-none c =
    no_numbers c.args.rows.now c.args.members.now c.args.id c.args.family c.in-Some.first c.in-Some.ensures.some c.in-None-at.ensures

pub returns-in-Some-at-clause-some : goal.returns-in-Some-at-clause-some
returns-in-Some-at-clause-some c =
    present_here c.args.rows.now c.args.members.now c.args.id c.args.family c.in-Some.first c.in-Some.ensures.some c.in-Some-at.numbers.now (sym c.in-Some-at.ensures)
    c.deref.result.now c.deref.ensures.value c.first_in.result c.first_in.ensures.some

pub returns-in-Some-at-clause-none : goal.returns-in-Some-at-clause-none
returns-in-Some-at-clause-none c =
    absent_here c.args.rows.now c.args.members.now c.args.id c.args.family c.in-Some.first c.in-Some.ensures.some c.in-Some-at.numbers.now (sym c.in-Some-at.ensures)
    c.deref.result.now c.deref.ensures.value c.first_in.result c.first_in.ensures.none
