use Rattle.jn_share.proofs.Reading.{no_row, no_own, other_own, its_own}
use Rattle.jn_share.proofs.groups.class_in.Goals as goal

pub returns-in-None-clause-none : goal.returns-in-None-clause-none
returns-in-None-clause-none c = no_row c.args.rows.now c.args.k c.args.family c.in-None.ensures

pub returns-in-None-own-clause-none : goal.returns-in-None-own-clause-none
returns-in-None-own-clause-none c = no_own c.args.rows.now c.args.k c.args.family c.in-Some.row.now c.in-Some.ensures c.in-None-own.is

pub returns-then-is_id-clause-some : goal.returns-then-is_id-clause-some
returns-then-is_id-clause-some c =
    its_own c.args.rows.now c.args.k c.args.family c.in-Some.row.now c.in-Some.ensures c.in-Some-own.x c.in-Some-own.is (c.is_id.ensures.0 c.if-is_id.true)

pub returns-else-is_id-clause-none : goal.returns-else-is_id-clause-none
returns-else-is_id-clause-none c =
    other_own c.args.rows.now c.args.k c.args.family c.in-Some.row.now c.in-Some.ensures c.in-Some-own.x c.in-Some-own.is c.is_id.result c.if-is_id.false c.is_id.ensures
