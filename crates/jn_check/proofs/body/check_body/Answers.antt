use Rattle.std.proofs.Common.{◌||◌, Result, Ok, Err, ap, ◌∙◌, subst, reverse}
use Rattle.jn_base.specs.Paths.{Path}
use Rattle.jn_base.specs.declared.names.Resolved.{Resolved}
use Rattle.jn_base.specs.declared.types.Ty.{Ty}
use Rattle.jn_heads.specs.declared.fault.CheckFault.{CheckFault}
use Rattle.jn_rules.specs.Stmts.{is_void, all_stop}
use Rattle.jn_expr.specs.Calling.{body_of}
use Rattle.jn_check.specs.Bodies.{BodyTold}
use Rattle.jn_check.specs.States.{before_at}
use Rattle.jn_check.proofs.Standing.{stays_but, but_more, parts_but}
use Rattle.jn_check.proofs.BodySteps.{header_refused, stmts_refused, end_told, begun_stmts, begun_shown}
use Rattle.jn_check.proofs.body.check_body.Goals as goal

pub check_stmts-requires-clause-parts : goal.check_stmts-requires-clause-parts
check_stmts-requires-clause-parts c = parts_but c.requires c.in-Ok.ensures.stays

pub check_stmts-requires-clause-before : goal.check_stmts-requires-clause-before
check_stmts-requires-clause-before c = c.in-Ok.ensures.told.before

pub check_stmts-requires-clause-number : goal.check_stmts-requires-clause-number
check_stmts-requires-clause-number c = c.in-Ok.ensures.told.result.number

pub finish-requires : goal.finish-requires
finish-requires c = c.in-Ok-check_stmts.ensures.stays.pool.has c.in-Ok.begun.gives c.in-Ok.ensures.told.result.number

pub returns-in-Err-clause-told : goal.returns-in-Err-clause-told
returns-in-Err-clause-told c =
    subst (λ (C : Path). let r : Result Resolved CheckFault = Err c.in-Err.fault in BodyTold c.args.p.now (body_of C c.args.m.now) r) (c.in_ok-class.ensures ∙ ap reverse c.as_slice.ensures)
    (header_refused c.args.p.now (body_of c.in_ok-class.class c.args.m.now) c.begin.new.env c.in-Err.fault c.in-Err.ensures.told)

pub returns-in-Err-check_stmts-clause-told : goal.returns-in-Err-check_stmts-clause-told
returns-in-Err-check_stmts-clause-told c =
    let B = body_of c.in_ok-class.class c.args.m.now in
    let G = c.in-Ok.ensures.told in
    subst (λ (C : Path). let r : Result Resolved CheckFault = Err c.in-Err-check_stmts.fault in BodyTold c.args.p.now (body_of C c.args.m.now) r) (c.in_ok-class.ensures ∙ ap reverse c.as_slice.ensures)
    (stmts_refused c.args.p.now B G.header G.typed c.begin.new.env.marks c.check_stmts.new.env.marks (λ (v : Unit {0}). before_at c.check_stmts.new.env c.check_stmts.new.x) c.in-Err-check_stmts.fault
    (begun_stmts c.args.p.now B c.begin.new.env c.in-Ok.begun G (λ (v : Unit {0}). before_at c.check_stmts.new.env c.check_stmts.new.x) c.as_slice-in-Ok.result.now c.check_stmts.new.env.marks
    (Err c.in-Err-check_stmts.fault) c.as_slice-in-Ok.ensures (c.in-Err-check_stmts.ensures.told G.header.result G.result)))

pub returns-clause-told : goal.returns-clause-told
returns-clause-told c =
    let B = body_of c.in_ok-class.class c.args.m.now in
    let G = c.in-Ok.ensures.told in
    subst (λ (C : Path). BodyTold c.args.p.now (body_of C c.args.m.now) c.finish.result) (c.in_ok-class.ensures ∙ ap reverse c.as_slice.ensures)
    (end_told c.args.p.now B G.header G.typed c.begin.new.env.marks c.check_stmts.new.env.marks (before_at c.check_stmts.new.env c.check_stmts.new.x)
    (begun_stmts c.args.p.now B c.begin.new.env c.in-Ok.begun G (λ (v : Unit {0}). before_at c.check_stmts.new.env c.check_stmts.new.x) c.as_slice-in-Ok.result.now c.check_stmts.new.env.marks
    (Ok tt) c.as_slice-in-Ok.ensures (c.in-Ok-check_stmts.ensures.told G.header.result G.result))
    G.marks _ (ap (λ (t : Ty). is_void t || all_stop c.args.m.now.body) (begun_shown c.args.p.now B c.begin.new.env c.in-Ok.begun G c.check_stmts.new.env.pool c.in-Ok-check_stmts.ensures.stays.pool))
    c.finish.result c.finish.ensures.told)

pub returns-in-Err-check_stmts-clause-stays : goal.returns-in-Err-check_stmts-clause-stays
returns-in-Err-check_stmts-clause-stays c = but_more c.in-Ok.ensures.stays c.in-Err-check_stmts.ensures.stays

pub returns-clause-stays : goal.returns-clause-stays
returns-clause-stays c = but_more (but_more c.in-Ok.ensures.stays c.in-Ok-check_stmts.ensures.stays) (stays_but c.finish.ensures.stays)
