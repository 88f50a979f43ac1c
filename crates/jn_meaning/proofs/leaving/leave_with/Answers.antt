use Rattle.jn_meaning.proofs.Results.{leaves_there, leaves_foreign}
use Rattle.jn_meaning.proofs.leaving.leave_with.Goals as goal

pub returns-then-branch : goal.returns-then-branch
returns-then-branch c =
    leaves_there c.args.w.now.program.now c.args.t.now.known.items c.args.h.now c.args.this c.args.all.now c.args.ty.now c.args.v c.view_in.result c.in_ok-is_in.field-0
    c.view_in.ensures c.in_ok-is_in.ensures c.if-branch.true

pub returns-else-branch : goal.returns-else-branch
returns-else-branch c =
    leaves_foreign c.args.w.now.program.now c.args.t.now.known.items c.args.h.now c.args.this c.args.all.now c.args.ty.now c.args.v c.view_in.result c.in_ok-is_in.field-0
    c.view_in.ensures c.in_ok-is_in.ensures c.if-branch.false
