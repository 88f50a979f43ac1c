use Rattle.jn_meaning.proofs.LocalsBound.{binds_null, binds_foreign, binds_there}
use Rattle.jn_meaning.proofs.binding.bind_as.Goals as goal

pub returns-then-is_null_path : goal.returns-then-is_null_path
returns-then-is_null_path c =
    let known = c.args.t.now.known.items in
    binds_null c.args.w.now.program.now known c.args.h.now c.args.f.now c.args.var c.args.v c.is_null_path.result (c.is_null_path.ensures known) c.if-is_null_path.true

pub returns-then-not-branch : goal.returns-then-not-branch
returns-then-not-branch c =
    let known = c.args.t.now.known.items in
    binds_foreign c.args.w.now.program.now known c.args.h.now c.args.f.now c.args.var c.args.v c.is_null_path.result (c.is_null_path.ensures known)
    c.in_ok-fits.field-0 c.in_ok-fits.ensures c.if-is_null_path.false c.if-not-branch.true

pub returns : goal.returns
returns c =
    let known = c.args.t.now.known.items in
    binds_there c.args.w.now.program.now known c.args.h.now c.args.f.now c.args.var c.args.v c.is_null_path.result (c.is_null_path.ensures known)
    c.in_ok-fits.field-0 c.in_ok-fits.ensures c.if-is_null_path.false c.push.new.self c.args.f.now.locals.paired c.if-not-branch.false c.in_ok-push.ensures.vars c.in_ok-push.ensures.values
