use Rattle.std.proofs.lemmas.Result.{err_from_is_err_and}
use Rattle.jn_code.specs.SpellsFields.{read_listed, kind_byte}
use Rattle.jn_imagefile.proofs.Loops.{goes_on, stops, is_done}
use Rattle.jn_imagefile.proofs.lists.kinds_at.Goals as goal

pub returns-in_err-kind : goal.returns-in_err-kind
returns-in_err-kind c =
    let p = err_from_is_err_and c.from_residual.result c.from_residual.ensures.1 in
    rw (p.1, p.2) (stops c.in_err-kind.field-0.0 (kind_byte 1 c.args.most).read c.loop.kinds c.args.count c.loop.counter c.loop.rest.now (read_listed (kind_byte 1 c.args.most).read c.args.count c.args.bytes.now) c.loop-test.true c.in_err-kind.ensures c.loop.invariant)

pub loop-preserved : goal.loop-preserved
loop-preserved c =
    rw c.in_ok-push.ensures.ok (goes_on (kind_byte 1 c.args.most).read c.loop.kinds c.args.count c.loop.counter c.loop.rest.now c.in_ok-kind.kind c.in_ok-kind.after.now (read_listed (kind_byte 1 c.args.most).read c.args.count c.args.bytes.now) c.loop-test.true c.in_ok-kind.ensures c.loop.invariant)

pub returns : goal.returns
returns c = is_done (kind_byte 1 c.args.most).read c.loop.kinds c.args.count c.loop.counter c.loop.rest.now (read_listed (kind_byte 1 c.args.most).read c.args.count c.args.bytes.now) c.loop-test.false c.loop.invariant
