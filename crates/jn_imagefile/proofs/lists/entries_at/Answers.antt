use Rattle.std.proofs.Common.{ℕ, ◌≡◌}
use Rattle.std.proofs.lemmas.Result.{err_from_is_err_and}
use Rattle.jn_code.specs.SpellsFields.{read_ascending}
use Rattle.jn_imagefile.proofs.Loops.{goes_on_in_order, stops_in_order, is_done_in_order}
use Rattle.jn_imagefile.proofs.lists.entries_at.Goals as goal

pub returns-in_err-entry : goal.returns-in_err-entry
returns-in_err-entry g c =
    let p = err_from_is_err_and c.from_residual.result c.from_residual.ensures.1 in
    rw (p.1, p.2) (stops_in_order c.in_err-entry.field-0.0 g.T.Entry.key (λ (least : ℕ). (g.T.Entry.field least).read) c.loop.entries c.args.count c.loop.counter c.loop.least c.loop.rest.now
    (read_ascending g.T.Entry.key (λ (least : ℕ). (g.T.Entry.field least).read) 0 c.args.count c.args.bytes.now) c.loop-test.true c.in_err-entry.ensures c.loop.invariant)

pub loop-preserved : goal.loop-preserved
loop-preserved g c =
    let next : c.from-least.result ≡ g.T.Entry.key c.in_ok-entry.entry = cc (c.from-least.ensures, c.key.ensures) in
    rw (c.in_ok-push.ensures.ok, next) (goes_on_in_order g.T.Entry.key (λ (least : ℕ). (g.T.Entry.field least).read) c.loop.entries c.args.count c.loop.counter c.loop.least c.loop.rest.now c.in_ok-entry.entry c.in_ok-entry.after.now
    (read_ascending g.T.Entry.key (λ (least : ℕ). (g.T.Entry.field least).read) 0 c.args.count c.args.bytes.now) c.loop-test.true c.in_ok-entry.ensures c.loop.invariant)

pub returns : goal.returns
returns g c =
    is_done_in_order g.T.Entry.key (λ (least : ℕ). (g.T.Entry.field least).read) c.loop.entries c.args.count c.loop.counter c.loop.least c.loop.rest.now
    (read_ascending g.T.Entry.key (λ (least : ℕ). (g.T.Entry.field least).read) 0 c.args.count c.args.bytes.now) c.loop-test.false c.loop.invariant
