use Rattle.std.proofs.Common.{refl, sym, ap, ◌∙◌}
use Rattle.jn_base.specs.declared.tree.Stmt.TheVariants as stmt
use Rattle.jn_base.specs.declared.tree.Stmt.TheOpen.{Stmt-F}
use Rattle.jn_rules.specs.Stmts.{all_stop}
use Rattle.jn_check.proofs.Stopping.{stops_by, one_stops, none_stops, none_left}
use Rattle.jn_check.proofs.stops.+stopping.Goals as goal

pub all_stop-loop-s-init : goal.all_stop-loop-s-init
all_stop-loop-s-init t c = refl

pub all_stop-returns-then-stops : goal.all_stop-returns-then-stops
all_stop-returns-then-stops t c =
    one_stops c.args.ss.now c.loop-s.s-index c.s-item.result c.loop-s-test.true c.s-item.is c.loop-s.invariant (sym c.stops.ensures ∙ c.if-stops.true)

pub all_stop-loop-s-preserved : goal.all_stop-loop-s-preserved
all_stop-loop-s-preserved t c =
    none_stops c.args.ss.now c.loop-s.s-index c.s-item.result c.loop-s-test.true c.s-item.is c.loop-s.invariant (sym c.stops.ensures ∙ c.if-stops.false)

pub all_stop-returns : goal.all_stop-returns
all_stop-returns t c = none_left c.args.ss.now c.loop-s.s-index c.loop-s-test.false c.loop-s.invariant

pub stops-returns-in-Block : goal.stops-returns-in-Block
stops-returns-in-Block t c =
    c.all_stop.ensures ∙ (ap all_stop c.as_slice.ensures ∙ sym (stops_by (Stmt-F.Block c.in-Block.body) (stmt.Block c.in-Block.body) c.args.s.now c.in-Block.is (stmt.rolls-Block c.in-Block.body)))

pub stops-returns-in-Return : goal.stops-returns-in-Return
stops-returns-in-Return t c =
    sym (stops_by (Stmt-F.Return c.in-Return.field-0 c.in-Return.field-1) (stmt.Return c.in-Return.field-0 c.in-Return.field-1) c.args.s.now c.in-Return.is
    (stmt.rolls-Return c.in-Return.field-0 c.in-Return.field-1))
