use Rattle.std.proofs.Common.{length, arith, ap, List}
use Rattle.jn_base.specs.declared.path.Path.{Path as ShownPath}
use Rattle.jn_share.proofs.Growing.{long_push}
use Rattle.jn_share.proofs.KeyRows.{slots_push}
use Rattle.jn_share.proofs.keys.slot_rows.Goals as goal

pub loop-k-preserved : goal.loop-k-preserved
loop-k-preserved c =
    let i = c.loop-k.invariant in
    let e = c.in_ok-push.ensures.items in
    record {
      long = long_push c.loop-k.out.items c.push.new.self.items c.in_ok-row.row c.loop-k.k e i.long;
      rows = slots_push c.args.t.now c.args.keys.now c.args.lists.now.starts.items c.args.rows.now c.loop-k.out.items c.push.new.self.items c.loop-k.k c.in_ok-row.row e i.long
          c.in_ok-row.ensures i.rows;
    }

pub returns : goal.returns
returns c = λ k l. c.loop-k.invariant.rows k (omega (arith, l, c.loop-k-test.false, ap (λ (xs : List ShownPath). length xs) c.known-k-end.ensures))
