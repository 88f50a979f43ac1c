use Rattle.std.proofs.Common.{◌≤◌, length, ap, arith}
use Rattle.jn_share.proofs.Growing.{long_push}
use Rattle.jn_share.proofs.OwnRows.{rows_none, rows_more, rows_end}
use Rattle.jn_share.proofs.rows.rows_of.Goals as goal

pub loop-k-init : goal.loop-k-init
loop-k-init c = record {
  long = ap length c.new-rows.ensures.items;
  rows = λ p f all. rows_none p c.args.t.now.known.items c.args.firsts.now c.new-rows.result.items;
}

pub loop-k-preserved : goal.loop-k-preserved
loop-k-preserved c =
    let i = c.loop-k.invariant in
    let e = c.in_ok-push.ensures.items in
    record {
      long = long_push c.loop-k.rows.items c.push.new.self.items c.row_of.result c.loop-k.k e i.long;
      rows = λ p f all. rows_more p c.args.t.now.known.items c.args.firsts.now c.loop-k.k c.loop-k.rows.items c.push.new.self.items c.row_of.result i.long
          (i.rows p f all) (λ R a. c.row_of.ensures p R f all a) e;
    }

pub returns : goal.returns
returns c = λ p f all.
    let past : length c.args.t.now.known.items ≤ c.loop-k.k = omega (arith, c.loop-k-test.false, ap length c.known-k-end.ensures) in
    rows_end p c.args.t.now.known.items c.args.firsts.now c.loop-k.k (length c.args.t.now.known.items) c.loop-k.rows.items past (c.loop-k.invariant.rows p f all)
