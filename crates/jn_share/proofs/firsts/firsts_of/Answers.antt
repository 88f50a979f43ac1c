use Rattle.std.proofs.Common.{length, arith, ap, List}
use Rattle.jn_base.specs.declared.path.Path.{Path as ShownPath}
use Rattle.jn_share.proofs.Growing.{long_push}
use Rattle.jn_share.proofs.Grouped.{firsts_push}
use Rattle.jn_share.proofs.firsts.firsts_of.Goals as goal

pub loop-k-preserved : goal.loop-k-preserved
loop-k-preserved c =
    let i = c.loop-k.invariant in
    let e = c.in_ok-push.ensures.items in
    record {
      long = long_push c.loop-k.rows.items c.push.new.self.items c.in_ok-row.row c.loop-k.k e i.long;
      firsts = λ p asked ready settled. firsts_push p c.args.t.now c.loop-k.rows.items c.push.new.self.items c.loop-k.k c.in_ok-row.row e i.long
          (λ V a k. c.in_ok-row.ensures.class p V asked ready a k settled) (λ V a n. c.in_ok-row.ensures.package p V asked.filled a n) (i.firsts p asked ready settled);
    }

pub returns-clause-firsts : goal.returns-clause-firsts
returns-clause-firsts c = λ p asked ready settled k V l.
    c.loop-k.invariant.firsts p asked ready settled k V (omega (arith, l, c.loop-k-test.false, ap (λ (xs : List ShownPath). length xs) c.known-k-end.ensures))
