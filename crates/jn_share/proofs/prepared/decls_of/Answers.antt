use Rattle.std.proofs.Common.{length, sym, subst, arith, ap}
use Rattle.jn_share.specs.Declaring.{Wide}
use Rattle.jn_share.proofs.Growing.{long_push}
use Rattle.jn_share.proofs.Preparing.{decls_push}
use Rattle.jn_share.proofs.prepared.decls_of.Goals as goal

pub loop-k-preserved : goal.loop-k-preserved
loop-k-preserved c =
    let i = c.loop-k.invariant in
    let e = c.in_ok-push.ensures.items in
    record {
      long = long_push c.loop-k.rows.items c.push.new.self.items c.in_ok-row.row c.loop-k.k e i.long;
      wide = subst (Wide c.args.types.now) (sym c.in_ok-row.ensures.long) i.wide;
      decls = decls_push c.args.t.now c.args.types.now c.loop-k.rows.items c.push.new.self.items c.loop-k.k c.in_ok-row.row e i.long c.in_ok-row.ensures.decls i.decls;
    }

pub returns : goal.returns
returns c = λ k l. c.loop-k.invariant.decls k (omega (arith, l, c.loop-k-test.false, ap (λ (xs : _). length xs) c.known-k-end.ensures))
