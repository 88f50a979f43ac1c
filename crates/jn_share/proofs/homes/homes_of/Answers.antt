use Rattle.std.proofs.Common.{List, length, arith, ap}
use Rattle.jn_base.specs.declared.path.Path.{Path as ShownPath}
use Rattle.jn_share.proofs.Growing.{long_push}
use Rattle.jn_share.proofs.HomeLists.{homes_push}
use Rattle.jn_share.proofs.homes.homes_of.Goals as goal

pub loop-k-preserved : goal.loop-k-preserved
loop-k-preserved c =
    let i = c.loop-k.invariant in
    let e = c.in_ok-push.ensures.items in
    record {
      long = long_push c.loop-k.homes.items c.push.new.self.items c.home_at.result c.loop-k.k e i.long;
      homes = homes_push c.args.p.now c.args.t.now.known.items c.loop-k.homes.items c.push.new.self.items c.loop-k.k c.home_at.result e i.long c.home_at.ensures i.homes;
    }

pub returns : goal.returns
returns c = λ d k R l. c.loop-k.invariant.homes d k R (omega (arith, l, c.loop-k-test.false, ap (λ (xs : List ShownPath). length xs) c.known-k-end.ensures))
