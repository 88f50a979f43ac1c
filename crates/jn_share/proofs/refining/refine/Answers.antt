use Rattle.jn_share.proofs.Growing.{long_push, low_push, grows_push, refines_push}
use Rattle.jn_share.proofs.refining.refine.Goals as goal

pub loop-v-preserved : goal.loop-v-preserved
loop-v-preserved c =
    let i = c.loop-v.invariant in
    let e = c.in_ok-push.ensures.items in
    record {
      long = long_push c.loop-v.next.items c.push.new.self.items c.next_part.result c.loop-v.v e i.long;
      low = low_push c.loop-v.next.items c.push.new.self.items c.loop-v.v c.next_part.result e i.long c.next_part.ensures.low i.low;
      grows = grows_push c.args.parts.now c.loop-v.next.items c.push.new.self.items c.loop-v.v c.next_part.result e i.long c.next_part.ensures.grows i.grows;
      refines = λ p asked ready. refines_push p c.args.t.now c.args.parts.now c.loop-v.next.items c.push.new.self.items c.loop-v.v c.next_part.result e i.long c.loop-v-test.true
          (λ V at k. c.next_part.ensures.is p V asked ready at k) (i.refines p asked ready);
    }
