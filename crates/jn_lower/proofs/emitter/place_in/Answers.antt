use Rattle.jn_lower.proofs.Holding.{placed_had, placed_next}
use Rattle.jn_lower.proofs.emitter.place_in.Goals as goal

pub returns-in-Some : goal.returns-in-Some
returns-in-Some c =
    placed_had c.args.kind c.in-Some.j c.args.kinds.now c.as_slice.result.now c.as_slice.ensures c.in-Some.ensures.some

pub returns-in_ok-push-in-None : goal.returns-in_ok-push-in-None
returns-in_ok-push-in-None c =
    placed_next c.args.kind c.len-j.result c.args.kinds.now c.as_slice.result.now c.push.new.self c.as_slice.ensures
    c.in-None.ensures.none c.len-j.ensures c.in_ok-push-in-None.ensures.ok
