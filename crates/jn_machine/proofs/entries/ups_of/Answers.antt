use Rattle.std.proofs.Common.{◌≡◌, ◌∙◌, ◌<◌, arith, Some}
use Rattle.jn_code.specs.Machine.{up_of}
use Rattle.jn_machine.proofs.Words.{ups_step}
use Rattle.jn_machine.proofs.entries.ups_of.Goals as goal

pub loop-left-preserved : goal.loop-left-preserved
loop-left-preserved c =
    let e : up_of c.args.image.now c.loop-left.class ≡ Some c.in-Some.up = cc (c.up_of.ensures.up, c.in-Some.is, c.in-Some.ensures.up) in
    let s : c.in-Some.up < 65536 = c.in-Some.ensures.small in
    let h : 0 < c.loop-left.left = omega arith in
    record {
      same = ups_step c.args.image.now c.loop-left.left c.loop-left.class c.in-Some.up h e ∙ c.loop-left.invariant.same;
      small = omega arith;
    }
