use Rattle.std.proofs.Common.{ℕ, List}
use Rattle.std.proofs.lemmas.Result.{IfOk-weaker}
use Rattle.jn_code.specs.declared.image.Image.{Image}
use Rattle.jn_link.specs.Joined.{IsImageOf}
use Rattle.jn_link.specs.Whole.{IsImageBy, ImageAsked}
use Rattle.jn_link.proofs.whole.image.Goals as goal

pub returns : goal.returns
returns c =
    let a = c.args in
    IfOk-weaker c.image_with.result
    (IsImageBy a.p.now a.t.now a.m.now a.g.now a.s.now c.in_ok-names.names a.bodies.now)
    (λ (i : Image). (bytes : List ℕ) → ImageAsked a.p.now bytes a.t.now a.m.now a.g.now a.s.now a.bodies.now
    → IsImageOf a.p.now i)
    (λ i is bytes asked. is
    (record { are = c.in_ok-names.ensures.are; only = c.in_ok-names.ensures.only }) bytes asked)
    c.image_with.ensures
