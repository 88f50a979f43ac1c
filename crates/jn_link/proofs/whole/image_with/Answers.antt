use Rattle.std.proofs.lemmas.Result.{IfOk-weaker}
use Rattle.jn_link.specs.declared.codes.Parts.{Parts}
use Rattle.jn_link.specs.Whole.{IsMade, IsImageBy}
use Rattle.jn_link.proofs.Assembling.{image_is}
use Rattle.jn_link.proofs.whole.image_with.Goals as goal

pub returns : goal.returns
returns c =
    let a = c.args in
    let g : Parts = record { alloc = a.alloc; p = a.p; t = a.t; slots = a.s; names = a.names; bodies = a.bodies } in
    IfOk-weaker c.image_by.result (IsMade g a.m.now a.g.now)
    (IsImageBy a.p.now a.t.now a.m.now a.g.now a.s.now a.names.now a.bodies.now)
    (λ i made names bytes asked. image_is g a.m.now a.g.now i names made bytes asked) c.image_by.ensures
