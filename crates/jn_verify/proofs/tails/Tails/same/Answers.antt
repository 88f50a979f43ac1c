use Rattle.std.proofs.Common.{ap, ◌∙◌}
use Rattle.jn_code.specs.Valid.{kinds_eq}
use Rattle.jn_verify.specs.Tails.{list_at}
use Rattle.jn_verify.proofs.Taken.{kinds_same}
use Rattle.jn_verify.proofs.tails.Tails.same.Goals as goal

pub returns : goal.returns
returns c =
    kinds_same (list_at c.args.self.now c.loop-m.m) ∙ ap (λ k. kinds_eq (list_at c.args.self.now c.loop-m.m) (list_at c.args.self.now k)) c.loop-m-test.false ∙ c.loop-m.invariant.rest
