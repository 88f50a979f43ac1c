use Rattle.std.proofs.Common.{[], ◌∷◌, subst}
use Rattle.jn_code.specs.declared.instr.Instr.TheVariants as ins
use Rattle.jn_lower.specs.Placed.{Are}
use Rattle.jn_lower.specs.Emitted.{Emitted}
use Rattle.jn_lower.proofs.Seams.{on_ok}
use Rattle.jn_lower.proofs.OneInstr.{truth_so}
use Rattle.jn_lower.proofs.leaves.truth.Goals as goal

pub returns : goal.returns
returns c =
    on_ok c.push.result (λ a. truth_so c.args.out.now c.push.new.self c.args.b
    (subst (λ k. Emitted (Are (ins.Bool k ∷ [])) c.args.out.now c.push.new.self) c.bit.ensures a))
    c.push.ensures.emitted
