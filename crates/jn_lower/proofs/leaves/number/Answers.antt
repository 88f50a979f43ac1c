use Rattle.std.proofs.Common.{[], ◌∷◌, subst, w64}
use Rattle.std.proofs.Math.Facts.{to_z-of_z}
use Rattle.jn_code.specs.declared.instr.Instr.TheVariants as ins
use Rattle.jn_lower.specs.Placed.{Are}
use Rattle.jn_lower.specs.Emitted.{Emitted}
use Rattle.jn_lower.proofs.Seams.{on_ok}
use Rattle.jn_lower.proofs.OneInstr.{number_so}
use Rattle.jn_lower.proofs.leaves.number.Goals as goal

pub returns : goal.returns
returns c =
    on_ok c.push.result (λ a. number_so c.args.out.now c.push.new.self c.args.z
    (subst (λ k. Emitted (Are (ins.Int k ∷ [])) c.args.out.now c.push.new.self)
    (to_z-of_z {w = w64} {z = c.args.z} c.ranges.z) a)) c.push.ensures.emitted
