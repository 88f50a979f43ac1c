use Rattle.std.proofs.Common.{[], ◌∷◌, ℤ, w64, subst}
use Rattle.std.proofs.Math.Facts.{to_z-of_z}
use Rattle.jn_code.specs.declared.instr.Instr.TheVariants as ins
use Rattle.jn_lower.specs.Walks.{Pushed}
use Rattle.jn_lower.proofs.Seams.{on_ok}
use Rattle.jn_lower.proofs.LeafForms.{number_pushed}
use Rattle.jn_lower.proofs.walk_exprs.number_value.Goals as goal

pub returns : goal.returns
returns c =
    on_ok c.had.result (λ h g. number_pushed g c.args.z c.args.w.now c.push.new.w c.had.new.w
    (subst (λ (y : ℤ). Pushed (ins.Int y ∷ []) c.args.w.now c.push.new.w) (to_z-of_z {w = w64} {z = c.args.z} c.ranges.z)
    c.in_ok-push.ensures) h) c.had.ensures
