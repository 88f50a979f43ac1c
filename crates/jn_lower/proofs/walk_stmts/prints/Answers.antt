use Rattle.std.proofs.Common.{subst, [], ◌∷◌}
use Rattle.jn_code.specs.declared.instr.Instr.{Instr}
use Rattle.jn_lower.specs.Walks.{Pushed}
use Rattle.jn_lower.proofs.Seams.{on_ok}
use Rattle.jn_lower.proofs.Blocks.{printed}
use Rattle.jn_lower.proofs.walk_stmts.prints.Goals as goal

pub returns : goal.returns
returns c =
    on_ok c.push.result (λ h pl. printed c.args.g.now c.args.e.now pl c.args.w.now c.value.new.w c.push.new.w c.in_ok-value.ensures
    (subst (λ (i : Instr). Pushed (i ∷ []) c.value.new.w c.push.new.w) c.printed_by.ensures h)) c.push.ensures
