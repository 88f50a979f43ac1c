use Rattle.std.proofs.Common.{subst, rules, None}
use Rattle.jn_base.specs.declared.refusal.Refusal.{Refusal}
use Rattle.jn_drive.specs.Answer.{IsRefusedBy}
use Rattle.jn_drive.proofs.Building.{long_halts}
use Rattle.jn_drive.proofs.source.parsed.Goals as goal

pub returns-then-source-gt-LIMIT : goal.returns-then-source-gt-LIMIT
returns-then-source-gt-LIMIT c = long_halts _ (search rules) c.refused.result (subst (λ (r : Refusal). IsRefusedBy None r c.refused.result) c.too_long.ensures c.refused.ensures)
