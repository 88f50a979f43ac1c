use Rattle.std.proofs.Common.{◌∙◌, ap}
use Rattle.std.specs.Prelude.{Some}
use Rattle.jn_base.specs.Paths.{Path}
use Rattle.jn_lower.proofs.NextLocals.{if_ok}
use Rattle.jn_lower.proofs.walk_super.class_number.Goals as goal

pub returns : goal.returns
returns c =
    if_ok c.number_of.result (λ k f n classes. f n classes ∙ ap (λ (R : Path). Some R) c.in_ok-b.ensures) c.number_of.ensures
