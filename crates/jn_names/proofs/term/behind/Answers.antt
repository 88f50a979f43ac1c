use Rattle.std.proofs.Common.{◌∙◌, refl, Result}
use Rattle.jn_base.specs.declared.tree.Program.{Program}
use Rattle.jn_base.specs.declared.types.Anchor.{Anchor}
use Rattle.jn_base.specs.declared.refusal.Refusal.{Refusal}
use Rattle.jn_base.specs.Resolve.{Behind, unknown_name, unknown}
use Rattle.jn_table.specs.Tables.{IsFilled}
use Rattle.jn_names.proofs.Answering.{refusing}
use Rattle.jn_names.proofs.Gives.{unknown_is}
use Rattle.jn_names.proofs.term.behind.Goals as goal

pub returns-in-Some : goal.returns-in-Some
returns-in-Some c =
    let T : Result Anchor Refusal → Type 0 =
    λ o. (p : Program) → IsFilled p c.args.t.now
    → Behind p c.args.spot.now c.args.term.now c.args.front.now c.args.v.now c.args.anchor o in
    refusing T c.refused.result (unknown c.args.spot.now c.args.term.now c.in-Some.name) c.refused.ensures
    (λ p f. unknown_name c.in-Some.name
    (unknown_is p c.args.v.now c.as_slice.result.now c.args.term.now c.in_ok-name.field-0 c.in-Some.name
    (c.as_slice.ensures ∙ c.in_ok-names.ensures) c.in-Some.is (c.in_ok-name.ensures p f)) refl)
