use Rattle.std.proofs.Common.{◌≡◌, ◌∙◌, ap, Result, Ok}
use Rattle.jn_base.specs.declared.tree.Program.{Program}
use Rattle.jn_base.specs.declared.types.Anchor.{Anchor}
use Rattle.jn_base.specs.declared.refusal.Refusal.{Refusal}
use Rattle.jn_base.specs.Resolve.{PlainGiven, anchor_out}
use Rattle.jn_table.specs.Tables.{IsFilled}
use Rattle.jn_names.specs.Seeking.{told}
use Rattle.jn_names.proofs.Answering.{told_weaker}
use Rattle.jn_names.proofs.Gives.{plain_given}
use Rattle.jn_names.proofs.term.plain.Goals as goal

pub returns-in-Without : goal.returns-in-Without
returns-in-Without c =
    let T : Result Anchor Refusal → Type 0 = λ o. o ≡ Ok (anchor_out c.in_ok-class.class c.in-Without.k) in
    let U : Result Anchor Refusal → Type 0 = λ o. (p : Program) → IsFilled p c.args.t.now
    → PlainGiven p c.args.spot.now c.args.term.now o in
    told_weaker T U c.anchor_out.result
    (λ o h p f. plain_given p c.args.spot.now c.args.term.now c.in_ok-class.class c.as_slice.result.now
    (told c.in_ok-k.field-0) c.in-Without.k o
    c.in_ok-class.ensures (c.as_slice.ensures ∙ c.in_ok-names.ensures) (ap told c.in-Without.is) (c.in_ok-k.ensures p f) h)
    c.anchor_out.ensures
