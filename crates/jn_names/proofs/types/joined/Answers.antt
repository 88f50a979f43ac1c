use Rattle.std.proofs.Common.{◌<◌, refl, Result, get_or, length, arith}
use Rattle.jn_base.specs.declared.tree.Term.{Term}
use Rattle.jn_base.specs.declared.tree.Program.{Program}
use Rattle.jn_base.specs.declared.types.Ty.{Ty}
use Rattle.jn_base.specs.declared.refusal.Refusal.{Refusal}
use Rattle.jn_base.specs.declared.refusal.Rule.TheVariants as rule
use Rattle.jn_base.specs.Resolve.{at_term}
use Rattle.jn_base.specs.ResolveTypes.{OneDepth, MasksGive, may_mask, DepthsGive, many, one}
use Rattle.jn_table.specs.Tables.{IsFilled}
use Rattle.jn_reach.proofs.Searches.{not_when}
use Rattle.jn_names.proofs.Answering.{refusing, told_weaker}
use Rattle.jn_names.proofs.TypeProof.{second_of, two_long}
use Rattle.jn_names.proofs.types.joined.Goals as goal

pub returns-then-not-one_depth : goal.returns-then-not-one_depth
returns-then-not-one_depth c =
    let T : Result Ty Refusal → Type 0 =
    λ o. (p : Program) → IsFilled p c.args.t.now
    → DepthsGive p c.args.names.now c.args.spot.now c.args.terms.now c.args.masks.now c.args.bounds.now c.args.atoms o in
    let two : Term = get_or c.args.terms.now 1 c.index-terms-1.result in
    let n : OneDepth c.args.bounds.now → ⊥ = not_when c.if-not-one_depth.true c.one_depth.ensures in
    let long : 1 < length c.args.bounds.now = two_long c.args.bounds.now n in
    let s = second_of c.args.terms.now c.index-terms-1.result (omega (arith, long, c.requires)) in
    refusing T c.refused.result (at_term rule.E15 c.args.spot.now two) c.refused.ensures
    (λ p f. many s.one two s.others n s.is refl)

pub returns : goal.returns
returns c =
    let T : Result Ty Refusal → Type 0 =
    λ o. (p : Program) → IsFilled p c.args.t.now
    → MasksGive p c.args.names.now c.args.spot.now c.args.bounds.now c.args.atoms c.args.masks.now
    (may_mask c.args.spot.now.role) o in
    let U : Result Ty Refusal → Type 0 =
    λ o. (p : Program) → IsFilled p c.args.t.now
    → DepthsGive p c.args.names.now c.args.spot.now c.args.terms.now c.args.masks.now c.args.bounds.now c.args.atoms o in
    told_weaker T U c.masked.result (λ o h p f. one (c.one_depth.ensures.0 c.if-not-one_depth.false) (h p f)) c.masked.ensures
