use Rattle.std.proofs.Common.{◌≡◌, ◌∙◌, sym, subst, Result, Ok}
use Rattle.jn_base.specs.declared.tree.Program.{Program}
use Rattle.jn_base.specs.declared.types.Anchor.{Anchor}
use Rattle.jn_base.specs.declared.types.Anchor.TheVariants.{Up}
use Rattle.jn_base.specs.declared.refusal.Refusal.{Refusal}
use Rattle.jn_base.specs.Resolve.{Behind, BoundGives, taken_off}
use Rattle.jn_table.specs.Tables.{IsFilled}
use Rattle.jn_names.proofs.Answering.{passing, told_weaker}
use Rattle.jn_names.proofs.Gives.{bound_step}
use Rattle.jn_names.proofs.term.bound_gives.Goals as goal

pub returns-in-Err : goal.returns-in-Err
returns-in-Err c =
    let T : Result Anchor Refusal → Type 0 = λ o. o ≡ Ok (Up c.args.path c.in-Some.k) in
    let U : Result Anchor Refusal → Type 0 =
    λ o. (p : Program) → IsFilled p c.args.t.now
    → BoundGives p c.args.spot.now c.args.term.now c.args.front.now c.args.path c.args.v.now
    (taken_off c.args.front.now c.args.v.now) o in
    passing T U c.in-Err.fault (λ r h. absurd (cc h)) c.in-Err.ensures

pub returns : goal.returns
returns c =
    let a : Anchor = c.in-Ok.anchor in
    let is : a ≡ Up c.args.path c.in-Some.k = cc (c.in-Ok.ensures) in
    let T : Result Anchor Refusal → Type 0 =
    λ o. (p : Program) → IsFilled p c.args.t.now
    → Behind p c.args.spot.now c.args.term.now c.args.front.now c.in_ok-left-in-Some.left a o in
    let U : Result Anchor Refusal → Type 0 =
    λ o. (p : Program) → IsFilled p c.args.t.now
    → BoundGives p c.args.spot.now c.args.term.now c.args.front.now c.args.path c.args.v.now
    (taken_off c.args.front.now c.args.v.now) o in
    told_weaker T U c.behind.result
    (λ o h p f. bound_step p c.args.spot.now c.args.term.now c.args.front.now c.args.path c.args.v.now
    c.in_ok-left-in-Some.left c.in-Some.k o (sym c.taken_off.ensures ∙ c.in-Some.is) c.in_ok-left-in-Some.ensures
    (subst (λ (x : Anchor). Behind p c.args.spot.now c.args.term.now c.args.front.now c.in_ok-left-in-Some.left x o) is (h p f)))
    c.behind.ensures
