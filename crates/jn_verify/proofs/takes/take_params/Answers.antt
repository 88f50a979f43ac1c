use Rattle.std.proofs.Common.{◌≡◌, ◌++◌, ◌-◌, ℕ, List, Option, Some, None, drop, take, ap, sym, ◌∙◌, arith, subst}
use Rattle.jn_code.specs.declared.kind.OperandKind.{OperandKind}
use Rattle.jn_code.specs.Kinds.{one}
use Rattle.jn_verify.specs.Tails.{IsTaken}
use Rattle.jn_verify.proofs.Taken.{taken_none, taken_more, params_want, params_more, params_both}
use Rattle.jn_verify.proofs.takes.take_params.Goals as goal

pub returns-in-None : goal.returns-in-None
returns-in-None c =
    let ls = c.args.tails.now in
    let bs = c.args.params.now in
    let before = params_want (drop c.loop-left.left bs) in
    let more = one (Some c.kind_of.result) in
    let taken : IsTaken ls (before ++ more) c.args.n c.take_one.result = taken_more ls before more c.args.n c.loop-left.below c.take_one.result c.loop-left.invariant.taken c.take_one.ensures in
    let wants : before ++ more ≡ params_want (drop (c.loop-left.left - 1) bs) = ap (λ k. before ++ one (Some k)) c.kind_of.ensures ∙ sym (params_more bs c.loop-left.left _ c.loop-left-test.true c.loop-left.invariant.left_in) in
    let none : IsTaken ls (params_want (drop (c.loop-left.left - 1) bs)) c.args.n None = subst (λ (ws : List (Option OperandKind)). IsTaken ls ws c.args.n None) wants (subst (λ (r : Option ℕ). IsTaken ls (before ++ more) c.args.n r) c.in-None.is taken) in
    subst (λ (ws : List (Option OperandKind)). IsTaken ls ws c.args.n None) (sym (params_both bs (c.loop-left.left - 1))) (taken_none ls (params_want (drop (c.loop-left.left - 1) bs)) (params_want (take (c.loop-left.left - 1) bs)) c.args.n none)

pub loop-left-preserved : goal.loop-left-preserved
loop-left-preserved c =
    let ls = c.args.tails.now in
    let bs = c.args.params.now in
    let before = params_want (drop c.loop-left.left bs) in
    let more = one (Some c.kind_of.result) in
    let taken : IsTaken ls (before ++ more) c.args.n c.take_one.result = taken_more ls before more c.args.n c.loop-left.below c.take_one.result c.loop-left.invariant.taken c.take_one.ensures in
    let wants : before ++ more ≡ params_want (drop (c.loop-left.left - 1) bs) = ap (λ k. before ++ one (Some k)) c.kind_of.ensures ∙ sym (params_more bs c.loop-left.left _ c.loop-left-test.true c.loop-left.invariant.left_in) in
    let le = c.loop-left.invariant.left_in in
    record {
      left_in = omega arith;
      taken = subst (λ (ws : List (Option OperandKind)). IsTaken ls ws c.args.n (Some c.in-Some.m)) wants (subst (λ (r : Option ℕ). IsTaken ls (before ++ more) c.args.n r) c.in-Some.is taken);
    }
