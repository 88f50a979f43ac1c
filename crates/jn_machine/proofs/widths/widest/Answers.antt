use Rattle.std.proofs.Common.{arith, ◌≡◌, ap, length, Some, slice_get}
use Rattle.jn_code.specs.declared.image.Code.{Code}
use Rattle.jn_code.specs.Form.{CodeInForm}
use Rattle.jn_machine.specs.Calls.{IsWide}
use Rattle.jn_machine.proofs.Objects.{read_at}
use Rattle.jn_machine.proofs.Fetching.{all_at}
use Rattle.jn_machine.proofs.Sizing.{all_more, all_whole}
use Rattle.jn_machine.proofs.widths.widest.Goals as goal

pub loop-code-preserved : goal.loop-code-preserved
loop-code-preserved c =
    let i = c.args.image.now in
    let k = c.loop-code.code-index in
    let x : Code = c.code-item.result in
    let l : length c.as_slice-codes.result.now ≡ length i.codes = ap length c.as_slice-codes.ensures in
    let h = c.loop-code-test.true in
    let is : slice_get i.codes k ≡ Some x = read_at i.codes _ k x c.as_slice-codes.ensures (omega arith) c.code-item.is in
    let count = (all_at CodeInForm i.codes k x is c.requires.codes).locals_count in
    let m = c.max-wide.ensures in
    let most = c.loop-code.invariant.most in
    let a = c.width_of.ensures in
    record {
      all = all_more (IsWide c.loop-code.wide) (IsWide c.max-wide.result) c.as_slice-codes.result.now k x (λ y p. omega arith) (omega arith) c.code-item.is (omega arith) c.loop-code.invariant.all;
      most = omega arith;
    }

pub returns-clause-all : goal.returns-clause-all
returns-clause-all c =
    all_whole (IsWide c.loop-code.wide) c.as_slice-codes.result.now c.args.image.now.codes c.loop-code.code-index c.as_slice-codes.ensures (omega arith) c.loop-code.invariant.all
