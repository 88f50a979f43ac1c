use Rattle.std.proofs.Common.{◌≡◌, ◌<◌, List, None, replicate, length, ap, ◌∙◌, arith}
use Rattle.std.proofs.lemmas.Grind.{common_steps}
use Rattle.std.proofs.lemmas.List.Elements.{All-same, All-replicate}
use Rattle.jn_code.specs.declared.instr.Instr.{Instr}
use Rattle.jn_verify.specs.Tails.{IsThere}
use Rattle.jn_verify.proofs.Noted.{begins}
use Rattle.jn_verify.proofs.pass.code_fault.Goals as goal

pub loop-n-init : goal.loop-n-init
loop-n-init c =
    let xs = c.args.code.now.instrs in
    let some : 0 < length xs = grind (arith, common_steps) in
    let none : c.in_ok-notes.notes.items ≡ replicate (length xs) None = c.in_ok-notes.ensures ∙ ap (λ (ys : List Instr). replicate (length ys) None) c.as_slice-instrs.ensures in
    let ls = c.new-tails.ensures in
    let one : length c.new-tails.result ≡ 1 = ap length ls in
    record {
      passed = begins c.args.image.now c.args.code.now xs c.new-tails.result c.in_ok-notes.notes.items some none;
      few = omega arith;
      known = All-same (IsThere c.new-tails.result) c.in_ok-notes.notes.items (replicate (length xs) None) none (All-replicate (IsThere c.new-tails.result) (length xs) None tt);
    }
