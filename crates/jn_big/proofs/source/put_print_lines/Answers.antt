use Rattle.std.proofs.Common.{◌∙◌, ◌++◌, ◌+◌, append_assoc, List, ℕ, ap, sym}
use Rattle.jn_big.specs.Source.{print_line, print_lines}
use Rattle.jn_big.proofs.Steps.{more_lines}
use Rattle.jn_big.proofs.source.put_print_lines.Goals as goal

pub loop-j-preserved : goal.loop-j-preserved
loop-j-preserved c =
    c.in_ok-put_print_line.ensures ∙
    ap (λ (xs : List ℕ). xs ++ print_line (c.loop-j.j + 1)) c.loop-j.invariant ∙
    append_assoc c.args.out.now.items (print_lines c.loop-j.j) (print_line (c.loop-j.j + 1)) ∙
    ap (λ (xs : List ℕ). c.args.out.now.items ++ xs) (sym (more_lines c.loop-j.j))
