use Rattle.std.proofs.Common.{◌≡◌, ◌++◌, map, drop, false}
use Rattle.std.specs.Prelude.{codes}
use Rattle.jn_printer.specs.Pieces.{joined}
use Rattle.jn_printer.specs.ExprText.{whole, all_at, all_of, expr_text, link_text, suffix_text}
use Rattle.jn_printer.proofs.exprs.+print.Given as goal

abbrev pub invariant-print_args-loop-e : goal.invariant-print_args-loop-e
invariant-print_args-loop-e l =
    l.out.items ++ joined whole (codes ", ") l.later (map (expr_text l.names) (drop l.e-index l.args))
    ≡ l.fn.out.items ++ (codes "(" ++ joined whole (codes ", ") false (map (expr_text l.names) l.args))

abbrev pub invariant-print_links-loop-l : goal.invariant-print_links-loop-l
invariant-print_links-loop-l l =
    l.out.items ++ all_at l.asked (map (link_text l.names) (drop l.l-index l.links))
    ≡ l.fn.out.items ++ all_at l.asked (map (link_text l.names) l.links)

abbrev pub invariant-print_suffixes-loop-s : goal.invariant-print_suffixes-loop-s
invariant-print_suffixes-loop-s l =
    l.out.items ++ all_of (map (suffix_text l.names) (drop l.s-index l.suffixes))
    ≡ l.fn.out.items ++ all_of (map (suffix_text l.names) l.suffixes)
