use Rattle.std.proofs.Common.{◌≡◌, drop, map}
use Rattle.jn_base.specs.Forms.{all_of, of_expr, of_link, of_suffix}
use Rattle.jn_base.specs.FormTests.{has}
use Rattle.jn_base.proofs.forms.+expr_forms.Given as goal

abbrev pub invariant-in_exprs-loop-e : goal.invariant-in_exprs-loop-e
invariant-in_exprs-loop-e l = has l.asked (all_of (map of_expr (drop l.e-index l.es))) ≡ has l.asked (all_of (map of_expr l.es))

abbrev pub invariant-in_links-loop-l : goal.invariant-in_links-loop-l
invariant-in_links-loop-l l = has l.asked (all_of (map of_link (drop l.l-index l.links))) ≡ has l.asked (all_of (map of_link l.links))

abbrev pub invariant-in_suffixes-loop-s : goal.invariant-in_suffixes-loop-s
invariant-in_suffixes-loop-s l = has l.asked (all_of (map of_suffix (drop l.s-index l.suffixes))) ≡ has l.asked (all_of (map of_suffix l.suffixes))
