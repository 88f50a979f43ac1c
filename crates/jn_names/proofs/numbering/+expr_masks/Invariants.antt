use Rattle.std.proofs.Common.{◌≡◌, drop, map}
use Rattle.jn_base.specs.Forms.{all_of, of_expr, of_link, of_suffix}
use Rattle.jn_names.specs.Noting.{noted}
use Rattle.jn_names.proofs.numbering.+expr_masks.Given as goal

abbrev pub invariant-note_exprs-loop-e : goal.invariant-note_exprs-loop-e
invariant-note_exprs-loop-e l =
    noted l.out.items (all_of (map of_expr (drop l.e-index l.es))) ≡ noted l.fn.out.items (all_of (map of_expr l.es))

abbrev pub invariant-note_links-loop-l : goal.invariant-note_links-loop-l
invariant-note_links-loop-l l =
    noted l.out.items (all_of (map of_link (drop l.l-index l.links))) ≡ noted l.fn.out.items (all_of (map of_link l.links))

abbrev pub invariant-note_suffixes-loop-s : goal.invariant-note_suffixes-loop-s
invariant-note_suffixes-loop-s l =
    noted l.out.items (all_of (map of_suffix (drop l.s-index l.suffixes))) ≡ noted l.fn.out.items
    (all_of (map of_suffix l.suffixes))
