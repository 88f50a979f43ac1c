use Rattle.std.proofs.Common.{◌≡◌, drop, map}
use Rattle.jn_base.specs.Forms.{all_of, of_stmt}
use Rattle.jn_names.specs.Noting.{noted}
use Rattle.jn_names.proofs.numbering.+stmt_masks.Given as goal

abbrev pub invariant-note_body-loop-s : goal.invariant-note_body-loop-s
invariant-note_body-loop-s l =
    noted l.out.items (all_of (map of_stmt (drop l.s-index l.body))) ≡ noted l.fn.out.items (all_of (map of_stmt l.body))
