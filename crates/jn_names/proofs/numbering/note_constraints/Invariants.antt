use Rattle.std.proofs.Common.{◌≡◌, drop, map}
use Rattle.jn_base.specs.Forms.{all_of, of_constraint}
use Rattle.jn_names.specs.Noting.{noted}
use Rattle.jn_names.proofs.numbering.note_constraints.Given as goal

abbrev pub invariant-loop-c : goal.invariant-loop-c
invariant-loop-c l =
    noted l.out.items (all_of (map of_constraint (drop l.c-index l.constraints))) ≡ noted l.fn.out.items
    (all_of (map of_constraint l.constraints))
