use Rattle.std.proofs.Common.{◌≡◌, drop, map}
use Rattle.jn_base.specs.Forms.{all_of, of_member}
use Rattle.jn_names.specs.Noting.{noted}
use Rattle.jn_names.proofs.numbering.+decl_masks.Given as goal

abbrev pub invariant-note_members-loop-m : goal.invariant-note_members-loop-m
invariant-note_members-loop-m l =
    noted l.out.items (all_of (map of_member (drop l.m-index l.members))) ≡ noted l.fn.out.items
    (all_of (map of_member l.members))
