use Rattle.std.proofs.Common.{◌≡◌, drop, map}
use Rattle.jn_base.specs.Forms.{Masked}
use Rattle.jn_names.specs.Noting.{noted}
use Rattle.jn_names.proofs.numbering.note_masks.Given as goal

abbrev pub invariant-loop-m : goal.invariant-loop-m
invariant-loop-m l = noted l.out.items (map Masked (drop l.m-index l.masks)) ≡ noted l.fn.out.items (map Masked l.masks)
