use Rattle.std.proofs.Common.{◌≡◌, ◌++◌, drop}
use Rattle.jn_printer.specs.Pieces.{masks_text}
use Rattle.jn_printer.proofs.pieces.print_masks.Given as goal

abbrev pub invariant-loop-m : goal.invariant-loop-m
invariant-loop-m l = l.out.items ++ masks_text l.names (drop l.m-index l.masks) ≡ l.fn.out.items ++ masks_text l.names l.masks
