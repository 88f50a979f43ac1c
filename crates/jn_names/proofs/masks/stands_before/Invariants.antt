use Rattle.std.proofs.Common.{◌≡◌, take}
use Rattle.jn_base.specs.Duplicates.{has_name}
use Rattle.jn_names.specs.Masking.{seen_of}
use Rattle.jn_names.proofs.masks.stands_before.Given as goal

abbrev pub invariant-loop-m : goal.invariant-loop-m
invariant-loop-m l = l.found ≡ has_name (seen_of (take l.m-index l.masks)) l.name
