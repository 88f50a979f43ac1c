use Rattle.std.proofs.Common.{◌≡◌, drop, map}
use Rattle.jn_base.specs.Forms.{all_of, of_member}
use Rattle.jn_base.specs.FormTests.{has}
use Rattle.jn_base.proofs.forms.+decl_forms.Given as goal

abbrev pub invariant-in_members-loop-m : goal.invariant-in_members-loop-m
invariant-in_members-loop-m l = has l.asked (all_of (map of_member (drop l.m-index l.members))) ≡ has l.asked (all_of (map of_member l.members))
