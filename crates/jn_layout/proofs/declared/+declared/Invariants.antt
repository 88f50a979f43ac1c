use Rattle.std.proofs.Common.{map, take}
use Rattle.jn_names.specs.FieldTypes.{all_by, fields_of_member}
use Rattle.jn_layout.specs.Shapes.{AddsBoth, all_bodies, bodies_in}
use Rattle.jn_layout.proofs.declared.+declared.Given as goal

abbrev pub invariant-add_members-loop-m : goal.invariant-add_members-loop-m
invariant-add_members-loop-m l =
    AddsBoth l.t (all_bodies l.class (map bodies_in (take l.m-index l.members))) (all_by l.class (map fields_of_member (take l.m-index l.members))) l.fn.out l.out
