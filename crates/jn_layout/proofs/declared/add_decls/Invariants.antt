use Rattle.std.proofs.Common.{map, take}
use Rattle.jn_names.specs.FieldTypes.{all_by, fields_of_decl}
use Rattle.jn_agree.specs.Rows.{of_decl}
use Rattle.jn_layout.specs.Shapes.{AddsBoth, all_bodies}
use Rattle.jn_layout.proofs.declared.add_decls.Given as goal

abbrev pub invariant-loop-d : goal.invariant-loop-d
invariant-loop-d l = AddsBoth l.t (all_bodies l.namespace (map of_decl (take l.d-index l.decls))) (all_by l.namespace (map fields_of_decl (take l.d-index l.decls))) l.fn.out l.out
