use Rattle.std.proofs.Common.{◌≡◌, drop, map}
use Rattle.jn_base.specs.Forms.{all_of, of_decl}
use Rattle.jn_names.specs.Noting.{noted}
use Rattle.jn_names.proofs.numbering.note_decls.Given as goal

abbrev pub invariant-loop-d : goal.invariant-loop-d
invariant-loop-d l =
    noted l.out.items (all_of (map of_decl (drop l.d-index l.decls))) ≡ noted l.fn.out.items (all_of (map of_decl l.decls))
