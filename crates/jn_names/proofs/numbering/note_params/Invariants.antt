use Rattle.std.proofs.Common.{◌≡◌, drop, map}
use Rattle.jn_base.specs.Forms.{all_of, of_param}
use Rattle.jn_names.specs.Noting.{noted}
use Rattle.jn_names.proofs.numbering.note_params.Given as goal

abbrev pub invariant-loop-p : goal.invariant-loop-p
invariant-loop-p l =
    noted l.out.items (all_of (map of_param (drop l.p-index l.params))) ≡ noted l.fn.out.items (all_of (map of_param l.params))
