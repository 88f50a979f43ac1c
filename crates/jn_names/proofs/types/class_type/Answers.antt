use Rattle.std.proofs.Common.{◌∙◌, ap, length}
use Rattle.jn_names.proofs.TypeProof.{bounds_long}
use Rattle.jn_names.proofs.types.class_type.Goals as goal

pub joined-requires : goal.joined-requires
joined-requires c =
    ap length c.deref.ensures.value
    ∙ (ap length c.in_ok-bounds.ensures
    ∙ (bounds_long c.args.spot.now c.args.vars.now c.as_slice.result.now
    ∙ (ap length c.as_slice.ensures ∙ c.in_ok-atoms.ensures.long)))
