use Rattle.jn_link.proofs.Walking.{in_program}
use Rattle.jn_link.proofs.codes.codes_of.Goals as goal

pub returns : goal.returns
returns c =
    in_program c.args.g.now c.as_slice.result.now c.new-out.result c.lower_decls.new.out c.as_slice.ensures
    c.new-out.ensures c.in_ok-lower_decls.ensures
