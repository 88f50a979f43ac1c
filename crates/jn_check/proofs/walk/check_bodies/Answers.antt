use Rattle.jn_check.proofs.Walking.{program_told}
use Rattle.jn_check.proofs.walk.check_bodies.Goals as goal

pub returns-clause-told : goal.returns-clause-told
returns-clause-told c =
    program_told c.args.p.now c.root-root.result c.as_slice.result.now c.args.out.now.items c.check_decls.new.out.items c.check_decls.result c.root-root.ensures c.as_slice.ensures
    c.check_decls.ensures.told
