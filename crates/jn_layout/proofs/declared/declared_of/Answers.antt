use Rattle.jn_layout.proofs.Adding.{all_declared}
use Rattle.jn_layout.proofs.declared.declared_of.Goals as goal

pub returns : goal.returns
returns c =
    all_declared c.args.p.now c.args.t.now c.root-root.result c.as_slice.result.now _ c.add_decls.new.out c.root-root.ensures c.as_slice.ensures
    c.new-bodies.ensures.items c.new-fields.ensures.items c.in_ok-add_decls.ensures
