use Rattle.std.proofs.lemmas.Result.{IfOk-weaker}
use Rattle.jn_header.proofs.Rooting.{pledge_told, same_atom}
use Rattle.jn_header.proofs.constraints.pledge_holds.Goals as goal

pub returns-in-Some-target_atom : goal.returns-in-Some-target_atom
returns-in-Some-target_atom c = IfOk-weaker c.atoms_hold.result _ _ (λ r h p k filled shared n f g.
    pledge_told p c.args.class.now c.args.names.now c.in-Some.x.now c.in-Some-target_atom.y.now c.args.pledge.now.from c.args.pledge.now.to _ _ k r n
    (same_atom c.in-Some.x.now k.from.atom (c.in-Some.ensures k.from f)) (same_atom c.in-Some-target_atom.y.now k.to.atom (c.in-Some-target_atom.ensures k.to g)) f g
    c.masks_of.ensures c.masks_of-in-Some-target_atom.ensures (h p filled shared)) c.atoms_hold.ensures
