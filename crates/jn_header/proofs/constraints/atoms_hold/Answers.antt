use Rattle.std.proofs.Common.{◌∙◌, ◌++◌, ◌∷◌, [], ap, List}
use Rattle.jn_base.specs.declared.types.Atom.{Atom}
use Rattle.jn_header.proofs.Rooting.{atoms_told}
use Rattle.jn_header.proofs.constraints.atoms_hold.Goals as goal

pub returns : goal.returns
returns c =
    atoms_told c.args.t.now c.args.shared.now c.args.names.now c.args.class.now c.args.x.now c.args.y.now c.in_ok-rooted.field-0 c.in_ok-to.to c.args.hidden c.args.masks c.push.new.self c.holds.result
    c.is_yes.result (c.in_ok-push.ensures.ok ∙ ap (λ (zs : List Atom). zs ++ c.in_ok-rooted.field-0 ∷ []) c.new-atoms.ensures) c.in_ok-rooted.ensures c.in_ok-to.ensures c.holds.ensures c.is_yes.ensures
