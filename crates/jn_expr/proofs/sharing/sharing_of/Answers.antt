use Rattle.std.proofs.Common.{◌∙◌, ap, subst, map}
use Rattle.jn_base.specs.declared.types.Ty.{Ty}
use Rattle.jn_base.specs.Atoms.{atom_of}
use Rattle.jn_intern.specs.Pools.{scope_in, shown}
use Rattle.jn_rules.specs.Questions.{IsClosure, masks_of}
use Rattle.jn_expr.proofs.Shared.{sharing_told}
use Rattle.std.proofs.Common.{sym}
use Rattle.jn_base.specs.Fits.{TypeFits}
use Rattle.jn_expr.proofs.sharing.sharing_of.Goals as goal

pub returns : goal.returns
returns c = λ p h.
    let s = scope_in c.args.env.now.pool c.args.scope.now in
    sharing_told p c.args.env.now.table.known.items s (shown c.args.env.now.pool c.args.from) c.args.to.now c.args.masks c.masks_of.result c.deref.result.now c.in_ok-atoms.atoms
    c.holds.result
    (subst (λ (t : Ty). IsClosure p s t (map atom_of c.in_ok-atoms.atoms)) c.show-ty.ensures (c.in_ok-atoms.ensures p h.filled))
    (c.deref.ensures.value ∙ h.masks) (c.masks_of.ensures ∙ ap masks_of c.show-ty.ensures) (c.holds.ensures p h.filled h.groups h.slots)

pub closed-requires-clause-ty : goal.closed-requires-clause-ty
closed-requires-clause-ty c = subst (TypeFits (scope_in c.args.env.now.pool c.args.scope.now)) (sym c.show-ty.ensures) c.requires.fits
