use Rattle.std.proofs.Common.{Result}
use Rattle.jn_base.specs.declared.tree.Program.{Program}
use Rattle.jn_base.specs.declared.types.Ty.{Ty}
use Rattle.jn_base.specs.declared.refusal.Refusal.{Refusal}
use Rattle.jn_base.specs.ResolveTypes.{ResolveView}
use Rattle.jn_base.proofs.ResolveOnce.{view_once}
use Rattle.jn_names.proofs.Answering.{of_one, only_one}
use Rattle.jn_names.proofs.resolving.resolve_view.Goals as goal

pub returns-clause-told : goal.returns-clause-told
returns-clause-told c = λ filled.
    let T : Program → Result Ty Refusal → Type 0 = λ p o. ResolveView p c.args.masks.now c.args.spot.now c.args.vars.now
    c.args.view.now o in
    of_one c.args.t.now T c.args.p.now filled c.view_of.result c.view_of.ensures

pub returns-clause-only : goal.returns-clause-only
returns-clause-only c = λ filled o.
    let T : Program → Result Ty Refusal → Type 0 = λ p o. ResolveView p c.args.masks.now c.args.spot.now c.args.vars.now
    c.args.view.now o in
    only_one (T c.args.p.now) (view_once c.args.p.now c.args.masks.now c.args.spot.now c.args.vars.now c.args.view.now)
    c.view_of.result
    (of_one c.args.t.now T c.args.p.now filled c.view_of.result c.view_of.ensures) o
