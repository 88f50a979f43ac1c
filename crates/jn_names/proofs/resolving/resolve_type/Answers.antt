use Rattle.std.proofs.Common.{Result}
use Rattle.jn_base.specs.declared.tree.Program.{Program}
use Rattle.jn_base.specs.declared.types.Ty.{Ty}
use Rattle.jn_base.specs.declared.refusal.Refusal.{Refusal}
use Rattle.jn_base.specs.ResolveTypes.{ResolveType}
use Rattle.jn_base.proofs.ResolveOnce.{type_once}
use Rattle.jn_names.proofs.Answering.{of_one, only_one}
use Rattle.jn_names.proofs.resolving.resolve_type.Goals as goal

pub returns-clause-told : goal.returns-clause-told
returns-clause-told c = λ filled.
    let T : Program → Result Ty Refusal → Type 0 = λ p o. ResolveType p c.args.masks.now c.args.spot.now c.args.vars.now
    c.args.ty.now o in
    of_one c.args.t.now T c.args.p.now filled c.type_of.result c.type_of.ensures

pub returns-clause-only : goal.returns-clause-only
returns-clause-only c = λ filled o.
    let T : Program → Result Ty Refusal → Type 0 = λ p o. ResolveType p c.args.masks.now c.args.spot.now c.args.vars.now
    c.args.ty.now o in
    only_one (T c.args.p.now) (type_once c.args.p.now c.args.masks.now c.args.spot.now c.args.vars.now c.args.ty.now)
    c.type_of.result
    (of_one c.args.t.now T c.args.p.now filled c.type_of.result c.type_of.ensures) o
