use Rattle.std.proofs.Common.{Ok, ◌∙◌}
use Rattle.jn_base.specs.ResolveTypes.{ResolveType}
use Rattle.jn_laws.specs.LawsOfWritten.{site_with}
use Rattle.jn_rules.specs.Plans.{OfType}
use Rattle.jn_rules.specs.Questions.{Means}
use Rattle.jn_heads.specs.Told.{itself}
use Rattle.jn_heads.proofs.Writing.{given_is, fault_told}
use Rattle.jn_check.proofs.types.written_type.Goals as goal

pub returns-in-Ok-clause-told : goal.returns-in-Ok-clause-told
returns-in-Ok-clause-told c =
    given_is c.args.p.now (site_with c.args.class.now c.args.m.now.name.name c.args.env.now.vars.list) c.args.ty.now c.deref.result.now c.in_ok-spot.spot (Ok c.in-Ok.given)
    (c.deref.ensures.value ∙ c.requires.masks) c.in_ok-spot.ensures (c.in-Ok.ensures.told c.requires.filled)

pub returns-clause-told : goal.returns-clause-told
returns-clause-told c =
    fault_told (ResolveType c.args.p.now c.deref.result.now c.in_ok-spot.spot c.args.env.now.vars c.args.ty.now)
    (Means c.args.p.now (OfType (site_with c.args.class.now c.args.m.now.name.name c.args.env.now.vars.list) c.args.ty.now)) itself c.in-Err.fault _
    (λ o. given_is c.args.p.now (site_with c.args.class.now c.args.m.now.name.name c.args.env.now.vars.list) c.args.ty.now c.deref.result.now c.in_ok-spot.spot o
    (c.deref.ensures.value ∙ c.requires.masks) c.in_ok-spot.ensures)
    c.of_names.ensures (c.in-Err.ensures.told c.requires.filled)
