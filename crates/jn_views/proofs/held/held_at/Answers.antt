use Rattle.std.proofs.Common.{refl}
use Rattle.jn_views.proofs.Holding.{granted, refused_by}
use Rattle.jn_views.proofs.held.held_at.Goals as goal

pub returns-in-None : goal.returns-in-None
returns-in-None c = λ p U f g s at. (
  refl,
  λ W h. c.in-None.ensures.told p U f g at W (record { family = h.family; of_target = h.of_target; counterpart = h.counterpart; is_in = h.is_in }),
)

pub returns-in-None-first_blocked : goal.returns-in-None-first_blocked
returns-in-None-first_blocked c = λ p U f g s at.
    let w = c.in-Some.ensures.told p U f g at in
    granted p c.args.from.now c.args.to.now c.args.m c.args.names.now c.masks.result c.masks.ensures U w.0 w.2
    (c.in-None-first_blocked.ensures.none p U w.0 f s at w.1 w.2.counterpart.related)

pub returns-in-Some-first_blocked : goal.returns-in-Some-first_blocked
returns-in-Some-first_blocked c = λ p U f g s at.
    let w = c.in-Some.ensures.told p U f g at in
    let b =
    refused_by p c.args.from.now c.args.to.now c.args.m c.args.names.now c.masks.result c.masks.ensures U w.0 w.2 c.in-Some-first_blocked.field
    (c.in-Some-first_blocked.ensures.some p U w.0 f s at w.1 w.2.counterpart.related) in
    (w.0, w.1, b.0, b.1)
