use Rattle.jn_header.proofs.BodyRows.{inner_methods, slot_methods, body_methods, body_among, adds_none, adds_one}
use Rattle.jn_header.proofs.bodies.add_head.Goals as goal

pub body_head-requires-clause-declared : goal.body_head-requires-clause-declared
body_head-requires-clause-declared c = c.requires.declared c.in-Body.m (body_among c.args.m.now c.in-Body.m c.in-Body.is)

pub returns-in-Inner-clause-told : goal.returns-in-Inner-clause-told
returns-in-Inner-clause-told c = adds_none c.args.p.now c.args.class.now _ c.args.out.now.items (inner_methods c.args.m.now c.in-Inner.field-0 c.in-Inner.is)

pub returns-in-Slot-clause-told : goal.returns-in-Slot-clause-told
returns-in-Slot-clause-told c = adds_none c.args.p.now c.args.class.now _ c.args.out.now.items (slot_methods c.args.m.now c.in-Slot.field-0 c.in-Slot.is)

pub returns-in_ok-push-in-Ok-clause-told : goal.returns-in_ok-push-in-Ok-clause-told
returns-in_ok-push-in-Ok-clause-told c =
    adds_one c.args.p.now c.args.class.now _ c.in-Body.m c.in-Ok.head c.args.out.now.items c.push.new.self.items (body_methods c.args.m.now c.in-Body.m c.in-Body.is) c.in-Ok.ensures.told
    c.in_ok-push-in-Ok.ensures.items
