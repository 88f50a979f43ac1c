use Rattle.std.proofs.Common.{nat_eq, arith}
use Rattle.jn_views.proofs.Passings.{slots_equal}
use Rattle.jn_views.proofs.passing.one_slot.Goals as goal

pub returns-in-Some-slot : goal.returns-in-Some-slot
returns-in-Some-slot c =
    slots_equal c.args.s.now c.args.u c.args.w c.args.field c.in-Some.a c.in-Some-slot.b c.in-Some.ensures.told c.in-Some-slot.ensures.told (nat_eq c.in-Some.a c.in-Some-slot.b)
    (λ t. grind (arith, t), λ e. grind (arith, e))
