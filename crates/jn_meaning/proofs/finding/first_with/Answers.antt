use Rattle.std.proofs.Common.{◌<◌, length, arith, ap}
use Rattle.std.proofs.lemmas.Option.{slice_get_within}
use Rattle.jn_meaning.proofs.ClassNumbers.{class_number}
use Rattle.jn_meaning.proofs.OneSlots.{first_is, none_left}
use Rattle.jn_meaning.proofs.finding.first_with.Goals as goal

pub returns-then-has_slot : goal.returns-then-has_slot
returns-then-has_slot c =
    let p = c.args.w.now.program.now in
    let t = c.args.t.now in
    let q = c.requires in
    let at = class_number p t.known.items c.args.id q.class in
    let within : c.loop-k.k < length t.known.items = omega (arith, ap length c.known-k-end.ensures) in
    first_is p t q.stands.filled c.args.w.now.slots.now q.stands.slots q.stands.passes c.args.id at q.class c.args.f c.args.slot q.has c.loop-k.k c.has_slot.result c.loop-k.invariant within c.if-has_slot.true
    (λ K n. c.has_slot.ensures K q.stands n q.class q.has)

pub returns : goal.returns
returns c =
    let p = c.args.w.now.program.now in
    let t = c.args.t.now in
    let q = c.requires in
    let at = class_number p t.known.items c.args.id q.class in
    let inside : c.args.id.0 < length t.known.items = slice_get_within t.known.items c.args.id.0 _ at in
    let within : c.args.id.0 < c.loop-k.k = omega (arith, ap length c.known-k-end.ensures, inside) in
    none_left p t q.stands.filled c.args.w.now.slots.now q.stands.slots q.stands.passes c.args.id at q.class c.args.f c.args.slot q.has c.loop-k.k c.loop-k.invariant within
