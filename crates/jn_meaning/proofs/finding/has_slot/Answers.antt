use Rattle.jn_meaning.specs.Values.{path_at}
use Rattle.jn_meaning.proofs.ClassNumbers.{class_number}
use Rattle.jn_meaning.proofs.OneSlots.{unrelated, slotless, by_number}
use Rattle.jn_meaning.proofs.finding.has_slot.Goals as goal

pub returns-then-not-related : goal.returns-then-not-related
returns-then-not-related c = λ K stands there class has.
    let p = c.args.w.now.program.now in
    let known = c.args.t.now.known.items in
    let V = path_at known c.args.id in
    let at = class_number p known c.args.id class in
    unrelated p known c.args.w.now.slots.now stands.slots stands.passes c.args.id V at class c.args.f c.args.slot has c.args.k K there
    c.related.result c.if-not-related.true (c.related.ensures p known K V stands.groups there at)

pub returns-in-None : goal.returns-in-None
returns-in-None c = λ K stands there class has.
    let p = c.args.w.now.program.now in
    let known = c.args.t.now.known.items in
    let V = path_at known c.args.id in
    let at = class_number p known c.args.id class in
    slotless p known c.args.w.now.slots.now stands.slots stands.passes c.args.id V at class c.args.f c.args.slot has c.args.k K there c.in-None.ensures.told

pub returns-in-Some : goal.returns-in-Some
returns-in-Some c = λ K stands there class has.
    let p = c.args.w.now.program.now in
    let known = c.args.t.now.known.items in
    let V = path_at known c.args.id in
    let at = class_number p known c.args.id class in
    by_number p known c.args.w.now.slots.now stands.slots stands.passes c.args.id V at class c.args.f c.args.slot has c.args.k K there
    c.in-Some.other c.related.result c.if-not-related.false (c.related.ensures p known K V stands.groups there at) c.in-Some.ensures.told
