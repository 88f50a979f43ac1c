use Rattle.jn_sem.proofs.FindingLaws.{finds_one_in}
use Rattle.jn_meaning.specs.Values.{path_at, value_of}
use Rattle.jn_meaning.specs.Heaps.{slot_of, heap_of}
use Rattle.jn_meaning.proofs.InTypes.{no_slot, no_value, some_value}
use Rattle.jn_meaning.proofs.typing.has_value.Goals as goal

pub returns-in-None : goal.returns-in-None
returns-in-None c =
    let known = c.args.t.now.known.items in
    no_slot c.args.w.now.program.now (heap_of known c.args.h.now) c.args.o (path_at known c.args.id) c.args.f c.in-None.ensures

pub returns-in-None-value_at : goal.returns-in-None-value_at
returns-in-None-value_at c =
    let p = c.args.w.now.program.now in
    let known = c.args.t.now.known.items in
    let q = c.requires.stands in
    no_value p (heap_of known c.args.h.now) c.args.o (path_at known c.args.id) c.args.f
    ((finds_one_in p q.declarations q.filled.table.named.distinct q.filled.table.named.paths).slot (path_at known c.args.id) c.args.f)
    (slot_of known c.in-Some.s) c.in-Some.ensures c.in-None-value_at.ensures

pub returns-in-Some-value_at : goal.returns-in-Some-value_at
returns-in-Some-value_at c =
    let p = c.args.w.now.program.now in
    let known = c.args.t.now.known.items in
    let q = c.requires.stands in
    some_value p (heap_of known c.args.h.now) c.args.o (path_at known c.args.id) c.args.f
    ((finds_one_in p q.declarations q.filled.table.named.distinct q.filled.table.named.paths).slot (path_at known c.args.id) c.args.f)
    (slot_of known c.in-Some.s) c.in-Some.ensures (value_of known c.in-Some-value_at.field-0) c.in-Some-value_at.ensures
