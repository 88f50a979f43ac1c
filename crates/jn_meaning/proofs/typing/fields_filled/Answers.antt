use Rattle.jn_reach.proofs.Searches.{iff_true, iff_false, not_when}
use Rattle.jn_base.specs.declared.tree.Name.{Name}
use Rattle.jn_sem.specs.State.{HasValue}
use Rattle.jn_meaning.specs.Values.{path_at}
use Rattle.jn_meaning.specs.Heaps.{heap_of}
use Rattle.jn_meaning.proofs.ClassNumbers.{class_number}
use Rattle.jn_meaning.proofs.InTypes.{filled_more, filled_all, filled_not}
use Rattle.jn_meaning.proofs.typing.fields_filled.Goals as goal

pub returns-then-not-is_given : goal.returns-then-not-is_given
returns-then-not-is_given c =
    let zero : Name = record { 0 = 0 } in
    let p = c.args.w.now.program.now in
    let known = c.args.t.now.known.items in
    let V = path_at known c.args.id in
    let is = c.row.ensures p V c.requires.stands.filled.table (class_number p known c.args.id c.requires.class) in
    iff_false (filled_not c.args.w.now.masks.now (HasValue p (heap_of known c.args.h.now) c.args.o V) c.args.m c.deref-field-items.result.now p known V c.row.result.now is c.deref-field-items.ensures.value
    c.loop-field.field-index zero c.loop-field-test.true (not_when c.if-not-is_given.true c.is_given.ensures))

pub loop-field-preserved : goal.loop-field-preserved
loop-field-preserved c =
    let zero : Name = record { 0 = 0 } in
    let p = c.args.w.now.program.now in
    let known = c.args.t.now.known.items in
    filled_more c.args.w.now.masks.now (HasValue p (heap_of known c.args.h.now) c.args.o (path_at known c.args.id)) c.args.m c.deref-field-items.result.now
    c.loop-field.field-index zero c.loop-field-test.true (c.is_given.ensures.0 c.if-not-is_given.false) c.loop-field.invariant

pub returns : goal.returns
returns c =
    let p = c.args.w.now.program.now in
    let known = c.args.t.now.known.items in
    let V = path_at known c.args.id in
    let is = c.row.ensures p V c.requires.stands.filled.table (class_number p known c.args.id c.requires.class) in
    iff_true (filled_all c.args.w.now.masks.now (HasValue p (heap_of known c.args.h.now) c.args.o V) c.args.m c.deref-field-items.result.now p known V c.row.result.now is c.deref-field-items.ensures.value
    c.loop-field.field-index c.loop-field-test.false c.loop-field.invariant)
