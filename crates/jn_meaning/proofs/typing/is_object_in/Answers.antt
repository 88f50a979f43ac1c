use Rattle.jn_reach.proofs.Searches.{not_when}
use Rattle.jn_sem.specs.State.{HasValue}
use Rattle.jn_meaning.specs.Values.{path_at}
use Rattle.jn_meaning.specs.Heaps.{heap_of}
use Rattle.jn_meaning.specs.Seen.{views_of}
use Rattle.jn_meaning.proofs.ClassNumbers.{class_number}
use Rattle.jn_meaning.proofs.InTypes.{outside, object_told}
use Rattle.jn_meaning.proofs.typing.is_object_in.Goals as goal

pub returns-then-not-branch : goal.returns-then-not-branch
returns-then-not-branch c =
    let p = c.args.w.now.program.now in
    let known = c.args.t.now.known.items in
    let V = path_at known c.args.id in
    let class = (c.is_class.ensures p c.requires.stands.filled).0 c.if-not-is_class.false in
    outside p c.args.w.now.masks.now (views_of known c.args.seen.now) (HasValue p (heap_of known c.args.h.now)) c.args.ty.now c.args.o V
    (not_when c.if-not-branch.true (c.in_ok-is_in_type.ensures p V c.requires.stands.filled (class_number p known c.args.id class)))

pub returns : goal.returns
returns c =
    let p = c.args.w.now.program.now in
    let known = c.args.t.now.known.items in
    let V = path_at known c.args.id in
    let class = (c.is_class.ensures p c.requires.stands.filled).0 c.if-not-is_class.false in
    object_told p c.args.w.now.masks.now (views_of known c.args.seen.now) (HasValue p (heap_of known c.args.h.now)) c.args.ty.now c.args.o V c.args.m c.fields_filled.result c.requires.form
    ((c.in_ok-is_in_type.ensures p V c.requires.stands.filled (class_number p known c.args.id class)).0 c.if-not-branch.false) c.fields_filled.ensures
