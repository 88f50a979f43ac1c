use Rattle.jn_sem.specs.State.{HasValue}
use Rattle.jn_reach.proofs.Searches.{not_when}
use Rattle.jn_meaning.specs.Values.{path_at}
use Rattle.jn_meaning.specs.Heaps.{heap_of}
use Rattle.jn_meaning.proofs.InTypes.{given_masked, given_value}
use Rattle.jn_meaning.proofs.typing.is_given.Goals as goal

pub returns-then-is_masked : goal.returns-then-is_masked
returns-then-is_masked c =
    let known = c.args.t.now.known.items in
    given_masked c.args.w.now.masks.now c.args.m c.args.f (HasValue c.args.w.now.program.now (heap_of known c.args.h.now) c.args.o (path_at known c.args.id) c.args.f)
    (c.is_masked.ensures.0 c.if-is_masked.true)

pub returns : goal.returns
returns c =
    let known = c.args.t.now.known.items in
    given_value c.args.w.now.masks.now c.args.m c.args.f (HasValue c.args.w.now.program.now (heap_of known c.args.h.now) c.args.o (path_at known c.args.id) c.args.f)
    c.has_value.result (not_when c.if-is_masked.false c.is_masked.ensures) c.has_value.ensures
