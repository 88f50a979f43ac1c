use Rattle.std.proofs.Common.{◌↔◌, IsTrue, subst, sym}
use Rattle.jn_base.specs.ResolveTypes.{mask_names}
use Rattle.jn_sem.specs.State.{HasValue, IsIn}
use Rattle.jn_meaning.specs.declared.value.Value.{Value}
use Rattle.jn_meaning.specs.Values.{value_of}
use Rattle.jn_meaning.specs.Heaps.{heap_of}
use Rattle.jn_meaning.specs.Seen.{views_of}
use Rattle.jn_meaning.proofs.InTypes.{number_told, truth_told, null_told}
use Rattle.jn_meaning.proofs.typing.is_in.Goals as goal

pub returns-in-Number : goal.returns-in-Number
returns-in-Number c =
    let p = c.args.w.now.program.now in
    let known = c.args.t.now.known.items in
    let v = views_of known c.args.seen.now in
    let h = heap_of known c.args.h.now in
    subst (λ (x : Value). IsTrue c.is_int.result ↔ IsIn p v h c.args.ty.now (value_of known x)) (sym c.in-Number.is)
    (number_told p (mask_names p) v (HasValue p h) c.args.ty.now _ c.is_int.result c.is_int.ensures)

pub returns-in-Truth : goal.returns-in-Truth
returns-in-Truth c =
    let p = c.args.w.now.program.now in
    let known = c.args.t.now.known.items in
    let v = views_of known c.args.seen.now in
    let h = heap_of known c.args.h.now in
    subst (λ (x : Value). IsTrue c.is_bool.result ↔ IsIn p v h c.args.ty.now (value_of known x)) (sym c.in-Truth.is)
    (truth_told p (mask_names p) v (HasValue p h) c.args.ty.now _ c.is_bool.result c.is_bool.ensures)

pub returns-in-Null : goal.returns-in-Null
returns-in-Null c =
    let p = c.args.w.now.program.now in
    let known = c.args.t.now.known.items in
    let v = views_of known c.args.seen.now in
    let h = heap_of known c.args.h.now in
    subst (λ (x : Value). IsTrue c.takes_null.result ↔ IsIn p v h c.args.ty.now (value_of known x)) (sym c.in-Null.is)
    (null_told p (mask_names p) v (HasValue p h) c.args.ty.now c.takes_null.result c.takes_null.ensures)
