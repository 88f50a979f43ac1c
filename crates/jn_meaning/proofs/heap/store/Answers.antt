use Rattle.std.proofs.Common.{rules, refl, ◌<◌, length, List}
use Rattle.std.proofs.lemmas.Option.{slice_get_read}
use Rattle.jn_meaning.specs.declared.heap.Object.{Object}
use Rattle.jn_meaning.proofs.Stored.{store_told}
use Rattle.jn_meaning.proofs.heap.store.Goals as goal

pub returns : goal.returns
returns c =
    let xs : List Object = c.args.h.now.objects.items in
    let l : c.args.o < length xs = search rules in
    store_told c.args.t.now.known.items c.args.s c.args.h.now c.args.o c.index_mut.result.now (record { made = c.index_mut.result.now.made; stored = c.put_value.new.stored }) _ c.args.v
    (slice_get_read xs (length xs) c.args.o c.index_mut.result.now refl l c.index_mut.ensures.value) refl c.in_ok-put_value.ensures refl refl
