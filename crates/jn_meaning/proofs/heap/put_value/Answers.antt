use Rattle.std.proofs.Common.{rules, ◌≡◌, ◌<◌, length, List, arith, subst, Some, refl}
use Rattle.std.specs.Prelude.{slice_get}
use Rattle.std.proofs.lemmas.Option.{slice_get_read, slice_get_within}
use Rattle.jn_meaning.specs.declared.heap.Kept.{Kept}
use Rattle.jn_meaning.proofs.Stored.{put_told, last_told}
use Rattle.jn_meaning.proofs.heap.put_value.Goals as goal

pub returns-then-i-len : goal.returns-then-i-len
returns-then-i-len c =
    let xs : List Kept = c.args.stored.now.items in
    let l : c.in-Some.i < length xs = search rules in
    put_told c.args.t.now.known.items c.args.s xs c.deref.result.now c.in-Some.i c.index.result.now c.args.v c.deref.ensures.value c.in-Some.ensures
    (slice_get_read xs (length xs) c.in-Some.i c.index.result.now refl l c.index.ensures)

pub returns-else-i-len : goal.returns-else-i-len
returns-else-i-len c =
    let xs : List Kept = c.args.stored.now.items in
    let k = c.in-Some.ensures.0 in
    let at : slice_get xs c.in-Some.i ≡ Some k.kept = subst (λ (ys : List Kept). slice_get ys c.in-Some.i ≡ Some k.kept) c.deref.ensures.value k.at in
    let l : c.in-Some.i < length xs = slice_get_within xs c.in-Some.i k.kept at in
    absurd (omega arith)

pub returns-in_ok-push-in-None : goal.returns-in_ok-push-in-None
returns-in_ok-push-in-None c =
    last_told c.args.t.now.known.items c.args.s c.args.stored.now.items c.deref.result.now c.push.new.self.items c.args.v c.deref.ensures.value c.in-None.ensures c.in_ok-push-in-None.ensures.items
