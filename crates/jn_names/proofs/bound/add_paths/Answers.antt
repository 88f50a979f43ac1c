use Rattle.std.proofs.Common.{◌≡◌, ◌++◌, ◌∷◌, [], length, get_or, slice_get, Some, reverse, refl}
use Rattle.std.proofs.lemmas.Option.{slice_get-get_or, slice_get_read}
use Rattle.jn_table.specs.declared.class.ClassId.{ClassId}
use Rattle.jn_names.proofs.Adding.{Numbered, add_one, none_missing, all_added}
use Rattle.jn_names.proofs.bound.add_paths.Goals.{in-Some+in_ok-bound-in-Some+in_ok-push-in-Some, in-None}
use Rattle.jn_names.proofs.bound.add_paths.Goals as goal

pub loop-id-preserved : goal.loop-id-preserved
loop-id-preserved c = λ paths each.
    let known = c.known-known.result.now in
    let ids = c.args.ids.now in
    let i = c.loop-id.id-index in
    let id : ClassId = get_or ids i (record { 0 = 0 }) in
    let here : slice_get ids i ≡ Some id = slice_get-get_or ids i (record { 0 = 0 }) c.loop-id-test.true in
    elim c.match-get.branch [
      | in-Some+in_ok-bound-in-Some+in_ok-push-in-Some w ↦
          let path = w.in-Some.path.now in
          let found = w.in-Some.ensures.lookup in
          let at : slice_get known id.0 ≡ Some path = slice_get_read known
          (length known) id.0 path refl found.3.0 found.1 in
          let put : c.match-get.all.items ≡ c.loop-id.all.items ++ reverse path.names ∷ [] =
          cc (w.all-is, w.in_ok-push-in-Some.ensures.items, w.in_ok-bound-in-Some.ensures, w.as_slice.ensures) in
          add_one known ids paths c.args.all.now.items c.loop-id.all.items c.match-get.all.items i id path here each at
          (c.loop-id.invariant paths each) put
      | in-None w ↦ absurd (none_missing known ids paths i id here each w.in-None.ensures.lookup.3)
    ]

pub returns : goal.returns
returns c = λ paths each.
    let known = c.known-known.result.now in
    let given : Numbered known paths c.args.ids.now = rw c.known-known.ensures each in
    all_added known c.args.ids.now paths c.args.all.now.items c.loop-id.all.items c.loop-id.id-index
    c.loop-id-test.false given (c.loop-id.invariant paths given)
