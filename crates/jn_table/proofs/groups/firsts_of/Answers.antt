use Rattle.std.proofs.Common.{length, refl}
use Rattle.std.proofs.lemmas.Option.{slice_get_read}
use Rattle.jn_index.specs.Index.{keys_in, numbers_of}
use Rattle.jn_index.proofs.Places.{key_at}
use Rattle.jn_reach.proofs.Eachs.{Each-more, Each-none}
use Rattle.jn_table.specs.Groups.{IsFirstOf}
use Rattle.jn_table.proofs.Orders.{each_all}
use Rattle.jn_table.proofs.groups.firsts_of.Goals as goal

pub loop-place-init : goal.loop-place-init
loop-place-init c = Each-none (IsFirstOf (keys_in c.args.keys.now)) _ c.new-firsts.ensures.items

pub loop-place-preserved : goal.loop-place-preserved
loop-place-preserved c =
    let keys = c.args.keys.now in
    let key = c.index-keys-place.result in
    let at = key_at numbers_of keys c.loop-place.place key
    (slice_get_read keys (length keys) c.loop-place.place key refl c.loop-place-test.true c.index-keys-place.is) in
    rw c.in_ok-push.ensures.items
    (Each-more (IsFirstOf (keys_in keys)) _ _ _ _ _ c.loop-place-test.true c.index-keys-place.is c.loop-place.invariant
    ((rw c.deref.ensures.value at c.first_of-first.ensures) (keys_in keys) c.requires at))

pub returns : goal.returns
returns c =
    each_all (IsFirstOf (keys_in c.args.keys.now)) _ _ _ c.loop-place-test.false c.loop-place.invariant
