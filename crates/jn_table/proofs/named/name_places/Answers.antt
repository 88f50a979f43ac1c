use Rattle.std.proofs.Common.{◌≡◌, ℕ, Some, slice_get}
use Rattle.jn_reach.proofs.Eachs.{Each-more, Each-none}
use Rattle.jn_table.specs.declared.entry.Entry.{Entry}
use Rattle.jn_table.proofs.NamePlaces.{has_name}
use Rattle.jn_table.proofs.Orders.{each_all}
use Rattle.jn_table.proofs.named.name_places.Goals as goal

pub loop-entry-init : goal.loop-entry-init
loop-entry-init c =
    Each-none (λ (e : Entry) (k : ℕ). slice_get c.args.order.now k ≡ Some e.name) _ c.new-places.ensures.items

pub name_place-requires : goal.name_place-requires
name_place-requires c = (
  c.args.order.now,
  rw (c.deref.ensures.value, ← c.in_ok-keys.ensures) c.in_ok-index.ensures,
  has_name c.args.entries.now c.args.order.now c.requires c.loop-entry.entry-index c.entry-item.result
      c.loop-entry-test.true c.entry-item.is,
)

pub loop-entry-preserved : goal.loop-entry-preserved
loop-entry-preserved c =
    rw c.in_ok-push.ensures.items
    (Each-more (λ (e : Entry) (k : ℕ). slice_get c.args.order.now k ≡ Some e.name) _ _ _ _ _
    c.loop-entry-test.true c.entry-item.is c.loop-entry.invariant
    (c.in_ok-place.ensures c.args.order.now
    (rw (c.deref.ensures.value, ← c.in_ok-keys.ensures) c.in_ok-index.ensures)))

pub returns : goal.returns
returns c = each_all (λ (e : Entry) (k : ℕ). slice_get c.args.order.now k ≡ Some e.name) _ _ _
    c.loop-entry-test.false c.loop-entry.invariant
