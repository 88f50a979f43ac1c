use Rattle.std.proofs.Common.{take}
use Rattle.std.specs.List.{flat_map, AllWithin}
use Rattle.jn_imagefile.specs.Appends.{Appends}
use Rattle.jn_imagefile.proofs.lists.put_items.Given as goal

abbrev pub invariant-loop-item : goal.invariant-loop-item
invariant-loop-item g l = Appends (flat_map g.T.Item.field.spelled (take l.item-index l.items)) (AllWithin g.T.Item.fits l.items 0 l.item-index) l.fn.out.items l.out.items
