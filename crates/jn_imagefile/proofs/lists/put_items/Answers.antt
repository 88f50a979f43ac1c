use Rattle.jn_imagefile.proofs.Appending.{appends_more, appends_whole}
use Rattle.jn_imagefile.proofs.lists.put_items.Goals as goal

pub loop-item-preserved : goal.loop-item-preserved
loop-item-preserved g c =
    appends_more g.T.Item.field.spelled g.T.Item.fits c.args.items.now c.loop-item.item-index c.args.out.now.items c.item-item.result c.loop-item.out.items c.write.new.out.items c.loop-item-test.true c.item-item.is c.loop-item.invariant c.in_ok-write.ensures

pub returns : goal.returns
returns g c =
    appends_whole g.T.Item.field.spelled g.T.Item.fits c.args.items.now c.loop-item.item-index c.args.out.now.items c.loop-item.out.items c.loop-item-test.false c.loop-item.invariant
