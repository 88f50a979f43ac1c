use Rattle.jn_imagefile.proofs.Appending.{appends_more, appends_whole}
use Rattle.jn_imagefile.proofs.lists.put_entries.Goals as goal

pub loop-entry-preserved : goal.loop-entry-preserved
loop-entry-preserved g c =
    appends_more (g.T.Entry.field 0).spelled g.T.Entry.fits c.args.entries.now c.loop-entry.entry-index c.args.out.now.items c.entry-item.result c.loop-entry.out.items c.write.new.out.items c.loop-entry-test.true c.entry-item.is c.loop-entry.invariant c.in_ok-write.ensures

pub returns : goal.returns
returns g c =
    appends_whole (g.T.Entry.field 0).spelled g.T.Entry.fits c.args.entries.now c.loop-entry.entry-index c.args.out.now.items c.loop-entry.out.items c.loop-entry-test.false c.loop-entry.invariant
