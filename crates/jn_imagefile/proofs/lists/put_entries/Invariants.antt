use Rattle.std.proofs.Common.{take}
use Rattle.std.specs.List.{flat_map, AllWithin}
use Rattle.jn_imagefile.specs.Appends.{Appends}
use Rattle.jn_imagefile.proofs.lists.put_entries.Given as goal

abbrev pub invariant-loop-entry : goal.invariant-loop-entry
invariant-loop-entry g l = Appends (flat_map (g.T.Entry.field 0).spelled (take l.entry-index l.entries)) (AllWithin g.T.Entry.fits l.entries 0 l.entry-index) l.fn.out.items l.out.items
