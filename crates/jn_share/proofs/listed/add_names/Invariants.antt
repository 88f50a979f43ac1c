use Rattle.std.proofs.Common.{map, take}
use Rattle.jn_sem.specs.NotFamily.{in_list}
use Rattle.jn_share.specs.Listing.{listing_of, AddsListed}
use Rattle.jn_share.proofs.listed.add_names.Given as goal

abbrev pub invariant-loop-name : goal.invariant-loop-name
invariant-loop-name l = AddsListed l.fn.out.items l.out.items (map (in_list l.class (listing_of l.list)) (take l.name-index l.names))
