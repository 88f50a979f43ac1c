use Rattle.std.proofs.Common.{map, take}
use Rattle.jn_sem.specs.NotFamily.{listed_by, listed_in_member}
use Rattle.jn_share.specs.Listing.{AddsListed}
use Rattle.jn_share.proofs.listed.+listed.Given as goal

abbrev pub invariant-add_members-loop-m : goal.invariant-add_members-loop-m
invariant-add_members-loop-m l = AddsListed l.fn.out.items l.out.items (listed_by l.class (map listed_in_member (take l.m-index l.members)))
