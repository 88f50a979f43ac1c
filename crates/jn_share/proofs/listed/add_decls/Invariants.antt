use Rattle.std.proofs.Common.{map, take}
use Rattle.jn_sem.specs.NotFamily.{listed_by, listed_in_decl}
use Rattle.jn_share.specs.Listing.{AddsListed}
use Rattle.jn_share.proofs.listed.add_decls.Given as goal

abbrev pub invariant-loop-d : goal.invariant-loop-d
invariant-loop-d l = AddsListed l.fn.out.items l.out.items (listed_by l.namespace (map listed_in_decl (take l.d-index l.decls)))
