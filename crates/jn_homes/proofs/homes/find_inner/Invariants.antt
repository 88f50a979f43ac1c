use Rattle.std.proofs.Common.{drop}
use Rattle.jn_homes.proofs.Housing.{SearchedMembers}
use Rattle.jn_homes.proofs.homes.find_inner.Given as goal

abbrev pub invariant-loop-m : goal.invariant-loop-m
invariant-loop-m l = SearchedMembers l.members (drop l.m-index l.members) l.name
