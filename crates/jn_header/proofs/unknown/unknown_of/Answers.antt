use Rattle.jn_header.proofs.Unknowns.{unknown_found}
use Rattle.jn_header.proofs.unknown.unknown_of.Goals as goal

pub returns-in_ok-space-in-Some : goal.returns-in_ok-space-in-Some
returns-in_ok-space-in-Some c =
    unknown_found c.args.p.now c.args.table.now c.requires.filled c.requires.once c.args.path.now.names c.in_ok-space-in-Some.space.names c.in-Some.decl.now c.in-Some.ensures
    c.in_ok-space-in-Some.ensures _ c.as_slice.ensures c.first_stranger.result c.first_stranger.ensures
