use Rattle.std.proofs.Common.{reverse}
use Rattle.jn_header.proofs.Checking.{home_there}
use Rattle.jn_header.proofs.check.at_home.Goals as goal

pub unwrap-at-requires : goal.unwrap-at-requires
unwrap-at-requires c = home_there c.args.p.now (reverse c.args.path.names) c.requires.universe c.home_of.result (c.home_of.ensures c.requires.once)
