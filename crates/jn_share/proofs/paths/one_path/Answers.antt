use Rattle.std.proofs.Common.{ap, reverse}
use Rattle.jn_share.proofs.Turned.{turned_same}
use Rattle.jn_share.proofs.paths.one_path.Goals as goal

pub returns : goal.returns
returns c = (λ t. ap reverse (c.same_names.ensures.0 t), λ e. c.same_names.ensures.1 (turned_same c.args.names.now c.args.others.now e))
