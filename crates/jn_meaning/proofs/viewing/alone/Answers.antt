use Rattle.std.proofs.Common.{rules, ◌≡◌, length}
use Rattle.std.specs.Prelude.{option_copied}
use Rattle.jn_meaning.proofs.Targets.{alone_of}
use Rattle.jn_meaning.proofs.viewing.alone.Goals as goal

pub returns : goal.returns
returns c =
    let l : length c.args.xs.now ≡ 1 = search rules in
    alone_of c.args.xs.now (option_copied c.at.result) l c.at.ensures
