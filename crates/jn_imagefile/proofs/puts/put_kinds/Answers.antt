use Rattle.std.proofs.Common.{rules}
use Rattle.jn_imagefile.proofs.AsTheyAre.{kinds_spelled}
use Rattle.jn_imagefile.proofs.puts.put_kinds.Goals as goal

pub returns : goal.returns
returns c = rw (kinds_spelled c.args.some.now) (search rules)
