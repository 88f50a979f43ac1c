use Rattle.std.proofs.Common.{◌∙◌, ap, take}
use Rattle.jn_parser.specs.Moved.{moved}
use Rattle.jn_parser.proofs.Places.{place_is}
use Rattle.jn_parser.proofs.place.place_of.Goals as goal

pub returns : goal.returns
returns c = c.moved.ensures ∙ ap (λ n. moved (record { line = 1; column = 1 }) (take n c.args.bytes.now)) c.min.ensures ∙ place_is c.args.bytes.now c.args.at
