use Rattle.std.proofs.Common.{◌≡◌, ◌++◌, drop, map}
use Rattle.jn_link.specs.Start.{text_bytes, image_bytes}
use Rattle.jn_link.proofs.lists.texts_of.Given as goal

abbrev pub invariant-loop-text : goal.invariant-loop-text
invariant-loop-text l = map image_bytes l.all ++ map text_bytes (drop l.text-index l.texts) ≡ map text_bytes l.texts
