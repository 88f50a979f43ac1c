use Rattle.std.proofs.Common.{◌≡◌, ◌∷◌, take}
use Rattle.jn_layout.proofs.keys.shape_key.Given as goal

abbrev pub invariant-loop-kind : goal.invariant-loop-kind
invariant-loop-kind l = l.key.items ≡ l.x.name.0 ∷ l.x.result ∷ take l.kind-index l.x.params.items
