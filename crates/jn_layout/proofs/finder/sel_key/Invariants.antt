use Rattle.std.proofs.Common.{◌≡◌, ◌∷◌, take}
use Rattle.jn_layout.proofs.finder.sel_key.Given as goal

abbrev pub invariant-loop-kind : goal.invariant-loop-kind
invariant-loop-kind l = l.key.items ≡ l.sel.name.0 ∷ l.sel.shape.result ∷ take l.kind-index l.sel.shape.params
