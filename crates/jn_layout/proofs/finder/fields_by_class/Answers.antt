use Rattle.std.proofs.Common.{List, ℕ, subst}
use Rattle.jn_index.specs.Index.{IsIndex}
use Rattle.jn_layout.proofs.finder.fields_by_class.Goals as goal

pub returns : goal.returns
returns c = subst (λ (keys : List (List ℕ)). IsIndex keys c.in_ok-index.index.items) c.in_ok-keys.ensures c.in_ok-index.ensures
