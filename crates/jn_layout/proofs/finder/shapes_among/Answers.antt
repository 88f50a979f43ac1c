use Rattle.std.proofs.Common.{List, ℕ, subst, sym}
use Rattle.jn_index.specs.Index.{IsIndex}
use Rattle.jn_layout.proofs.finder.shapes_among.Goals as goal

pub returns : goal.returns
returns c =
    c.in_ok-all.ensures c.args.names.now
    (subst (IsIndex _) (sym c.deref.ensures.value)
    (subst (λ (keys : List (List ℕ)). IsIndex keys c.in_ok-index.index.items) c.in_ok-keys.ensures c.in_ok-index.ensures))
