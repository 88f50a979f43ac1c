use Rattle.jn_reach.specs.Pairs.{IsGraphOf}
use Rattle.jn_reach.proofs.pairs.no_edges.Given as goal

abbrev pub invariant-loop : goal.invariant-loop
invariant-loop l = IsGraphOf l.counter (λ _ _. ⊥) l.rows.items
