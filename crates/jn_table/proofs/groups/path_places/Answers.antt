use Rattle.std.proofs.Common.{ℕ, List, subst, sym, ◌∙◌}
use Rattle.jn_reach.specs.Graph.{Lists}
use Rattle.jn_table.specs.Groups.{StandsAt}
use Rattle.jn_table.specs.Places.{path_key}
use Rattle.jn_table.proofs.groups.path_places.Goals as goal

pub returns : goal.returns
returns c = λ keys are.
    let key = path_key c.args.path.now in
    subst (Lists (StandsAt keys key)) (sym c.in_ok-row.ensures.items)
    (subst (λ (k : List ℕ). Lists (StandsAt keys k) c.places_of.result.now) (c.deref.ensures.value ∙ c.in_ok-key.ensures)
    (c.places_of.ensures keys are))
