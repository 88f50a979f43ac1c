use Rattle.std.proofs.Common.{rules, ◌≡◌, ◌++◌, ◌∙◌, ℕ, List, subst}
use Rattle.jn_reach.specs.Graph.{Lists}
use Rattle.jn_table.specs.Groups.{StandsAt}
use Rattle.jn_table.specs.Level.{key_under}
use Rattle.jn_table.proofs.Gathers.{gains_joined}
use Rattle.jn_table.proofs.level.add_under.Goals as goal

pub returns : goal.returns
returns c = λ keys are.
    let places = c.places_of.result.now in
    let l = subst (λ (key : List ℕ). Lists (StandsAt keys key) places) (c.deref.ensures.value ∙ c.in_ok-key.ensures)
    (c.places_of.ensures keys are) in
    let is : c.extend_from_slice.new.self.items ≡ c.args.all.now.items ++ places = search rules in
    gains_joined (StandsAt keys (key_under c.args.up c.args.name)) _ places _ is l.exact
