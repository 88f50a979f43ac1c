use Rattle.std.proofs.Common.{◌≡◌, ◌∙◌, ℕ, List, Some, map, slice_get, subst}
use Rattle.jn_index.specs.Index.{IsFirst}
use Rattle.jn_table.specs.NamePlaces.{name_key}
use Rattle.jn_table.proofs.NamePlaces.{name_at, not_missing}
use Rattle.jn_table.proofs.named.name_place.Goals as goal

pub unreachable-requires : goal.unreachable-requires
unreachable-requires c =
    let keys = map name_key c.requires.0 in
    not_missing c.requires.0 c.args.name c.requires.2
    (subst (λ (key : List ℕ). (k : ℕ) → slice_get keys k ≡ Some key → ⊥) (c.deref.ensures.value ∙ c.in_ok-key.ensures)
    (c.in-None.ensures.none keys c.requires.1))

pub returns : goal.returns
returns c = λ order is.
    name_at order c.args.name c.in-Some.place
    (subst (λ (key : List ℕ). IsFirst (map name_key order) key c.in-Some.place)
    (c.deref.ensures.value ∙ c.in_ok-key.ensures) (c.in-Some.ensures.some (map name_key order) is))
