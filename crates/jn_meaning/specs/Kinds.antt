-- Values that are of another kind.
use Rattle.jn_meaning.specs.declared.value.Value.{Value}
use Rattle.jn_meaning.specs.declared.value.Value.TheVariants as value

abbrev pub NoNumber : Value → Type 0
NoNumber (value.Number z) = ⊥
NoNumber (value.Truth b) = Unit {0}
NoNumber value.Null = Unit {0}
NoNumber (value.Reference o id) = Unit {0}

abbrev pub NoTruth : Value → Type 0
NoTruth (value.Truth b) = ⊥
NoTruth (value.Number z) = Unit {0}
NoTruth value.Null = Unit {0}
NoTruth (value.Reference o id) = Unit {0}
