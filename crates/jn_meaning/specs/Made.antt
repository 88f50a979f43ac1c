-- What an operator gives, as the meaning has it.
use Rattle.std.specs.Prelude.{◌≡◌, ℕ, List}
use Rattle.jn_base.specs.declared.path.Path.{Path as ShownPath}
use Rattle.jn_table.specs.declared.class.ClassId.{ClassId}
use Rattle.jn_sem.specs.Does as does
use Rattle.jn_meaning.specs.declared.value.Value.{Value}
use Rattle.jn_meaning.specs.declared.value.Value.TheVariants as value
use Rattle.jn_meaning.specs.declared.operators.Made.{Made}
use Rattle.jn_meaning.specs.declared.operators.Made.TheVariants as made
use Rattle.jn_meaning.specs.Values.{value_of}
use Rattle.jn_meaning.specs.Frames.{ending_of}

abbrev pub made_of : List ShownPath → Made → does.Made
made_of known (made.Gives v) = does.Gives (value_of known v)
made_of known (made.Fails o) = does.Fails (ending_of o)

-- a reference to the object o
abbrev pub IsAt : Value → ℕ → Type 0
IsAt v o = (id : ClassId) × (v ≡ value.Reference o id)
