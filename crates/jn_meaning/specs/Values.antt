-- Values of the runner, as the meaning has them.
use Rattle.std.specs.Prelude.{List, [], map, reverse, slice_get, Option, Some, None}
use Rattle.jn_base.specs.declared.path.Path.{Path as ShownPath}
use Rattle.jn_base.specs.Paths.{Path}
use Rattle.jn_table.specs.declared.class.ClassId.{ClassId}
use Rattle.jn_sem.specs.Values as sem
use Rattle.jn_meaning.specs.declared.value.Value.{Value}
use Rattle.jn_meaning.specs.declared.value.Value.TheVariants as value

abbrev pub path_in : Option ShownPath → Path
path_in None = []
path_in (Some q) = reverse q.names

-- the path of a number, where these are the numbered paths; the program itself where there is none
abbrev pub path_at : List ShownPath → ClassId → Path
path_at known id = path_in (slice_get known id.0)

abbrev pub value_of : List ShownPath → Value → sem.Value
value_of known (value.Number z) = sem.Number z
value_of known (value.Truth b) = sem.Truth b
value_of known value.Null = sem.Null
value_of known (value.Reference o id) = sem.Reference o (path_at known id)

abbrev pub values_of : List ShownPath → List Value → List sem.Value
values_of known vs = map (value_of known) vs
