-- What a search for names tells.
use Rattle.std.specs.Prelude.{ℕ, Result, Ok, Err}
use Rattle.jn_base.specs.declared.tree.Name.{Name}
use Rattle.jn_names.specs.declared.seek.Found.{Found}
use Rattle.jn_names.specs.declared.seek.Found.TheVariants.{Without, Unknown}

abbrev pub told : Found → Result ℕ Name
told (Without k) = Ok k
told (Unknown N) = Err N
