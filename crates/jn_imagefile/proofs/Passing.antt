-- A field with a condition, read.
use Rattle.std.proofs.Common.{◌≡◌, ℕ, List, Bool, true, false, Ok, Err, length, ap, ◌∙◌}
use Rattle.std.specs.Prelude.{if◌then◌else◌}
use Rattle.jn_code.specs.SpellsFields.{Field, Reading, passing, ◌>>=◌}
use Rattle.jn_code.specs.SpellsFields as spells

module _ {A : Type 0} (test : A → Bool) (stop : ℕ → spells.Stop) (field : Field A) (bytes : List ℕ) (x : A × List ℕ) (is : field.read bytes ≡ Ok x) where
  abbrev judged : Bool → Reading A
  judged b = if b then Ok x else Err (stop (length bytes))

  read_is : (passing test stop field).read bytes ≡ judged (test x.0)
  read_is = ap (λ (r : Reading A). r >>= λ x. if test x.0 then Ok x else Err (stop (length bytes))) is

  pub passes : test x.0 ≡ true → (passing test stop field).read bytes ≡ Ok x
  passes t = read_is ∙ ap judged t

  pub fails : test x.0 ≡ false → (passing test stop field).read bytes ≡ Err (stop (length bytes))
  fails t = read_is ∙ ap judged t
