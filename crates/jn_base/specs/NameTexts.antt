-- Names and paths as they are written.
use Rattle.std.specs.Prelude.{ℕ, Bool, true, false, List, [], ◌∷◌, ◌++◌, Option, Some, None, slice_get, codes}
use Rattle.jn_base.specs.declared.tree.Name.{Name}
use Rattle.jn_base.specs.declared.tree.Text.{Text}

-- the bytes of a name or a text, none where the program has not such a one
abbrev pub bytes_of : Option Text → List ℕ
bytes_of None = []
bytes_of (Some text) = text.bytes

-- a name by its number, where these are the program's names
abbrev pub name_text : List Text → Name → List ℕ
name_text names x = bytes_of (slice_get names x.0)

abbrev pub text_if : Bool → List ℕ → List ℕ
text_if true text = text
text_if false text = []

-- One behind the other with a separator between two, and where `later` says so also in front of the first.
abbrev pub joined : {A : Type 0} → (A → List ℕ) → List ℕ → Bool → List A → List ℕ
joined text separator later [] = []
joined text separator later (x ∷ xs) = text_if later separator ++ (text x ++ joined text separator true xs)

-- A.B.C, behind something `.A.B.C`
abbrev pub dotted : List Text → Bool → List Name → List ℕ
dotted names later path = joined (name_text names) (codes ".") later path
