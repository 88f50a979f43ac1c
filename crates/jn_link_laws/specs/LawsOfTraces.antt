-- Codes that go with their bodies, each by itself, print, end and return as these, with all that they call.
use Rattle.std.specs.Prelude.{ℕ}
use Rattle.jn_base.specs.declared.tree.Program.{Program}
use Rattle.jn_code.specs.declared.image.Image.{Image}
use Rattle.jn_agree.specs.Naming.{Naming}
use Rattle.jn_agree.specs.Follows.{Knows, BodyAgrees}
use Rattle.jn_link_laws.specs.Traces.{BodiesTraced}

abbrev pub TracesAgree : Knows → Type 0
TracesAgree K =
    (p : Program) (i : Image) (n : Naming) (m d : ℕ) → ((b : ℕ) → BodyAgrees p i n m K b)
    → (b : ℕ) → BodiesTraced p i n m d b K
