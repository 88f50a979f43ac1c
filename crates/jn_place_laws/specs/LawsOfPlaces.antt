-- Where the code of each body stands at its places, each code goes with its body.
use Rattle.std.specs.Prelude.{◌≡◌, ◌<◌, ℕ, Some, slice_get}
use Rattle.jn_base.specs.declared.tree.Program.{Program}
use Rattle.jn_base.specs.WithinLimits.{IsWithinLimits}
use Rattle.jn_code.specs.declared.image.Image.{Image}
use Rattle.jn_code.specs.declared.image.Code.{Code}
use Rattle.jn_sem.specs.Does.{Body}
use Rattle.jn_rules.specs.Headers.{Header}
use Rattle.jn_rules.specs.Verdict.{TreePasses}
use Rattle.jn_rule_laws.specs.LawsOfHeaders.{IsHeader}
use Rattle.jn_agree.specs.Naming.{Naming}
use Rattle.jn_agree.specs.Rows.{RowsAre}
use Rattle.jn_agree.specs.Places.{StartAt}
use Rattle.jn_agree.specs.Follows.{BodyAgrees}
use Rattle.jn_agree.specs.Agrees.{Agrees}
use Rattle.jn_node_laws.specs.Facts.{FewNumbers}
use Rattle.jn_places.specs.StmtPlaces.{TypedBodyAt}
use Rattle.jn_place_laws.specs.Contexts.{known}

-- The code of each body stands at its places, by the body's header.
abbrev pub BodiesStand : Program → Image → Naming → Type 0
BodiesStand p i n =
    (code : ℕ) (b : Body) (it : Code) → slice_get n.bodies code ≡ Some b → slice_get i.codes code ≡ Some it
    → (hd : Header) → IsHeader p b hd → TypedBodyAt p n b hd it

-- EACH CODE GOES WITH ITS BODY, in an image with a program's rows, where each body's code stands at its places: for a
-- program within the limits that is accepted. No compiler is spoken of.
abbrev pub BodiesAgree : Type 0
BodiesAgree =
    (p : Program) → IsWithinLimits p → TreePasses p → (i : Image) (n : Naming) (m : ℕ) → RowsAre p i n → FewNumbers n
    → m < 4294967296 → BodiesStand p i n → (b : ℕ) → BodyAgrees p i n m (known p) b

-- THE IMAGE AGREES WITH THE PROGRAM, where besides its start code stands at its place: it makes an object of Main, and calls
-- the `main` that has no parameters and no result.
abbrev pub ImageAgrees : Type 0
ImageAgrees =
    (p : Program) → IsWithinLimits p → TreePasses p → (i : Image) (n : Naming) → RowsAre p i n → FewNumbers n
    → BodiesStand p i n → (it : Code) → slice_get i.codes i.start ≡ Some it → (start : StartAt p n it)
    → start.shape.result ≡ 0 → Agrees i p
