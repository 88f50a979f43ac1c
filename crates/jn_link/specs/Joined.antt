-- The parts of an image, joined: what they owe, and what the image then is.
use Rattle.std.specs.Prelude.{◌≡◌, ◌≤◌, ◌+◌, ℕ, List, ◌∷◌, length, Some, slice_get}
use Rattle.jn_base.specs.declared.tree.Program.{Program}
use Rattle.jn_base.specs.Spelling.{IsTextOf}
use Rattle.jn_code.specs.declared.image.Image.{Image}
use Rattle.jn_code.specs.declared.image.Code.{Code}
use Rattle.jn_code.specs.declared.image.Shape.{Shape}
use Rattle.jn_code.specs.Form.{InForm}
use Rattle.jn_code.specs.Spells.{file_of, limit}
use Rattle.jn_code.specs.Valid.{rows_fault, codes_fault, IsValid}
use Rattle.jn_sem.specs.Does.{Body}
use Rattle.jn_rules.specs.Headers.{Header}
use Rattle.jn_rules.specs.Verdict.{TreePasses}
use Rattle.jn_rule_laws.specs.LawsOfHeaders.{IsHeader}
use Rattle.jn_agree.specs.Naming.{Naming}
use Rattle.jn_agree.specs.Rows.{Rows, RowsAre, HasShape, bodies_of}
use Rattle.jn_agree.specs.Places.{StartAt}
use Rattle.jn_agree.specs.Agrees.{Agrees}
use Rattle.jn_node_laws.specs.Facts.{FewNumbers}
use Rattle.jn_places.specs.StmtPlaces.{TypedBodyAt}
use Rattle.jn_place_spans.specs.LawsOfImages.{RestFits, CodesStand}

-- The code with which a run begins: an object of Main is made, and the `main` that has no parameters and no result is
-- called on it.
pub record IsStart (p : Program) (n : Naming) (c : Code) : Type 0 where
  pub at : StartAt p n c
  pub void : at.shape.result ≡ 0
  pub room : 1 ≤ c.stack

-- the code stands at the typed place of the body, by the body's header, and has room for 3,806 operands
pub record IsLowered (p : Program) (n : Naming) (b : Body) (c : Code) : Type 0 where
  pub at : (k : Header) → IsHeader p b k → TypedBodyAt p n b k c
  pub room : 3806 ≤ c.stack

-- Of each body, the code of its number is its own, and has few locals.
pub record AreLowered (p : Program) (n : Naming) (cs : List Code) : Type 0 where
  pub numbered : n.bodies ≡ bodies_of p
  pub many : length n.bodies ≤ length cs
  pub each : (j : ℕ) (b : Body) (c : Code) → slice_get n.bodies j ≡ Some b → slice_get cs j ≡ Some c → IsLowered p n b c
  pub few : (j : ℕ) (c : Code) → slice_get cs j ≡ Some c → length c.params + length c.locals ≤ 255

-- The code of that number takes a reference and the kinds of the body's shape, and gives the shape's result.
pub record HasCode (p : Program) (b : Body) (cs : List Code) (j : ℕ) : Type 0 where
  pub code : Code
  pub at : slice_get cs j ≡ Some code
  pub shape : Shape
  pub has_shape : HasShape p b shape
  pub params : code.params ≡ 3 ∷ shape.params
  pub result : code.result ≡ shape.result

-- The image has the program's rows, of which none has a fault; the codes of its bodies and of its start; it is in form;
-- and its lists are no longer than the program's are.
pub record AreJoined (p : Program) (i : Image) (n : Naming) : Type 0 where
  pub rows : RowsAre p i n
  pub few : FewNumbers n
  pub faultless : rows_fault i 0 i.classes ≡ codes_fault i 0 i.codes
  pub bodies : (j : ℕ) (b : Body) (c : Code) → slice_get n.bodies j ≡ Some b → slice_get i.codes j ≡ Some c
      → IsLowered p n b c
  pub start : (c : Code) → slice_get i.codes i.start ≡ Some c → IsStart p n c
  pub in_form : InForm i
  pub fits : RestFits p i n

-- What is promised of the image of a program: it has the program's rows, is in form and valid, agrees with the
-- program's meaning, and its file is within its limit.
pub record IsImageOf (p : Program) (i : Image) : Type 0 where
  pub rows : Rows p i
  pub in_form : InForm i
  pub valid : IsValid i
  pub agrees : Agrees i p
  pub within : length (file_of i) ≤ limit

-- So each body's code has the body's shape, which rows need to have no fault.
abbrev pub LoweredHaveShapes : Type 0
LoweredHaveShapes =
    (p : Program) (bytes : List ℕ) → IsTextOf p bytes → TreePasses p → (n : Naming) (cs : List Code) → AreLowered p n cs
    → (j : ℕ) (b : Body) → slice_get n.bodies j ≡ Some b → HasCode p b cs j

-- Each code stands as its body asks, and has room for its operands.
abbrev pub JoinedStand : Type 0
JoinedStand =
    (p : Program) (bytes : List ℕ) → IsTextOf p bytes → TreePasses p → (i : Image) (n : Naming) → AreJoined p i n
    → CodesStand p i n

-- SO THE PARTS MAKE THE IMAGE OF THE PROGRAM, for each accepted source.
abbrev pub JoinedAreImages : Type 0
JoinedAreImages =
    (p : Program) (bytes : List ℕ) → IsTextOf p bytes → TreePasses p → (i : Image) (n : Naming) → AreJoined p i n
    → IsImageOf p i
