-- The places of bodies, fields and selectors.
use Rattle.std.specs.Prelude.{◌≡◌, ◌<◌, ℕ, List, map, Option, Some, None, slice_get, length}
use Rattle.jn_index.specs.Index.{IsIndex}
use Rattle.jn_agree.specs.declared.selectors.MethodSel.{MethodSel}
use Rattle.jn_agree.specs.declared.selectors.FieldSel.{FieldSel}
use Rattle.jn_layout.specs.declared.declared.BodyAt.{BodyAt}
use Rattle.jn_layout.specs.declared.declared.FieldAt.{FieldAt}
use Rattle.jn_layout.specs.declared.finder.Finder.{Finder}
use Rattle.jn_layout.specs.Keys.{body_key, field_key, slot_key}
use Rattle.jn_layout.specs.Lookups.{FoundAt, NoneTo, SelectsBody}

-- the number of the body's selector, or there is none
abbrev pub ShapeTold : List MethodSel → BodyAt → Option ℕ → Type 0
ShapeTold names x None = NoneTo (SelectsBody x) names (length names)
ShapeTold names x (Some sel) = FoundAt (SelectsBody x) names sel

-- it stands at the place
pub record ShapeAt (names : List MethodSel) (x : BodyAt) (k : ℕ) (all : List (Option ℕ)) : Type 0 where
  pub told : Option ℕ
  pub at : slice_get all k ≡ Some told
  pub is : ShapeTold names x told

-- the first n of the bodies have theirs
abbrev pub ShapesTold : List MethodSel → List BodyAt → ℕ → List (Option ℕ) → Type 0
ShapesTold names bodies n all = (k : ℕ) (x : BodyAt) → k < n → slice_get bodies k ≡ Some x → ShapeAt names x k all

-- bodies and their selectors are found by these
pub record MethodsPlaced (bodies : List BodyAt) (names : List MethodSel) (finder : Finder) : Type 0 where
  pub by_class : IsIndex (map body_key bodies) finder.bodies.items
  pub shapes : ShapesTold names bodies (length bodies) finder.shapes.items

-- fields and their selectors are found by these
pub record FieldsPlaced (fields : List FieldAt) (names : List FieldSel) (finder : Finder) : Type 0 where
  pub by_class : IsIndex (map field_key fields) finder.fields.items
  pub by_kind : IsIndex (map slot_key names) finder.slots.items
