-- What a call finds, and what a return does.
use Rattle.std.specs.Prelude.{◌≡◌, All, ℕ, ◌+◌, ◌<◌, ◌≤◌, List, [], ◌∷◌, length, ℤ, true, Option, Some, None, slice_get}
use Rattle.jn_code.specs.declared.image.Image.{Image}
use Rattle.jn_code.specs.declared.image.Shape.{Shape}
use Rattle.jn_code.specs.declared.image.Code.{Code}
use Rattle.jn_code.specs.Machine.{Ref, ref_in}
use Rattle.jn_machine.specs.declared.frame.Frame.{Frame}
use Rattle.jn_machine.specs.Sizes.{Sizes}

-- The selector is there, and the arguments are, with so many operands below them. Where the receiver is not null, its class is there.
pub record HasArgs (i : Image) (s below : ℕ) (vals : List ℤ) : Type 0 where
  pub selector : s < length i.methods
  pub many : (m : Shape) → slice_get i.methods s ≡ Some m → length m.params + below ≤ length vals

-- null, or a reference whose class is there
pub record IsView (i : Image) (z : ℤ) : Type 0 where
  pub class : (r : Ref) → ref_in z ≡ Some r → r.view < length i.classes

-- the receiver below the arguments is such
pub record HasReceiver (i : Image) (s : ℕ) (vals : List ℤ) : Type 0 where
  pub view : (m : Shape) (z : ℤ) → slice_get i.methods s ≡ Some m → slice_get vals (length m.params) ≡ Some z → IsView i z

-- a code finds room for its variables, for its operands
abbrev pub IsWide : ℕ → Code → Type 0
IsWide wide c = length c.params + length c.locals ≤ wide

abbrev pub IsHigh : ℕ → Code → Type 0
IsHigh high c = c.stack ≤ high

-- each code finds room in these frames
pub record Roomy (i : Image) (s : Sizes) : Type 0 where
  pub wide : All (IsWide s.wide) i.codes
  pub high : All (IsHigh s.high) i.codes
  pub short : s.wide < 18446744073709551616

-- there is room for a result in the latest frame that waits, where it is kept
abbrev pub RoomBack : ℕ → Option ℤ → List Frame → Type 0
RoomBack high None fs = Unit {0}
RoomBack high (Some z) [] = Unit {0}
RoomBack high (Some z) (f ∷ fs) = f.keeps ≡ true → length f.vals.words < high

pub record SameSizes (a b : Sizes) : Type 0 where
  pub limit : a.limit ≡ b.limit
  pub wide : a.wide ≡ b.wide
  pub high : a.high ≡ b.high
