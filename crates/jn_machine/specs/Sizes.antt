-- Frames that wait, the latest first, of those that were made, with the room of each.
use Rattle.std.specs.Prelude.{◌≡◌, ℕ, zero, suc, ◌<◌, List, [], ◌∷◌, length, ℤ, Bool, true, false}
use Rattle.jn_machine.specs.Held.{Held}
use Rattle.jn_machine.specs.declared.frame.Frame.{Frame}

pub record Sizes : Type 0 where
  pub limit : ℕ
  pub wide : ℕ
  pub high : ℕ
  pub waiting : List Frame

pub record Sized (wide high : ℕ) (f : Frame) : Type 0 where
  pub vars : f.vars.limit ≡ wide
  pub vals : f.vals.limit ≡ high

abbrev pub EachSized : ℕ → ℕ → List Frame → Type 0
EachSized wide high [] = Unit {0}
EachSized wide high (f ∷ fs) = Sized wide high f × EachSized wide high fs

-- the n latest operands, in the order in which they came, and then the rest
abbrev pub taken : ℕ → List ℤ → List ℤ → List ℤ
taken zero words rest = rest
taken (suc n) [] rest = rest
taken (suc n) (z ∷ words) rest = taken n words (z ∷ rest)

-- the operands without the n latest
abbrev pub drop_args : ℕ → List ℤ → List ℤ
drop_args zero words = words
drop_args (suc n) [] = []
drop_args (suc n) (z ∷ words) = drop_args n words

-- The receiver is below the arguments, and goes with them. Where the result isn't kept, it was above them, and is put back.
abbrev pub under : Bool → ℤ → List ℤ → List ℤ
under true z [] = []
under true z (y ∷ words) = words
under false z words = z ∷ words

abbrev pub HasUnder : Bool → Held → Type 0
HasUnder true h = 0 < length h.words
HasUnder false h = length h.words < h.limit

-- a frame that waits for a call with n arguments and this receiver
abbrev pub waits_by : ℕ → ℤ → Frame → Frame
waits_by n z f =
    record f { vals = record { limit = f.vals.limit; words = under f.keeps z (drop_args n f.vals.words) } }
