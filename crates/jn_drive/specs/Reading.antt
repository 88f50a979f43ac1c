-- How much of a file is read, and what reading tells.
use Rattle.std.specs.Prelude.{◌≡◌, ℕ, ◌≤◌, ◌⊎◌, List, ◌++◌, take, drop, length, Result, Ok, Err, Some, None}
use Rattle.std.specs.Io.KnownBytes.{prepend_known, IsAtEnd}
use Rattle.std.specs.declared.option.Option.{Option}
use Rattle.jn_io.specs.Causes.{Rose}
use Rattle.jn_io.specs.Told.{Files, Lacks}
use Rattle.jn_drive.specs.declared.halt.Halt.{Halt}
use Rattle.jn_drive.specs.declared.halt.Halt.TheVariants as halt
use Rattle.jn_drive.specs.declared.words.JobKind.{JobKind}
use Rattle.jn_drive.specs.declared.words.JobKind.TheVariants as kinds
use Rattle.jn_drive.specs.Seen.{IsSource, IsLeft}

-- No more of a file than this is read: one byte more than a source, or an image, may have.
abbrev pub most_read : JobKind → ℕ
most_read (kinds.OnSource kind) = 1048577
most_read kinds.Run = 1048577
most_read kinds.Mean = 1048577
most_read kinds.Build = 1048577
most_read kinds.Exec = 134217729

-- reading failed, or memory ran out
abbrev pub IsUnreadBy : Type 0 → ℕ → ℕ → Halt → Type 0
IsUnreadBy cause faults faults' halt.Unread = cause
IsUnreadBy cause faults faults' halt.Memory = faults' ≡ faults
IsUnreadBy cause faults faults' h = ⊥

-- The first `most` bytes of the file were read, and what stands behind them is left; or the file couldn't be read, or
-- memory ran out.
abbrev pub ReadsFile : ℕ → Option Files → List ℕ → Option (List ℕ) → ℕ → ℕ → Result (List ℕ) Halt → Type 0
ReadsFile most files file rest' faults faults' (Ok front) =
    (faults' ≡ faults) × ((bytes : List ℕ) × IsSource files file bytes × (front ≡ take most bytes) × IsLeft files (drop most bytes) rest')
ReadsFile most files file rest' faults faults' (Err h) = IsUnreadBy (Rose faults faults' ⊎ Lacks files file) faults faults' h

-- the front of what was left to be read, where that is told, and what stands behind it
abbrev pub IsFront : ℕ → Option (List ℕ) → Option (List ℕ) → List ℕ → Type 0
IsFront most None rest' front = length front ≤ most
IsFront most (Some bytes) rest' front = (front ≡ take most bytes) × (rest' ≡ Some (drop most bytes))

-- The front of the rest was read; or reading failed, or memory ran out.
abbrev pub ReadsRest : ℕ → Option (List ℕ) → Option (List ℕ) → ℕ → ℕ → Result (List ℕ) Halt → Type 0
ReadsRest most rest rest' faults faults' (Ok front) = (faults' ≡ faults) × IsFront most rest rest' front
ReadsRest most rest rest' faults faults' (Err h) = IsUnreadBy (Rose faults faults') faults faults' h

-- A piece of n bytes was taken off the front of the rest and put behind the source, none only at the
-- end.
pub record TakesPiece (rest rest' : Option (List ℕ)) (source source' : List ℕ) (room n : ℕ) : Type 0 where
  pub piece : List ℕ
  pub size : length piece ≡ n
  pub fits : n ≤ room
  pub added : source' ≡ source ++ piece
  pub rest_was : rest ≡ prepend_known piece rest'
  pub at_end : n ≡ 0 → IsAtEnd rest'

-- One call of `read`: it took a piece; or reading failed, or memory ran out.
abbrev pub ReadsPiece : Option (List ℕ) → Option (List ℕ) → ℕ → ℕ → List ℕ → List ℕ → ℕ → Result ℕ Halt → Type 0
ReadsPiece rest rest' faults faults' source source' room (Ok n) = (faults' ≡ faults) × TakesPiece rest rest' source source' room n
ReadsPiece rest rest' faults faults' source source' room (Err h) = IsUnreadBy (Rose faults faults') faults faults' h
