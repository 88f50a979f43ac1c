-- What is seen of the outside before and after a call: what the store and the outputs tell, and
-- their counts of faults.
use Rattle.std.specs.Prelude.{◌≡◌, ℕ, ◌≤◌, List, take, ⊤, Some, None, ◌⊎◌}
use Rattle.std.specs.declared.option.Option.{Option}
use Rattle.std.specs.FinMap.{get}
use Rattle.std.specs.Io.KnownBytes.{append_known}
use Rattle.jn_io.specs.Causes.{Rose}
use Rattle.jn_io.specs.Told.{Files}
use Rattle.jn_drive.specs.declared.status.Status.{Status}
use Rattle.jn_drive.specs.declared.status.Status.TheVariants as statuses
use Rattle.jn_drive.specs.Reply.{Reply}

pub record StoreSeen : Type 0 where
  pub files : Option Files
  pub rest : Option (List ℕ)
  pub read_faults : ℕ
  pub save_faults : ℕ

pub record SinkSeen : Type 0 where
  pub taken : Option (List ℕ)
  pub faults : ℕ

pub record Seen : Type 0 where
  pub store : StoreSeen
  pub out : SinkSeen
  pub err : SinkSeen

-- The file holds these bytes, where the files are told.
abbrev pub IsSource : Option Files → List ℕ → List ℕ → Type 0
IsSource None file bytes = ⊤
IsSource (Some files) file bytes = get files file ≡ Some bytes

-- The files are told, and the file holds these bytes.
abbrev pub IsToldSource : Option Files → List ℕ → List ℕ → Type 0
IsToldSource None file bytes = ⊥
IsToldSource (Some files) file bytes = get files file ≡ Some bytes

-- What is left to be read, where the files are told.
abbrev pub IsLeft : Option Files → List ℕ → Option (List ℕ) → Type 0
IsLeft None left rest = ⊤
IsLeft (Some files) left rest = rest ≡ Some left

-- No count rose in the call.
pub record IsQuiet (before after : Seen) : Type 0 where
  pub reads : Rose before.store.read_faults after.store.read_faults → ⊥
  pub saves : Rose before.store.save_faults after.store.save_faults → ⊥
  pub out : Rose before.out.faults after.out.faults → ⊥
  pub err : Rose before.err.faults after.err.faults → ⊥

-- An output took exactly these bytes, and didn't fail.
pub record TookAll (before after : SinkSeen) (bytes : List ℕ) : Type 0 where
  pub taken : after.taken ≡ append_known before.taken bytes
  pub faults : after.faults ≡ before.faults

-- An output took some of these bytes from their front.
pub record TookSome (before after : SinkSeen) (bytes : List ℕ) : Type 0 where
  pub count : ℕ
  pub taken : after.taken ≡ append_known before.taken (take count bytes)
  pub later : before.faults ≤ after.faults

-- The reply was given whole: its output, its line and its status. No output failed.
pub record IsGiven (reply : Reply) (out out' err err' : SinkSeen) (s : Status) : Type 0 where
  pub status : s ≡ reply.status
  pub output : TookAll out out' reply.output
  pub line : TookAll err err' reply.line

-- The reply was cut off, and in place of its status WriteFault is answered: `out` failed, took some of
-- the output, and nothing was put on `err`; or `err` failed, and took some of the line.
pub data IsCut (reply : Reply) (out out' err err' : SinkSeen) (s : Status) : Type 0 where
  at_output : s ≡ statuses.WriteFault → Rose out.faults out'.faults → TookSome out out' reply.output → err' ≡ err → IsCut reply out out' err err' s
  at_line : s ≡ statuses.WriteFault → TookAll out out' reply.output → Rose err.faults err'.faults → TookSome err err' reply.line → IsCut reply out out' err err' s

abbrev pub IsDelivered : Reply → (out out' err err' : SinkSeen) → Status → Type 0
IsDelivered reply out out' err err' s = IsGiven reply out out' err err' s ⊎ IsCut reply out out' err err' s

-- All the bytes were put, and the status is the one handed in; or the output failed.
pub data IsPut (wanted : Status) (bytes : List ℕ) (before after : SinkSeen) (s : Status) : Type 0 where
  whole : s ≡ wanted → TookAll before after bytes → IsPut wanted bytes before after s
  cut : s ≡ statuses.WriteFault → Rose before.faults after.faults → TookSome before after bytes → IsPut wanted bytes before after s
