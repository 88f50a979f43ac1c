-- The saves of a store in memory, the oldest first, and the files that they come to.
use Rattle.std.specs.Prelude.{◌≡◌, ℕ, ◌+◌, ◌<◌, ◌≤◌, List, [], map, reverse, drop, length, slice_get, unwrap_or, string_bytes, ◌++◌, ◌∷◌}
use Rattle.std.specs.declared.option.Option.{Option}
use Rattle.std.specs.declared.option.Option.TheVariants.{None, Some}
use Rattle.std.specs.Option.{option_map}
use Rattle.std.specs.FinMap.{from_entries}
use Rattle.jn_io.specs.Told.{Files}
use Rattle.jn_io.specs.declared.mem_files.MemFile.{MemFile}
use Rattle.jn_io.specs.declared.mem_files.Reading.{Reading}

-- a save's name and bytes
abbrev pub entry_of : MemFile → List ℕ × List ℕ
entry_of file = (string_bytes file.name, file.bytes.items)

-- under each name what was saved last
abbrev pub files_of : List MemFile → Files
files_of saves = from_entries (map entry_of (reverse saves))

-- the bytes of the save at k, if there is one
abbrev pub bytes_at : List MemFile → ℕ → Option (List ℕ)
bytes_at saves k = option_map (λ file. file.bytes.items) (slice_get saves k)

-- what is left of the save that is open for reading
abbrev pub rest_of : List MemFile → Option Reading → List ℕ
rest_of saves None = []
rest_of saves (Some reading) = drop reading.taken (unwrap_or (bytes_at saves reading.save) [])

-- n bytes more are taken
abbrev pub taken_further : Reading → ℕ → Reading
taken_further reading n = record reading { taken = reading.taken + n }

-- what is open is a save, of which no more is taken than it has
pub record IsWithin (saves : List MemFile) (reading : Reading) : Type 0 where
  pub there : reading.save < length saves
  pub no_more : reading.taken ≤ length (unwrap_or (bytes_at saves reading.save) [])

-- One save more, of this name and these bytes.
pub record AddsFile (old new : List MemFile) (name bytes : List ℕ) : Type 0 where
  pub file : MemFile
  pub behind : new ≡ old ++ file ∷ []
  pub name_is : string_bytes file.name ≡ name
  pub bytes_are : file.bytes.items ≡ bytes
