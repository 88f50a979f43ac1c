-- Which words are a job: JOB FILE [OUT] [--arena N] [--depth N] [--steps N].
use Rattle.std.specs.Prelude.{ℕ, Bool, ◌&&◌, nat_le, List, [], ◌∷◌, Option, Some, None, option_and_then, option_map, length, codes, bytes_eq, if◌then◌else◌}
use Rattle.std.specs.List.{list_all}
use Rattle.std.specs.Char.{is_ascii_digit}
use Rattle.std.specs.Str.Parse.{digits_value}
use Rattle.jn_jobs.specs.Parts.{Text, Parts, parts}
use Rattle.jn_jobs.specs.declared.JobKind.{JobKind}
use Rattle.jn_jobs.specs.declared.JobKind.TheVariants as kind

-- One to `most` ASCII digits.
abbrev pub is_digits : ℕ → Text → Bool
is_digits most text = nat_le 1 (length text) && (nat_le (length text) most && list_all is_ascii_digit text)

abbrev pub if_within : ℕ → ℕ → ℕ → Option ℕ
if_within low high n = if nat_le low n && nat_le n high then Some n else None

-- The number of a text of one to `most` digits, where it lies from `low` to `high`: of two digits from 1 to 64 `07` has
-- the number 7, `65` and `007` have none.
abbrev pub number_in : ℕ → ℕ → ℕ → Text → Option ℕ
number_in most low high text = if is_digits most text then if_within low high (digits_value 10 text) else None

-- An option comes at most once. Its value has one to thirteen digits and lies from 1 to `high`; without it there is the
-- default.
abbrev pub bound_in : ℕ → ℕ → List Text → Option ℕ
bound_in default high [] = Some default
bound_in default high (value ∷ []) = number_in 13 1 high value
bound_in default high (value ∷ again ∷ more) = None

-- The job of its word.
abbrev pub kind_of : Text → Option JobKind
kind_of word = if bytes_eq word (codes "check") then Some kind.Check
    else (if bytes_eq word (codes "show") then Some kind.Show
    else (if bytes_eq word (codes "mean") then Some kind.Mean
    else (if bytes_eq word (codes "build") then Some kind.Build
    else (if bytes_eq word (codes "exec") then Some kind.Exec
    else (if bytes_eq word (codes "run") then Some kind.Run
    else (if bytes_eq word (codes "big") then Some kind.Big else None))))))

-- What the positional words say.
pub record Target : Type 0 where
  pub kind : JobKind
  pub file : Text
  pub out : Option Text
  pub count : ℕ

abbrev pub target : JobKind → Text → Option Text → ℕ → Target
target kind file out count = record { kind = kind; file = file; out = out; count = count }

-- A job with two words: each but `build`. The second of `big` is one or two digits, a number from 1 to 64; the others
-- have the count 0.
abbrev pub target_on : Text → JobKind → Option Target
target_on file kind.Build = None
target_on file kind.Big = option_map (target kind.Big file None) (number_in 2 1 64 file)
target_on file other = Some (target other file None 0)

-- A job with three words is `build`.
abbrev pub build_target : Text → Text → JobKind → Option Target
build_target file out kind.Build = Some (target kind.Build file (Some out) 0)
build_target file out other = None

-- There are two words or three.
abbrev pub target_in : List Text → Option Target
target_in [] = None
target_in (word ∷ []) = None
target_in (word ∷ file ∷ []) = option_and_then (target_on file) (kind_of word)
target_in (word ∷ file ∷ out ∷ []) = option_and_then (build_target file out) (kind_of word)
target_in (word ∷ file ∷ out ∷ more ∷ words) = None

-- A job with the bounds of its run.
pub record Job : Type 0 where
  pub kind : JobKind
  pub file : Text
  pub out : Option Text
  pub count : ℕ
  pub arena : ℕ
  pub depth : ℕ
  pub steps : ℕ

-- The ranges and defaults: the arena from 1 to 67,108,864 cells, else 1,048,576; the depth from 1 to 10,000 calls, else
-- 1,000; the steps from 1 to 1,000,000,000,000, else 100,000,000.
abbrev pub arena_in : Parts → Option ℕ
arena_in p = bound_in 1048576 67108864 p.arena

abbrev pub depth_in : Parts → Option ℕ
depth_in p = bound_in 1000 10000 p.depth

abbrev pub steps_in : Parts → Option ℕ
steps_in p = bound_in 100000000 1000000000000 p.steps

abbrev pub job : Target → (arena depth steps : ℕ) → Job
job t arena depth steps =
    record { kind = t.kind; file = t.file; out = t.out; count = t.count; arena = arena; depth = depth; steps = steps }

abbrev pub with_bounds : Option ℕ → Option ℕ → Option ℕ → Target → Option Job
with_bounds (Some arena) (Some depth) (Some steps) t = Some (job t arena depth steps)
with_bounds _ _ _ t = None

-- The job of the parts, where each of them is right.
abbrev pub job_in : Parts → Option Job
job_in p = option_and_then (with_bounds (arena_in p) (depth_in p) (steps_in p)) (target_in p.positional)

-- The job of the words, or nothing: `build a.j a.img --depth=9` saves the image of a.j as a.img; `build a.j` is nothing.
unfoldable pub job_of : List Text → Option Job
job_of words = option_and_then job_in (parts words None)
