-- Which words are a job that there is. A word is its bytes.
use Rattle.std.specs.Prelude.{List, ℕ, ◌≡◌, ⊤, IsSome, Some, None, option_map, string_bytes}
use Rattle.std.specs.declared.option.Option.{Option}
use Rattle.jn_jobs.specs.Jobs as words
use Rattle.jn_jobs.specs.declared.JobKind.{JobKind as WordKind}
use Rattle.jn_jobs.specs.declared.JobKind.TheVariants as word
use Rattle.jn_drive.specs.declared.words.JobKind.{JobKind}
use Rattle.jn_drive.specs.declared.words.JobKind.TheVariants as kinds
use Rattle.jn_drive.specs.declared.words.SourceJob.TheVariants as sources
use Rattle.jn_drive.specs.declared.words.Named.{Named}
use Rattle.jn_drive.specs.declared.words.Asked.{Asked}
use Rattle.jn_drive.specs.declared.words.Asked.TheVariants as asked
use Rattle.jn_jobs.specs.declared.JobWords.{JobWords}
use Rattle.jn_agree.specs.Agrees.{InRange}

-- The kind of a job on a file. (`big` is none: it reads no file.)
abbrev pub kind_here : WordKind → Option JobKind
kind_here word.Show = Some (kinds.OnSource sources.Show)
kind_here word.Run = Some kinds.Run
kind_here word.Check = Some (kinds.OnSource sources.Check)
kind_here word.Mean = Some kinds.Mean
kind_here word.Build = Some kinds.Build
kind_here word.Exec = Some kinds.Exec
kind_here word.Big = None

-- A job: the file that it is done on, the one that `build` makes, and the bounds of a run.
pub record Job : Type 0 where
  pub kind : JobKind
  pub file : List ℕ
  pub out : Option (List ℕ)
  pub arena : ℕ
  pub depth : ℕ
  pub steps : ℕ

abbrev pub with_kind : words.Job → JobKind → Job
with_kind job kind =
    record { kind = kind; file = job.file; out = job.out; arena = job.arena; depth = job.depth; steps = job.steps }

-- The job `big`: the number that its source is made of, and the bounds of its run.
pub record BigJob : Type 0 where
  pub count : ℕ
  pub arena : ℕ
  pub depth : ℕ
  pub steps : ℕ

-- What is to be done: a job on a file, or `big`.
pub data Task : Type 0 where
  on_file : Job → Task
  on_number : BigJob → Task

abbrev pub with_number : words.Job → BigJob
with_number job = record { count = job.count; arena = job.arena; depth = job.depth; steps = job.steps }

abbrev pub task_by : words.Job → Option JobKind → Task
task_by job (Some kind) = on_file (with_kind job kind)
task_by job None = on_number (with_number job)

abbrev pub here : words.Job → Task
here job = task_by job (kind_here job.kind)

-- The job of the words: `show a.j` is the job Show on a.j, and `big 3` is `big` of 3.
abbrev pub job_of : List (List ℕ) → Option Task
job_of ws = option_map here (words.job_of ws)

-- the job that was made of the words
abbrev pub named : Named → Job
named n = record {
  kind = n.kind;
  file = string_bytes n.words.file;
  out = option_map string_bytes n.words.out;
  arena = n.words.arena;
  depth = n.words.depth;
  steps = n.words.steps;
}

abbrev pub numbered : JobWords → BigJob
numbered w = record { count = w.count; arena = w.arena; depth = w.depth; steps = w.steps }

abbrev pub task_of : Asked → Task
task_of (asked.OnFile n) = on_file (named n)
task_of (asked.Big w) = on_number (numbered w)

-- The bounds are in their ranges.
abbrev pub IsBounded : Asked → Type 0
IsBounded (asked.OnFile n) = InRange (named n).arena (named n).depth
IsBounded (asked.Big w) = InRange (numbered w).arena (numbered w).depth

-- `build` has the name of the file that it makes.
abbrev pub HasOut : Asked → Type 0
HasOut (asked.OnFile n) = (named n).kind ≡ kinds.Build → IsSome (named n).out
HasOut (asked.Big w) = ⊤
