-- The reply of a job: what is put on `out`, the line on `err`, and the status.
use Rattle.std.specs.Prelude.{◌≡◌, ◌≢◌, ◌≤◌, ◌+◌, ◌*◌, suc, ℕ, List, [], length, codes, Some, None, Result, Ok, Err}
use Rattle.std.specs.declared.option.Option.{Option}
use Rattle.jn_base.specs.declared.tree.Program.{Program}
use Rattle.jn_base.specs.declared.refusal.Refusal.{Refusal}
use Rattle.jn_base.specs.Spelling.{IsTextOf, IsTextRefused}
use Rattle.jn_printer.specs.DeclText.{program_text}
use Rattle.jn_rules.specs.Verdict.{TreePasses, TreeRefuses}
use Rattle.jn_words.specs.Line.{line_of}
use Rattle.jn_steps.specs.Runs.{Report}
use Rattle.jn_steps.specs.Laws.{IsPrefix}
use Rattle.jn_sem.specs.declared.outcome.Outcome.{Outcome}
use Rattle.jn_sem.specs.declared.outcome.Outcome.TheVariants as outcome
use Rattle.jn_sem.specs.Run.{Run}
use Rattle.jn_agree.specs.Rows.{Rows, Classes}
use Rattle.jn_base.specs.Paths.{Path}
use Rattle.jn_big.specs.Source.{big_source}
use Rattle.jn_big.specs.Summary.{summary}
use Rattle.jn_agree.specs.Agrees.{Agrees, halt_as}
use Rattle.jn_code.specs.declared.image.Image.{Image}
use Rattle.jn_code.specs.declared.fault.ImageFault.{ImageFault}
use Rattle.jn_code.specs.Machine.{mach}
use Rattle.jn_code.specs.Machine as code
use Rattle.jn_code.specs.Valid.{IsValid}
use Rattle.jn_exec.specs.Images.{valid_image_of}
use Rattle.jn_exec.specs.Lines.{fault_line}
use Rattle.jn_drive.specs.declared.words.JobKind.{JobKind}
use Rattle.jn_drive.specs.declared.words.JobKind.TheVariants as kinds
use Rattle.jn_drive.specs.declared.words.SourceJob.{SourceJob}
use Rattle.jn_drive.specs.declared.words.SourceJob.TheVariants as sources
use Rattle.jn_drive.specs.Words.{Job, BigJob}
use Rattle.jn_drive.specs.declared.status.Status.{Status}
use Rattle.jn_drive.specs.declared.status.Status.TheVariants as statuses

pub record Reply : Type 0 where
  pub output : List ℕ
  pub line : List ℕ
  pub status : Status

-- Nothing on `out`, and a line that tells the status.
abbrev pub told : Status → List ℕ → Reply
told s line = record { output = []; line = line; status = s }

abbrev pub usage_reply : Reply
usage_reply = told statuses.Usage (codes "usage: jandc JOB FILE [OUT] [--arena N] [--depth N] [--steps N]\n")

abbrev pub unread_reply : Reply
unread_reply = told statuses.ReadFault (codes "fault: read\n")

-- Memory ran out behind this output.
abbrev pub out_of_memory : List ℕ → Reply
out_of_memory output = record { output = output; line = codes "fault: memory\n"; status = statuses.Memory }

abbrev pub memory_reply : Reply
memory_reply = out_of_memory []

-- The line of a refusal.
abbrev pub refused_reply : List ℕ → Reply
refused_reply line = told statuses.Refused line

-- What a job that was done put on `out`, and no line.
abbrev pub output_reply : List ℕ → Reply
output_reply output = record { output = output; line = []; status = statuses.Done }

-- ---- replies to a source

-- The reply of a job to the program that the bytes of its file spell: `show` puts its canonical text; `check` puts nothing
-- where the program passes, and else tells the line of its refusal, which names classes and members of the program.
pub data TreeReply (p : Program) : SourceJob → Reply → Type 0 where
  shown : TreeReply p sources.Show (output_reply (program_text p))
  passed : TreePasses p → TreeReply p sources.Check (output_reply [])
  not_passed : (r : Refusal) → TreeRefuses p r → TreeReply p sources.Check (refused_reply (line_of (Some p) r))

-- The reply of a job to the bytes of a source. What the first three steps of the verdict refuse is refused, by each job
-- with the same line.
pub data SourceReply (kind : SourceJob) (bytes : List ℕ) (reply : Reply) : Type 0 where
  refused : (r : Refusal) → IsTextRefused bytes r → reply ≡ refused_reply (line_of None r) → SourceReply kind bytes reply
  to_tree : (p : Program) → IsTextOf p bytes → TreeReply p kind reply → SourceReply kind bytes reply

-- ---- replies to an image

-- How a run that came to this outcome is told, None where it goes on when its steps are used up: by its status and line.
-- (A valid image is never stuck.)
abbrev pub IsToldAs : Option code.Halt → Status → List ℕ → Type 0
IsToldAs (Some code.Done) s line = (s ≡ statuses.Done) × (line ≡ [])
IsToldAs (Some code.Null) s line = (s ≡ statuses.Null) × (line ≡ codes "fault: null\n")
IsToldAs (Some code.Zero) s line = (s ≡ statuses.Zero) × (line ≡ codes "fault: zero divisor\n")
IsToldAs (Some code.Arena) s line = (s ≡ statuses.Arena) × (line ≡ codes "fault: arena full\n")
IsToldAs (Some code.Depth) s line = (s ≡ statuses.Depth) × (line ≡ codes "fault: call depth\n")
IsToldAs (Some code.Stuck) s line = ⊥
IsToldAs None s line = (s ≡ statuses.Steps) × (line ≡ codes "fault: steps\n")

-- the reply of a run: what it printed, and how it ended
pub record RunReply (r : Report code.Halt) (reply : Reply) : Type 0 where
  pub output : reply.output ≡ r.output
  pub ended : IsToldAs r.outcome reply.status reply.line

abbrev pub bad_image_reply : ImageFault → Reply
bad_image_reply f = told statuses.BadImage (fault_line f)

-- `exec` runs the valid image for at most so many steps, with so many cells and frames; of bytes that spell none it tells
-- the first fault.
abbrev pub ImageReply : Job → Result Image ImageFault → Reply → Type 0
ImageReply job (Ok i) reply = RunReply (mach i job.arena job.depth job.steps) reply
ImageReply job (Err f) reply = reply ≡ bad_image_reply f

-- ---- replies of a run to a source

-- The line of the first refusal of the bytes: of their text and words, or else of the tree that they spell, whose names it
-- tells.
pub data IsRefusalLine (bytes line : List ℕ) : Type 0 where
  of_text : (r : Refusal) → IsTextRefused bytes r → line ≡ line_of None r → IsRefusalLine bytes line
  of_tree : (p : Program) (r : Refusal) → IsTextOf p bytes → TreeRefuses p r → line ≡ line_of (Some p) r
      → IsRefusalLine bytes line

-- An image of the program: it is valid, has the program's rows, and agrees with the program's meaning.
pub record IsRightImage (p : Program) (i : Image) : Type 0 where
  pub valid : IsValid i
  pub rows : Rows p i
  pub agrees : Agrees i p

-- The reply has the status and the line of the outcome, which is an end, and puts all that was printed.
pub record TellsEnd (o : Outcome) (printed : List ℕ) (reply : Reply) : Type 0 where
  pub halt : code.Halt
  pub ended : halt_as o ≡ Some halt
  pub told : IsToldAs (Some halt) reply.status reply.line
  pub output : reply.output ≡ printed

-- What a run of the program replies, with an arena of a cells, at most d frames and at most n steps. b counts charges of
-- the program's meaning.
pub record TellsRun (p : Program) (a d n : ℕ) (reply : Reply) : Type 0 where
  -- What is put is the first part of what n + 1 charges print.
  pub wrote : (o : Outcome) (printed : List ℕ) → Run p (suc n) a d o printed → IsPrefix reply.output printed
  -- Where the status isn't Steps, n + 1 charges end so, and all that they print is put.
  pub halted : reply.status ≢ statuses.Steps → (o : Outcome) (printed : List ℕ) → Run p (suc n) a d o printed
      → TellsEnd o printed reply
  -- What b charges print is put, where n steps allow 32 for each of them and 32 more.
  pub printed : (b : ℕ) → 32 * b + 32 ≤ n → (o : Outcome) (printed : List ℕ) → Run p b a d o printed
      → IsPrefix printed reply.output
  -- Where b such charges end, the reply tells that end.
  pub ended : (b : ℕ) → 32 * b + 32 ≤ n → (o : Outcome) (printed : List ℕ) → Run p b a d o printed → o ≢ outcome.More
      → TellsEnd o printed reply
  -- Where the status is Steps, no such charges end.
  pub goes_on : reply.status ≡ statuses.Steps → (b : ℕ) → 32 * b + 32 ≤ n → (o : Outcome) (printed : List ℕ)
      → Run p b a d o printed → o ≡ outcome.More
  -- Output and status are those of a right image's own steps.
  pub image : Image
  pub right : IsRightImage p image
  pub steps : RunReply (mach image a d n) reply

-- The reply of `run` to the bytes of a source: the line of its refusal, or what a run of its program replies.
pub data SourceRunReply (job : Job) (bytes : List ℕ) (reply : Reply) : Type 0 where
  refused : (line : List ℕ) → IsRefusalLine bytes line → reply ≡ refused_reply line → SourceRunReply job bytes reply
  ran : (p : Program) → IsTextOf p bytes → TreePasses p → TellsRun p job.arena job.depth job.steps reply
      → SourceRunReply job bytes reply

-- How an outcome of a program's meaning is told: by its status and line, More as Steps. (The meaning of an accepted
-- program is never stuck.)
abbrev pub IsMeantAs : Outcome → Status → List ℕ → Type 0
IsMeantAs outcome.Ends s line = (s ≡ statuses.Done) × (line ≡ [])
IsMeantAs outcome.Null s line = (s ≡ statuses.Null) × (line ≡ codes "fault: null\n")
IsMeantAs outcome.Zero s line = (s ≡ statuses.Zero) × (line ≡ codes "fault: zero divisor\n")
IsMeantAs outcome.Arena s line = (s ≡ statuses.Arena) × (line ≡ codes "fault: arena full\n")
IsMeantAs outcome.Depth s line = (s ≡ statuses.Depth) × (line ≡ codes "fault: call depth\n")
IsMeantAs outcome.More s line = (s ≡ statuses.Steps) × (line ≡ codes "fault: steps\n")
IsMeantAs (outcome.Stuck why) s line = ⊥

-- The reply has the outcome of the program's meaning with at most n charges, an arena of a cells and at most d frames, and
-- all that it prints.
pub record TellsMeaning (p : Program) (a d n : ℕ) (reply : Reply) : Type 0 where
  pub outcome : Outcome
  pub ran : Run p n a d outcome reply.output
  pub told : IsMeantAs outcome reply.status reply.line

-- The reply of `mean` to the bytes of a source: the line of its refusal, or what its program means.
pub data SourceMeanReply (job : Job) (bytes : List ℕ) (reply : Reply) : Type 0 where
  refused : (line : List ℕ) → IsRefusalLine bytes line → reply ≡ refused_reply line → SourceMeanReply job bytes reply
  meant : (p : Program) → IsTextOf p bytes → TreePasses p → TellsMeaning p job.arena job.depth job.steps reply
      → SourceMeanReply job bytes reply

-- ---- replies

-- The reply of a job to the bytes of its file. `build` replies as `check` does; what it saves is told of the files.
abbrev pub ReplyBy : JobKind → Job → List ℕ → Reply → Type 0
ReplyBy (kinds.OnSource kind) job bytes reply = SourceReply kind bytes reply
ReplyBy kinds.Run job bytes reply = SourceRunReply job bytes reply
ReplyBy kinds.Build job bytes reply = SourceReply sources.Check bytes reply
ReplyBy kinds.Mean job bytes reply = SourceMeanReply job bytes reply
ReplyBy kinds.Exec job bytes reply = ImageReply job (valid_image_of bytes) reply

abbrev pub JobReply : Job → List ℕ → Reply → Type 0
JobReply job bytes reply = ReplyBy job.kind job bytes reply

-- ---- replies of `big`

-- What is put of a run that ended so: the text where it was done, else nothing.
abbrev pub put_where_done : Status → List ℕ → List ℕ
put_where_done statuses.Done text = text
put_where_done _ text = []

-- The reply of a run of the source of n, whose program has so many classes: where it is done, four lines that tell the
-- families, the classes, and the lines of its output stand in place of the output.
abbrev pub summed : (n classes : ℕ) → Reply → Reply
summed n classes run = record {
  output = put_where_done run.status (summary (suc n) classes run.output);
  line = run.line;
  status = run.status;
}

-- The reply of `big`: that of `run` to the source that is made of the number, summed up.
pub data BigReply (job : BigJob) (reply : Reply) : Type 0 where
  refused : (line : List ℕ) → IsRefusalLine (big_source job.count) line → reply ≡ refused_reply line → BigReply job reply
  ran : (p : Program) → IsTextOf p (big_source job.count) → TreePasses p → (classes : List Path) → Classes p classes
      → (run : Reply) → TellsRun p job.arena job.depth job.steps run → reply ≡ summed job.count (length classes) run
      → BigReply job reply
