-- What `check` and `run` reply, as the verdict of the source and the meaning of its program.
use Rattle.std.specs.Prelude.{◌≡◌, ℕ, List, [], Option, Err, None, Some, ⊤}
use Rattle.jn_base.specs.declared.tree.Program.{Program}
use Rattle.jn_base.specs.declared.refusal.Refusal.{Refusal}
use Rattle.jn_rules.specs.Verdict.{IsAccepted, Verdict}
use Rattle.jn_base.specs.Spelling.{IsTextOf}
use Rattle.jn_agree.specs.Agrees.{InRange, NeverStuck}
use Rattle.jn_words.specs.Line.{line_of}
use Rattle.jn_drive.specs.declared.words.JobKind.TheVariants as kinds
use Rattle.jn_drive.specs.declared.words.SourceJob.TheVariants as sources
use Rattle.jn_drive.specs.Words.{Job}
use Rattle.jn_drive.specs.Saved.{IsImageFile}
use Rattle.jn_drive.specs.Reply.{Reply, JobReply, TellsRun, output_reply, refused_reply}

-- The program whose names the line of a refusal tells: that of the source, where its text and words spell one.
abbrev pub IsNamedBy : List ℕ → Option Program → Type 0
IsNamedBy bytes None = ⊤
IsNamedBy bytes (Some p) = IsTextOf p bytes

-- The source is accepted, and nothing is put; or it is refused, and the reply is the line of the refusal.
pub data VerdictReply (bytes : List ℕ) (reply : Reply) : Type 0 where
  accepted : IsAccepted bytes → reply ≡ output_reply [] → VerdictReply bytes reply
  refused : (p : Option Program) (r : Refusal) → IsNamedBy bytes p → Verdict bytes (Err r)
      → reply ≡ refused_reply (line_of p r) → VerdictReply bytes reply

abbrev pub ChecksAreVerdicts : Type 0
ChecksAreVerdicts =
    (job : Job) (bytes : List ℕ) (reply : Reply) → job.kind ≡ kinds.OnSource sources.Check → JobReply job bytes reply
    → VerdictReply bytes reply

-- THE HEADLINE. The source is accepted: then its meaning is never stuck, whatever the arena, the depth and the charges, and
-- the reply tells its run. Or it is refused, and the reply is the line of the first rule broken.
pub data MeaningReply (job : Job) (bytes : List ℕ) (reply : Reply) : Type 0 where
  accepted : IsAccepted bytes → (p : Program) → IsTextOf p bytes → NeverStuck p
      → TellsRun p job.arena job.depth job.steps reply → MeaningReply job bytes reply
  refused : (p : Option Program) (r : Refusal) → IsNamedBy bytes p → Verdict bytes (Err r)
      → reply ≡ refused_reply (line_of p r) → MeaningReply job bytes reply

abbrev pub RunsTellMeanings : Type 0
RunsTellMeanings =
    (job : Job) (bytes : List ℕ) (reply : Reply) → job.kind ≡ kinds.Run → JobReply job bytes reply
    → MeaningReply job bytes reply

-- The source is accepted, the meaning of its program is never stuck, and the reply tells its run.
pub record TellsAccepted (job : Job) (bytes : List ℕ) (reply : Reply) : Type 0 where
  pub accepted : IsAccepted bytes
  pub program : Program
  pub text : IsTextOf program bytes
  pub never : NeverStuck program
  pub tells : TellsRun program job.arena job.depth job.steps reply

-- What `exec` replies to bytes that `build` saved tells the run of the source's program, with the bounds of `exec`.
abbrev pub ExecsTellMeanings : Type 0
ExecsTellMeanings =
    (job : Job) (bytes saved : List ℕ) (reply : Reply) → job.kind ≡ kinds.Exec → InRange job.arena job.depth
    → IsImageFile bytes saved → JobReply job saved reply → TellsAccepted job bytes reply
