-- What `check` replies is the verdict of the source, and what `run` replies is its meaning.
use Rattle.std.proofs.Common.{◌≡◌, ℕ, List, refl, ◌∙◌, ap, subst, None, Some, Ok, Result}
use Rattle.jn_base.specs.declared.tree.Program.{Program}
use Rattle.jn_base.specs.Spelling.{IsTextOf}
use Rattle.jn_rules.specs.Verdict.{Verdict}
use Rattle.jn_drive.specs.declared.words.JobKind.{JobKind}
use Rattle.jn_drive.specs.declared.words.JobKind.TheVariants as kinds
use Rattle.jn_drive.specs.declared.words.SourceJob.TheVariants as sources
use Rattle.jn_drive.specs.Words.{Job}
use Rattle.jn_sound_sources.proofs.Sources.{sources_halt}
use Rattle.jn_drive.specs.Reply.{Reply, JobReply, ReplyBy, ImageReply, SourceReply, SourceRunReply, TreeReply, IsRefusalLine, refused_reply}
use Rattle.jn_drive.specs.Verdicts.{VerdictReply, MeaningReply, RunsTellMeanings, TellsAccepted, ExecsTellMeanings}
use Rattle.jn_drive.specs.Saved.{IsImageFile}
use Rattle.jn_agree.specs.Agrees.{InRange}
use Rattle.jn_code.specs.declared.image.Image.{Image}
use Rattle.jn_code.specs.declared.fault.ImageFault.{ImageFault}
use Rattle.jn_exec.specs.Images.{valid_image_of}
use Rattle.jn_exec.proofs.ImageLaws.{is_only}
use Rattle.jn_drive.proofs.Agreeing.{tells_run}

tree_verdict : (p : Program) (bytes : List ℕ) (reply : Reply) → IsTextOf p bytes → TreeReply p sources.Check reply → VerdictReply bytes reply
tree_verdict p bytes reply is (TreeReply.passed h) = VerdictReply.accepted (Verdict.of_tree p is h) refl
tree_verdict p bytes reply is (TreeReply.not_passed r h) = VerdictReply.refused (Some p) r is (Verdict.of_tree p is h) refl

source_verdict : (bytes : List ℕ) (reply : Reply) → SourceReply sources.Check bytes reply → VerdictReply bytes reply
source_verdict bytes reply (SourceReply.refused r by e) = VerdictReply.refused None r tt (Verdict.of_text r by refl) e
source_verdict bytes reply (SourceReply.to_tree p is tree) = tree_verdict p bytes reply is tree

pub checks_are_verdicts : (job : Job) (bytes : List ℕ) (reply : Reply) → job.kind ≡ kinds.OnSource sources.Check → JobReply job bytes reply → VerdictReply bytes reply
checks_are_verdicts job bytes reply e h = source_verdict bytes reply (subst (λ (k : JobKind). ReplyBy k job bytes reply) e h)

refused_meaning : (job : Job) (bytes line : List ℕ) (reply : Reply) → IsRefusalLine bytes line → reply ≡ refused_reply line → MeaningReply job bytes reply
refused_meaning job bytes line reply (IsRefusalLine.of_text r by is) e = MeaningReply.refused None r tt (Verdict.of_text r by refl) (e ∙ ap refused_reply is)
refused_meaning job bytes line reply (IsRefusalLine.of_tree p r text by is) e = MeaningReply.refused (Some p) r text (Verdict.of_tree p text by) (e ∙ ap refused_reply is)

run_meaning : (job : Job) (bytes : List ℕ) (reply : Reply) → SourceRunReply job bytes reply → MeaningReply job bytes reply
run_meaning job bytes reply (SourceRunReply.refused line by e) = refused_meaning job bytes line reply by e
run_meaning job bytes reply (SourceRunReply.ran p text passes tells) =
    MeaningReply.accepted (Verdict.of_tree p text passes) p text (sources_halt bytes (Verdict.of_tree p text passes) p text) tells

pub runs_tell_meanings : RunsTellMeanings
runs_tell_meanings job bytes reply e h = run_meaning job bytes reply (subst (λ (k : JobKind). ReplyBy k job bytes reply) e h)

image_told : (job : Job) (bytes saved : List ℕ) (reply : Reply) → InRange job.arena job.depth → IsImageFile bytes saved → ImageReply job (valid_image_of saved) reply → TellsAccepted job bytes reply
image_told job bytes saved reply range file h =
    let accepted = Verdict.of_tree file.program file.text file.passes in
    let found : valid_image_of saved ≡ Ok file.image = is_only saved file.image file.spells file.right.valid in
    record {
      accepted = accepted;
      program = file.program;
      text = file.text;
      never = sources_halt bytes accepted file.program file.text;
      tells = tells_run file.program file.image file.right job.arena job.depth job.steps range reply (subst (λ (r : Result Image ImageFault). ImageReply job r reply) found h);
    }

pub execs_tell_meanings : ExecsTellMeanings
execs_tell_meanings job bytes saved reply e range file h = image_told job bytes saved reply range file (subst (λ (k : JobKind). ReplyBy k job saved reply) e h)
