-- A job but `run` has one reply to some bytes.
use Rattle.std.proofs.Common.{◌≡◌, ◌≢◌, ◌∙◌, ℕ, List, sym, ap, subst, refl, Ok, Err, None, Some, Result}
use Rattle.std.specs.declared.option.Option.{Option}
use Rattle.jn_base.specs.declared.tree.Program.{Program}
use Rattle.jn_base.specs.declared.refusal.Refusal.{Refusal}
use Rattle.jn_base.specs.ProgramNames.{IsNamed}
use Rattle.jn_base.specs.Spelling.{IsTextOf}
use Rattle.jn_rules.specs.Plans.{Nothing}
use Rattle.jn_rules.specs.Verdict.{TreePasses, TreeRefuses}
use Rattle.jn_rule_laws.proofs.Verdicts.{one_tree}
use Rattle.jn_words.specs.Line.{line_of}
use Rattle.jn_sources.specs.OneVerdict.{OneTextVerdict}
use Rattle.jn_sources.proofs.Answered.{one_verdict}
use Rattle.jn_steps.specs.Runs.{Report}
use Rattle.jn_sem.specs.declared.outcome.Outcome.{Outcome}
use Rattle.jn_sem.specs.declared.outcome.Outcome.TheVariants as outcome
use Rattle.jn_sem.proofs.RunLaws.{run_is_one}
use Rattle.jn_code.specs.declared.image.Image.{Image}
use Rattle.jn_code.specs.declared.fault.ImageFault.{ImageFault}
use Rattle.jn_code.specs.Machine as code
use Rattle.jn_code.specs.Machine.{mach}
use Rattle.jn_exec.specs.Images.{valid_image_of}
use Rattle.jn_drive.specs.declared.status.Status.{Status}
use Rattle.jn_drive.specs.declared.words.JobKind.{JobKind}
use Rattle.jn_drive.specs.declared.words.SourceJob.TheVariants.{Check}
use Rattle.jn_drive.specs.declared.words.JobKind.TheVariants as kinds
use Rattle.jn_drive.specs.Words.{Job}
use Rattle.jn_drive.specs.declared.words.SourceJob.{SourceJob}
use Rattle.jn_drive.specs.Reply.{Reply, TreeReply, SourceReply, JobReply, ReplyBy, ImageReply, RunReply, IsToldAs, IsRefusalLine, IsMeantAs, TellsMeaning, SourceMeanReply, refused_reply}
use Rattle.jn_base.proofs.SpelledNames.{spelled_is_named}

not_both : (p : Program) → IsNamed p → (r : Refusal) → TreeRefuses p r → TreePasses p → ⊥
not_both p named r h k = clash ((one_tree p named).one (Err r) (Ok tt) h k) where
  clash : (let a : Result Nothing Refusal = Err r in a ≡ Ok tt) → ⊥
  clash e = cc e

refused_once : (p : Program) → IsNamed p → (r s : Refusal) → TreeRefuses p r → TreeRefuses p s → r ≡ s
refused_once p named r s h k = same ((one_tree p named).one (Err r) (Err s) h k) where
  same : (let a : Result Nothing Refusal = Err r in a ≡ Err s) → r ≡ s
  same e = cc e

-- A tree has one reply.
tree_once : (p : Program) → IsNamed p → (kind : SourceJob) (a b : Reply) → TreeReply p kind a → TreeReply p kind b → a ≡ b
tree_once p named kind a b TreeReply.shown TreeReply.shown = refl
tree_once p named kind a b (TreeReply.passed is) (TreeReply.passed is') = refl
tree_once p named kind a b (TreeReply.passed is) (TreeReply.not_passed r by) = absurd (not_both p named r by is)
tree_once p named kind a b (TreeReply.not_passed r by) (TreeReply.passed is) = absurd (not_both p named r by is)
tree_once p named kind a b (TreeReply.not_passed r by) (TreeReply.not_passed s by') =
    ap (λ (x : Refusal). refused_reply (line_of (Some p) x)) (refused_once p named r s by by')

source_once : (kind : SourceJob) (bytes : List ℕ) (a b : Reply) → OneTextVerdict bytes → SourceReply kind bytes a → SourceReply kind bytes b → a ≡ b
source_once kind bytes a b one (SourceReply.refused r by e) (SourceReply.refused s by' e') = e ∙ ap (λ (x : Refusal). refused_reply (line_of None x)) (one.refusal r s by by') ∙ sym e'
source_once kind bytes a b one (SourceReply.refused r by e) (SourceReply.to_tree p is tree) = absurd (one.not_both p r is by)
source_once kind bytes a b one (SourceReply.to_tree p is tree) (SourceReply.refused r by e) = absurd (one.not_both p r is by)
source_once kind bytes a b one (SourceReply.to_tree p is tree) (SourceReply.to_tree q is' tree') =
    tree_once p (spelled_is_named p bytes is.spelled) kind a b tree (subst (λ (t : Program). TreeReply t kind b) (sym (one.program p q is is')) tree')

-- a run is told in one way
end_once : (outcome : Option code.Halt) (s t : Status) (line line' : List ℕ) → IsToldAs outcome s line → IsToldAs outcome t line' → (s ≡ t) × (line ≡ line')
end_once (Some code.Done) s t line line' a b = (a.0 ∙ sym b.0, a.1 ∙ sym b.1)
end_once (Some code.Null) s t line line' a b = (a.0 ∙ sym b.0, a.1 ∙ sym b.1)
end_once (Some code.Zero) s t line line' a b = (a.0 ∙ sym b.0, a.1 ∙ sym b.1)
end_once (Some code.Arena) s t line line' a b = (a.0 ∙ sym b.0, a.1 ∙ sym b.1)
end_once (Some code.Depth) s t line line' a b = (a.0 ∙ sym b.0, a.1 ∙ sym b.1)
end_once (Some code.Stuck) s t line line' a b = absurd a
end_once None s t line line' a b = (a.0 ∙ sym b.0, a.1 ∙ sym b.1)

same_reply : (a b : Reply) → a.output ≡ b.output → a.line ≡ b.line → a.status ≡ b.status → a ≡ b
same_reply a b o l s i = record { output = o i; line = l i; status = s i }

run_once : (r : Report code.Halt) (a b : Reply) → RunReply r a → RunReply r b → a ≡ b
run_once r a b x y =
    let e = end_once r.outcome a.status b.status a.line b.line x.ended y.ended in same_reply a b (x.output ∙ sym y.output) e.1 e.0

image_once : (job : Job) (image : Result Image ImageFault) (a b : Reply) → ImageReply job image a → ImageReply job image b → a ≡ b
image_once job (Ok i) a b x y = run_once (mach i job.arena job.depth job.steps) a b x y
image_once job (Err f) a b x y = x ∙ sym y

-- ---- meanings

line_once : (bytes : List ℕ) → OneTextVerdict bytes → (l m : List ℕ) → IsRefusalLine bytes l → IsRefusalLine bytes m → l ≡ m
line_once bytes one l m (IsRefusalLine.of_text r by e) (IsRefusalLine.of_text s by' e') = e ∙ ap (line_of None) (one.refusal r s by by') ∙ sym e'
line_once bytes one l m (IsRefusalLine.of_text r by e) (IsRefusalLine.of_tree p s is by' e') = absurd (one.not_both p r is by)
line_once bytes one l m (IsRefusalLine.of_tree p r is by e) (IsRefusalLine.of_text s by' e') = absurd (one.not_both p s is by')
line_once bytes one l m (IsRefusalLine.of_tree p r is by e) (IsRefusalLine.of_tree q s is' by' e') =
    let same : p ≡ q = one.program p q is is' in
    let by_p : TreeRefuses p s = subst (λ (t : Program). TreeRefuses t s) (sym same) by' in
    let m_is : m ≡ line_of (Some p) s = subst (λ (t : Program). m ≡ line_of (Some t) s) (sym same) e' in
    e ∙ ap (line_of (Some p)) (refused_once p (spelled_is_named p bytes is.spelled) r s by by_p) ∙ sym m_is

-- an accepted source has no such line
pub no_line : (bytes line : List ℕ) (p : Program) → IsTextOf p bytes → TreePasses p → IsRefusalLine bytes line → ⊥
no_line bytes line p is passes (IsRefusalLine.of_text r by e) = (one_verdict bytes).not_both p r is by
no_line bytes line p is passes (IsRefusalLine.of_tree q r is' by e) =
    not_both p (spelled_is_named p bytes is.spelled) r (subst (λ (t : Program). TreeRefuses t r) (sym ((one_verdict bytes).program p q is is')) by) passes

-- an outcome is told in one way
meant_once : (o : Outcome) (s t : Status) (line line' : List ℕ) → IsMeantAs o s line → IsMeantAs o t line' → (s ≡ t) × (line ≡ line')
meant_once outcome.Ends s t line line' a b = (a.0 ∙ sym b.0, a.1 ∙ sym b.1)
meant_once outcome.Null s t line line' a b = (a.0 ∙ sym b.0, a.1 ∙ sym b.1)
meant_once outcome.Zero s t line line' a b = (a.0 ∙ sym b.0, a.1 ∙ sym b.1)
meant_once outcome.Arena s t line line' a b = (a.0 ∙ sym b.0, a.1 ∙ sym b.1)
meant_once outcome.Depth s t line line' a b = (a.0 ∙ sym b.0, a.1 ∙ sym b.1)
meant_once outcome.More s t line line' a b = (a.0 ∙ sym b.0, a.1 ∙ sym b.1)
meant_once (outcome.Stuck why) s t line line' a b = absurd a

meaning_once : (p : Program) (a d n : ℕ) (x y : Reply) → TellsMeaning p a d n x → TellsMeaning p a d n y → x ≡ y
meaning_once p a d n x y f g =
    let one = run_is_one p n a d f.outcome g.outcome x.output y.output f.ran g.ran in
    let told : IsMeantAs f.outcome y.status y.line = subst (λ (o : Outcome). IsMeantAs o y.status y.line) (sym one.outcome) g.told in
    let e = meant_once f.outcome x.status y.status x.line y.line f.told told in same_reply x y one.output e.1 e.0

mean_once : (job : Job) (bytes : List ℕ) (a b : Reply) → SourceMeanReply job bytes a → SourceMeanReply job bytes b → a ≡ b
mean_once job bytes a b (SourceMeanReply.refused l is e) (SourceMeanReply.refused m is' e') = e ∙ ap refused_reply (line_once bytes (one_verdict bytes) l m is is') ∙ sym e'
mean_once job bytes a b (SourceMeanReply.refused l is e) (SourceMeanReply.meant p text passes tells) = absurd (no_line bytes l p text passes is)
mean_once job bytes a b (SourceMeanReply.meant p text passes tells) (SourceMeanReply.refused l is e) = absurd (no_line bytes l p text passes is)
mean_once job bytes a b (SourceMeanReply.meant p text passes tells) (SourceMeanReply.meant q text' passes' tells') =
    meaning_once p job.arena job.depth job.steps a b tells
    (subst (λ (t : Program). TellsMeaning t job.arena job.depth job.steps b) (sym ((one_verdict bytes).program p q text text')) tells')

reply_once : (kind : JobKind) (job : Job) (bytes : List ℕ) (a b : Reply) → kind ≢ kinds.Run → ReplyBy kind job bytes a → ReplyBy kind job bytes b → a ≡ b
reply_once (kinds.OnSource kind) job bytes a b not x y = source_once kind bytes a b (one_verdict bytes) x y
reply_once kinds.Run job bytes a b not x y = absurd (not refl)
reply_once kinds.Build job bytes a b not x y = source_once Check bytes a b (one_verdict bytes) x y
reply_once kinds.Mean job bytes a b not x y = mean_once job bytes a b x y
reply_once kinds.Exec job bytes a b not x y = image_once job (valid_image_of bytes) a b x y

pub one_reply : (job : Job) (bytes : List ℕ) (a b : Reply) → job.kind ≢ kinds.Run → JobReply job bytes a → JobReply job bytes b → a ≡ b
one_reply job bytes a b not x y = reply_once job.kind job bytes a b not x y
