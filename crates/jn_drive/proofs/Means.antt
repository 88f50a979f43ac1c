-- From the bytes of a source to how the run of its meaning was told.
use Rattle.std.proofs.Common.{drop, ◌≡◌, ◌∙◌, ℕ, ◌≤◌, inl, inr, List, [], ◌++◌, length, append-nil, sym, ap, subst, refl, codes, Result, Ok, Err, None, Some, arith, Bool, true, false, bytes_eq}
use Rattle.std.proofs.lemmas.List.{take_all}
use Rattle.std.proofs.lemmas.Option.{same_Some}
use Rattle.std.proofs.lemmas.Slice.Eq.{bytes_eq-Decides}
use Rattle.std.proofs.Math.Seq.{drop-append_seam}
use Rattle.std.specs.declared.option.Option.{Option}
use Rattle.std.specs.Io.KnownBytes.{append_known}
use Rattle.jn_steps.specs.Laws.{IsPrefix}
use Rattle.jn_output.specs.Writes.{Cut}
use Rattle.jn_base.specs.declared.tree.Program.{Program}
use Rattle.jn_base.specs.Spelling.{IsTextOf}
use Rattle.jn_base.specs.WithinLimits.{IsWithinLimits}
use Rattle.jn_io.specs.Causes.{Rose}
use Rattle.jn_io.specs.Told.{Files}
use Rattle.jn_rules.specs.Verdict.{TreePasses}
use Rattle.jn_sem.specs.declared.outcome.Outcome.{Outcome}
use Rattle.jn_sem.specs.declared.outcome.Outcome.TheVariants as outcome
use Rattle.jn_sem.specs.Run.{Run}
use Rattle.jn_sem.proofs.RunLaws.{run_is_there}
use Rattle.jn_sound.proofs.NeverStuck.{never_stuck}
use Rattle.jn_sources.proofs.Answered.{one_verdict}
use Rattle.jn_meaning.specs.Ran.{Ran, CutShort}
use Rattle.jn_drive.specs.declared.halt.Halt.{Halt}
use Rattle.jn_drive.specs.declared.halt.Halt.TheVariants as halt
use Rattle.jn_drive.specs.declared.status.Status.{Status}
use Rattle.jn_drive.specs.declared.status.Status.TheVariants as statuses
use Rattle.jn_drive.specs.declared.words.JobKind.{JobKind}
use Rattle.jn_drive.specs.declared.words.JobKind.TheVariants as kinds
use Rattle.jn_drive.specs.Words.{Job}
use Rattle.jn_drive.specs.Reading.{most_read, ReadsFile}
use Rattle.jn_drive.specs.Reply.{Reply, JobReply, ReplyBy, SourceMeanReply, TellsMeaning, IsMeantAs, IsRefusalLine, refused_reply, output_reply, memory_reply, out_of_memory}
use Rattle.jn_drive.specs.Seen.{Seen, SinkSeen, IsSource, IsLeft, IsPut, IsCut}
use Rattle.jn_drive.specs.Answer.{reply_of}
use Rattle.jn_drive.specs.Exec.{HasRead}
use Rattle.jn_drive.specs.Built.{IsTextHalt, IsTreeHalt}
use Rattle.jn_drive.specs.Job.{Does, IsBegun}
use Rattle.jn_drive.specs.Means.{Accepts, Finds, IsUnstuck, OutcomeTold, IsPrintedFirst, MeaningTold}
use Rattle.jn_drive.proofs.Building.{text_of_front, line_of_front}
use Rattle.jn_drive.proofs.Judging.{within_limits}
use Rattle.jn_drive.proofs.OneReply.{no_line}
use Rattle.jn_drive.proofs.Running.{Comes, ran_out, does, broken_does, keeps}

-- ---- the program

pub text_line : (bytes : List ℕ) (h : Halt) → IsTextHalt bytes h → Accepts bytes (Err h)
text_line bytes (halt.Refused line) (r, by, is) = IsRefusalLine.of_text r by is
text_line bytes (halt.BadImage line) is = absurd is
text_line bytes halt.Unread is = absurd is
text_line bytes halt.Memory is = is

pub tree_line : (bytes : List ℕ) (p : Program) (h : Halt) → IsTextOf p bytes → IsTreeHalt p h → Accepts bytes (Err h)
tree_line bytes p (halt.Refused line) text (r, by, is) = IsRefusalLine.of_tree p r text by is
tree_line bytes p (halt.BadImage line) text is = absurd is
tree_line bytes p halt.Unread text is = absurd is
tree_line bytes p halt.Memory text is = is

has_read : (job : Job) (files : Option Files) (bytes : List ℕ) (rest' : Option (List ℕ)) (f f' : ℕ) → job.kind ≡ kinds.Mean → IsSource files job.file bytes → IsLeft files (drop 1048577 bytes) rest' → f' ≡ f → HasRead job files rest' f f' bytes
has_read job files bytes rest' f f' is source left same = record {
  source = source;
  reads = same;
  left = subst (λ (k : ℕ). IsLeft files (drop k bytes) rest') (sym (ap most_read is)) left;
}

-- The front of a file that was read is accepted as the file is.
pub front_found : (job : Job) (files : Option Files) (front : List ℕ) (rest' : Option (List ℕ)) (f f' : ℕ) (r : Result Program Halt) → job.kind ≡ kinds.Mean → ReadsFile 1048577 files job.file rest' f f' (Ok front) → Accepts front r → Finds job files rest' f f' r
front_found job files front rest' f f' (Ok p) is (same, (bytes, source, part, left)) a =
    (bytes, has_read job files bytes rest' f f' is source left same, text_of_front p bytes front part a.0, a.1)
front_found job files front rest' f f' (Err (halt.Refused line)) is (same, (bytes, source, part, left)) a =
    (bytes, has_read job files bytes rest' f f' is source left same, line_of_front bytes front line part a)
front_found job files front rest' f f' (Err (halt.BadImage line)) is read a = absurd a
front_found job files front rest' f f' (Err halt.Unread) is read a = absurd a
front_found job files front rest' f f' (Err halt.Memory) is read a = read.0

-- ---- what was taken of a run that was cut short

-- what stands behind the bytes from before, where both are known
abbrev gone_from : Option (List ℕ) → Option (List ℕ) → List ℕ
gone_from None now = []
gone_from (Some b) None = []
gone_from (Some b) (Some x) = drop (length b) x

none_first : (xs : List ℕ) → IsPrefix [] xs
none_first xs = (xs, refl)

is_gone : (b x gone : List ℕ) → (let k : Option (List ℕ) = Some x in k ≡ append_known (Some b) gone) → gone ≡ drop (length b) x
is_gone b x gone took = sym (ap (drop (length b)) (same_Some x (b ++ gone) took) ∙ drop-append_seam b gone)

gone_first : (before now : Option (List ℕ)) (printed : List ℕ) → Cut before now printed → IsPrefix (gone_from before now) printed
gone_first None now printed c = none_first printed
gone_first (Some b) None printed c = none_first printed
gone_first (Some b) (Some x) printed c = subst (λ (g : List ℕ). IsPrefix g printed) (is_gone b x c.gone c.took) c.first

-- It is not so that nothing was taken of a run: so what was taken is this.
abbrev CutSomehow : Option (List ℕ) → Option (List ℕ) → Type 0
CutSomehow before now = ((printed : List ℕ) → Cut before now printed → ⊥) → ⊥

behind_same : (b x printed : List ℕ) → Cut (Some b) (Some x) printed → x ≡ b ++ drop (length b) x
behind_same b x printed c = same_Some x (b ++ c.gone) c.took ∙ ap (λ (g : List ℕ). b ++ g) (is_gone b x c.gone c.took)

behind : (b x : List ℕ) (same : Bool) → bytes_eq x (b ++ drop (length b) x) ≡ same → CutSomehow (Some b) (Some x) → x ≡ b ++ drop (length b) x
behind b x true e some = (bytes_eq-Decides x (b ++ drop (length b) x)).0 e
behind b x false e some = absurd (some (λ printed c. let t = (bytes_eq-Decides x (b ++ drop (length b) x)).1 (behind_same b x printed c) in absurd (cc)))

gone_took : (before now : Option (List ℕ)) → CutSomehow before now → now ≡ append_known before (gone_from before now)
gone_took None None some = refl
gone_took None (Some x) some = absurd (some (λ printed c. let t = c.took in absurd (cc)))
gone_took (Some b) None some = absurd (some (λ printed c. let t = c.took in absurd (cc)))
gone_took (Some b) (Some x) some = ap (λ (ys : List ℕ). Some ys) (behind b x (bytes_eq x (b ++ drop (length b) x)) refl some)

module _ (p : Program) (a d n : ℕ) (out out' : SinkSeen) (short : CutShort p n a d out.taken out'.taken) where
  printed_first : IsPrintedFirst p a d n (gone_from out.taken out'.taken)
  printed_first o printed run = gone_first out.taken out'.taken printed (short o printed run)

  took_gone : out'.taken ≡ append_known out.taken (gone_from out.taken out'.taken)
  took_gone = gone_took out.taken out'.taken (λ no. run_is_there p n a d (λ o printed run. no printed (short o printed run)))

  -- `out` failed
  pub broken_told : (err err' : SinkSeen) (s : Status) → Rose out.faults out'.faults → out.faults ≤ out'.faults → s ≡ statuses.WriteFault → err' ≡ err → MeaningTold p a d n out out' err err' s
  broken_told err err' s rose later is same =
      let gone = gone_from out.taken out'.taken in
      MeaningTold.broken gone printed_first (IsCut.at_output is rose (record {
        count = length gone;
        taken = took_gone ∙ ap (append_known out.taken) (sym (take_all (length gone) gone (omega arith)));
        later = later;
      }) same)

  -- memory ran out
  pub memory_told : (err err' : SinkSeen) (s : Status) → out'.faults ≡ out.faults → IsPut statuses.Memory memory_reply.line err err' s → MeaningTold p a d n out out' err err' s
  memory_told err err' s kept (IsPut.whole is all) =
      MeaningTold.no_memory (gone_from out.taken out'.taken) printed_first (inl (record { status = is; output = record { taken = took_gone; faults = kept }; line = all }))
  memory_told err err' s kept (IsPut.cut is rose some) =
      MeaningTold.no_memory (gone_from out.taken out'.taken) printed_first (inr (IsCut.at_line is (record { taken = took_gone; faults = kept }) rose some))

-- ---- how an outcome was told

append_nothing : (k : Option (List ℕ)) → k ≡ append_known k []
append_nothing None = refl
append_nothing (Some xs) = ap (λ (ys : List ℕ). Some ys) (sym (append-nil xs))

pub unstuck : (p : Program) (a d n : ℕ) (o : Outcome) (before now : Option (List ℕ)) → IsWithinLimits p → TreePasses p → Ran p n a d o before now → IsUnstuck o
unstuck p a d n o before now limits passes ran = λ why e. never_stuck p limits passes n a d o ran.output ran.run why e

module _ (p : Program) (a d n : ℕ) (out out' : SinkSeen) where
  line_told : (o : Outcome) (wanted : Status) (line : List ℕ) (err err' : SinkSeen) (s : Status) → Ran p n a d o out.taken out'.taken → out'.faults ≡ out.faults → IsMeantAs o wanted line → IsPut wanted line err err' s → MeaningTold p a d n out out' err err' s
  line_told o wanted line err err' s ran kept told (IsPut.whole is all) =
      MeaningTold.whole (record { output = ran.output; line = line; status = wanted }) (record { outcome = o; ran = ran.run; told = told }) (inl (record { status = is; output = record { taken = ran.took; faults = kept }; line = all }))
  line_told o wanted line err err' s ran kept told (IsPut.cut is rose some) =
      MeaningTold.whole (record { output = ran.output; line = line; status = wanted }) (record { outcome = o; ran = ran.run; told = told }) (inr (IsCut.at_line is (record { taken = ran.took; faults = kept }) rose some))

  pub outcome_told : (o : Outcome) (err err' : SinkSeen) (s : Status) → Ran p n a d o out.taken out'.taken → out'.faults ≡ out.faults → OutcomeTold o err err' s → MeaningTold p a d n out out' err err' s
  outcome_told outcome.Ends err err' s ran kept t =
      MeaningTold.whole (record { output = ran.output; line = []; status = statuses.Done }) (record { outcome = outcome.Ends; ran = ran.run; told = (refl, refl) }) (inl (record {
        status = t.0;
        output = record { taken = ran.took; faults = kept };
        line = record { taken = ap (λ (k : SinkSeen). k.taken) t.1 ∙ append_nothing err.taken; faults = ap (λ (k : SinkSeen). k.faults) t.1 };
      }))
  outcome_told outcome.Null err err' s ran kept t = line_told _ _ _ err err' s ran kept (refl, refl) t
  outcome_told outcome.Zero err err' s ran kept t = line_told _ _ _ err err' s ran kept (refl, refl) t
  outcome_told outcome.Arena err err' s ran kept t = line_told _ _ _ err err' s ran kept (refl, refl) t
  outcome_told outcome.Depth err err' s ran kept t = line_told _ _ _ err err' s ran kept (refl, refl) t
  outcome_told outcome.More err err' s ran kept t = line_told _ _ _ err err' s ran kept (refl, refl) t
  outcome_told (outcome.Stuck why) err err' s ran kept t = absurd t

-- ---- the reply

-- each outcome but a stuck one has a reply
told_as : (p : Program) (a d n : ℕ) (o : Outcome) (printed : List ℕ) → IsUnstuck o → Run p n a d o printed → (r : Reply) × TellsMeaning p a d n r
told_as p a d n outcome.Ends printed free run = (output_reply printed, record { outcome = outcome.Ends; ran = run; told = (refl, refl) })
told_as p a d n outcome.Null printed free run =
    (record { output = printed; line = codes "fault: null\n"; status = statuses.Null }, record { outcome = outcome.Null; ran = run; told = (refl, refl) })
told_as p a d n outcome.Zero printed free run =
    (record { output = printed; line = codes "fault: zero divisor\n"; status = statuses.Zero }, record { outcome = outcome.Zero; ran = run; told = (refl, refl) })
told_as p a d n outcome.Arena printed free run =
    (record { output = printed; line = codes "fault: arena full\n"; status = statuses.Arena }, record { outcome = outcome.Arena; ran = run; told = (refl, refl) })
told_as p a d n outcome.Depth printed free run =
    (record { output = printed; line = codes "fault: call depth\n"; status = statuses.Depth }, record { outcome = outcome.Depth; ran = run; told = (refl, refl) })
told_as p a d n outcome.More printed free run =
    (record { output = printed; line = codes "fault: steps\n"; status = statuses.Steps }, record { outcome = outcome.More; ran = run; told = (refl, refl) })
told_as p a d n (outcome.Stuck why) printed free run = absurd (free why refl)

module _ (job : Job) (before after : Seen) (is : job.kind ≡ kinds.Mean) where
  mean_reply : (bytes : List ℕ) (a : Reply) → SourceMeanReply job bytes a → JobReply job bytes a
  mean_reply bytes a x = subst (λ (k : JobKind). ReplyBy k job bytes a) (sym is) x

  reply_mean : (bytes : List ℕ) (a : Reply) → JobReply job bytes a → SourceMeanReply job bytes a
  reply_mean bytes a x = subst (λ (k : JobKind). ReplyBy k job bytes a) is x

  -- the line of the refusal, or why nothing runs
  pub nothing_means : (h : Halt) → Finds job before.store.files after.store.rest before.store.read_faults after.store.read_faults (Err h) → Comes job before after (reply_of (Err h))
  nothing_means (halt.Refused line) (bytes, read, by) =
      Comes.to_bytes bytes read.source read.reads read.left (mean_reply bytes (refused_reply line) (SourceMeanReply.refused line by refl))
  nothing_means (halt.BadImage line) finds = absurd finds
  nothing_means halt.Unread finds = Comes.unread finds refl
  nothing_means halt.Memory finds = Comes.no_memory finds (ran_out job before after)

  module _ (p : Program) (bytes : List ℕ) (read : HasRead job before.store.files after.store.rest before.store.read_faults after.store.read_faults bytes) (text : IsTextOf p bytes) (passes : TreePasses p) where
    meant_first : (output : List ℕ) → IsPrintedFirst p job.arena job.depth job.steps output → (a : Reply) → SourceMeanReply job bytes a → IsPrefix output a.output
    meant_first output first a (SourceMeanReply.refused line by e) = absurd (no_line bytes line p text passes by)
    meant_first output first a (SourceMeanReply.meant q text' passes' tells) =
        first tells.outcome a.output (subst (λ (t : Program). Run t job.steps job.arena job.depth tells.outcome a.output) (sym ((one_verdict bytes).program p q text text')) tells.ran)

    begun : (output : List ℕ) → IsPrintedFirst p job.arena job.depth job.steps output → IsBegun job before after output
    begun output first = IsBegun.front is (record {
      bytes = bytes;
      source = read.source;
      reads = read.reads;
      left = read.left;
      front = λ a x. meant_first output first a (reply_mean bytes a x);
      there = λ none. run_is_there p job.steps job.arena job.depth (λ o printed run.
          let r = told_as p job.arena job.depth job.steps o printed (λ why e. never_stuck p (within_limits p bytes text) passes job.steps job.arena job.depth o printed run why e) run in
          none r.0 (mean_reply bytes r.0 (SourceMeanReply.meant p text passes r.1)));
    })

    pub meaning_does : (s : Status) → MeaningTold p job.arena job.depth job.steps before.out after.out before.err after.err s → after.store.files ≡ before.store.files → after.store.save_faults ≡ before.store.save_faults
        → before.store.read_faults ≤ after.store.read_faults → Does job before after s
    meaning_does s (MeaningTold.whole a tells del) files saves later =
        does job before after a s (Comes.to_bytes bytes read.source read.reads read.left (mean_reply bytes a (SourceMeanReply.meant p text passes tells))) del (λ b. absurd (keeps job.kind kinds.Mean is tt b)) files saves later
    meaning_does s (MeaningTold.broken output first cut) files saves later = broken_does job before after output s (begun output first) cut (λ b. absurd (keeps job.kind kinds.Mean is tt b)) files saves later
    meaning_does s (MeaningTold.no_memory output first del) files saves later =
        does job before after (out_of_memory output) s (Comes.no_memory read.reads (record { output = output; begun = begun output first; is = refl })) del (λ b. absurd (keeps job.kind kinds.Mean is tt b)) files saves later
