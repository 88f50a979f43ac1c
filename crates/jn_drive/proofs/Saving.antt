-- What `build` does, from the bytes of the image and how they were saved.
use Rattle.std.proofs.Common.{◌≡◌, ◌≢◌, ◌∙◌, ℕ, ◌≤◌, inl, inr, List, [], drop, sym, ap, subst, refl, append-nil, Err, Some, None}
use Rattle.std.specs.declared.option.Option.{Option}
use Rattle.std.specs.Io.KnownBytes.{append_known}
use Rattle.jn_io.specs.Told.{Files}
use Rattle.jn_drive.specs.declared.halt.Halt.{Halt}
use Rattle.jn_drive.specs.declared.halt.Halt.TheVariants as halt
use Rattle.jn_drive.specs.declared.status.Status.{Status}
use Rattle.jn_drive.specs.declared.status.Status.TheVariants as statuses
use Rattle.jn_drive.specs.declared.words.JobKind.{JobKind}
use Rattle.jn_drive.specs.declared.words.JobKind.TheVariants as kinds
use Rattle.jn_drive.specs.declared.words.SourceJob.TheVariants as sources
use Rattle.jn_drive.specs.Words.{Job}
use Rattle.jn_drive.specs.Reading.{most_read}
use Rattle.jn_drive.specs.Reply.{Reply, JobReply, ReplyBy, SourceReply, TreeReply, IsRefusalLine, refused_reply, output_reply, memory_reply}
use Rattle.jn_drive.specs.Seen.{Seen, SinkSeen, TookAll, IsLeft, IsPut, IsGiven, IsCut, IsDelivered}
use Rattle.jn_drive.specs.Answer.{reply_of}
use Rattle.jn_drive.specs.Exec.{HasRead}
use Rattle.jn_drive.specs.Built.{Writes}
use Rattle.jn_drive.specs.Saved.{IsImageFile, SavesWhereDone, StoresBy, IsSaved}
use Rattle.jn_drive.specs.Job.{Does}
use Rattle.jn_drive.proofs.Running.{Comes, ran_out, does, stores_does, unsaved_does}

append_nothing : (k : Option (List ℕ)) → k ≡ append_known k []
append_nothing None = refl
append_nothing (Some xs) = ap (λ (ys : List ℕ). Some ys) (sym (append-nil xs))

-- an output that wasn't touched took nothing
untouched : (k k' : SinkSeen) → k' ≡ k → TookAll k k' []
untouched k k' same = record { taken = ap (λ (x : SinkSeen). x.taken) same ∙ append_nothing k.taken; faults = ap (λ (x : SinkSeen). x.faults) same }

-- ---- a refusal, or no memory

-- the reply of `check` to bytes that are refused
refused_line : (bytes line : List ℕ) → IsRefusalLine bytes line → SourceReply sources.Check bytes (refused_reply line)
refused_line bytes line (IsRefusalLine.of_text r by is) = SourceReply.refused r by (ap refused_reply is)
refused_line bytes line (IsRefusalLine.of_tree p r text by is) =
    SourceReply.to_tree p text (subst (λ (l : List ℕ). TreeReply p sources.Check (refused_reply l)) (sym is) (TreeReply.not_passed r by))

module _ (job : Job) (before after : Seen) (kind : job.kind ≡ kinds.Build) where
  reply_is : (bytes : List ℕ) (a : Reply) → SourceReply sources.Check bytes a → JobReply job bytes a
  reply_is bytes a x = subst (λ (k : JobKind). ReplyBy k job bytes a) (sym kind) x

  pub nothing_saved : (h : Halt) → Writes job before.store.files after.store.rest before.store.read_faults after.store.read_faults (Err h) → Comes job before after (reply_of (Err h))
  nothing_saved (halt.Refused line) (bytes, read, by) = Comes.to_bytes bytes read.source read.reads read.left (reply_is bytes _ (refused_line bytes line by))
  nothing_saved (halt.BadImage line) writes = absurd writes
  nothing_saved halt.Unread writes = Comes.unread writes refl
  nothing_saved halt.Memory writes = Comes.no_memory writes (ran_out job before after)

  -- ---- the image is there

  module _ (bytes saved name : List ℕ) (read : HasRead job before.store.files after.store.rest before.store.read_faults after.store.read_faults bytes) (is : IsImageFile bytes saved) (out_is : job.out ≡ Some name) (out_same : after.out ≡ before.out)
      (later : before.store.read_faults ≤ after.store.read_faults) where
    passed : Comes job before after (output_reply [])
    passed = Comes.to_bytes bytes read.source read.reads read.left (reply_is bytes (output_reply []) (SourceReply.to_tree is.program is.text (TreeReply.passed is.passes)))

    line_told : (s : Status) → IsPut statuses.Memory memory_reply.line before.err after.err s → IsDelivered memory_reply before.out after.out before.err after.err s
    line_told s (IsPut.whole e all) = inl (record { status = e; output = untouched before.out after.out out_same; line = all })
    line_told s (IsPut.cut e rose some) = inr (IsCut.at_line e (untouched before.out after.out out_same) rose some)

    undone : (s : Status) → IsPut statuses.Memory memory_reply.line before.err after.err s → s ≢ statuses.Done
    undone s (IsPut.whole e all) d = absurd (cc)
    undone s (IsPut.cut e rose some) d = absurd (cc)

    pub saved_does : (s : Status) → IsSaved name saved before.store.files after.store.files before.store.save_faults after.store.save_faults before.err after.err s → before.store.save_faults ≤ after.store.save_faults → Does job before after s
    saved_does s (IsSaved.done e files faults err) saves_later =
        let given : IsGiven (output_reply []) before.out after.out before.err after.err s
        = record { status = e; output = untouched before.out after.out out_same; line = untouched before.err after.err err } in
        let stores : SavesWhereDone job before after s = record {
          done = λ d. record { bytes = bytes; source = read.source; saved = saved; is = is; name = name; out = out_is; files = files };
          kept = λ d. absurd (d e);
          saves = λ d. faults;
        } in
        stores_does job before after (output_reply []) s passed (inl given) (subst (λ (k : JobKind). StoresBy k job before after s) (sym kind) stores) saves_later later
    saved_does s (IsSaved.failed e files rose err) saves_later = unsaved_does job before after s (record { kind = kind; rose = rose; out = out_same; err = err }) e files saves_later later
    saved_does s (IsSaved.no_memory files faults put) saves_later =
        does job before after memory_reply s (Comes.no_memory read.reads (ran_out job before after)) (line_told s put) (λ b. undone s put) files faults later

-- A halt isn't Done.
pub halt_undone : (h : Halt) (out out' err err' : SinkSeen) (s : Status) → IsDelivered (reply_of (Err h)) out out' err err' s → s ≢ statuses.Done
halt_undone (halt.Refused line) out out' err err' s (inl g) e = let k = sym g.status ∙ e in absurd (cc)
halt_undone (halt.BadImage line) out out' err err' s (inl g) e = let k = sym g.status ∙ e in absurd (cc)
halt_undone halt.Unread out out' err err' s (inl g) e = let k = sym g.status ∙ e in absurd (cc)
halt_undone halt.Memory out out' err err' s (inl g) e = let k = sym g.status ∙ e in absurd (cc)
halt_undone h out out' err err' s (inr (IsCut.at_output w rose some none)) e = absurd (cc)
halt_undone h out out' err err' s (inr (IsCut.at_line w all rose some)) e = absurd (cc)

-- ---- by what the store tells between reading and saving

-- what was read is still so after the save
pub still_read : (job : Job) (files : Option Files) (rest rest' : Option (List ℕ)) (f m n : ℕ) (bytes : List ℕ) → rest' ≡ rest → n ≡ m → HasRead job files rest f m bytes → HasRead job files rest' f n bytes
still_read job files rest rest' f m n bytes same reads read = record {
  source = read.source;
  reads = reads ∙ read.reads;
  left = subst (λ (r : Option (List ℕ)). IsLeft files (drop (most_read job.kind) bytes) r) (sym same) read.left;
}

pub still_saved : (name saved : List ℕ) (files mid files' : Option Files) (f m n : ℕ) (err err' : SinkSeen) (s : Status) → mid ≡ files → m ≡ f → IsSaved name saved mid files' m n err err' s → IsSaved name saved files files' f n err err' s
still_saved name saved files mid files' f m n err err' s same saves is =
    subst (λ (k : ℕ). IsSaved name saved files files' k n err err' s) saves (subst (λ (fs : Option Files). IsSaved name saved fs files' m n err err' s) same is)
