-- What a job does, from what it replies and how that is delivered.
use Rattle.std.proofs.Common.{◌≡◌, ◌≢◌, ◌∙◌, ℕ, ◌≤◌, ◌⊎◌, inl, inr, List, [], drop, sym, ap, subst, refl, Result, Ok, Err, Some, None, arith}
use Rattle.std.specs.declared.option.Option.{Option}
use Rattle.std.proofs.lemmas.Option.{same_Some}
use Rattle.jn_base.specs.declared.tree.Program.{Program}
use Rattle.jn_code.specs.declared.image.Image.{Image}
use Rattle.jn_code.specs.declared.fault.ImageFault.{ImageFault}
use Rattle.jn_code.specs.Machine as code
use Rattle.jn_sem.specs.declared.outcome.Outcome.{Outcome}
use Rattle.jn_sem.specs.declared.outcome.Outcome.TheVariants as outcome
use Rattle.jn_exec.specs.Images.{valid_image_of}
use Rattle.jn_io.specs.Told.{Files, Lacks}
use Rattle.jn_drive.specs.declared.status.Status.{Status}
use Rattle.jn_drive.specs.declared.status.Status.TheVariants as statuses
use Rattle.jn_drive.specs.declared.words.JobKind.{JobKind}
use Rattle.jn_drive.specs.declared.words.JobKind.TheVariants as kinds
use Rattle.jn_drive.specs.declared.words.SourceJob.{SourceJob}
use Rattle.jn_drive.specs.declared.words.SourceJob.TheVariants as sources
use Rattle.jn_drive.specs.Saved.{StoresBy, IsUnsaved}
use Rattle.jn_drive.specs.Words.{Job}
use Rattle.jn_drive.specs.Reading.{most_read}
use Rattle.jn_drive.specs.Reply.{Reply, JobReply, ReplyBy, ImageReply, IsToldAs, SourceReply, SourceRunReply, TreeReply, SourceMeanReply, IsMeantAs, output_reply, unread_reply, memory_reply, out_of_memory}
use Rattle.jn_drive.specs.Seen.{Seen, SinkSeen, IsSource, IsToldSource, IsLeft, IsQuiet, IsCut, IsDelivered}
use Rattle.jn_drive.specs.Job.{Does, Replies, MayReply, IsBegun, RunsOut, IsUnread, IsOfReply, Gives, Cuts, GivesUnlessMemory, GivesSome}

-- What a call replies: a reply to the bytes that were read; or that the file couldn't be read, or that memory ran out.
pub data Comes (job : Job) (before after : Seen) (a : Reply) : Type 0 where
  to_bytes : (bytes : List ℕ) → IsSource before.store.files job.file bytes → after.store.read_faults ≡ before.store.read_faults → IsLeft before.store.files (drop (most_read job.kind) bytes) after.store.rest → JobReply job bytes a → Comes job before after a
  unread : IsUnread job.file before after → a ≡ unread_reply → Comes job before after a
  no_memory : after.store.read_faults ≡ before.store.read_faults → RunsOut job before after a → Comes job before after a

-- ---- memory

-- Memory ran out with nothing begun.
pub ran_out : (job : Job) (before after : Seen) → RunsOut job before after memory_reply
ran_out job before after = record { output = []; begun = IsBegun.nothing refl; is = refl }

out_status : (job : Job) (before after : Seen) (a : Reply) → RunsOut job before after a → a.status ≡ statuses.Memory
out_status job before after a out = ap (λ (x : Reply). x.status) out.is

-- ---- the statuses of replies

pub status_is : (s t : Status) → s ≡ t → IsOfReply t → IsOfReply s
status_is s t e is = subst IsOfReply (sym e) is

tree_status : (p : Program) (kind : SourceJob) (r : Reply) → TreeReply p kind r → IsOfReply r.status
tree_status p kind r TreeReply.shown = tt
tree_status p kind r (TreeReply.passed is) = tt
tree_status p kind r (TreeReply.not_passed f by) = tt

source_status : (kind : SourceJob) (bytes : List ℕ) (r : Reply) → SourceReply kind bytes r → IsOfReply r.status
source_status kind bytes r (SourceReply.refused f by e) = status_is r.status statuses.Refused (ap (λ (x : Reply). x.status) e) tt
source_status kind bytes r (SourceReply.to_tree p is tree) = tree_status p kind r tree

pub end_status : (outcome : Option code.Halt) (s : Status) (line : List ℕ) → IsToldAs outcome s line → IsOfReply s
end_status (Some code.Done) s line t = status_is s statuses.Done t.0 tt
end_status (Some code.Null) s line t = status_is s statuses.Null t.0 tt
end_status (Some code.Zero) s line t = status_is s statuses.Zero t.0 tt
end_status (Some code.Arena) s line t = status_is s statuses.Arena t.0 tt
end_status (Some code.Depth) s line t = status_is s statuses.Depth t.0 tt
end_status (Some code.Stuck) s line t = absurd t
end_status None s line t = status_is s statuses.Steps t.0 tt

meant_status : (o : Outcome) (s : Status) (line : List ℕ) → IsMeantAs o s line → IsOfReply s
meant_status outcome.Ends s line t = status_is s statuses.Done t.0 tt
meant_status outcome.Null s line t = status_is s statuses.Null t.0 tt
meant_status outcome.Zero s line t = status_is s statuses.Zero t.0 tt
meant_status outcome.Arena s line t = status_is s statuses.Arena t.0 tt
meant_status outcome.Depth s line t = status_is s statuses.Depth t.0 tt
meant_status outcome.More s line t = status_is s statuses.Steps t.0 tt
meant_status (outcome.Stuck why) s line t = absurd t

mean_status : (job : Job) (bytes : List ℕ) (r : Reply) → SourceMeanReply job bytes r → IsOfReply r.status
mean_status job bytes r (SourceMeanReply.refused line of e) = status_is r.status statuses.Refused (ap (λ (x : Reply). x.status) e) tt
mean_status job bytes r (SourceMeanReply.meant p text passes tells) = meant_status tells.outcome r.status r.line tells.told

image_status : (job : Job) (image : Result Image ImageFault) (r : Reply) → ImageReply job image r → IsOfReply r.status
image_status job (Ok i) r is = end_status _ r.status r.line is.ended
image_status job (Err f) r is = status_is r.status statuses.BadImage (ap (λ (x : Reply). x.status) is) tt

run_status : (job : Job) (bytes : List ℕ) (r : Reply) → SourceRunReply job bytes r → IsOfReply r.status
run_status job bytes r (SourceRunReply.refused line by e) = status_is r.status statuses.Refused (ap (λ (x : Reply). x.status) e) tt
run_status job bytes r (SourceRunReply.ran p is passes tells) = end_status _ r.status r.line tells.steps.ended

reply_status : (kind : JobKind) (job : Job) (bytes : List ℕ) (r : Reply) → ReplyBy kind job bytes r → IsOfReply r.status
reply_status (kinds.OnSource kind) job bytes r is = source_status kind bytes r is
reply_status kinds.Run job bytes r is = run_status job bytes r is
reply_status kinds.Build job bytes r is = source_status sources.Check bytes r is
reply_status kinds.Mean job bytes r is = mean_status job bytes r is
reply_status kinds.Exec job bytes r is = image_status job (valid_image_of bytes) r is

job_status : (job : Job) (bytes : List ℕ) (r : Reply) → JobReply job bytes r → IsOfReply r.status
job_status job bytes r is = reply_status job.kind job bytes r is

-- ---- told files

-- The bytes that are told are those that were read.
told_same : (files : Option Files) (file bytes told : List ℕ) → IsSource files file bytes → IsToldSource files file told → bytes ≡ told
told_same None file bytes told source there = absurd there
told_same (Some files) file bytes told source there = same_Some _ _ (sym source ∙ there)

-- A file that isn't there has no bytes.
not_there : {P : Type 0} (files : Option Files) (file bytes : List ℕ) → IsSource files file bytes → Lacks files file → P
not_there None file bytes source lacks = absurd lacks
not_there (Some files) file bytes source lacks = absurd (cc)

told_there : (files : Option Files) (file bytes : List ℕ) → IsToldSource files file bytes → IsSource files file bytes
told_there None file bytes there = absurd there
told_there (Some files) file bytes there = there

-- What is replied where the bytes are told and no read fails.
settled : (job : Job) (before after : Seen) (a : Reply) → Comes job before after a → (told : List ℕ) → IsToldSource before.store.files job.file told → IsQuiet before after → JobReply job told a ⊎ RunsOut job before after a
settled job before after a (Comes.to_bytes bytes source reads left is_reply) told there quiet =
    inl (subst (λ (bs : List ℕ). JobReply job bs a) (told_same before.store.files job.file bytes told source there) is_reply)
settled job before after a (Comes.unread u e) told there quiet =
    elim u [ inl rose ↦ absurd (quiet.reads rose) | inr lacks ↦ not_there before.store.files job.file told (told_there before.store.files job.file told there) lacks ]
settled job before after a (Comes.no_memory reads out) told there quiet = inr out

-- Nothing is begun of a file that isn't there.
out_alone : (job : Job) (before after : Seen) (a : Reply) (output : List ℕ) → a ≡ out_of_memory output → IsBegun job before after output → Lacks before.store.files job.file → a ≡ memory_reply
out_alone job before after a output is (IsBegun.nothing e) lacks = is ∙ ap out_of_memory e
out_alone job before after a output is (IsBegun.front k f) lacks = not_there before.store.files job.file f.bytes f.source lacks

-- What it is where the file isn't there.
lacking : (job : Job) (before after : Seen) (a : Reply) → Comes job before after a → Lacks before.store.files job.file → (a ≡ unread_reply) ⊎ (a ≡ memory_reply)
lacking job before after a (Comes.to_bytes bytes source reads left is_reply) lacks = not_there before.store.files job.file bytes source lacks
lacking job before after a (Comes.unread u e) lacks = inl e
lacking job before after a (Comes.no_memory reads out) lacks = inr (out_alone job before after a out.output out.is out.begun lacks)

-- ---- what was delivered

-- A reply that was given whole, by an equal one.
pub given_as : (before after : Seen) (a b : Reply) (s : Status) → a ≡ b → Gives a before after s → Gives b before after s
given_as before after a b s e g = subst (λ (r : Reply). Gives r before after s) e g

one_of : (before after : Seen) (a b : Reply) (s : Status) → (a ≡ b) ⊎ (a ≡ memory_reply) → Gives a before after s → GivesUnlessMemory b before after s
one_of before after a b s (inl e) g = inl (given_as before after a b s e g)
one_of before after a b s (inr e) g = inr (given_as before after a memory_reply s e g)

-- No output fails where no count rises.
pub not_cut : {P : Type 0} (before after : Seen) (r : Reply) (s : Status) → Cuts r before after s → IsQuiet before after → P
not_cut before after r s (IsCut.at_output is rose some none) quiet = absurd (quiet.out rose)
not_cut before after r s (IsCut.at_line is all rose some) quiet = absurd (quiet.err rose)

pub cut_is : (before after : Seen) (r : Reply) (s : Status) → Cuts r before after s → s ≡ statuses.WriteFault
cut_is before after r s (IsCut.at_output is rose some none) = is
cut_is before after r s (IsCut.at_line is all rose some) = is

abbrev Del : Reply → Seen → Seen → Status → Type 0
Del a before after s = IsDelivered a before.out after.out before.err after.err s

quietly : (before after : Seen) (a b : Reply) (s : Status) → Del a before after s → IsQuiet before after → (a ≡ b) ⊎ (a ≡ memory_reply) → GivesUnlessMemory b before after s
quietly before after a b s (inl g) quiet e = one_of before after a b s e g
quietly before after a b s (inr cut) quiet e = not_cut before after a s cut quiet

some_given : (job : Job) (P : Reply → Type 0) (before after : Seen) (a : Reply) (s : Status) → P a ⊎ RunsOut job before after a → Gives a before after s → GivesSome job P before after s
some_given job P before after a s (inl is) g = inl (a, is, g)
some_given job P before after a s (inr out) g = inr (a, out, g)

some_quietly : (job : Job) (P : Reply → Type 0) (before after : Seen) (a : Reply) (s : Status) → Del a before after s → IsQuiet before after → P a ⊎ RunsOut job before after a → GivesSome job P before after s
some_quietly job P before after a s (inl g) quiet is = some_given job P before after a s is g
some_quietly job P before after a s (inr cut) quiet is = not_cut before after a s cut quiet

-- ---- each status, with what it says

-- the status of a reply that was given is that of the reply
pub not_of : {P : Type 0} (s : Status) (a : Reply) → s ≡ a.status → IsOfReply a.status → (IsOfReply s → ⊥) → P
not_of s a e is not = absurd (not (subst IsOfReply (sym e) is))

unread_is : (s : Status) (a : Reply) → s ≡ a.status → a ≡ unread_reply → s ≡ statuses.ReadFault
unread_is s a e is = e ∙ ap (λ (x : Reply). x.status) is

memory_is : (job : Job) (before after : Seen) (s : Status) (a : Reply) → s ≡ a.status → RunsOut job before after a → s ≡ statuses.Memory
memory_is job before after s a e out = e ∙ out_status job before after a out

named_by : (job : Job) (bytes : List ℕ) (before after : Seen) (a : Reply) → IsSource before.store.files job.file bytes → after.store.read_faults ≡ before.store.read_faults → IsLeft before.store.files (drop (most_read job.kind) bytes) after.store.rest → JobReply job bytes a → Replies job before after a
named_by job bytes before after a source reads left is_reply = record { bytes = bytes; source = source; reads = reads; left = left; is = is_reply }

ended_replied : (job : Job) (before after : Seen) (a : Reply) (s : Status) → Comes job before after a → Del a before after s → IsOfReply s → (reply : Reply) × Replies job before after reply × Gives reply before after s
ended_replied job before after a s comes (inr cut) of = absurd (subst IsOfReply (cut_is before after a s cut) of)
ended_replied job before after a s (Comes.to_bytes bytes source reads left is_reply) (inl g) of = (a, named_by job bytes before after a source reads left is_reply, g)
ended_replied job before after a s (Comes.unread u e) (inl g) of = absurd (subst IsOfReply (unread_is s a g.status e) of)
ended_replied job before after a s (Comes.no_memory reads out) (inl g) of = absurd (subst IsOfReply (memory_is job before after s a g.status out) of)

ended_unread : (job : Job) (before after : Seen) (a : Reply) (s : Status) → Comes job before after a → Del a before after s → s ≡ statuses.ReadFault → IsUnread job.file before after × Gives unread_reply before after s
ended_unread job before after a s comes (inr cut) e = let is = cut_is before after a s cut in absurd (cc)
ended_unread job before after a s (Comes.to_bytes bytes source reads left is_reply) (inl g) e = not_of s a g.status (job_status job bytes a is_reply) (λ of. absurd (subst IsOfReply e of))
ended_unread job before after a s (Comes.unread u is) (inl g) e = (u, given_as before after a unread_reply s is g)
ended_unread job before after a s (Comes.no_memory reads is) (inl g) e = let m = memory_is job before after s a g.status is in absurd (cc)

may : (job : Job) (before after : Seen) (a : Reply) → Comes job before after a → MayReply job before after a
may job before after a (Comes.to_bytes bytes source reads left is_reply) = MayReply.to_bytes (named_by job bytes before after a source reads left is_reply)
may job before after a (Comes.unread u e) = MayReply.unread u e
may job before after a (Comes.no_memory reads out) = MayReply.no_memory out

ended_cut : (job : Job) (before after : Seen) (a : Reply) (s : Status) → Comes job before after a → Del a before after s → s ≡ statuses.WriteFault → (reply : Reply) × MayReply job before after reply × Cuts reply before after s
ended_cut job before after a s comes (inr cut) e = (a, may job before after a comes, cut)
ended_cut job before after a s (Comes.to_bytes bytes source reads left is_reply) (inl g) e = not_of s a g.status (job_status job bytes a is_reply) (λ of. absurd (subst IsOfReply e of))
ended_cut job before after a s (Comes.unread u is) (inl g) e = let m = unread_is s a g.status is in absurd (cc)
ended_cut job before after a s (Comes.no_memory reads is) (inl g) e = let m = memory_is job before after s a g.status is in absurd (cc)

ended_memory : (job : Job) (before after : Seen) (a : Reply) (s : Status) → Comes job before after a → Del a before after s → s ≡ statuses.Memory → ((reply : Reply) × RunsOut job before after reply × Gives reply before after s) × (after.store.read_faults ≡ before.store.read_faults)
ended_memory job before after a s comes (inr cut) e = let is = cut_is before after a s cut in absurd (cc)
ended_memory job before after a s (Comes.to_bytes bytes source reads left is_reply) (inl g) e = not_of s a g.status (job_status job bytes a is_reply) (λ of. absurd (subst IsOfReply e of))
ended_memory job before after a s (Comes.unread u is) (inl g) e = let m = unread_is s a g.status is in absurd (cc)
ended_memory job before after a s (Comes.no_memory reads out) (inl g) e = ((a, out, g), reads)

not_usage : (job : Job) (before after : Seen) (a : Reply) (s : Status) → Comes job before after a → Del a before after s → s ≢ statuses.Usage
not_usage job before after a s comes (inr cut) e = let is = cut_is before after a s cut in absurd (cc)
not_usage job before after a s (Comes.to_bytes bytes source reads left is_reply) (inl g) e = not_of s a g.status (job_status job bytes a is_reply) (λ of. absurd (subst IsOfReply e of))
not_usage job before after a s (Comes.unread u is) (inl g) e = let m = unread_is s a g.status is in absurd (cc)
not_usage job before after a s (Comes.no_memory reads is) (inl g) e = let m = memory_is job before after s a g.status is in absurd (cc)

-- No count of an output falls.
pub out_later : (before after : Seen) (r : Reply) (s : Status) → Del r before after s → before.out.faults ≤ after.out.faults
out_later before after r s (inl g) = let same = g.output.faults in omega arith
out_later before after r s (inr (IsCut.at_output is rose some none)) = some.later
out_later before after r s (inr (IsCut.at_line is all rose some)) = let same = all.faults in omega arith

pub err_later : (before after : Seen) (r : Reply) (s : Status) → Del r before after s → before.err.faults ≤ after.err.faults
err_later before after r s (inl g) = let same = g.line.faults in omega arith
err_later before after r s (inr (IsCut.at_output is rose some none)) = let same : after.err.faults ≡ before.err.faults = ap (λ (k : SinkSeen). k.faults) none in omega arith
err_later before after r s (inr (IsCut.at_line is all rose some)) = some.later

-- ---- the files

-- the jobs that change none
abbrev pub SavesNothing : JobKind → Type 0
SavesNothing kinds.Build = ⊥
SavesNothing other = Unit {0}

pub keeps : (kind known : JobKind) → kind ≡ known → SavesNothing known → kind ≡ kinds.Build → ⊥
keeps kind known is nothing b = subst SavesNothing (sym is ∙ b) nothing

-- Nothing was saved, and `build` isn't done.
kept_by : (kind : JobKind) (job : Job) (before after : Seen) (s : Status) → (kind ≡ kinds.Build → s ≢ statuses.Done) → after.store.files ≡ before.store.files → after.store.save_faults ≡ before.store.save_faults → StoresBy kind job before after s
kept_by (kinds.OnSource kind) job before after s undone files saves = record { files = files; saves = saves }
kept_by kinds.Run job before after s undone files saves = record { files = files; saves = saves }
kept_by kinds.Mean job before after s undone files saves = record { files = files; saves = saves }
kept_by kinds.Exec job before after s undone files saves = record { files = files; saves = saves }
kept_by kinds.Build job before after s undone files saves = record { done = λ e. absurd (undone refl e); kept = λ e. files; saves = λ e. saves }

-- ---- what the job does

pub stores_does : (job : Job) (before after : Seen) (a : Reply) (s : Status) → Comes job before after a → Del a before after s → StoresBy job.kind job before after s → before.store.save_faults ≤ after.store.save_faults
    → before.store.read_faults ≤ after.store.read_faults → Does job before after s
stores_does job before after a s comes del stores saves_later later = record {
  replied = ended_replied job before after a s comes del;
  read_fault = ended_unread job before after a s comes del;
  write_fault = λ e. inl (ended_cut job before after a s comes del e);
  memory = ended_memory job before after a s comes del;
  usage = not_usage job before after a s comes del;
  exactly = λ told there quiet. some_quietly job (JobReply job told) before after a s del quiet (settled job before after a comes told there quiet);
  missing = λ lacks quiet. quietly before after a unread_reply s del quiet (lacking job before after a comes lacks);
  stores = stores;
  saves_later = saves_later;
  reads_later = later;
  out_later = out_later before after a s del;
  err_later = err_later before after a s del;
}

pub does : (job : Job) (before after : Seen) (a : Reply) (s : Status) → Comes job before after a → Del a before after s → (job.kind ≡ kinds.Build → s ≢ statuses.Done)
    → after.store.files ≡ before.store.files → after.store.save_faults ≡ before.store.save_faults → before.store.read_faults ≤ after.store.read_faults → Does job before after s
does job before after a s comes del undone files saves later =
    stores_does job before after a s comes del (kept_by job.kind job before after s undone files saves) (omega (arith, saves)) later

-- `out` failed behind what was begun.
pub broken_does : (job : Job) (before after : Seen) (output : List ℕ) (s : Status) → IsBegun job before after output → Cuts (output_reply output) before after s → (job.kind ≡ kinds.Build → s ≢ statuses.Done)
    → after.store.files ≡ before.store.files → after.store.save_faults ≡ before.store.save_faults → before.store.read_faults ≤ after.store.read_faults → Does job before after s
broken_does job before after output s begun cut undone files saves later =
    let is : s ≡ statuses.WriteFault = cut_is before after (output_reply output) s cut in
    record {
      replied = λ of. absurd (subst IsOfReply is of);
      read_fault = λ e. absurd (cc);
      write_fault = λ e. inl (output_reply output, MayReply.begun output begun refl, cut);
      memory = λ e. absurd (cc);
      usage = λ e. absurd (cc);
      exactly = λ told there quiet. not_cut before after (output_reply output) s cut quiet;
      missing = λ lacks quiet. not_cut before after (output_reply output) s cut quiet;
      stores = kept_by job.kind job before after s undone files saves;
      saves_later = omega (arith, saves);
      reads_later = later;
      out_later = out_later before after (output_reply output) s (inr cut);
      err_later = err_later before after (output_reply output) s (inr cut);
    }

-- `build` couldn't save.
pub unsaved_does : (job : Job) (before after : Seen) (s : Status) → IsUnsaved job before after → s ≡ statuses.WriteFault → after.store.files ≡ before.store.files → before.store.save_faults ≤ after.store.save_faults
    → before.store.read_faults ≤ after.store.read_faults → Does job before after s
unsaved_does job before after s unsaved is files saves_later later = record {
  replied = λ of. absurd (subst IsOfReply is of);
  read_fault = λ e. absurd (cc);
  write_fault = λ e. inr unsaved;
  memory = λ e. absurd (cc);
  usage = λ e. absurd (cc);
  exactly = λ told there quiet. absurd (quiet.saves unsaved.rose);
  missing = λ lacks quiet. absurd (quiet.saves unsaved.rose);
  stores = subst (λ (k : JobKind). StoresBy k job before after s) (sym unsaved.kind) (record { done = λ e. absurd (cc); kept = λ e. files; saves = λ e. absurd (e is) });
  saves_later = saves_later;
  reads_later = later;
  out_later = let same : after.out.faults ≡ before.out.faults = ap (λ (k : SinkSeen). k.faults) unsaved.out in omega arith;
  err_later = let same : after.err.faults ≡ before.err.faults = ap (λ (k : SinkSeen). k.faults) unsaved.err in omega arith;
}
