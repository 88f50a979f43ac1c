-- The job of the words by their parser, and what is done where they are none that there is.
use Rattle.std.proofs.Common.{◌≡◌, ◌≢◌, ◌∙◌, ℕ, inl, inr, List, sym, ap, append-nil, refl, Some, None, arith}
use Rattle.std.specs.Prelude.{option_map}
use Rattle.std.specs.declared.option.Option.{Option}
use Rattle.std.specs.Prelude.{[]}
use Rattle.std.specs.Io.KnownBytes.{append_known}
use Rattle.jn_jobs.specs.Jobs as words
use Rattle.jn_drive.specs.declared.status.Status.{Status}
use Rattle.jn_drive.specs.declared.status.Status.TheVariants as statuses
use Rattle.jn_drive.specs.declared.words.JobKind.{JobKind}
use Rattle.jn_drive.specs.Reply.{told, memory_reply}
use Rattle.jn_drive.specs.Seen.{Seen, SinkSeen, TookAll, IsPut, IsCut, IsDelivered}
use Rattle.jn_drive.specs.Words.{Task, kind_here, with_kind, with_number, task_by, here, job_of}
use Rattle.jn_drive.specs.Job.{DoesJob, Misused}
use Rattle.jn_drive.proofs.BigRuns.{big_does}
use Rattle.jn_drive.proofs.Running.{Comes, does, ran_out}

-- ---- the job of the words

pub job_named : (ws : List (List ℕ)) (j : words.Job) (kind : JobKind) → words.job_of ws ≡ Some j → Some kind ≡ kind_here j.kind → job_of ws ≡ Some (Task.on_file (with_kind j kind))
job_named ws j kind is known = ap (option_map here) is ∙ ap (λ (k : Option JobKind). Some (task_by j k)) (sym known)

pub number_named : (ws : List (List ℕ)) (j : words.Job) → words.job_of ws ≡ Some j → None ≡ kind_here j.kind → job_of ws ≡ Some (Task.on_number (with_number j))
number_named ws j is none = ap (option_map here) is ∙ ap (λ (k : Option JobKind). Some (task_by j k)) (sym none)

-- ---- what is put on `err` alone

append_nothing : (k : Option (List ℕ)) → k ≡ append_known k []
append_nothing None = refl
append_nothing (Some xs) = ap (λ (ys : List ℕ). Some ys) (sym (append-nil xs))

nothing_put : (k : SinkSeen) → TookAll k k []
nothing_put k = record { taken = append_nothing k.taken; faults = refl }

line_put : (wanted : Status) (line : List ℕ) (before : Seen) (err : SinkSeen) (s : Status) → IsPut wanted line before.err err s → IsDelivered (told wanted line) before.out before.out before.err err s
line_put wanted line before err s (IsPut.whole is all) = inl (record { status = is; output = nothing_put before.out; line = all })
line_put wanted line before err s (IsPut.cut is rose some) = inr (IsCut.at_line is (nothing_put before.out) rose some)

abbrev pub with_err : Seen → SinkSeen → Seen
with_err before err = record { store = before.store; out = before.out; err = err }

memory_told : (before : Seen) (err : SinkSeen) (s : Status) → IsPut statuses.Memory memory_reply.line before.err err s → Misused before (with_err before err) s
memory_told before err s (IsPut.whole is all) = record {
  usage = λ e. absurd (cc);
  memory = λ e. record { status = is; output = nothing_put before.out; line = all };
  exactly = λ quiet. inr (record { status = is; output = nothing_put before.out; line = all });
  write_fault = λ not_usage not_memory. absurd (not_memory is);
  store = refl;
  out = refl;
  err_later = let same = all.faults in omega arith;
}
memory_told before err s (IsPut.cut is rose some) = record {
  usage = λ e. absurd (cc);
  memory = λ e. absurd (cc);
  exactly = λ quiet. absurd (quiet rose);
  write_fault = λ not_usage not_memory. inr (IsCut.at_line is (nothing_put before.out) rose some);
  store = refl;
  out = refl;
  err_later = some.later;
}

-- ---- what the words come to

memory_undone : (before : Seen) (err : SinkSeen) (s : Status) → IsPut statuses.Memory memory_reply.line before.err err s → s ≢ statuses.Done
memory_undone before err s (IsPut.whole is all) e = absurd (cc)
memory_undone before err s (IsPut.cut is rose some) e = absurd (cc)

-- There was no memory to read the words.
pub words_unread : (task : Option Task) (before : Seen) (err : SinkSeen) (s : Status) → IsPut statuses.Memory memory_reply.line before.err err s → DoesJob task before (with_err before err) s
words_unread None before err s put = memory_told before err s put
words_unread (Some (Task.on_number job)) before err s put =
    big_does job before (with_err before err) s memory_reply (inr refl) (line_put statuses.Memory memory_reply.line before err s put) refl
words_unread (Some (Task.on_file job)) before err s put =
    does job before (with_err before err) memory_reply s (Comes.no_memory refl (ran_out job before (with_err before err))) (line_put statuses.Memory memory_reply.line before err s put) (λ b. memory_undone before err s put) refl refl (omega arith)
