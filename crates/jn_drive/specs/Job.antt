-- What a call of `top` does, job by job: the cause of each status, and what the files and the outputs
-- then are.
use Rattle.std.specs.Prelude.{◌≡◌, ◌≢◌, ℕ, ◌≤◌, ◌⊎◌, List, [], drop, ⊤, Some, None}
use Rattle.std.specs.declared.option.Option.{Option}
use Rattle.jn_steps.specs.Laws.{IsPrefix}
use Rattle.jn_io.specs.Causes.{Rose}
use Rattle.jn_io.specs.Told.{Lacks}
use Rattle.jn_drive.specs.declared.status.Status.{Status}
use Rattle.jn_drive.specs.declared.status.Status.TheVariants as statuses
use Rattle.jn_drive.specs.declared.words.JobKind.TheVariants as kinds
use Rattle.jn_drive.specs.Words.{Job, BigJob, Task, on_file, on_number}
use Rattle.jn_drive.specs.Reply.{Reply, JobReply, BigReply, usage_reply, unread_reply, output_reply, memory_reply, out_of_memory}
use Rattle.jn_drive.specs.Seen.{Seen, IsSource, IsToldSource, IsLeft, IsQuiet, IsGiven, IsCut}
use Rattle.jn_drive.specs.Reading.{most_read}
use Rattle.jn_drive.specs.Saved.{StoresBy, IsUnsaved}

-- The reply was given whole, in a call from `before` to `after`.
abbrev pub Gives : Reply → Seen → Seen → Status → Type 0
Gives reply before after s = IsGiven reply before.out after.out before.err after.err s

-- The reply was cut off by a failing output.
abbrev pub Cuts : Reply → Seen → Seen → Status → Type 0
Cuts reply before after s = IsCut reply before.out after.out before.err after.err s

-- The reply was given whole, or that memory ran out was told, with nothing on `out`.
abbrev pub GivesUnlessMemory : Reply → Seen → Seen → Status → Type 0
GivesUnlessMemory reply before after s = Gives reply before after s ⊎ Gives memory_reply before after s

-- A read failed in the call, or the file isn't there.
abbrev pub IsUnread : List ℕ → Seen → Seen → Type 0
IsUnread file before after = Rose before.store.read_faults after.store.read_faults ⊎ Lacks before.store.files file

-- The bytes of the file were read without a fault, and no more of them than the job reads at most; and this is the job's
-- reply to them.
pub record Replies (job : Job) (before after : Seen) (reply : Reply) : Type 0 where
  pub bytes : List ℕ
  pub source : IsSource before.store.files job.file bytes
  pub reads : after.store.read_faults ≡ before.store.read_faults
  pub left : IsLeft before.store.files (drop (most_read job.kind) bytes) after.store.rest
  pub is : JobReply job bytes reply

-- The output is a first part of what the job replies to the bytes of the file, which were read without a fault. (The
-- whole isn't known where the job gave up, but it is not so that there is none.)
pub record IsFront (job : Job) (before after : Seen) (output : List ℕ) : Type 0 where
  pub bytes : List ℕ
  pub source : IsSource before.store.files job.file bytes
  pub reads : after.store.read_faults ≡ before.store.read_faults
  pub left : IsLeft before.store.files (drop (most_read job.kind) bytes) after.store.rest
  pub front : (reply : Reply) → JobReply job bytes reply → IsPrefix output reply.output
  pub there : ((reply : Reply) → JobReply job bytes reply → ⊥) → ⊥

-- What a job had put on `out` where it gave up: nothing; or, in `mean`, a first part of its reply.
pub data IsBegun (job : Job) (before after : Seen) (output : List ℕ) : Type 0 where
  nothing : output ≡ [] → IsBegun job before after output
  front : job.kind ≡ kinds.Mean → IsFront job before after output → IsBegun job before after output

-- Memory ran out behind what was begun.
pub record RunsOut (job : Job) (before after : Seen) (reply : Reply) : Type 0 where
  pub output : List ℕ
  pub begun : IsBegun job before after output
  pub is : reply ≡ out_of_memory output

-- One of these replies was given whole, or that memory ran out was told.
abbrev pub GivesSome : Job → (Reply → Type 0) → Seen → Seen → Status → Type 0
GivesSome job P before after s =
    ((reply : Reply) × P reply × Gives reply before after s)
    ⊎ ((reply : Reply) × RunsOut job before after reply × Gives reply before after s)

-- What the job may have begun to reply: what it replies to the bytes, or a first part of that, or that the file can't be
-- read, or that memory ran out.
pub data MayReply (job : Job) (before after : Seen) (reply : Reply) : Type 0 where
  to_bytes : Replies job before after reply → MayReply job before after reply
  begun : (output : List ℕ) → IsBegun job before after output → reply ≡ output_reply output
      → MayReply job before after reply
  unread : IsUnread job.file before after → reply ≡ unread_reply → MayReply job before after reply
  no_memory : RunsOut job before after reply → MayReply job before after reply

-- The statuses that are replies to the bytes of a file.
abbrev pub IsOfReply : Status → Type 0
IsOfReply statuses.Usage = ⊥
IsOfReply statuses.ReadFault = ⊥
IsOfReply statuses.WriteFault = ⊥
IsOfReply statuses.Memory = ⊥
IsOfReply _ = ⊤

-- A job on a file.
pub record Does (job : Job) (before after : Seen) (s : Status) : Type 0 where
  -- Done, Refused, BadImage, Null, Zero, Arena, Depth, Steps: the reply to the bytes has this status, and was given whole,
  -- its output on `out` and its line on `err`. No count rose.
  pub replied : IsOfReply s → (reply : Reply) × Replies job before after reply × Gives reply before after s
  -- ReadFault: only where a read failed or the file isn't there. `out` took nothing.
  pub read_fault : s ≡ statuses.ReadFault → IsUnread job.file before after × Gives unread_reply before after s
  -- WriteFault: only where an output failed, and both took a prefix of what may be replied; or, in `build`, the save failed.
  pub write_fault : s ≡ statuses.WriteFault
      → ((reply : Reply) × MayReply job before after reply × Cuts reply before after s) ⊎ IsUnsaved job before after
  -- Memory: `out` took nothing, or in `mean` a first part of the reply, and no count rose.
  pub memory : s ≡ statuses.Memory → ((reply : Reply) × RunsOut job before after reply × Gives reply before after s)
      × (after.store.read_faults ≡ before.store.read_faults)
  -- The words are a job.
  pub usage : s ≢ statuses.Usage
  -- Where the bytes are told and no count rises, a reply to them is given, or Memory. Each job but `run` has one reply to
  -- some bytes, so each status comes exactly where it is theirs.
  pub exactly : (bytes : List ℕ) → IsToldSource before.store.files job.file bytes → IsQuiet before after
      → GivesSome job (JobReply job bytes) before after s
  -- Where the told files lack the file and no count rises, it is ReadFault.
  pub missing : Lacks before.store.files job.file → IsQuiet before after → GivesUnlessMemory unread_reply before after s
  -- `build` saves an image where it is Done, and changes no other file; else, and in each other job, no file changes.
  pub stores : StoresBy job.kind job before after s
  -- No count falls.
  pub saves_later : before.store.save_faults ≤ after.store.save_faults
  pub reads_later : before.store.read_faults ≤ after.store.read_faults
  pub out_later : before.out.faults ≤ after.out.faults
  pub err_later : before.err.faults ≤ after.err.faults

-- Words that are no job: neither the store nor `out` is touched.
pub record Misused (before after : Seen) (s : Status) : Type 0 where
  -- Usage: `err` took the line.
  pub usage : s ≡ statuses.Usage → Gives usage_reply before after s
  -- Memory: there was none to read the words, and `err` took the line that tells it.
  pub memory : s ≡ statuses.Memory → Gives memory_reply before after s
  -- Exactly where the count of `err` doesn't rise it is Usage, or Memory.
  pub exactly : (Rose before.err.faults after.err.faults → ⊥) → GivesUnlessMemory usage_reply before after s
  -- Else WriteFault: `err` failed, and took some of the line.
  pub write_fault : s ≢ statuses.Usage → s ≢ statuses.Memory → Cuts usage_reply before after s ⊎ Cuts memory_reply before after s
  pub store : after.store ≡ before.store
  pub out : after.out ≡ before.out
  pub err_later : before.err.faults ≤ after.err.faults

-- The job `big`: the store isn't touched.
pub record DoesBig (job : BigJob) (before after : Seen) (s : Status) : Type 0 where
  -- Done, Refused, Null, Zero, Arena, Depth, Steps: the reply has this status, and was given whole.
  pub replied : IsOfReply s → (reply : Reply) × BigReply job reply × Gives reply before after s
  -- WriteFault: only where an output failed. Both took a prefix of what may be replied.
  pub write_fault : s ≡ statuses.WriteFault
      → (reply : Reply) × (BigReply job reply ⊎ (reply ≡ memory_reply)) × Cuts reply before after s
  -- Memory: `out` took nothing.
  pub memory : s ≡ statuses.Memory → Gives memory_reply before after s
  -- No other status comes.
  pub usage : s ≢ statuses.Usage
  pub read_fault : s ≢ statuses.ReadFault
  -- Where no count rises a reply is given, or Memory.
  pub exactly : IsQuiet before after → ((reply : Reply) × BigReply job reply × Gives reply before after s) ⊎ Gives memory_reply before after s
  pub store : after.store ≡ before.store
  -- No count falls.
  pub out_later : before.out.faults ≤ after.out.faults
  pub err_later : before.err.faults ≤ after.err.faults

-- By the job that the words are.
abbrev pub DoesJob : Option Task → Seen → Seen → Status → Type 0
DoesJob None before after s = Misused before after s
DoesJob (Some (on_file job)) before after s = Does job before after s
DoesJob (Some (on_number job)) before after s = DoesBig job before after s
