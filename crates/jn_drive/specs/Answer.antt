-- What a job comes to before anything is put: its output, or why there is none.
use Rattle.std.specs.Prelude.{◌≡◌, ℕ, ◌⊎◌, List, drop, ⊤, Result, Ok, Err, None}
use Rattle.std.specs.declared.option.Option.{Option}
use Rattle.jn_base.specs.declared.tree.Program.{Program}
use Rattle.jn_base.specs.declared.refusal.Refusal.{Refusal}
use Rattle.jn_base.specs.declared.refusal.Rule.TheVariants.{E02}
use Rattle.jn_base.specs.Spelling.{refusal}
use Rattle.jn_io.specs.Causes.{Rose}
use Rattle.jn_io.specs.Told.{Files, Lacks}
use Rattle.jn_parser.specs.declared.fault.ParseFault.{ParseFault}
use Rattle.jn_parser.specs.declared.fault.ParseFault.TheVariants as parse_fault
use Rattle.jn_drive.specs.declared.halt.Halt.{Halt}
use Rattle.jn_drive.specs.declared.halt.Halt.TheVariants as halt
use Rattle.jn_drive.specs.declared.status.Status.TheVariants as statuses
use Rattle.jn_drive.specs.declared.words.SourceJob.{SourceJob}
use Rattle.jn_drive.specs.Reply.{Reply, told, refused_reply, unread_reply, memory_reply, output_reply, TreeReply, SourceReply}
use Rattle.jn_drive.specs.Seen.{IsSource, IsLeft}
use Rattle.jn_words.specs.Line.{line_of}

abbrev pub Answer : Type 0
Answer = Result (List ℕ) Halt

abbrev pub halt_reply : Halt → Reply
halt_reply (halt.Refused line) = refused_reply line
halt_reply (halt.BadImage line) = told statuses.BadImage line
halt_reply halt.Unread = unread_reply
halt_reply halt.Memory = memory_reply

abbrev pub reply_of : Answer → Reply
reply_of (Ok output) = output_reply output
reply_of (Err h) = halt_reply h

-- The answer is a reply to these bytes, or memory ran out.
abbrev pub Judges : SourceJob → List ℕ → Answer → Type 0
Judges kind bytes (Err halt.Unread) = ⊥
Judges kind bytes (Err halt.Memory) = ⊤
Judges kind bytes answer = SourceReply kind bytes (reply_of answer)

-- The answer is that to this tree, or memory ran out.
abbrev pub AnswersTree : Program → SourceJob → Answer → Type 0
AnswersTree p kind (Err halt.Unread) = ⊥
AnswersTree p kind (Err halt.Memory) = ⊤
AnswersTree p kind answer = TreeReply p kind (reply_of answer)

abbrev pub too_long_refusal : Refusal
too_long_refusal = refusal E02 (record { line = 1; column = 1 }) None

-- The source is refused with the line of this refusal, or memory ran out. Of a program the line tells names.
abbrev pub IsRefusedBy : Option Program → Refusal → Halt → Type 0
IsRefusedBy p r (halt.Refused line) = line ≡ line_of p r
IsRefusedBy p r halt.Memory = ⊤
IsRefusedBy p r _ = ⊥

-- What the parser's fault comes to.
abbrev pub IsOfFault : ParseFault → Halt → Type 0
IsOfFault (parse_fault.Refused r) h = IsRefusedBy None r h
IsOfFault parse_fault.Memory h = h ≡ halt.Memory

-- The answer is that to the bytes of the file, which were read without a fault, and no more than `most` of them; or the
-- file couldn't be read, or memory ran out.
abbrev pub Answers : SourceJob → ℕ → Option Files → List ℕ → Option (List ℕ) → ℕ → ℕ → Answer → Type 0
Answers kind most files file rest' faults faults' (Err halt.Unread) = Rose faults faults' ⊎ Lacks files file
Answers kind most files file rest' faults faults' (Err halt.Memory) = faults' ≡ faults
Answers kind most files file rest' faults faults' answer =
    (faults' ≡ faults) × ((bytes : List ℕ) × IsSource files file bytes × IsLeft files (drop most bytes) rest' × SourceReply kind bytes (reply_of answer))
