-- What jobs on sources and on images reply, and runs.
use Rattle.std.proofs.Common.{◌≡◌, ◌≢◌, ◌∙◌, ℕ, List, drop, take, sym, ap, subst, refl, Result, Ok, Err, ◌<◌, true}
use Rattle.std.specs.declared.option.Option.{Option}
use Rattle.jn_io.specs.Told.{Files}
use Rattle.jn_code.specs.declared.image.Image.{Image}
use Rattle.jn_code.specs.declared.fault.ImageFault.{ImageFault}
use Rattle.jn_code.specs.declared.fault.ImageFault.TheVariants as fault
use Rattle.jn_code.specs.Machine.{mach}
use Rattle.jn_code.specs.Valid.{IsValid}
use Rattle.jn_exec.specs.Images.{valid_image_of, IsFaultOf, IsMachineFor}
use Rattle.jn_exec.proofs.ImageLaws.{front_enough, is_valid}
use Rattle.jn_machine.specs.Machines.{MachineState}
use Rattle.jn_drive.specs.declared.halt.Halt.{Halt}
use Rattle.jn_drive.specs.declared.halt.Halt.TheVariants as halt
use Rattle.jn_drive.specs.declared.status.Status.TheVariants as statuses
use Rattle.jn_drive.specs.declared.words.JobKind.{JobKind}
use Rattle.jn_drive.specs.declared.words.JobKind.TheVariants as kinds
use Rattle.jn_drive.specs.declared.words.SourceJob.{SourceJob}
use Rattle.jn_drive.specs.Words.{Job}
use Rattle.jn_drive.specs.Reading.{most_read, ReadsFile}
use Rattle.jn_drive.specs.Reply.{Reply, told, JobReply, ReplyBy, SourceReply, SourceRunReply, ImageReply, RunReply}
use Rattle.jn_drive.specs.Seen.{Seen, IsSource, IsLeft}
use Rattle.jn_drive.specs.Answer.{Answer, Answers, reply_of}
use Rattle.jn_drive.specs.Exec.{HasRead, Loads, IsBadImage}
use Rattle.jn_agree.specs.Agrees.{InRange}
use Rattle.jn_drive.specs.Built.{Makes, IsMachineOf}
use Rattle.jn_drive.proofs.Agreeing.{tells_run, right_image}
use Rattle.jn_drive.proofs.Running.{Comes, ran_out}

-- ---- sources

of_source : (kind : JobKind) (source : SourceJob) (job : Job) (bytes : List ℕ) (a : Reply) → kind ≡ kinds.OnSource source → SourceReply source bytes a → ReplyBy kind job bytes a
of_source kind source job bytes a is only = subst (λ (k : JobKind). ReplyBy k job bytes a) (sym is) only

most_of_source : (kind : JobKind) (source : SourceJob) → kind ≡ kinds.OnSource source → most_read kind ≡ 1048577
most_of_source kind source is = ap most_read is

left_of : (files : Option Files) (bytes : List ℕ) (rest' : Option (List ℕ)) (m n : ℕ) → m ≡ n → IsLeft files (drop n bytes) rest' → IsLeft files (drop m bytes) rest'
left_of files bytes rest' m n is left = subst (λ (k : ℕ). IsLeft files (drop k bytes) rest') (sym is) left

source_bytes : (job : Job) (source : SourceJob) (before after : Seen) (a : Reply) → job.kind ≡ kinds.OnSource source → after.store.read_faults ≡ before.store.read_faults
    → ((bytes : List ℕ) × IsSource before.store.files job.file bytes × IsLeft before.store.files (drop 1048577 bytes) after.store.rest × SourceReply source bytes a) → Comes job before after a
source_bytes job source before after a is reads (bytes, there, left, only) =
    Comes.to_bytes bytes there reads (left_of before.store.files bytes after.store.rest (most_read job.kind) 1048577 (most_of_source job.kind source is) left) (of_source job.kind source job bytes a is only)

pub source_comes : (job : Job) (source : SourceJob) (before after : Seen) (a : Answer) → job.kind ≡ kinds.OnSource source
    → Answers source 1048577 before.store.files job.file after.store.rest before.store.read_faults after.store.read_faults a → Comes job before after (reply_of a)
source_comes job source before after (Ok output) is (reads, more) = source_bytes job source before after _ is reads more
source_comes job source before after (Err (halt.Refused line)) is (reads, more) = source_bytes job source before after _ is reads more
source_comes job source before after (Err (halt.BadImage line)) is (reads, more) = source_bytes job source before after _ is reads more
source_comes job source before after (Err halt.Unread) is ans = Comes.unread ans refl
source_comes job source before after (Err halt.Memory) is ans = Comes.no_memory ans (ran_out job before after)

-- ---- images

image_reply : (job : Job) (bytes : List ℕ) (a : Reply) → job.kind ≡ kinds.Exec → ImageReply job (valid_image_of bytes) a → JobReply job bytes a
image_reply job bytes a is x = subst (λ (k : JobKind). ReplyBy k job bytes a) (sym is) x

has_read : (job : Job) (before after : Seen) (bytes : List ℕ) (a : Reply) → job.kind ≡ kinds.Exec → HasRead job before.store.files after.store.rest before.store.read_faults after.store.read_faults bytes → ImageReply job (valid_image_of bytes) a → Comes job before after a
has_read job before after bytes a is read x = Comes.to_bytes bytes read.source read.reads read.left (image_reply job bytes a is x)

-- what is wrong with an image, or why there is none
pub no_machine : (job : Job) (before after : Seen) (h : Halt) → job.kind ≡ kinds.Exec → Loads job before.store.files after.store.rest before.store.read_faults after.store.read_faults (Err h) → Comes job before after (reply_of (Err h))
no_machine job before after (halt.BadImage line) is (bytes, read, (f, found, shown)) =
    has_read job before after bytes _ is read (subst (λ (r : Result Image ImageFault). ImageReply job r (told statuses.BadImage line)) (sym found) (ap (told statuses.BadImage) shown))
no_machine job before after halt.Unread is loads = Comes.unread loads refl
no_machine job before after halt.Memory is loads = Comes.no_memory loads (ran_out job before after)
no_machine job before after (halt.Refused line) is loads = absurd loads

-- the run of the image
pub machine_runs : (job : Job) (before after : Seen) (m : MachineState) (a : Reply) → job.kind ≡ kinds.Exec → Loads job before.store.files after.store.rest before.store.read_faults after.store.read_faults (Ok m)
    → RunReply (mach m.image m.arena m.depth job.steps) a → Comes job before after a
machine_runs job before after m a is (bytes, read, for) run =
    let bounds : RunReply (mach m.image job.arena job.depth job.steps) a
    = subst (λ (n : ℕ). RunReply (mach m.image n job.depth job.steps) a) for.arena_is (subst (λ (d : ℕ). RunReply (mach m.image m.arena d job.steps) a) for.depth_is run) in
    has_read job before after bytes a is read (subst (λ (r : Result Image ImageFault). ImageReply job r a) (sym for.image) bounds)

-- ---- loading

fault_is : (bytes : List ℕ) (f : ImageFault) → IsFaultOf bytes f → f ≢ fault.Memory → valid_image_of bytes ≡ Err f
fault_is bytes fault.Memory is not = absurd (not refl)
fault_is bytes fault.BadMagic is not = is
fault_is bytes (fault.Short at) is not = is
fault_is bytes (fault.BadField at which) is not = is
fault_is bytes (fault.Trailing at) is not = is
fault_is bytes fault.TooLong is not = is
fault_is bytes (fault.BadCode k n why) is not = is
fault_is bytes (fault.BadRow k why) is not = is

front_same : (bytes front : List ℕ) → front ≡ take 134217729 bytes → valid_image_of front ≡ valid_image_of bytes
front_same bytes front is = ap valid_image_of is ∙ front_enough bytes

all_read : (job : Job) (files : Option Files) (bytes : List ℕ) (rest' : Option (List ℕ)) (f f' : ℕ) → job.kind ≡ kinds.Exec → IsSource files job.file bytes → IsLeft files (drop 134217729 bytes) rest' → f' ≡ f → HasRead job files rest' f f' bytes
all_read job files bytes rest' f f' is source left same = record {
  source = source;
  reads = same;
  left = left_of files bytes rest' (most_read job.kind) 134217729 (ap most_read is) left;
}

pub machine_loaded : (job : Job) (files : Option Files) (front : List ℕ) (rest' : Option (List ℕ)) (f f' : ℕ) (m : MachineState) → job.kind ≡ kinds.Exec → ReadsFile 134217729 files job.file rest' f f' (Ok front) → IsMachineFor front job.arena job.depth m
    → Loads job files rest' f f' (Ok m)
machine_loaded job files front rest' f f' m is (same, (bytes, source, part, left)) for = (
  bytes,
  all_read job files bytes rest' f f' is source left same,
  record {
    image = sym (front_same bytes front part) ∙ for.image;
    arena_is = for.arena_is;
    depth_is = for.depth_is;
    fresh = for.fresh;
  },
)

pub fault_loaded : (job : Job) (files : Option Files) (front : List ℕ) (rest' : Option (List ℕ)) (f f' : ℕ) (e : ImageFault) (h : Halt) → job.kind ≡ kinds.Exec → ReadsFile 134217729 files job.file rest' f f' (Ok front) → IsFaultOf front e → IsBadImage e h
    → Loads job files rest' f f' (Err h)
fault_loaded job files front rest' f f' e (halt.BadImage line) is (same, (bytes, source, part, left)) of bad =
    (bytes, all_read job files bytes rest' f f' is source left same, (e, sym (front_same bytes front part) ∙ fault_is front e of bad.1, bad.0))
fault_loaded job files front rest' f f' e halt.Memory is read of bad = read.0
fault_loaded job files front rest' f f' e halt.Unread is read of bad = absurd bad
fault_loaded job files front rest' f f' e (halt.Refused line) is read of bad = absurd bad

-- what the machine that was loaded is
pub is_fresh : (job : Job) (files : Option Files) (rest' : Option (List ℕ)) (f f' : ℕ) (m : MachineState) → Loads job files rest' f f' (Ok m) → m.fresh ≡ true
is_fresh job files rest' f f' m loads = loads.2.fresh

pub is_sound : (job : Job) (files : Option Files) (rest' : Option (List ℕ)) (f f' : ℕ) (m : MachineState) → Loads job files rest' f f' (Ok m) → IsValid m.image
is_sound job files rest' f f' m loads = is_valid loads.0 m.image loads.2.image

pub is_small : (job : Job) (files : Option Files) (rest' : Option (List ℕ)) (f f' : ℕ) (m : MachineState) → job.arena < 4294967296 → Loads job files rest' f f' (Ok m) → m.arena < 4294967296
is_small job files rest' f f' m small loads = subst (λ (n : ℕ). n < 4294967296) (sym loads.2.arena_is) small

-- ---- runs of sources

run_reply : (job : Job) (bytes : List ℕ) (a : Reply) → job.kind ≡ kinds.Run → SourceRunReply job bytes a → JobReply job bytes a
run_reply job bytes a is x = subst (λ (k : JobKind). ReplyBy k job bytes a) (sym is) x

run_read : (job : Job) (before after : Seen) (bytes : List ℕ) (a : Reply) → job.kind ≡ kinds.Run → HasRead job before.store.files after.store.rest before.store.read_faults after.store.read_faults bytes → SourceRunReply job bytes a → Comes job before after a
run_read job before after bytes a is read x = Comes.to_bytes bytes read.source read.reads read.left (run_reply job bytes a is x)

-- the line of the refusal, or why nothing runs
pub nothing_runs : (job : Job) (before after : Seen) (h : Halt) → job.kind ≡ kinds.Run → Makes job before.store.files after.store.rest before.store.read_faults after.store.read_faults (Err h) → Comes job before after (reply_of (Err h))
nothing_runs job before after (halt.Refused line) is (bytes, read, by) = run_read job before after bytes _ is read (SourceRunReply.refused line by refl)
nothing_runs job before after (halt.BadImage line) is makes = absurd makes
nothing_runs job before after halt.Unread is makes = Comes.unread makes refl
nothing_runs job before after halt.Memory is makes = Comes.no_memory makes (ran_out job before after)

told_run : (job : Job) (bytes : List ℕ) (m : MachineState) (a : Reply) → InRange job.arena job.depth → IsMachineOf bytes job.arena job.depth m → RunReply (mach m.image m.arena m.depth job.steps) a → SourceRunReply job bytes a
told_run job bytes m a range of run =
    let bounds : RunReply (mach m.image job.arena job.depth job.steps) a
    = subst (λ (n : ℕ). RunReply (mach m.image n job.depth job.steps) a) of.arena_is (subst (λ (d : ℕ). RunReply (mach m.image m.arena d job.steps) a) of.depth_is run) in
    SourceRunReply.ran of.program of.text of.passes (tells_run of.program m.image (right_image of.program m.image of.image) job.arena job.depth job.steps range a bounds)

-- the run of the program
pub program_runs : (job : Job) (before after : Seen) (m : MachineState) (a : Reply) → job.kind ≡ kinds.Run → InRange job.arena job.depth → Makes job before.store.files after.store.rest before.store.read_faults after.store.read_faults (Ok m)
    → RunReply (mach m.image m.arena m.depth job.steps) a → Comes job before after a
program_runs job before after m a is range (bytes, read, of) run = run_read job before after bytes a is read (told_run job bytes m a range of run)

-- what the machine that was made is
pub made_fresh : (job : Job) (files : Option Files) (rest' : Option (List ℕ)) (f f' : ℕ) (m : MachineState) → Makes job files rest' f f' (Ok m) → m.fresh ≡ true
made_fresh job files rest' f f' m makes = makes.2.fresh

pub made_sound : (job : Job) (files : Option Files) (rest' : Option (List ℕ)) (f f' : ℕ) (m : MachineState) → Makes job files rest' f f' (Ok m) → IsValid m.image
made_sound job files rest' f f' m makes = makes.2.image.valid

pub made_small : (job : Job) (files : Option Files) (rest' : Option (List ℕ)) (f f' : ℕ) (m : MachineState) → job.arena < 4294967296 → Makes job files rest' f f' (Ok m) → m.arena < 4294967296
made_small job files rest' f f' m small makes = subst (λ (n : ℕ). n < 4294967296) (sym makes.2.arena_is) small
