-- From the bytes of a source to the machine that runs its program.
use Rattle.std.proofs.Common.{take, drop, ◌≡◌, ◌∙◌, ℕ, ◌≤◌, ◌<◌, inl, inr, List, length, sym, ap, subst, refl, Result, Ok, Err, None, Option, arith, nat_lt, true}
use Rattle.std.proofs.lemmas.List.{take_all}
use Rattle.std.specs.Prelude.{IfOk, IsErrAnd}
use Rattle.std.specs.declared.alloc.AllocError.{AllocError}
use Rattle.jn_reach.specs.Each.{Each}
use Rattle.jn_base.specs.declared.names.Resolved.{Resolved}
use Rattle.jn_agree.specs.Rows.{bodies_of}
use Rattle.jn_rules.specs.Resolved.{IsResolved}
use Rattle.jn_base.specs.declared.tree.Program.{Program}
use Rattle.jn_base.specs.declared.refusal.Refusal.{Refusal}
use Rattle.jn_base.specs.Spelling.{IsTextOf, IsTextRefused, greatest_source}
use Rattle.jn_rules.specs.Verdict.{TreePasses}
use Rattle.jn_check.specs.declared.world.World.{World}
use Rattle.jn_check.specs.Worlds.{IsWorld}
use Rattle.jn_words.specs.Line.{line_of}
use Rattle.jn_io.specs.Told.{Files}
use Rattle.jn_code.specs.declared.image.Image.{Image}
use Rattle.jn_link.specs.Joined.{IsImageOf}
use Rattle.jn_link.specs.Whole.{ImageAsked}
use Rattle.jn_machine.specs.Machines.{MachineState}
use Rattle.jn_drive.specs.declared.halt.Halt.{Halt}
use Rattle.jn_drive.specs.declared.halt.Halt.TheVariants as halt
use Rattle.jn_drive.specs.Words.{Job}
use Rattle.jn_drive.specs.Reading.{ReadsFile, most_read}
use Rattle.jn_drive.specs.declared.words.JobKind.{JobKind}
use Rattle.jn_drive.specs.Reply.{IsRefusalLine}
use Rattle.jn_drive.specs.Seen.{IsLeft}
use Rattle.jn_drive.specs.Answer.{IsRefusedBy, too_long_refusal}
use Rattle.jn_drive.specs.Exec.{HasRead}
use Rattle.jn_drive.specs.Built.{IsTextHalt, IsTreeHalt, Builds, ReadsTo, Makes, Writes}
use Rattle.jn_code.specs.Spells.{Spells}
use Rattle.jn_drive.proofs.Judging.{short_or_long, long_only, front_long}

-- A halt that is handed on.
pub handed : {T : Type 0} (r : Result T Halt) (h : Halt) → IsErrAnd r (λ e. e ≡ h) → (P : Result T Halt → Type 0) → P (Err h) → P r
handed (Ok x) h is P p = absurd is
handed (Err e) h is P p = subst (λ (x : Halt). P (Err x)) (sym is) p

-- ---- text and words

pub refused_by : (bytes : List ℕ) (r : Refusal) (h : Halt) → IsRefusedBy None r h → IsTextRefused bytes r → IsTextHalt bytes h
refused_by bytes r (halt.Refused line) is by = (r, by, is)
refused_by bytes r (halt.BadImage line) is by = absurd is
refused_by bytes r halt.Unread is by = absurd is
refused_by bytes r halt.Memory is by = is

pub long_halts : (bytes : List ℕ) → greatest_source < length bytes → (h : Halt) → IsRefusedBy None too_long_refusal h → IsTextHalt bytes h
long_halts bytes long h is = refused_by bytes too_long_refusal h is (IsTextRefused.too_long long)

-- ---- the image

asked : (p : Program) (bytes : List ℕ) (w : World) (bodies : List Resolved) → bodies ≡ w.bodies.items → IsTextOf p bytes → TreePasses p → IsWorld p w → ImageAsked p bytes w.table w.members w.groups w.slots bodies
asked p bytes w bodies is text passes world = record {
  text = text;
  passes = passes;
  parts = record { filled = world.filled; members = world.members; groups = world.groups; slots = world.slots };
  resolved = subst (Each (IsResolved p) (bodies_of p)) (sym is) world.bodies;
}

-- The image of a world is that of the program.
pub image_told : (p : Program) (w : World) (bodies : List Resolved) (r : Result Image AllocError) → bodies ≡ w.bodies.items → TreePasses p → IsWorld p w
    → IfOk r (λ i. (bytes : List ℕ) → ImageAsked p bytes w.table w.members w.groups w.slots bodies → IsImageOf p i) → IfOk r (λ i. (bytes : List ℕ) → IsTextOf p bytes → IsImageOf p i)
image_told p w bodies (Ok i) is passes world by = λ bytes text. by bytes (asked p bytes w bodies is text passes world)
image_told p w bodies (Err e) is passes world by = tt

pub text_stops : (bytes : List ℕ) (h : Halt) → IsTextHalt bytes h → Builds bytes (Err h)
text_stops bytes (halt.Refused line) (r, by, is) = IsRefusalLine.of_text r by is
text_stops bytes (halt.BadImage line) is = absurd is
text_stops bytes halt.Unread is = absurd is
text_stops bytes halt.Memory is = is

pub tree_stops : (bytes : List ℕ) (p : Program) (h : Halt) → IsTextOf p bytes → IsTreeHalt p h → Builds bytes (Err h)
tree_stops bytes p (halt.Refused line) text (r, by, is) = IsRefusalLine.of_tree p r text by is
tree_stops bytes p (halt.BadImage line) text is = absurd is
tree_stops bytes p halt.Unread text is = absurd is
tree_stops bytes p halt.Memory text is = is

-- ---- the front of a file

-- A front that is no longer than a source is the file.
front_whole : (bytes front : List ℕ) → front ≡ take 1048577 bytes → length front ≤ greatest_source → front ≡ bytes
front_whole bytes front is short = elim (short_or_long (length bytes) (nat_lt greatest_source (length bytes)) refl) [
  | inl all ↦ is ∙ take_all 1048577 bytes (omega (arith, all))
  | inr long ↦ let more : greatest_source < length front = subst (λ (xs : List ℕ). greatest_source < length xs) (sym is) (front_long bytes long) in absurd (omega (arith, short, more))
]

-- What spells a program is no longer than a source.
text_short : (p : Program) (bytes : List ℕ) → IsTextOf p bytes → length bytes ≤ greatest_source
text_short p bytes is = elim (short_or_long (length bytes) (nat_lt greatest_source (length bytes)) refl) [
  | inl short ↦ short
  | inr long ↦ absurd (is.not_refused too_long_refusal (IsTextRefused.too_long long))
]

pub text_of_front : (p : Program) (bytes front : List ℕ) → front ≡ take 1048577 bytes → IsTextOf p front → IsTextOf p bytes
text_of_front p bytes front is text = subst (λ (bs : List ℕ). IsTextOf p bs) (front_whole bytes front is (text_short p front text)) text

-- The line of a source that is too long is that of each other one.
other_line : (bytes front line : List ℕ) → greatest_source < length bytes → greatest_source < length front → IsRefusalLine front line → IsRefusalLine bytes line
other_line bytes front line long long' (IsRefusalLine.of_text r by is) =
    IsRefusalLine.of_text too_long_refusal (IsTextRefused.too_long long) (is ∙ ap (λ (x : Refusal). line_of None x) (sym (long_only front long' r by)))
other_line bytes front line long long' (IsRefusalLine.of_tree p r text by is) = absurd (text.not_refused too_long_refusal (IsTextRefused.too_long long'))

pub line_of_front : (bytes front line : List ℕ) → front ≡ take 1048577 bytes → IsRefusalLine front line → IsRefusalLine bytes line
line_of_front bytes front line is by = elim (short_or_long (length bytes) (nat_lt greatest_source (length bytes)) refl) [
  | inl short ↦ subst (λ (bs : List ℕ). IsRefusalLine bs line) (is ∙ take_all 1048577 bytes (omega (arith, short))) by
  | inr long ↦ other_line bytes front line long (subst (λ (xs : List ℕ). greatest_source < length xs) (sym is) (front_long bytes long)) by
]

-- ---- the machine

-- the front that was read, as that of the bytes of the file
pub record IsFrontOf (job : Job) (files : Option Files) (rest' : Option (List ℕ)) (f f' : ℕ) (front : List ℕ) : Type 0 where
  pub bytes : List ℕ
  pub read : HasRead job files rest' f f' bytes
  pub is : front ≡ take 1048577 bytes

left_of : (files : Option Files) (bytes : List ℕ) (rest' : Option (List ℕ)) (kind : JobKind) → most_read kind ≡ 1048577 → IsLeft files (drop 1048577 bytes) rest' → IsLeft files (drop (most_read kind) bytes) rest'
left_of files bytes rest' kind is left = subst (λ (k : ℕ). IsLeft files (drop k bytes) rest') (sym is) left

pub front_of : (job : Job) (files : Option Files) (rest' : Option (List ℕ)) (f f' : ℕ) (front : List ℕ) → most_read job.kind ≡ 1048577 → ReadsFile 1048577 files job.file rest' f f' (Ok front) → IsFrontOf job files rest' f f' front
front_of job files rest' f f' front is (same, (bytes, source, part, left)) = record {
  bytes = bytes;
  read = record { source = source; reads = same; left = left_of files bytes rest' job.kind is left };
  is = part;
}

pub machine_makes : (job : Job) (files : Option Files) (rest' : Option (List ℕ)) (f f' : ℕ) (front : List ℕ) (i : Image) (m : MachineState) → IsFrontOf job files rest' f f' front → Builds front (Ok i)
    → m ≡ record { image = i; arena = job.arena; depth = job.depth; fresh = true } → Makes job files rest' f f' (Ok m)
machine_makes job files rest' f f' front i m x (p, text, passes, of) same = (
  x.bytes,
  x.read,
  record {
    program = p;
    text = text_of_front p x.bytes front x.is text;
    passes = passes;
    image = subst (IsImageOf p) (sym (ap (λ (y : MachineState). y.image) same)) of;
    arena_is = ap (λ (y : MachineState). y.arena) same;
    depth_is = ap (λ (y : MachineState). y.depth) same;
    fresh = ap (λ (y : MachineState). y.fresh) same;
  },
)

pub file_written : (job : Job) (files : Option Files) (rest' : Option (List ℕ)) (f f' : ℕ) (front : List ℕ) (i : Image) (saved : List ℕ) → IsFrontOf job files rest' f f' front → Builds front (Ok i) → Spells i saved → Writes job files rest' f f' (Ok saved)
file_written job files rest' f f' front i saved x (p, text, passes, of) spells = (
  x.bytes,
  x.read,
  record {
    program = p;
    text = text_of_front p x.bytes front x.is text;
    passes = passes;
    image = i;
    right = record { valid = of.valid; rows = of.rows; agrees = of.agrees };
    spells = spells;
  },
)

pub halt_reads : {T : Type 0} (P : List ℕ → T → Type 0) (job : Job) (files : Option Files) (rest' : Option (List ℕ)) (f f' : ℕ) (front : List ℕ) (h : Halt) → IsFrontOf job files rest' f f' front → Builds front (Err h) → ReadsTo P job files rest' f f' (Err h)
halt_reads P job files rest' f f' front (halt.Refused line) x by = (x.bytes, x.read, line_of_front x.bytes front line x.is by)
halt_reads P job files rest' f f' front (halt.BadImage line) x by = absurd by
halt_reads P job files rest' f f' front halt.Unread x by = absurd by
halt_reads P job files rest' f f' front halt.Memory x by = x.read.reads
