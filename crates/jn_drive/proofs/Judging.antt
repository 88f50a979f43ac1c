-- What bytes come to, and that the front of a file that was read is answered as the file is.
use Rattle.std.proofs.Common.{take, drop, min, ◌≡◌, ◌∙◌, ℕ, ◌≤◌, ◌<◌, ◌⊎◌, inl, inr, List, [], length, sym, ap, subst, refl, Ok, Err, None, arith, Bool, nat_lt, true, false}
use Rattle.std.proofs.lemmas.Bool.{ltb-true, ltb-false}
use Rattle.std.proofs.lemmas.List.{take_all, length-take}
use Rattle.std.specs.declared.option.Option.{Option}
use Rattle.jn_base.specs.declared.tree.Program.{Program}
use Rattle.jn_base.specs.declared.refusal.Refusal.{Refusal}
use Rattle.jn_base.specs.Spelling.{IsTextOf, IsTextRefused, greatest_source}
use Rattle.jn_base.specs.WithinLimits.{IsWithinLimits}
use Rattle.jn_rules.specs.Verdict.{TreePasses}
use Rattle.jn_io.specs.Told.{Files}
use Rattle.jn_words.specs.Line.{line_of}
use Rattle.jn_drive.specs.declared.halt.Halt.{Halt}
use Rattle.jn_drive.specs.declared.halt.Halt.TheVariants as halt
use Rattle.jn_drive.specs.declared.words.SourceJob.{SourceJob}
use Rattle.jn_drive.specs.declared.words.SourceJob.TheVariants as sources
use Rattle.jn_printer.specs.DeclText.{program_text}
use Rattle.jn_drive.specs.Reply.{Reply, TreeReply, SourceReply, refused_reply, output_reply}
use Rattle.jn_drive.specs.Seen.{IsSource, IsLeft}
use Rattle.jn_drive.specs.Answer.{Answer, Judges, Answers, AnswersTree, too_long_refusal}
use Rattle.jn_drive.specs.Built.{IsTextHalt, IsTreeHalt}

-- the program of a source is within the limits
pub within_limits : (p : Program) (bytes : List ℕ) → IsTextOf p bytes → IsWithinLimits p
within_limits p bytes is = record { source = bytes; spelled = p; same = refl; is_text = is }

by_kind : (p : Program) (known kind : SourceJob) (r : Reply) → kind ≡ known → TreeReply p known r → TreeReply p kind r
by_kind p known kind r is tree = subst (λ (k : SourceJob). TreeReply p k r) (sym is) tree

-- The replies to a tree.
pub tree_shown : (p : Program) (kind : SourceJob) (output : List ℕ) → kind ≡ sources.Show → output ≡ program_text p → TreeReply p kind (output_reply output)
tree_shown p kind output k o = by_kind p sources.Show kind (output_reply output) k (subst (λ (o' : List ℕ). TreeReply p sources.Show (output_reply o')) (sym o) TreeReply.shown)

pub tree_checked : (p : Program) (kind : SourceJob) (a : Answer) → kind ≡ sources.Check → AnswersTree p sources.Check a → AnswersTree p kind a
tree_checked p kind a k is = subst (λ (j : SourceJob). AnswersTree p j a) (sym k) is

pub tree_passed : (p : Program) (output : List ℕ) → output ≡ [] → TreePasses p → TreeReply p sources.Check (output_reply output)
tree_passed p output e is = subst (λ (o : List ℕ). TreeReply p sources.Check (output_reply o)) (sym e) (TreeReply.passed is)

pub tree_halted : (p : Program) (h : Halt) → IsTreeHalt p h → AnswersTree p sources.Check (Err h)
tree_halted p (halt.Refused line) (r, by, is) = subst (λ (l : List ℕ). TreeReply p sources.Check (refused_reply l)) (sym is) (TreeReply.not_passed r by)
tree_halted p (halt.BadImage line) is = absurd is
tree_halted p halt.Unread is = absurd is
tree_halted p halt.Memory is = is

-- The reply to the bytes that spell a program is that to it.
pub spelled : (kind : SourceJob) (bytes : List ℕ) (p : Program) → IsTextOf p bytes → (a : Answer) → AnswersTree p kind a → Judges kind bytes a
spelled kind bytes p is (Ok output) tree = SourceReply.to_tree p is tree
spelled kind bytes p is (Err (halt.Refused line)) tree = SourceReply.to_tree p is tree
spelled kind bytes p is (Err (halt.BadImage line)) tree = SourceReply.to_tree p is tree
spelled kind bytes p is (Err halt.Unread) tree = absurd tree
spelled kind bytes p is (Err halt.Memory) tree = tree

-- The reply to bytes that the first steps refuse is the line of the refusal.
pub text_judged : (kind : SourceJob) (bytes : List ℕ) (h : Halt) → IsTextHalt bytes h → Judges kind bytes (Err h)
text_judged kind bytes (halt.Refused line) (r, by, is) = SourceReply.refused r by (ap refused_reply is)
text_judged kind bytes (halt.BadImage line) is = absurd is
text_judged kind bytes halt.Unread is = absurd is
text_judged kind bytes halt.Memory is = is

-- ---- the front of a file

pub short_or_long : (n : ℕ) → (b : Bool) → nat_lt greatest_source n ≡ b → (n ≤ greatest_source) ⊎ (greatest_source < n)
short_or_long n true is = inr (ltb-true greatest_source n is)
short_or_long n false is = inl (ltb-false greatest_source n is)

-- Too many bytes are refused for that alone.
pub long_only : (bytes : List ℕ) → greatest_source < length bytes → (s : Refusal) → IsTextRefused bytes s → too_long_refusal ≡ s
long_only bytes long s (IsTextRefused.too_long is) = refl
long_only bytes long s (IsTextRefused.not_utf8 short is) = absurd (omega arith)
long_only bytes long s (IsTextRefused.word_refused names texts short are first) = absurd (omega arith)

-- What is the reply to a source that is too long is the reply to each other one.
other_long : (kind : SourceJob) (bytes front : List ℕ) (r : Reply) → greatest_source < length bytes → greatest_source < length front → SourceReply kind front r → SourceReply kind bytes r
other_long kind bytes front r long long' (SourceReply.refused f by is) =
    SourceReply.refused too_long_refusal (IsTextRefused.too_long long) (is ∙ ap (λ (x : Refusal). refused_reply (line_of None x)) (sym (long_only front long' f by)))
other_long kind bytes front r long long' (SourceReply.to_tree p is tree) = absurd (is.not_refused too_long_refusal (IsTextRefused.too_long long'))

pub front_long : (bytes : List ℕ) → greatest_source < length bytes → greatest_source < length (take 1048577 bytes)
front_long bytes long = let size : length (take 1048577 bytes) ≡ min 1048577 (length bytes) = length-take 1048577 bytes in omega (arith, long, size)

-- one byte behind the greatest source decides it
front_enough : (kind : SourceJob) (bytes : List ℕ) (r : Reply) → SourceReply kind (take 1048577 bytes) r → SourceReply kind bytes r
front_enough kind bytes r is = elim (short_or_long (length bytes) (nat_lt greatest_source (length bytes)) refl) [
  | inl short ↦ subst (λ (bs : List ℕ). SourceReply kind bs r) (take_all 1048577 bytes (omega (arith, short))) is
  | inr long ↦ other_long kind bytes (take 1048577 bytes) r long (front_long bytes long) is
]

front_is : (kind : SourceJob) (bytes front : List ℕ) (r : Reply) → front ≡ take 1048577 bytes → SourceReply kind front r → SourceReply kind bytes r
front_is kind bytes front r is by = front_enough kind bytes r (subst (λ (bs : List ℕ). SourceReply kind bs r) is by)

pub bytes_answered : (kind : SourceJob) (files : Option Files) (file bytes front : List ℕ) (rest' : Option (List ℕ)) (f f' : ℕ) → IsSource files file bytes → front ≡ take 1048577 bytes → IsLeft files (drop 1048577 bytes) rest' → f' ≡ f → (a : Answer) → Judges kind front a → Answers kind 1048577 files file rest' f f' a
bytes_answered kind files file bytes front rest' f f' source is left same (Ok output) j = (same, (bytes, source, left, front_is kind bytes front _ is j))
bytes_answered kind files file bytes front rest' f f' source is left same (Err (halt.Refused line)) j = (same, (bytes, source, left, front_is kind bytes front _ is j))
bytes_answered kind files file bytes front rest' f f' source is left same (Err (halt.BadImage line)) j = (same, (bytes, source, left, front_is kind bytes front _ is j))
bytes_answered kind files file bytes front rest' f f' source is left same (Err halt.Unread) j = absurd j
bytes_answered kind files file bytes front rest' f f' source is left same (Err halt.Memory) j = same
