-- The first three steps of the verdict have one answer.
use Rattle.std.proofs.Common.{◌≡◌, ◌<◌, ◌≤◌, ◌⊎◌, inl, inr, ℕ, List, length, refl, Ok, Err}
use Rattle.std.specs.Str.{IsUtf8, IsValidUpTo}
use Rattle.std.proofs.lemmas.Bool.{cases_lt}
use Rattle.jn_base.specs.declared.tree.Decl.{Decl}
use Rattle.jn_base.specs.declared.tree.Text.{Text}
use Rattle.jn_base.specs.declared.tree.Program.{Program}
use Rattle.jn_base.specs.declared.word.Lexeme.{Lexeme}
use Rattle.jn_base.specs.Words.{AreWordsOf}
use Rattle.jn_base.specs.Spelling.{greatest_source, too_long, not_utf8, IsTextOf}
use Rattle.jn_grammar.specs.Answers.{Answer}
use Rattle.jn_grammar.specs.TokenLimits.{checked_in}
use Rattle.jn_parser.proofs.Sources.{refused_of, one_text_refusal, given_of, one_text}
use Rattle.jn_sources.proofs.TokensThere.{utf8_or_not}
use Rattle.jn_sources.proofs.WordsThere.{words_there}
use Rattle.jn_sources.specs.OneVerdict.{IsAnswered, OneTextVerdict}

-- a source that is the text of a program is not too long
short : (p : Program) (bytes : List ℕ) → IsTextOf p bytes → length bytes ≤ greatest_source
short p bytes t = by (cases_lt greatest_source (length bytes)) where
  by : (greatest_source < length bytes) ⊎ (length bytes ≤ greatest_source) → length bytes ≤ greatest_source
  by (inl h) = absurd (t.not_refused _ (too_long h))
  by (inr h) = h

read_answered : (bytes : List ℕ) (names texts : List Text) (ws : List Lexeme) → length bytes ≤ greatest_source
    → AreWordsOf bytes names texts ws
    → (r : Answer (List Decl)) → checked_in ws ≡ r → IsAnswered bytes
read_answered bytes names texts ws h a (Ok x) e = inl (_, given_of bytes names texts ws x.0 x.1 h a e)
read_answered bytes names texts ws h a (Err f) e = inr (_, refused_of bytes names texts ws f h a e)

short_answered : (bytes : List ℕ) → length bytes ≤ greatest_source → IsUtf8 bytes ⊎ ((n : ℕ) × IsValidUpTo bytes n)
    → IsAnswered bytes
short_answered bytes h (inl u) =
    let w = words_there bytes u in read_answered bytes w.names w.texts w.words h w.are (checked_in w.words) refl
short_answered bytes h (inr n) = inr (_, not_utf8 h n.1)

answered : (bytes : List ℕ) → IsAnswered bytes
answered bytes = by (cases_lt greatest_source (length bytes)) where
  by : (greatest_source < length bytes) ⊎ (length bytes ≤ greatest_source) → IsAnswered bytes
  by (inl h) = inr (_, too_long h)
  by (inr h) = short_answered bytes h (utf8_or_not bytes)

pub one_verdict : (bytes : List ℕ) → OneTextVerdict bytes
one_verdict bytes = record {
  refusal = one_text_refusal bytes;
  program = λ p q a b. one_text bytes p q (short p bytes a) a b.spelled;
  not_both = λ p r t n. t.not_refused r n;
  answered = answered bytes;
}
