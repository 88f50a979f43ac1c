-- The verdict on a source's text: what is given, what is refused, and that both are one.
use Rattle.std.proofs.Common.{◌≡◌, true, ℕ, suc, ◌+◌, ◌≤◌, List, [], ◌∷◌, length, map, Option, Some, None, Result, Ok, Err, IfOk, refl, sym, ◌∙◌, ap, subst, arith}
use Rattle.std.specs.Str.{IsUtf8, IsValidUpTo}
use Rattle.std.proofs.lemmas.Str.{utf8_valid_len-IsValidUpTo}
use Rattle.std.proofs.Math.Seq.{take-length}
use Rattle.jn_base.specs.declared.token.LexFault.{LexFault}
use Rattle.jn_base.specs.declared.tree.Decl.{Decl}
use Rattle.jn_base.specs.declared.tree.Place.{Place}
use Rattle.jn_base.specs.declared.tree.Text.{Text}
use Rattle.jn_base.specs.declared.tree.Program.{Program}
use Rattle.jn_base.specs.declared.refusal.Limit.{Limit}
use Rattle.jn_base.specs.declared.refusal.Refusal.{Refusal}
use Rattle.jn_base.specs.declared.refusal.Rule.TheVariants.{E03}
use Rattle.jn_base.specs.declared.word.Lexeme.{Lexeme}
use Rattle.jn_base.specs.Places.{place_of}
use Rattle.jn_base.specs.Words.{last_word, AreWordsOf}
use Rattle.jn_base.specs.Parts.{Part, lexeme_of}
use Rattle.jn_base.specs.Spelling.{SourceSpells, limit_of, IsFirstRefused, refusal, greatest_source, IsTextRefused, too_long, not_utf8, word_refused, IsTextOf}
use Rattle.jn_grammar.specs.declared.fault.Fault.{Fault}
use Rattle.jn_grammar.specs.Answers.{Answer}
use Rattle.jn_grammar.specs.ReadWhole.{program_in}
use Rattle.jn_grammar.specs.TokenLimits.{left_of, rule_of, limit_shown, place_left, checked_in, IsLast, the_end, no_word}
use Rattle.jn_grammar.proofs.Meets.{met, meets}
use Rattle.jn_grammar.proofs.Programs.{program_reader}
use Rattle.jn_grammar.proofs.Refusals.{refused_there, refused_once, checked_reads, checked_not_refused}
use Rattle.jn_parser.specs.declared.fault.ParseFault.{ParseFault}
use Rattle.jn_parser.specs.declared.fault.ParseFault.TheVariants.{Refused, Memory}
use Rattle.jn_parser.specs.Parsing.{IfRefused, IsGiven, IsRefused, refusal_of}
use Rattle.jn_parser.proofs.WordsOnce.{AreOne, words_are_one}

utf8_of : {bytes : List ℕ} {names texts : List Text} {ws : List Lexeme} → AreWordsOf bytes names texts ws → IsUtf8 bytes
utf8_of a = (a.lexed.characters, (a.lexed.scalars, a.lexed.spelled))

not_both : (bytes : List ℕ) (n : ℕ) → IsValidUpTo bytes n → IsUtf8 bytes → ⊥
not_both bytes n v u = v.longest (length bytes) v.short (subst IsUtf8 (sym (take-length bytes)) u)

-- the words of a source, by any names and texts, are these
same_words : {bytes : List ℕ} {names texts n2 t2 : List Text} {ws vs : List Lexeme} → AreWordsOf bytes names texts ws → AreWordsOf bytes n2 t2 vs → vs ≡ ws
same_words {bytes} {names} {texts} {n2} {t2} {ws} {vs} a b = (words_are_one bytes n2 t2 names texts vs ws b a).words

-- ---- what is refused

last_is : (bytes : List ℕ) (f : Option LexFault) → IsLast (last_word bytes f).word
last_is bytes None = the_end
last_is bytes (Some f) = no_word

pub refused_of : (bytes : List ℕ) (names texts : List Text) (ws : List Lexeme) (f : Fault) → length bytes ≤ greatest_source → AreWordsOf bytes names texts ws → checked_in ws ≡ Err f → IsTextRefused bytes (refusal_of ws f)
refused_of bytes names texts ws f h a e = word_refused names texts h a
    (subst (λ (us : List Lexeme). IsFirstRefused us (rule_of f) (place_left us (left_of f)) (limit_shown f)) (sym a.whole)
    (refused_there a.words (last_word bytes a.fault) f (last_is bytes a.fault) (ap checked_in (sym a.whole) ∙ e)))

-- a source has one refusal
pub one_text_refusal : (bytes : List ℕ) (r s : Refusal) → IsTextRefused bytes r → IsTextRefused bytes s → r ≡ s
one_text_refusal bytes r s (too_long h) (too_long k) = refl
one_text_refusal bytes r s (too_long h) (not_utf8 k v) = absurd (omega arith)
one_text_refusal bytes r s (too_long h) (word_refused names texts k a i) = absurd (omega arith)
one_text_refusal bytes r s (not_utf8 k v) (too_long h) = absurd (omega arith)
one_text_refusal bytes r s (not_utf8 {n = m} h v) (not_utf8 {n = n} k u) =
    ap (λ i. refusal E03 (place_of bytes i) None) (sym (utf8_valid_len-IsValidUpTo bytes m v) ∙ utf8_valid_len-IsValidUpTo bytes n u)
one_text_refusal bytes r s (not_utf8 {n = n} h v) (word_refused names texts k a i) = absurd (not_both bytes n v (utf8_of a))
one_text_refusal bytes r s (word_refused names texts k a i) (too_long h) = absurd (omega arith)
one_text_refusal bytes r s (word_refused names texts k a i) (not_utf8 {n = n} h v) = absurd (not_both bytes n v (utf8_of a))
one_text_refusal bytes r s (word_refused n1 t1 {ws = ws} {r = r1} {at = a1} {l = l1} h a i) (word_refused n2 t2 {ws = vs} {r = r2} {at = a2} {l = l2} k b j) =
    let one = refused_once ws r1 r2 a1 a2 l1 l2 i (subst (λ (us : List Lexeme). IsFirstRefused us r2 a2 l2) (same_words a b) j) in
    ap (λ q. refusal q a1 l1) one.rules ∙ ap (λ q. refusal r2 q l1) one.places ∙ ap (λ q. refusal r2 a2 q) one.limits

-- ---- what is given

abbrev program : List Text → List Text → List Decl → Program
program names texts ds = record { names = names; texts = texts; decls = ds }

not_refused : (bytes : List ℕ) (names texts : List Text) (ws : List Lexeme) (x : List Decl × List Lexeme) → length bytes ≤ greatest_source → AreWordsOf bytes names texts ws → checked_in ws ≡ Ok x
    → (r : Refusal) → IsTextRefused bytes r → ⊥
not_refused bytes names texts ws x h a e r (too_long k) = omega arith
not_refused bytes names texts ws x h a e r (not_utf8 {n = n} k v) = not_both bytes n v (utf8_of a)
not_refused bytes names texts ws x h a e r (word_refused n2 t2 {ws = vs} {r = q} {at = p} {l = l} k b j) =
    checked_not_refused ws x e q p l (subst (λ (us : List Lexeme). IsFirstRefused us q p l) (same_words a b) j)

pub given_of : (bytes : List ℕ) (names texts : List Text) (ws : List Lexeme) (ds : List Decl) (rest : List Lexeme) → length bytes ≤ greatest_source → AreWordsOf bytes names texts ws → checked_in ws ≡ Ok (ds, rest)
    → IsTextOf (program names texts ds) bytes
given_of bytes names texts ws ds rest h a e =
    let s = program_reader.sound true 200 ws (ds, rest) (checked_reads ws (ds, rest) e).0 in
    record {
      spelled = record { parts = s.parts; are_words = subst (λ (us : List Lexeme). AreWordsOf bytes names texts us) (sym s.are_words) a; is_program = s.is };
      not_refused = not_refused bytes names texts ws (ds, rest) h a e;
    }

-- what is met of words that are read is their tree
met_tree : (w : List Part) (x : List Decl) (y : List Decl × List Lexeme) → meets w [] (Ok (x, [])) ≡ Ok y → x ≡ y.0
met_tree [] x y e = cc
met_tree (t ∷ w) x y e = met_tree w x y (by_limit (limit_of t.role) (suc (length w + 0)) (meets w [] (Ok (x, []))) e)
  where
    by_limit : (o : Option Limit) (n : ℕ) (r : Answer (List Decl)) → met o n r ≡ Ok y → r ≡ Ok y
    by_limit (Some l) n r e = cc
    by_limit None n r e = e

tree_of : (p : Program) (bytes : List ℕ) (s : SourceSpells p bytes) (x : List Decl × List Lexeme) → program_in (map lexeme_of s.parts) ≡ Ok x → p.decls ≡ x.0
tree_of p bytes s x e = met_tree s.parts p.decls x (sym (program_reader.again s.parts p.decls s.is_program) ∙ e)

-- A source that is not refused has one program.
pub one_text : (bytes : List ℕ) (p q : Program) → length bytes ≤ greatest_source → IsTextOf p bytes → SourceSpells q bytes → p ≡ q
one_text bytes p q h t s = by_answer (checked_in ws) refl
  where
    ws : List Lexeme
    ws = map lexeme_of t.spelled.parts

    same : AreOne p.names p.texts q.names q.texts ws (map lexeme_of s.parts)
    same = words_are_one bytes p.names p.texts q.names q.texts ws (map lexeme_of s.parts) t.spelled.are_words s.are_words

    by_answer : (r : Answer (List Decl)) → checked_in ws ≡ r → p ≡ q
    by_answer (Err f) e = absurd (t.not_refused (refusal_of ws f) (refused_of bytes p.names p.texts ws f h t.spelled.are_words e))
    by_answer (Ok x) e =
        let read = (checked_reads ws x e).0 in
        let here : p.decls ≡ x.0 = tree_of p bytes t.spelled x read in
        let there : q.decls ≡ x.0 = tree_of q bytes s x (ap program_in (sym same.words) ∙ read) in
        ap (λ (n : List Text). program n p.texts p.decls) same.names ∙ ap (λ (u : List Text). program q.names u p.decls) same.texts ∙ ap (λ (d : List Decl). program q.names q.texts d) (here ∙ sym there)

-- ---- the answer of the parser

pub given_only : (bytes : List ℕ) (r : Result Program ParseFault) → length bytes ≤ greatest_source → IfOk r (λ p. IsTextOf p bytes) → IfRefused r (λ s. IsTextRefused bytes s) → (p : Program) → IsTextOf p bytes → IsGiven r p
given_only bytes (Ok q) h f g p t = one_text bytes q p h f t.spelled
given_only bytes (Err (Refused s)) h f g p t = t.not_refused s g
given_only bytes (Err Memory) h f g p t = tt

pub refused_only : (bytes : List ℕ) (r : Result Program ParseFault) → IfOk r (λ p. IsTextOf p bytes) → IfRefused r (λ s. IsTextRefused bytes s) → (s : Refusal) → IsTextRefused bytes s → IsRefused r s
refused_only bytes (Ok q) f g s t = f.not_refused s t
refused_only bytes (Err (Refused q)) f g s t = one_text_refusal bytes q s g t
refused_only bytes (Err Memory) f g s t = tt

pub utf8_refused : (bytes : List ℕ) (n m : ℕ) (at : Place) (r : Refusal) → length bytes ≤ greatest_source → IsValidUpTo bytes n → m ≡ n → at ≡ place_of bytes m → r ≡ refusal E03 at None → IsTextRefused bytes r
utf8_refused bytes n m at r h v e a q =
    subst (λ s. IsTextRefused bytes s) (sym (q ∙ ap (λ p. refusal E03 p None) (a ∙ ap (λ i. place_of bytes i) e))) (not_utf8 h v)
