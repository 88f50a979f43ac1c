-- Each list of tokens has words, with the names and the texts by their numbers.
use Rattle.std.proofs.Common.{◌≡◌, ◌⊎◌, inl, inr, ℕ, zero, suc, Bool, true, false, List, [], ◌∷◌, ◌++◌, length, slice_get, refl, sym, ap, subst, append_assoc, append-nil, Some}
use Rattle.std.specs.Str.{bytes_eq, IsUtf8}
use Rattle.std.proofs.lemmas.Slice.Eq.{bytes_eq-Decides}
use Rattle.jn_base.specs.declared.token.Token.{Token}
use Rattle.jn_base.specs.declared.token.TokenKind.{TokenKind}
use Rattle.jn_base.specs.declared.token.TokenKind.TheVariants as sort
use Rattle.jn_base.specs.declared.tree.Text.{Text}
use Rattle.jn_base.specs.declared.word.Word.{Word}
use Rattle.jn_base.specs.declared.word.Lexeme.{Lexeme}
use Rattle.jn_base.specs.Words.{text_of, lexeme, last_word, AreWordsOf}
use Rattle.jn_base.specs.Places.{place_of}
use Rattle.jn_parser.specs.Wording.{Numbers, known, fresh, unescaped, IsTextFor, HaveTexts, table, Mentions, AreSoFar}
use Rattle.jn_parser.specs.Wording as wording
use Rattle.jn_parser.proofs.Numbering.{so_far_starts, so_far_more, mention_keyword, mention_text, mention_mark}
use Rattle.jn_parser.proofs.TokenTexts.{have_texts}
use Rattle.jn_sources.proofs.TokensThere.{tokens_there}

-- the bytes have a number in the table, or none
find : (old : List (List ℕ)) (w : List ℕ)
    → ((n : ℕ) × (slice_get old n ≡ Some w)) ⊎ ((n : ℕ) → slice_get old n ≡ Some w → ⊥)
find [] w = inr (λ n e. cc e)
find (v ∷ old) w = by (bytes_eq v w) refl (find old w) where
  with_others : (v ≡ w → ⊥) → ((n : ℕ) × (slice_get old n ≡ Some w)) ⊎ ((n : ℕ) → slice_get old n ≡ Some w → ⊥)
      → ((n : ℕ) × (slice_get (v ∷ old) n ≡ Some w)) ⊎ ((n : ℕ) → slice_get (v ∷ old) n ≡ Some w → ⊥)
  with_others differs (inl found) = inl (suc found.0, found.1)
  with_others differs (inr none) = inr go where
    go : (n : ℕ) → slice_get (v ∷ old) n ≡ Some w → ⊥
    go zero e = differs (cc e)
    go (suc n) e = none n e

  by : (b : Bool) → bytes_eq v w ≡ b
      → ((n : ℕ) × (slice_get old n ≡ Some w)) ⊎ ((n : ℕ) → slice_get old n ≡ Some w → ⊥)
      → ((n : ℕ) × (slice_get (v ∷ old) n ≡ Some w)) ⊎ ((n : ℕ) → slice_get (v ∷ old) n ≡ Some w → ⊥)
  by true e others = inl (0, ap (λ (u : List ℕ). Some u) ((bytes_eq-Decides v w).0 e))
  by false e others = with_others (λ same. cc (e, (bytes_eq-Decides v w).1 same)) others

-- so they have one or get one
number_there : (old : List (List ℕ)) (w : List ℕ) → (new : List (List ℕ)) × (n : ℕ) × Numbers old w new n
number_there old w = elim (find old w) [
  | inl found ↦ (old, found.0, known found.1)
  | inr none ↦ (old ++ w ∷ [], length old, fresh none)
]

-- a token mentions a word
record Mentioned (names texts : List (List ℕ)) (k : TokenKind) (w : List ℕ) : Type 0 where
  word_there : Word
  names_then : List (List ℕ)
  texts_then : List (List ℕ)
  mentions : Mentions names texts k w word_there names_then texts_then

mentioned : (names texts : List (List ℕ)) (k : TokenKind) (w : List ℕ) → IsTextFor k w → Mentioned names texts k w
mentioned names texts sort.Name w is =
    let n = number_there names w in record {
      word_there = _;
      names_then = n.0;
      texts_then = texts;
      mentions =
          wording.a_name n.2;
    }
mentioned names texts sort.Keyword w is =
    record { word_there = _; names_then = names; texts_then = texts; mentions = mention_keyword is.0 refl is.1 }
mentioned names texts sort.Number w is =
    record { word_there = _; names_then = names; texts_then = texts; mentions = wording.a_number }
mentioned names texts sort.Text w is =
    let n = number_there texts (unescaped false is.inner) in
    record {
      word_there = _;
      names_then = names;
      texts_then = n.0;
      mentions =
          mention_text is.inner refl is.quoted refl n.2;
    }
mentioned names texts sort.Mark w is =
    record { word_there = _; names_then = names; texts_then = texts; mentions = mention_mark is.0 refl is.1 }

record Worded (bytes : List ℕ) (ts : List Token) : Type 0 where
  words : List Lexeme
  names : List (List ℕ)
  texts : List (List ℕ)
  so_far : AreSoFar bytes ts words names texts

worded_behind : (bytes : List ℕ) (done ts : List Token) → HaveTexts bytes ts → Worded bytes done
    → Worded bytes (done ++ ts)
worded_behind bytes done [] h w = subst (λ (us : List Token). Worded bytes us) (sym (append-nil done)) w
worded_behind bytes done (t ∷ ts) h w =
    let m = mentioned w.names w.texts t.kind (text_of bytes t) h.0 in
    subst (λ (us : List Token). Worded bytes us) (append_assoc done (t ∷ []) ts)
    (worded_behind bytes (done ++ t ∷ []) ts h.1 (record {
      words = w.words ++ lexeme m.word_there (place_of bytes t.start) ∷ [];
      names = m.names_then;
      texts = m.texts_then;
      so_far = so_far_more t w.so_far m.mentions refl refl h.0;
    }))

pub record HasWords (bytes : List ℕ) : Type 0 where
  pub names : List Text
  pub texts : List Text
  pub words : List Lexeme
  pub are : AreWordsOf bytes names texts words

pub words_there : (bytes : List ℕ) → IsUtf8 bytes → HasWords bytes
words_there bytes u =
    let t = tokens_there bytes u in
    let w = worded_behind bytes [] t.0 (have_texts bytes t.0 t.1 t.2)
    (record { words = []; names = []; texts = []; so_far = so_far_starts bytes }) in
    record {
      names = table w.names;
      texts = table w.texts;
      words = w.words ++ last_word bytes t.1 ∷ [];
      are = record {
        tokens = t.0;
        fault = t.1;
        lexed = t.2;
        words = w.words;
        are_words = w.so_far.are_words;
        whole = refl;
        names_numbered = w.so_far.names_numbered;
        texts_numbered = w.so_far.texts_numbered;
      };
    }
