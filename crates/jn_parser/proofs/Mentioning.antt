-- What the loop over the tokens keeps.
use Rattle.std.proofs.Common.{◌≡◌, ℕ, suc, ◌+◌, ◌-◌, ◌<◌, ◌≤◌, List, [], ◌∷◌, ◌++◌, length, map, take, drop, Option, refl, sym, ◌∙◌, ap, subst, arith, append_assoc}
use Rattle.std.proofs.lemmas.List.{append-nil}
use Rattle.jn_base.specs.declared.token.Token.{Token}
use Rattle.jn_base.specs.declared.token.LexFault.{LexFault}
use Rattle.jn_base.specs.declared.tree.Place.{Place}
use Rattle.jn_base.specs.declared.tree.Text.{Text}
use Rattle.jn_base.specs.declared.word.Word.{Word}
use Rattle.jn_base.specs.declared.word.Lexeme.{Lexeme}
use Rattle.jn_base.specs.Places.{place_of}
use Rattle.jn_base.specs.Tokens.{TokensOf}
use Rattle.jn_base.specs.Words.{lexeme, text, text_of, last_word, AreWordsOf}
use Rattle.jn_lexer.specs.Lexing.{AreInOrder}
use Rattle.jn_parser.specs.Moved.{moved}
use Rattle.jn_parser.specs.Wording.{Mentions, IsTextFor, HaveTexts, table, AreSoFar}
use Rattle.jn_parser.proofs.Numbering.{so_far_starts, so_far_more}
use Rattle.jn_parser.proofs.Places.{moved_to}

pub record Mentioning (bytes : List ℕ) (tokens rest : List Token) (words : List Lexeme) (names texts : List (List ℕ)) (at : ℕ) (place : Place) : Type 0 where
  pub done : List Token
  pub split : tokens ≡ done ++ rest
  pub so_far : AreSoFar bytes done words names texts
  pub in_order : AreInOrder at rest (length bytes)
  pub have_texts : HaveTexts bytes rest
  pub place_is : place ≡ place_of bytes at
  pub few_names : length names + length rest ≤ length tokens
  pub few_texts : length texts + length rest ≤ length tokens

mapped : {V : Type 0} (items : V → List ℕ) (ks : List V) → length (map items ks) ≡ length ks
mapped items [] = refl
mapped items (k ∷ ks) = ap suc (mapped items ks)

-- there are no more tokens than bytes
pub few_tokens : (from : ℕ) (ts : List Token) (to : ℕ) → AreInOrder from ts to → from + length ts ≤ to
few_tokens from [] to o = omega (arith, o)
few_tokens from (t ∷ ts) to o = let more = few_tokens t.end ts to o.2 in omega (arith, o.0, o.1, more)

pub mentioning_starts : (bytes : List ℕ) (tokens : List Token) → AreInOrder 0 tokens (length bytes) → HaveTexts bytes tokens → Mentioning bytes tokens tokens [] [] [] 0 (record { line = 1; column = 1 })
mentioning_starts bytes tokens o h = record {
  done = [];
  split = refl;
  so_far = so_far_starts bytes;
  in_order = o;
  have_texts = h;
  place_is = refl;
  few_names = omega arith;
  few_texts = omega arith;
}

-- the order from the start of the first on
from_start : (t : Token) (ts : List Token) (to : ℕ) → t.start < t.end → AreInOrder t.end ts to → AreInOrder t.start ts to
from_start t [] to h o = omega (arith, o)
from_start t (u ∷ ts) to h o = (omega (arith, o.0), o.1, o.2)

pub mentioning_goes : (bytes : List ℕ) (tokens rest : List Token) (words : List Lexeme) (names texts names' texts' : List (List ℕ)) (at : ℕ) (place after : Place) (t : Token) (x : Word)
    → Mentioning bytes tokens (t ∷ rest) words names texts at place → after ≡ moved place (take (t.start - at) (drop at bytes)) → Mentions names texts t.kind (text_of bytes t) x names' texts'
    → length names' ≤ 1 + length names → length texts' ≤ 1 + length texts
    → Mentioning bytes tokens rest (words ++ lexeme x after ∷ []) names' texts' t.start after
mentioning_goes bytes tokens rest words names texts names' texts' at place after t x m a is n e =
    let o = m.in_order in
    let sum : at + (t.start - at) ≡ t.start = omega (arith, o.0) in
    let here : after ≡ place_of bytes t.start = a ∙ ap (λ (p : Place). moved p (take (t.start - at) (drop at bytes))) m.place_is ∙ moved_to bytes at (t.start - at) ∙ ap (λ i. place_of bytes i) sum in
    record {
      done = m.done ++ t ∷ [];
      split = m.split ∙ sym (append_assoc m.done (t ∷ []) rest);
      so_far = subst (λ (p : Place). AreSoFar bytes (m.done ++ t ∷ []) (words ++ lexeme x p ∷ []) names' texts') (sym here) (so_far_more t m.so_far is refl refl m.have_texts.0);
      in_order = from_start t rest (length bytes) o.1 o.2;
      have_texts = m.have_texts.1;
      place_is = here;
      few_names = omega (arith, m.few_names, n);
      few_texts = omega (arith, m.few_texts, e);
    }

pub mentioning_ends : (bytes : List ℕ) (tokens : List Token) (words : List Lexeme) (names texts : List (List ℕ)) (at : ℕ) (place : Place) (rest : List Token) → Mentioning bytes tokens rest words names texts at place → rest ≡ []
    → AreSoFar bytes tokens words names texts
mentioning_ends bytes tokens words names texts at place rest m e =
    subst (λ (ts : List Token). AreSoFar bytes ts words names texts) (sym (append-nil m.done) ∙ ap (λ (us : List Token). m.done ++ us) (sym e) ∙ sym m.split) m.so_far

-- ---- where the tokens left are this one and those behind it

pub order_here : (bytes : List ℕ) (at : ℕ) (rest : List Token) (t : Token) (after : List Token) → rest ≡ t ∷ after → AreInOrder at rest (length bytes) → (at ≤ t.start) × ((t.start < t.end) × (t.end ≤ length bytes))
order_here bytes at rest t after e o = by_order (subst (λ (ts : List Token). AreInOrder at ts (length bytes)) e o)
  where
    by_order : AreInOrder at (t ∷ after) (length bytes) → (at ≤ t.start) × ((t.start < t.end) × (t.end ≤ length bytes))
    by_order p = let more = few_tokens t.end after (length bytes) p.2 in (p.0, (p.1, omega (arith, more)))

pub text_here : (bytes : List ℕ) (rest : List Token) (t : Token) (after : List Token) → rest ≡ t ∷ after → HaveTexts bytes rest → IsTextFor t.kind (text_of bytes t)
text_here bytes rest t after e h = (subst (λ (ts : List Token). HaveTexts bytes ts) e h).0

pub names_few : {V : Type 0} (items : V → List ℕ) (ks : List V) (rest tokens : List Token) (bytes : List ℕ) → length (map items ks) + length rest ≤ length tokens → AreInOrder 0 tokens (length bytes) → length bytes ≤ 1_048_576
    → length ks ≤ 2_000_000
names_few items ks rest tokens bytes h o b = let few = few_tokens 0 tokens (length bytes) o in omega (arith, h, few, b, mapped items ks)

pub mapped_grown : {V : Type 0} (items : V → List ℕ) (ks ms : List V) → length ms ≤ 1 + length ks → length (map items ms) ≤ 1 + length (map items ks)
mapped_grown items ks ms h = omega (arith, h, mapped items ks, mapped items ms)

-- ---- the words of a source

table_map : {V : Type 0} (items : V → List ℕ) (ks : List V) → map (λ k. text (items k)) ks ≡ table (map items ks)
table_map items [] = refl
table_map items (k ∷ ks) = ap (λ (ts : List Text). text (items k) ∷ ts) (table_map items ks)

pub words_are : {V : Type 0} (items : V → List ℕ) (bytes : List ℕ) (tokens now : List Token) (fault : Option LexFault) (words all : List Lexeme) (last : Lexeme) (ns ts : List V) (names texts : List Text)
    → TokensOf bytes tokens fault → now ≡ tokens → AreSoFar bytes now words (map items ns) (map items ts) → last ≡ last_word bytes fault → all ≡ words ++ last ∷ []
    → names ≡ map (λ k. text (items k)) ns → texts ≡ map (λ k. text (items k)) ts → AreWordsOf bytes names texts all
words_are items bytes tokens now fault words all last ns ts names texts l e s w a n t =
    let so_far = subst (λ (us : List Token). AreSoFar bytes us words (map items ns) (map items ts)) e s in
    subst (λ (xs : List Text). AreWordsOf bytes xs texts all) (sym (n ∙ table_map items ns))
    (subst (λ (xs : List Text). AreWordsOf bytes (table (map items ns)) xs all) (sym (t ∙ table_map items ts))
    (record {
      tokens = tokens;
      fault = fault;
      lexed = l;
      words = words;
      are_words = so_far.are_words;
      whole = a ∙ ap (λ (u : Lexeme). words ++ u ∷ []) w;
      names_numbered = so_far.names_numbered;
      texts_numbered = so_far.texts_numbered;
    }))

pub goes_on : (bytes : List ℕ) (tokens now after : List Token) (words : List Lexeme) (names texts names' texts' : List (List ℕ)) (at : ℕ) (place place' : Place) (t : Token) (x : Word)
    → now ≡ t ∷ after → Mentioning bytes tokens now words names texts at place → place' ≡ moved place (take (t.start - at) (drop at bytes)) → Mentions names texts t.kind (text_of bytes t) x names' texts'
    → length names' ≤ 1 + length names → length texts' ≤ 1 + length texts
    → Mentioning bytes tokens after (words ++ lexeme x place' ∷ []) names' texts' t.start place'
goes_on bytes tokens now after words names texts names' texts' at place place' t x e m =
    mentioning_goes bytes tokens after words names texts names' texts' at place place' t x (subst (λ (ts : List Token). Mentioning bytes tokens ts words names texts at place) e m)
