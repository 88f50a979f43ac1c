-- Tables that number what is mentioned, and the words of the tokens so far.
use Rattle.std.proofs.Common.{◌≡◌, ℕ, zero, suc, ◌+◌, ◌<◌, Bool, true, false, not, ◌||◌, List, [], ◌∷◌, ◌++◌, length, map, cond, Option, Some, None, refl, sym, ◌∙◌, ap, subst, arith, length-append, ◌==◌, ℤ, pos, if◌then◌else◌}
use Rattle.std.specs.Prelude.{slice_get, filter_map}
use Rattle.std.specs.Str.{bytes_eq}
use Rattle.std.specs.List.{list_any, position_or_len, cons_option}
use Rattle.std.proofs.lemmas.Bool.{eqb-true}
use Rattle.std.proofs.lemmas.Slice.Eq.{bytes_eq-Decides}
use Rattle.std.proofs.lemmas.Option.{slice_get_within}
use Rattle.std.proofs.lemmas.List.{append-nil, append_cancel_right}
use Rattle.indexmap.specs.IndexSet.{insert_key}
use Rattle.jn_base.specs.declared.token.Token.{Token}
use Rattle.jn_base.specs.declared.token.TokenKind.{TokenKind}
use Rattle.jn_base.specs.declared.token.TokenKind.TheVariants as sort
use Rattle.jn_base.specs.declared.tree.Text.{Text}
use Rattle.jn_base.specs.declared.word.Keyword.{Keyword}
use Rattle.jn_base.specs.declared.word.Mark.{Mark}
use Rattle.jn_base.specs.declared.word.Word.{Word}
use Rattle.jn_base.specs.declared.word.Word.TheVariants as word
use Rattle.jn_base.specs.declared.word.Lexeme.{Lexeme}
use Rattle.jn_base.specs.Places.{place_of}
use Rattle.jn_base.specs.Tokens.{quote, backslash, letter_n, ends_line, is_plain, is_escape, digits_value, IsInText, no_more, plain, escape}
use Rattle.jn_base.specs.Words.{keyword_text, mark_text, text, text_of, lexeme, Reads, nothing, plain as plain_char, escaped_quote, escaped_backslash, escaped_line_feed, IsWord, a_name, a_keyword, a_number, a_text, a_mark, AreWords, no_word, then_word, name_number, text_number, AreByMention, all_mentioned, again, first, AreNumbered}
use Rattle.jn_parser.specs.Wording.{Numbers, known, fresh, escaped, unescaped, IsQuoted, IsTextFor, Mentions, table, AreSoFar}
use Rattle.jn_parser.specs.Wording as wording

-- ---- the table of an index

one_more : (n : ℕ) → 1 + n ≡ suc n
one_more n = omega arith

module _ {V : Type 0} (items : V → List ℕ) (eq : V → V → Bool) (same : (a b : V) → eq a b ≡ bytes_eq (items a) (items b)) where
  equal_items : (a b : V) → eq a b ≡ true → items a ≡ items b
  equal_items a b h = (bytes_eq-Decides (items a) (items b)).0 (sym (same a b) ∙ h)

  there : (ks : List V) (k : V) → list_any (eq k) ks ≡ true → slice_get (map items ks) (position_or_len (eq k) ks) ≡ Some (items k)
  there [] k h = cc
  there (x ∷ ks) k h = by_test (eq k x) refl (λ o. there ks k o)
    where
      by_test : (c : Bool) → eq k x ≡ c → (list_any (eq k) ks ≡ true → slice_get (map items ks) (position_or_len (eq k) ks) ≡ Some (items k)) → slice_get (map items (x ∷ ks)) (position_or_len (eq k) (x ∷ ks)) ≡ Some (items k)
      by_test true e r = ap (λ (c : Bool). slice_get (map items (x ∷ ks)) (cond (not c) (1 + position_or_len (eq k) ks) 0)) e ∙ ap Some (sym (equal_items k x e))
      by_test false e r =
          let others : list_any (eq k) ks ≡ true = sym (ap (λ (c : Bool). c || list_any (eq k) ks) e) ∙ h in
          ap (λ (c : Bool). slice_get (map items (x ∷ ks)) (cond (not c) (1 + position_or_len (eq k) ks) 0)) e ∙ ap (λ n. slice_get (map items (x ∷ ks)) n) (one_more (position_or_len (eq k) ks)) ∙ r others

  none_there : (ks : List V) (k : V) → list_any (eq k) ks ≡ false → (m : ℕ) → slice_get (map items ks) m ≡ Some (items k) → ⊥
  none_there [] k h m s = cc
  none_there (x ∷ ks) k h m s = by_test (eq k x) refl m s (λ o n t. none_there ks k o n t)
    where
      by_test : (c : Bool) → eq k x ≡ c → (m : ℕ) → slice_get (map items (x ∷ ks)) m ≡ Some (items k) → (list_any (eq k) ks ≡ false → (n : ℕ) → slice_get (map items ks) n ≡ Some (items k) → ⊥) → ⊥
      by_test true e m s r = let bad : true ≡ false = sym (ap (λ (c : Bool). c || list_any (eq k) ks) e) ∙ h in cc
      by_test false e zero s r =
          let equal : items x ≡ items k = cc in
          let bad : eq k x ≡ true = same k x ∙ (bytes_eq-Decides (items k) (items x)).1 (sym equal) in
          cc
      by_test false e (suc m) s r = r (sym (ap (λ (c : Bool). c || list_any (eq k) ks) e) ∙ h) m s

  length_there : (ks : List V) (k : V) → list_any (eq k) ks ≡ false → position_or_len (eq k) ks ≡ length (map items ks)
  length_there [] k h = refl
  length_there (x ∷ ks) k h = by_test (eq k x) refl (λ o. length_there ks k o)
    where
      by_test : (c : Bool) → eq k x ≡ c → (list_any (eq k) ks ≡ false → position_or_len (eq k) ks ≡ length (map items ks)) → position_or_len (eq k) (x ∷ ks) ≡ length (map items (x ∷ ks))
      by_test true e r = let bad : true ≡ false = sym (ap (λ (c : Bool). c || list_any (eq k) ks) e) ∙ h in cc
      by_test false e r = ap (λ (c : Bool). cond (not c) (1 + position_or_len (eq k) ks) 0) e ∙ one_more (position_or_len (eq k) ks) ∙ ap suc (r (sym (ap (λ (c : Bool). c || list_any (eq k) ks) e) ∙ h))

  map_push : (ks : List V) (k : V) → map items (ks ++ k ∷ []) ≡ map items ks ++ items k ∷ []
  map_push [] k = refl
  map_push (x ∷ ks) k = ap (λ (ws : List (List ℕ)). items x ∷ ws) (map_push ks k)

  -- what an insertion does to the table
  pub numbers_is : (ks : List V) (k : V) → Numbers (map items ks) (items k) (map items (insert_key eq ks k)) (position_or_len (eq k) ks)
  numbers_is ks k = by_test (list_any (eq k) ks) refl
    where
      by_test : (c : Bool) → list_any (eq k) ks ≡ c → Numbers (map items ks) (items k) (map items (cond c ks (ks ++ k ∷ []))) (position_or_len (eq k) ks)
      by_test true e = known (there ks k e)
      by_test false e = subst (λ (ws : List (List ℕ)). Numbers (map items ks) (items k) ws (position_or_len (eq k) ks)) (sym (map_push ks k))
          (subst (λ n. Numbers (map items ks) (items k) (map items ks ++ items k ∷ []) n) (sym (length_there ks k e)) (fresh (none_there ks k e)))

-- ---- tables that grow

get_more : {A : Type 0} (xs ys : List A) (n : ℕ) (x : A) → slice_get xs n ≡ Some x → slice_get (xs ++ ys) n ≡ Some x
get_more [] ys n x h = cc
get_more (y ∷ xs) ys zero x h = h
get_more (y ∷ xs) ys (suc n) x h = get_more xs ys n x h

get_last : {A : Type 0} (xs : List A) (x : A) → slice_get (xs ++ x ∷ []) (length xs) ≡ Some x
get_last [] x = refl
get_last (y ∷ xs) x = get_last xs x

get_table : (ws : List (List ℕ)) (n : ℕ) (w : List ℕ) → slice_get ws n ≡ Some w → slice_get (table ws) n ≡ Some (text w)
get_table [] n w h = cc
get_table (v ∷ ws) zero w h = let same : v ≡ w = cc in ap (λ (u : List ℕ). Some (text u)) same
get_table (v ∷ ws) (suc n) w h = get_table ws n w h

table_get : (ws : List (List ℕ)) (n : ℕ) (t : Text) → slice_get (table ws) n ≡ Some t → slice_get ws n ≡ Some t.bytes
table_get [] n t h = cc
table_get (v ∷ ws) zero t h = let same : text v ≡ t = cc in ap (λ (u : Text). Some u.bytes) same
table_get (v ∷ ws) (suc n) t h = table_get ws n t h

length_table : (ws : List (List ℕ)) → length (table ws) ≡ length ws
length_table [] = refl
length_table (v ∷ ws) = ap suc (length_table ws)

table_push : (ws : List (List ℕ)) (w : List ℕ) → table (ws ++ w ∷ []) ≡ table ws ++ text w ∷ []
table_push [] w = refl
table_push (v ∷ ws) w = ap (λ (ts : List Text). text v ∷ ts) (table_push ws w)

-- the new table begins with the old one
pub record Grows (old new : List (List ℕ)) : Type 0 where
  pub more : List (List ℕ)
  pub is : new ≡ old ++ more

grows : {old : List (List ℕ)} {w : List ℕ} {new : List (List ℕ)} {n : ℕ} → Numbers old w new n → Grows old new
grows {old} (known h) = record { more = []; is = sym (append-nil old) }
grows {old} {w = w} (fresh h) = record { more = w ∷ []; is = refl }

stays : (old : List (List ℕ)) → Grows old old
stays old = record { more = []; is = sym (append-nil old) }

number_there : {old : List (List ℕ)} {w : List ℕ} {new : List (List ℕ)} {n : ℕ} → Numbers old w new n → slice_get new n ≡ Some w
number_there (known h) = h
number_there {old} {w = w} (fresh h) = get_last old w

get_grown : {old new : List (List ℕ)} → Grows old new → (n : ℕ) (w : List ℕ) → slice_get old n ≡ Some w → slice_get new n ≡ Some w
get_grown {old} g n w h = ap (λ (ws : List (List ℕ)). slice_get ws n) g.is ∙ get_more old g.more n w h

grown_get : {old new : List (List ℕ)} → Grows old new → (n : ℕ) (t : Text) → slice_get (table old) n ≡ Some t → slice_get (table new) n ≡ Some t
grown_get {old} {new} g n t h = get_table new n t.bytes (get_grown g n t.bytes (table_get old n t h))

-- words keep their numbers
word_grown : {names texts names' texts' : List (List ℕ)} {k : TokenKind} {w : List ℕ} {x : Word} → Grows names names' → Grows texts texts'
    → IsWord (table names) (table texts) k w x → IsWord (table names') (table texts') k w x
word_grown g h (a_name {n = n} {w = w} e) = a_name (grown_get g n (text w) e)
word_grown g h (a_keyword k) = a_keyword k
word_grown g h a_number = a_number
word_grown g h (a_text {n = n} {w = w} {read = read} r e) = a_text r (grown_get h n (text read) e)
word_grown g h (a_mark m) = a_mark m

words_grown : {bytes : List ℕ} {names texts names' texts' : List (List ℕ)} {ts : List Token} {ws : List Lexeme} → Grows names names' → Grows texts texts'
    → AreWords bytes (table names) (table texts) ts ws → AreWords bytes (table names') (table texts') ts ws
words_grown g h no_word = no_word
words_grown g h (then_word i is) = then_word (word_grown g h i) (words_grown g h is)

words_push : {bytes : List ℕ} {names texts : List Text} {ts : List Token} {ws : List Lexeme} (t : Token) (x : Word) → AreWords bytes names texts ts ws
    → IsWord names texts t.kind (text_of bytes t) x → AreWords bytes names texts (ts ++ t ∷ []) (ws ++ lexeme x (place_of bytes t.start) ∷ [])
words_push t x no_word i = then_word i no_word
words_push t x (then_word j is) i = then_word j (words_push t x is i)

-- ---- numbers by mention

mention_again : {from to n : ℕ} {ns : List ℕ} → AreByMention from ns to → n < to → AreByMention from (ns ++ n ∷ []) to
mention_again all_mentioned h = again h all_mentioned
mention_again (again l is) h = again l (mention_again is h)
mention_again (first is) h = first (mention_again is h)

mention_first : {from to : ℕ} {ns : List ℕ} → AreByMention from ns to → AreByMention from (ns ++ to ∷ []) (to + 1)
mention_first {from} all_mentioned = first all_mentioned
mention_first (again l is) = again l (mention_first is)
mention_first (first is) = first (mention_first is)

-- before the last, or the last
data In (w : List ℕ) (ws : List (List ℕ)) (m : ℕ) (u : List ℕ) : Type 0 where
  before : slice_get ws m ≡ Some u → In w ws m u
  last : m ≡ length ws → u ≡ w → In w ws m u

in_next : (w v : List ℕ) (ws : List (List ℕ)) (m : ℕ) (u : List ℕ) → In w ws m u → In w (v ∷ ws) (suc m) u
in_next w v ws m u (before e) = before e
in_next w v ws m u (last e f) = last (ap suc e) f

place_in : (w : List ℕ) (ws : List (List ℕ)) (m : ℕ) (u : List ℕ) → slice_get (ws ++ w ∷ []) m ≡ Some u → In w ws m u
place_in w [] zero u h = last refl (cc)
place_in w [] (suc m) u h = cc
place_in w (v ∷ ws) zero u h = before h
place_in w (v ∷ ws) (suc m) u h = in_next w v ws m u (place_in w ws m u h)

one_of_push : (ws : List (List ℕ)) (w : List ℕ) → ((m : ℕ) → slice_get ws m ≡ Some w → ⊥) → ((m n : ℕ) (t : Text) → slice_get (table ws) m ≡ Some t → slice_get (table ws) n ≡ Some t → m ≡ n)
    → (m n : ℕ) (t : Text) → slice_get (table (ws ++ w ∷ [])) m ≡ Some t → slice_get (table (ws ++ w ∷ [])) n ≡ Some t → m ≡ n
one_of_push ws w none one m n t a b = by_place (place_in w ws m t.bytes (table_get (ws ++ w ∷ []) m t a)) (place_in w ws n t.bytes (table_get (ws ++ w ∷ []) n t b))
  where
    by_place : In w ws m t.bytes → In w ws n t.bytes → m ≡ n
    by_place (before e) (before f) = one m n t (get_table ws m t.bytes e) (get_table ws n t.bytes f)
    by_place (before e) (last f g) = absurd (none m (subst (λ (u : List ℕ). slice_get ws m ≡ Some u) g e))
    by_place (last e g) (before f) = absurd (none n (subst (λ (u : List ℕ). slice_get ws n ≡ Some u) g f))
    by_place (last e g) (last f h) = e ∙ sym f

-- the numbers with one more
numbered_push : {old : List (List ℕ)} {w : List ℕ} {new : List (List ℕ)} {n : ℕ} (ns : List ℕ) → Numbers old w new n → AreNumbered (table old) ns → AreNumbered (table new) (ns ++ n ∷ [])
numbered_push {old} {w} {n = n} ns (known h) a = record {
  one_number = a.one_number;
  by_mention = mention_again a.by_mention (slice_get_within (table old) n (text w) (get_table old n w h));
}
numbered_push {old} {w} ns (fresh none) a =
    let len : length (table (old ++ w ∷ [])) ≡ length (table old) + 1 = omega (arith, length_table (old ++ w ∷ []), length_table old, length-append old (w ∷ [])) in
    record {
      one_number = one_of_push old w none a.one_number;
      by_mention = subst (λ k. AreByMention 0 (ns ++ length old ∷ []) k) (sym len) (subst (λ k. AreByMention 0 (ns ++ k ∷ []) (length (table old) + 1)) (length_table old) (mention_first a.by_mention));
    }

-- ---- texts

not_backslash : (c : ℕ) → is_plain c ≡ true → (c == backslash) ≡ false
not_backslash c h = by_tests (c == quote) (c == backslash) refl h
  where
    by_tests : (q b : Bool) → (c == backslash) ≡ b → not (q || b || ends_line c) ≡ true → (c == backslash) ≡ false
    by_tests true b e k = cc
    by_tests false true e k = cc
    by_tests false false e k = e

escape_reads : (c : ℕ) {w read : List ℕ} → is_escape c ≡ true → Reads w read → Reads (backslash ∷ c ∷ w) (escaped c ∷ read)
escape_reads c {w} {read} h r = by_tests (c == quote) (c == backslash) (c == letter_n) refl refl refl h
  where
    by_tests : (q b n : Bool) → (c == quote) ≡ q → (c == backslash) ≡ b → (c == letter_n) ≡ n → (q || b || n) ≡ true → Reads (backslash ∷ c ∷ w) (escaped c ∷ read)
    by_tests true b n e f g k = subst (λ d. Reads (backslash ∷ d ∷ w) (escaped d ∷ read)) (sym (eqb-true c quote e)) (escaped_quote r)
    by_tests false true n e f g k = subst (λ d. Reads (backslash ∷ d ∷ w) (escaped d ∷ read)) (sym (eqb-true c backslash f)) (escaped_backslash r)
    by_tests false false true e f g k = subst (λ d. Reads (backslash ∷ d ∷ w) (escaped d ∷ read)) (sym (eqb-true c letter_n g)) (escaped_line_feed r)
    by_tests false false false e f g k = cc

reads_is : {w : List ℕ} → IsInText w → Reads w (unescaped false w)
reads_is no_more = nothing
reads_is (plain {c = c} {w = w} h d) =
    subst (λ (b : Bool). Reads (c ∷ w) (if b then unescaped true w else c ∷ unescaped false w)) (sym (not_backslash c h)) (plain_char h (reads_is d))
reads_is (escape {c = c} {w = w} h d) = escape_reads c h (reads_is d)

-- what stands between the quotes
inner_is : (v w : List ℕ) → v ++ quote ∷ [] ≡ w ++ quote ∷ [] → v ≡ w
inner_is v w e = append_cancel_right v w (quote ∷ []) e

text_reads : (w : List ℕ) → IsQuoted (quote ∷ (w ++ quote ∷ [])) → Reads w (unescaped false w)
text_reads w q = subst (λ (v : List ℕ). Reads v (unescaped false v)) (inner_is q.inner w (sym (tail_is q.quoted))) (reads_is q.in_text)
  where
    tail_is : {c : ℕ} {v u : List ℕ} → ◌≡◌ {A = List ℕ} (c ∷ v) (c ∷ u) → v ≡ u
    tail_is e = cc

-- ---- one word more

cons_append : {A : Type 0} (o : Option A) (xs ys : List A) → cons_option o (xs ++ ys) ≡ cons_option o xs ++ ys
cons_append (Some x) xs ys = refl
cons_append None xs ys = refl

filter_append : (f : Lexeme → Option ℕ) (ws : List Lexeme) (x : Lexeme) → filter_map f (ws ++ x ∷ []) ≡ filter_map f ws ++ cons_option (f x) []
filter_append f [] x = refl
filter_append f (w ∷ ws) x = ap (λ (ns : List ℕ). cons_option (f w) ns) (filter_append f ws x) ∙ cons_append (f w) (filter_map f ws) (cons_option (f x) [])

abbrev name_in : Lexeme → Option ℕ
name_in w = name_number w.word

abbrev text_in : Lexeme → Option ℕ
text_in w = text_number w.word

-- no name, and no text, more
same_names : {names : List Text} (ws : List Lexeme) (x : Lexeme) → name_in x ≡ None → AreNumbered names (filter_map name_in ws) → AreNumbered names (filter_map name_in (ws ++ x ∷ []))
same_names {names} ws x e a = subst (λ (ns : List ℕ). AreNumbered names ns) (sym (filter_append name_in ws x ∙ ap (λ o. filter_map name_in ws ++ cons_option o []) e ∙ append-nil (filter_map name_in ws))) a

same_texts : {texts : List Text} (ws : List Lexeme) (x : Lexeme) → text_in x ≡ None → AreNumbered texts (filter_map text_in ws) → AreNumbered texts (filter_map text_in (ws ++ x ∷ []))
same_texts {texts} ws x e a = subst (λ (ns : List ℕ). AreNumbered texts ns) (sym (filter_append text_in ws x ∙ ap (λ o. filter_map text_in ws ++ cons_option o []) e ∙ append-nil (filter_map text_in ws))) a

pub so_far_starts : (bytes : List ℕ) → AreSoFar bytes [] [] [] []
so_far_starts bytes = record { are_words = no_word; names_numbered = none_numbered; texts_numbered = none_numbered }
  where
    none_numbered : AreNumbered [] []
    none_numbered = record { one_number = λ m n t h k. absurd (cc); by_mention = all_mentioned }

pub so_far_more : {bytes : List ℕ} {done : List Token} {words : List Lexeme} {names texts names' texts' : List (List ℕ)} {k : TokenKind} {w : List ℕ} {x : Word} (t : Token)
    → AreSoFar bytes done words names texts → Mentions names texts k w x names' texts' → k ≡ t.kind → w ≡ text_of bytes t → IsTextFor k w
    → AreSoFar bytes (done ++ t ∷ []) (words ++ lexeme x (place_of bytes t.start) ∷ []) names' texts'
so_far_more {bytes} {done} {words} {names} {texts} t s m ek ew is = by_mention m ek ew is
  where
    at : Word → Lexeme
    at x = lexeme x (place_of bytes t.start)

    one : (names' texts' : List (List ℕ)) {k : TokenKind} {w : List ℕ} {x : Word} → k ≡ t.kind → w ≡ text_of bytes t → IsWord (table names') (table texts') k w x → IsWord (table names') (table texts') t.kind (text_of bytes t) x
    one names' texts' {w = w} {x = x} ek ew i = subst (λ (v : List ℕ). IsWord (table names') (table texts') t.kind v x) ew (subst (λ j. IsWord (table names') (table texts') j w x) ek i)

    by_mention : {names' texts' : List (List ℕ)} {k : TokenKind} {w : List ℕ} {x : Word} → Mentions names texts k w x names' texts' → k ≡ t.kind → w ≡ text_of bytes t → IsTextFor k w
        → AreSoFar bytes (done ++ t ∷ []) (words ++ at x ∷ []) names' texts'
    by_mention (wording.a_name {w = w} {n = n} {more = more} d) ek ew is = record {
      are_words = words_push t _ (words_grown (grows d) (stays texts) s.are_words) (one more texts ek ew (a_name (get_table more n w (number_there d))));
      names_numbered = subst (λ (ns : List ℕ). AreNumbered (table more) ns) (sym (filter_append name_in words (at (word.Name (record { 0 = n }))))) (numbered_push (filter_map name_in words) d s.names_numbered);
      texts_numbered = same_texts words (at (word.Name (record { 0 = n }))) refl s.texts_numbered;
    }
    by_mention (wording.a_keyword k) ek ew is = record {
      are_words = words_push t _ s.are_words (one names texts ek ew (a_keyword k));
      names_numbered = same_names words (at (word.Keyword k)) refl s.names_numbered;
      texts_numbered = same_texts words (at (word.Keyword k)) refl s.texts_numbered;
    }
    by_mention (wording.a_number {w = w}) ek ew is = record {
      are_words = words_push t _ s.are_words (one names texts ek ew a_number);
      names_numbered = same_names words (at (word.Number (pos (digits_value w)))) refl s.names_numbered;
      texts_numbered = same_texts words (at (word.Number (pos (digits_value w)))) refl s.texts_numbered;
    }
    by_mention (wording.a_text w {n = n} {more = more} d) ek ew is = record {
      are_words = words_push t _ (words_grown (stays names) (grows d) s.are_words) (one names more ek ew (a_text (text_reads w is) (get_table more n (unescaped false w) (number_there d))));
      names_numbered = same_names words (at (word.Text n)) refl s.names_numbered;
      texts_numbered = subst (λ (ns : List ℕ). AreNumbered (table more) ns) (sym (filter_append text_in words (at (word.Text n)))) (numbered_push (filter_map text_in words) d s.texts_numbered);
    }
    by_mention (wording.a_mark m) ek ew is = record {
      are_words = words_push t _ s.are_words (one names texts ek ew (a_mark m));
      names_numbered = same_names words (at (word.Mark m)) refl s.names_numbered;
      texts_numbered = same_texts words (at (word.Mark m)) refl s.texts_numbered;
    }

-- ---- what the function that makes a word has

pub mention_name : {names texts more : List (List ℕ)} {k : TokenKind} {v w : List ℕ} {n : ℕ} → k ≡ sort.Name → v ≡ w → Numbers names v more n → Mentions names texts k w (word.Name (record { 0 = n })) more texts
mention_name {names} {texts} {more} {k} {v} {w} {n} e f d = subst (λ j. Mentions names texts j w (word.Name (record { 0 = n })) more texts) (sym e) (wording.a_name (subst (λ (u : List ℕ). Numbers names u more n) f d))

pub mention_keyword : {names texts : List (List ℕ)} {k : TokenKind} {w : List ℕ} (j : Keyword) → k ≡ sort.Keyword → w ≡ keyword_text j → Mentions names texts k w (word.Keyword j) names texts
mention_keyword {names} {texts} {k} {w} j e f =
    subst (λ i. Mentions names texts i w (word.Keyword j) names texts) (sym e) (subst (λ (u : List ℕ). Mentions names texts sort.Keyword u (word.Keyword j) names texts) (sym f) (wording.a_keyword j))

pub mention_number : {names texts : List (List ℕ)} {k : TokenKind} {w : List ℕ} {z : ℤ} → k ≡ sort.Number → z ≡ pos (digits_value w) → Mentions names texts k w (word.Number z) names texts
mention_number {names} {texts} {k} {w} {z} e f =
    subst (λ i. Mentions names texts i w (word.Number z) names texts) (sym e) (subst (λ y. Mentions names texts sort.Number w (word.Number y) names texts) (sym f) wording.a_number)

pub mention_text : {names texts more : List (List ℕ)} {k : TokenKind} {u : List ℕ} (v : List ℕ) {w : List ℕ} {n : ℕ} → k ≡ sort.Text → w ≡ quote ∷ (v ++ quote ∷ []) → u ≡ unescaped false v → Numbers texts u more n
    → Mentions names texts k w (word.Text n) names more
mention_text {names} {texts} {more} {k} {u} v {w} {n} e f g d =
    subst (λ i. Mentions names texts i w (word.Text n) names more) (sym e)
    (subst (λ (x : List ℕ). Mentions names texts sort.Text x (word.Text n) names more) (sym f) (wording.a_text v (subst (λ (x : List ℕ). Numbers texts x more n) g d)))

pub mention_mark : {names texts : List (List ℕ)} {k : TokenKind} {w : List ℕ} (m : Mark) → k ≡ sort.Mark → w ≡ mark_text m → Mentions names texts k w (word.Mark m) names texts
mention_mark {names} {texts} {k} {w} m e f =
    subst (λ i. Mentions names texts i w (word.Mark m) names texts) (sym e) (subst (λ (u : List ℕ). Mentions names texts sort.Mark u (word.Mark m) names texts) (sym f) (wording.a_mark m))
