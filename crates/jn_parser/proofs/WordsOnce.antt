-- A source has one list of words, and one list of names and of texts by their numbers.
use Rattle.std.proofs.Common.{◌≡◌, ℕ, suc, ◌+◌, ◌<◌, Bool, true, false, not, ◌||◌, ◌==◌, List, [], ◌∷◌, ◌++◌, length, Option, Some, refl, sym, ◌∙◌, ap, subst, arith, pos, if◌then◌else◌}
use Rattle.std.specs.Prelude.{slice_get, filter_map}
use Rattle.std.specs.Str.{bytes_eq}
use Rattle.std.proofs.lemmas.Bool.{eqb-true}
use Rattle.std.proofs.lemmas.Bool.Decides.{nat_tests}
use Rattle.std.proofs.lemmas.List.{append_cancel_right}
use Rattle.jn_base.specs.declared.token.Token.{Token}
use Rattle.jn_base.specs.declared.token.TokenKind.{TokenKind}
use Rattle.jn_base.specs.declared.token.LexFault.{LexFault}
use Rattle.jn_base.specs.declared.tree.Place.{Place}
use Rattle.jn_base.specs.declared.tree.Text.{Text}
use Rattle.jn_base.specs.declared.word.Keyword.{Keyword}
use Rattle.jn_base.specs.declared.word.Keyword.TheVariants as keyword_
use Rattle.jn_base.specs.declared.word.Mark.{Mark}
use Rattle.jn_base.specs.declared.word.Mark.TheVariants as mark_
use Rattle.jn_base.specs.declared.word.Word.{Word}
use Rattle.jn_base.specs.declared.word.Word.TheVariants as word
use Rattle.jn_base.specs.declared.word.Lexeme.{Lexeme}
use Rattle.jn_base.specs.Places.{place_of}
use Rattle.jn_base.specs.Tokens.{quote, backslash, line_feed, is_plain, ends_line, digits_value}
use Rattle.jn_base.specs.Words.{keyword_text, mark_text, text, lexeme, Reads, nothing, plain, escaped_quote, escaped_backslash, escaped_line_feed, IsWord, a_name, a_keyword, a_number, a_text, a_mark, AreWords, no_word, then_word, name_number, text_number, AreByMention, all_mentioned, again, first, AreNumbered, last_word, AreWordsOf}
use Rattle.jn_lexer.proofs.Answer.{same_tokens}
use Rattle.jn_parser.specs.Wording.{unescaped}

-- ---- what is spelled so is one

keyword_of : Keyword → List Keyword → List ℕ → Keyword
keyword_of d [] w = d
keyword_of d (k ∷ ks) w = if bytes_eq w (keyword_text k) then k else keyword_of d ks w

abbrev keyword_in : List ℕ → Keyword
keyword_in w = keyword_of keyword_.Adapts (keyword_.Adapts ∷ keyword_.Boolean ∷ keyword_.Class ∷ keyword_.Else ∷ keyword_.Extends ∷ keyword_.False
    ∷ keyword_.Final ∷ keyword_.If ∷ keyword_.Int ∷ keyword_.Is ∷ keyword_.New ∷ keyword_.Null ∷ keyword_.Package ∷ keyword_.Print ∷ keyword_.Return
    ∷ keyword_.Shares ∷ keyword_.Sharing ∷ keyword_.Super ∷ keyword_.This ∷ keyword_.True ∷ keyword_.View ∷ keyword_.Void ∷ keyword_.While ∷ []) w

keyword_back : (k : Keyword) → keyword_in (keyword_text k) ≡ k
unfolding keyword_of
keyword_back keyword_.Adapts = refl
keyword_back keyword_.Boolean = refl
keyword_back keyword_.Class = refl
keyword_back keyword_.Else = refl
keyword_back keyword_.Extends = refl
keyword_back keyword_.False = refl
keyword_back keyword_.Final = refl
keyword_back keyword_.If = refl
keyword_back keyword_.Int = refl
keyword_back keyword_.Is = refl
keyword_back keyword_.New = refl
keyword_back keyword_.Null = refl
keyword_back keyword_.Package = refl
keyword_back keyword_.Print = refl
keyword_back keyword_.Return = refl
keyword_back keyword_.Shares = refl
keyword_back keyword_.Sharing = refl
keyword_back keyword_.Super = refl
keyword_back keyword_.This = refl
keyword_back keyword_.True = refl
keyword_back keyword_.View = refl
keyword_back keyword_.Void = refl
keyword_back keyword_.While = refl

one_keyword : (j k : Keyword) → keyword_text j ≡ keyword_text k → j ≡ k
one_keyword j k e = sym (keyword_back j) ∙ ap keyword_in e ∙ keyword_back k

mark_of : Mark → List Mark → List ℕ → Mark
mark_of d [] w = d
mark_of d (k ∷ ks) w = if bytes_eq w (mark_text k) then k else mark_of d ks w

abbrev mark_in : List ℕ → Mark
mark_in w = mark_of mark_.Dot (mark_.EqualEqual ∷ mark_.NotEqual ∷ mark_.LessEqual ∷ mark_.GreaterEqual ∷ mark_.AndAnd ∷ mark_.OrOr ∷ mark_.Arrow
    ∷ mark_.OpenBrace ∷ mark_.CloseBrace ∷ mark_.OpenParen ∷ mark_.CloseParen ∷ mark_.OpenBracket ∷ mark_.CloseBracket ∷ mark_.Dot ∷ mark_.Comma
    ∷ mark_.Semicolon ∷ mark_.Equals ∷ mark_.Bang ∷ mark_.Less ∷ mark_.Greater ∷ mark_.Plus ∷ mark_.Minus ∷ mark_.Star ∷ mark_.Slash ∷ mark_.Percent
    ∷ mark_.Ampersand ∷ mark_.Backslash ∷ []) w

mark_back : (m : Mark) → mark_in (mark_text m) ≡ m
unfolding mark_of
mark_back mark_.EqualEqual = refl
mark_back mark_.NotEqual = refl
mark_back mark_.LessEqual = refl
mark_back mark_.GreaterEqual = refl
mark_back mark_.AndAnd = refl
mark_back mark_.OrOr = refl
mark_back mark_.Arrow = refl
mark_back mark_.OpenBrace = refl
mark_back mark_.CloseBrace = refl
mark_back mark_.OpenParen = refl
mark_back mark_.CloseParen = refl
mark_back mark_.OpenBracket = refl
mark_back mark_.CloseBracket = refl
mark_back mark_.Dot = refl
mark_back mark_.Comma = refl
mark_back mark_.Semicolon = refl
mark_back mark_.Equals = refl
mark_back mark_.Bang = refl
mark_back mark_.Less = refl
mark_back mark_.Greater = refl
mark_back mark_.Plus = refl
mark_back mark_.Minus = refl
mark_back mark_.Star = refl
mark_back mark_.Slash = refl
mark_back mark_.Percent = refl
mark_back mark_.Ampersand = refl
mark_back mark_.Backslash = refl

one_mark : (j k : Mark) → mark_text j ≡ mark_text k → j ≡ k
one_mark j k e = sym (mark_back j) ∙ ap mark_in e ∙ mark_back k

plain_is : (c : ℕ) (w read : List ℕ) → is_plain c ≡ true → (if c == backslash then unescaped true w else c ∷ unescaped false w) ≡ c ∷ unescaped false w
plain_is c w read h = by_tests (c == quote) (c == backslash) refl h
  where
    by_tests : (q b : Bool) → (c == backslash) ≡ b → not (q || b || ends_line c) ≡ true → (if c == backslash then unescaped true w else c ∷ unescaped false w) ≡ c ∷ unescaped false w
    by_tests true b e k = cc
    by_tests false true e k = cc
    by_tests false false e k = ap (λ (b : Bool). if b then unescaped true w else c ∷ unescaped false w) e

pub one_reading : {w read : List ℕ} → Reads w read → read ≡ unescaped false w
one_reading nothing = refl
one_reading (plain {c = c} {w = w} {text = read} h r) = ap (λ (v : List ℕ). c ∷ v) (one_reading r) ∙ sym (plain_is c w read h)
one_reading (escaped_quote {w = w} r) = ap (λ (v : List ℕ). quote ∷ v) (one_reading r)
one_reading (escaped_backslash {w = w} r) = ap (λ (v : List ℕ). backslash ∷ v) (one_reading r)
one_reading (escaped_line_feed {w = w} r) = ap (λ (v : List ℕ). line_feed ∷ v) (one_reading r)

-- ---- what is numbered so far is the same

-- two tables agree on their first `from` entries
abbrev Agree : ℕ → List Text → List Text → Type 0
Agree from xs ys = (m : ℕ) (t : Text) → m < from → slice_get xs m ≡ Some t → slice_get ys m ≡ Some t

-- a number that is mentioned next
data Next (from : ℕ) (n : ℕ) : ℕ → Type 0 where
  old : n < from → Next from n from
  new : n ≡ from → Next from n (from + 1)

next_of : {from to n : ℕ} {ns : List ℕ} → AreByMention from (n ∷ ns) to → (upto : ℕ) × Next from n upto × AreByMention upto ns to
next_of {from} (again h is) = (from, old h, is)
next_of {from} (first is) = (from + 1, new refl, is)

-- Both numbers are of one text, so they are one.
one_next : (xs ys : List Text) (from m n i j : ℕ) (t : Text) → ((k l : ℕ) (u : Text) → slice_get xs k ≡ Some u → slice_get xs l ≡ Some u → k ≡ l) → ((k l : ℕ) (u : Text) → slice_get ys k ≡ Some u → slice_get ys l ≡ Some u → k ≡ l)
    → Agree from xs ys → Agree from ys xs → slice_get xs m ≡ Some t → slice_get ys n ≡ Some t → Next from m i → Next from n j → (m ≡ n) × (i ≡ j)
one_next xs ys from m n i j t ox oy a b x y (old h) (old k) = (oy m n t (a m t h x) y, refl)
one_next xs ys from m n i j t ox oy a b x y (old h) (new k) = let same : m ≡ n = oy m n t (a m t h x) y in absurd (omega arith)
one_next xs ys from m n i j t ox oy a b x y (new h) (old k) = let same : m ≡ n = ox m n t x (b n t k y) in absurd (omega arith)
one_next xs ys from m n i j t ox oy a b x y (new h) (new k) = (h ∙ sym k, refl)

-- ... and the tables agree on one more
agree_next : (xs ys : List Text) (from m n i : ℕ) (t : Text) → Agree from xs ys → slice_get xs m ≡ Some t → slice_get ys n ≡ Some t → m ≡ n → Next from m i → Agree i xs ys
agree_next xs ys from m n i t a x y e (old h) = a
agree_next xs ys from m n i t a x y e (new h) = λ k u l s. by_place k u l s
  where
    by_place : (k : ℕ) (u : Text) → k < from + 1 → slice_get xs k ≡ Some u → slice_get ys k ≡ Some u
    by_place k u l s = by_test (k == from) refl
      where
        by_test : (b : Bool) → (k == from) ≡ b → slice_get ys k ≡ Some u
        by_test true q =
            let at : k ≡ from = eqb-true k from q in
            let here : k ≡ m = at ∙ sym h in
            let same : Some t ≡ Some u = sym x ∙ ap (λ z. slice_get xs z) (sym here) ∙ s in
            ap (λ z. slice_get ys z) (here ∙ e) ∙ y ∙ same
        by_test false q = let less : k < from = grind (arith, nat_tests) in a k u less s

-- Tables that agree up to their ends are one.
agree_all : (xs ys : List Text) → length xs ≡ length ys → Agree (length xs) xs ys → xs ≡ ys
agree_all [] [] e a = refl
agree_all [] (y ∷ ys) e a = absurd (omega arith)
agree_all (x ∷ xs) [] e a = absurd (omega arith)
agree_all (x ∷ xs) (y ∷ ys) e a =
    let head : Some y ≡ Some x = a 0 x (omega arith) refl in
    let same : x ≡ y = cc in
    ap (λ (z : Text). z ∷ xs) same ∙ ap (λ (zs : List Text). y ∷ zs) (agree_all xs ys (omega arith) (λ m t l s. a (suc m) t (omega arith) s))

-- ---- words

abbrev name_in : Lexeme → Option ℕ
name_in w = name_number w.word

abbrev text_in : Lexeme → Option ℕ
text_in w = text_number w.word

-- Two words of one token.
data Both (n1 t1 n2 t2 : List Text) : Word → Word → Type 0 where
  names : {m n : ℕ} (t : Text) → slice_get n1 m ≡ Some t → slice_get n2 n ≡ Some t → Both n1 t1 n2 t2 (word.Name (record { 0 = m })) (word.Name (record { 0 = n }))
  texts : {m n : ℕ} (t : Text) → slice_get t1 m ≡ Some t → slice_get t2 n ≡ Some t → Both n1 t1 n2 t2 (word.Text m) (word.Text n)
  keywords : (k : Keyword) → Both n1 t1 n2 t2 (word.Keyword k) (word.Keyword k)
  numbers : (v : ℕ) → Both n1 t1 n2 t2 (word.Number (pos v)) (word.Number (pos v))
  marks : (m : Mark) → Both n1 t1 n2 t2 (word.Mark m) (word.Mark m)

tail_is : {c : ℕ} {v u : List ℕ} → ◌≡◌ {A = List ℕ} (c ∷ v) (c ∷ u) → v ≡ u
tail_is e = cc

both : {n1 t1 n2 t2 : List Text} {k l : TokenKind} {w v : List ℕ} {x y : Word} → IsWord n1 t1 k w x → IsWord n2 t2 l v y → k ≡ l → w ≡ v → Both n1 t1 n2 t2 x y
both {n2 = n2} (a_name {w = w} a) (a_name {n = n} {w = v} b) e f = names (text w) a (subst (λ (u : List ℕ). slice_get n2 n ≡ Some (text u)) (sym f) b)
both (a_name a) (a_keyword k) e f = cc
both (a_name a) a_number e f = cc
both (a_name a) (a_text r b) e f = cc
both (a_name a) (a_mark m) e f = cc
both (a_keyword j) (a_name b) e f = cc
both {n1} {t1} {n2} {t2} (a_keyword j) (a_keyword k) e f = subst (λ i. Both n1 t1 n2 t2 (word.Keyword j) (word.Keyword i)) (one_keyword j k f) (keywords j)
both (a_keyword j) a_number e f = cc
both (a_keyword j) (a_text r b) e f = cc
both (a_keyword j) (a_mark m) e f = cc
both a_number (a_name b) e f = cc
both a_number (a_keyword k) e f = cc
both {n1} {t1} {n2} {t2} (a_number {w = w}) (a_number {w = v}) e f = subst (λ (u : List ℕ). Both n1 t1 n2 t2 (word.Number (pos (digits_value w))) (word.Number (pos (digits_value u)))) f (numbers (digits_value w))
both a_number (a_text r b) e f = cc
both a_number (a_mark m) e f = cc
both (a_text r a) (a_name b) e f = cc
both (a_text r a) (a_keyword k) e f = cc
both (a_text r a) a_number e f = cc
both {t2 = t2} (a_text {w = w} {read = read} r a) (a_text {n = n} {w = v} {read = other} s b) e f =
    let inner : w ≡ v = append_cancel_right w v (quote ∷ []) (tail_is f) in
    let same : other ≡ read = one_reading s ∙ ap (λ (u : List ℕ). unescaped false u) (sym inner) ∙ sym (one_reading r) in
    texts (text read) a (subst (λ (u : List ℕ). slice_get t2 n ≡ Some (text u)) same b)
both (a_text r a) (a_mark m) e f = cc
both (a_mark j) (a_name b) e f = cc
both (a_mark j) (a_keyword k) e f = cc
both (a_mark j) a_number e f = cc
both (a_mark j) (a_text r b) e f = cc
both {n1} {t1} {n2} {t2} (a_mark j) (a_mark k) e f = subst (λ i. Both n1 t1 n2 t2 (word.Mark j) (word.Mark i)) (one_mark j k f) (marks j)

pub record AreOne (n1 t1 n2 t2 : List Text) (ws vs : List Lexeme) : Type 0 where
  pub names : n1 ≡ n2
  pub texts : t1 ≡ t2
  pub words : ws ≡ vs

-- two tables that are numbered alike so far
record Tables (xs ys : List Text) (from : ℕ) (ms ns : List ℕ) : Type 0 where
  first_one : (m n : ℕ) (t : Text) → slice_get xs m ≡ Some t → slice_get xs n ≡ Some t → m ≡ n
  second_one : (m n : ℕ) (t : Text) → slice_get ys m ≡ Some t → slice_get ys n ≡ Some t → m ≡ n
  first_left : AreByMention from ms (length xs)
  second_left : AreByMention from ns (length ys)
  there : Agree from xs ys
  back : Agree from ys xs

tables_end : (xs ys : List Text) (from : ℕ) → Tables xs ys from [] [] → xs ≡ ys
tables_end xs ys from t = let a = end_of t.first_left in let b = end_of t.second_left in
    agree_all xs ys (sym a ∙ b) (subst (λ n. Agree n xs ys) a t.there)
  where
    end_of : {from to : ℕ} → AreByMention from [] to → from ≡ to
    end_of all_mentioned = refl

-- one mentioned: both numbers are one, and the tables go on alike
record Step (xs ys : List Text) (m n : ℕ) (ms ns : List ℕ) : Type 0 where
  one : m ≡ n
  upto : ℕ
  tables : Tables xs ys upto ms ns

tables_step : (xs ys : List Text) (from m n : ℕ) (ms ns : List ℕ) (u : Text) → Tables xs ys from (m ∷ ms) (n ∷ ns) → slice_get xs m ≡ Some u → slice_get ys n ≡ Some u → Step xs ys m n ms ns
tables_step xs ys from m n ms ns u t x y =
    let a = next_of t.first_left in
    let b = next_of t.second_left in
    let same = one_next xs ys from m n a.0 b.0 u t.first_one t.second_one t.there t.back x y a.1 b.1 in
    record {
      one = same.0;
      upto = a.0;
      tables = record {
        first_one = t.first_one;
        second_one = t.second_one;
        first_left = a.2;
        second_left = subst (λ i. AreByMention i ns (length ys)) (sym same.1) b.2;
        there = agree_next xs ys from m n a.0 u t.there x y same.0 a.1;
        back = subst (λ i. Agree i ys xs) (sym same.1) (agree_next ys xs from n m b.0 u t.back y x (sym same.0) b.1);
      };
    }

-- what is left of two lists of words
abbrev Once : List ℕ → List Text → List Text → List Text → List Text → List Token → Type 0
Once bytes n1 t1 n2 t2 ts = (ws vs : List Lexeme) (i j : ℕ) → AreWords bytes n1 t1 ts ws → AreWords bytes n2 t2 ts vs
    → Tables n1 n2 i (filter_map name_in ws) (filter_map name_in vs) → Tables t1 t2 j (filter_map text_in ws) (filter_map text_in vs) → AreOne n1 t1 n2 t2 ws vs

more_once : {n1 t1 n2 t2 : List Text} {x : Word} {ws vs : List Lexeme} (p : Place) (y : Word) → x ≡ y → AreOne n1 t1 n2 t2 ws vs → AreOne n1 t1 n2 t2 (lexeme x p ∷ ws) (lexeme y p ∷ vs)
more_once {ws = ws} p y h o = record { names = o.names; texts = o.texts; words = ap (λ (z : Word). lexeme z p ∷ ws) h ∙ ap (λ (us : List Lexeme). lexeme y p ∷ us) o.words }

by_both : (bytes : List ℕ) (n1 t1 n2 t2 : List Text) (ts : List Token) (ws vs : List Lexeme) (i j : ℕ) (p : Place) → Once bytes n1 t1 n2 t2 ts → AreWords bytes n1 t1 ts ws → AreWords bytes n2 t2 ts vs
    → {x y : Word} → Both n1 t1 n2 t2 x y → Tables n1 n2 i (filter_map name_in (lexeme x p ∷ ws)) (filter_map name_in (lexeme y p ∷ vs)) → Tables t1 t2 j (filter_map text_in (lexeme x p ∷ ws)) (filter_map text_in (lexeme y p ∷ vs))
    → AreOne n1 t1 n2 t2 (lexeme x p ∷ ws) (lexeme y p ∷ vs)
by_both bytes n1 t1 n2 t2 ts ws vs i j p r ds es (names {m} {n} u k q) a b =
    let s = tables_step n1 n2 i m n (filter_map name_in ws) (filter_map name_in vs) u a k q in
    more_once p (word.Name (record { 0 = n })) (ap (λ z. word.Name (record { 0 = z })) s.one) (r ws vs s.upto j ds es s.tables b)
by_both bytes n1 t1 n2 t2 ts ws vs i j p r ds es (texts {m} {n} u k q) a b =
    let s = tables_step t1 t2 j m n (filter_map text_in ws) (filter_map text_in vs) u b k q in
    more_once p (word.Text n) (ap (λ z. word.Text z) s.one) (r ws vs i s.upto ds es a s.tables)
by_both bytes n1 t1 n2 t2 ts ws vs i j p r ds es (keywords k) a b = more_once p (word.Keyword k) refl (r ws vs i j ds es a b)
by_both bytes n1 t1 n2 t2 ts ws vs i j p r ds es (numbers v) a b = more_once p (word.Number (pos v)) refl (r ws vs i j ds es a b)
by_both bytes n1 t1 n2 t2 ts ws vs i j p r ds es (marks m) a b = more_once p (word.Mark m) refl (r ws vs i j ds es a b)

words_once : (bytes : List ℕ) (n1 t1 n2 t2 : List Text) (ts : List Token) → Once bytes n1 t1 n2 t2 ts
words_once bytes n1 t1 n2 t2 [] _ _ i j no_word no_word a b = record { names = tables_end n1 n2 i a; texts = tables_end t1 t2 j b; words = refl }
words_once bytes n1 t1 n2 t2 (t ∷ ts) _ _ i j (then_word {ws = ws} d ds) (then_word {ws = vs} e es) a b =
    by_both bytes n1 t1 n2 t2 ts ws vs i j (place_of bytes t.start) (words_once bytes n1 t1 n2 t2 ts) ds es (both d e refl refl) a b

start : {xs ys : List Text} {ms ns : List ℕ} → AreNumbered xs ms → AreNumbered ys ns → Tables xs ys 0 ms ns
start a b = record {
  first_one = a.one_number;
  second_one = b.one_number;
  first_left = a.by_mention;
  second_left = b.by_mention;
  there = λ m t l s. absurd (omega arith);
  back = λ m t l s. absurd (omega arith);
}

-- one list of words, of names and of texts
pub words_are_one : (bytes : List ℕ) (n1 t1 n2 t2 : List Text) (ws vs : List Lexeme) → AreWordsOf bytes n1 t1 ws → AreWordsOf bytes n2 t2 vs → AreOne n1 t1 n2 t2 ws vs
words_are_one bytes n1 t1 n2 t2 ws vs a b =
    let s = same_tokens bytes a.tokens b.tokens a.fault b.fault a.lexed b.lexed in
    let o = words_once bytes n1 t1 n2 t2 b.tokens a.words b.words 0 0 (subst (λ (us : List Token). AreWords bytes n1 t1 us a.words) s.tokens a.are_words) b.are_words
    (start a.names_numbered b.names_numbered) (start a.texts_numbered b.texts_numbered) in
    record {
      names = o.names;
      texts = o.texts;
      words = a.whole ∙ ap (λ (us : List Lexeme). us ++ last_word bytes a.fault ∷ []) o.words ∙ ap (λ (f : Option LexFault). b.words ++ last_word bytes f ∷ []) s.faults ∙ sym b.whole;
    }
