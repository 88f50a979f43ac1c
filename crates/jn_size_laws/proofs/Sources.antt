-- How many tokens and texts a source has.
use Rattle.std.proofs.Common.{◌≡◌, ℕ, zero, suc, ◌+◌, ◌-◌, ◌*◌, ◌≤◌, List, [], ◌∷◌, ◌++◌, length, take, drop, map, Option, Some, true, false, refl, sym, ap, ◌∙◌, arith}
use Rattle.std.specs.Prelude.{slice_get}
use Rattle.std.specs.List.{filter_map}
use Rattle.std.specs.Str.{encode_utf8_all}
use Rattle.std.proofs.lemmas.List.{length-append, length-take}
use Rattle.std.proofs.lemmas.Str.{encodes-append, length-le-encodes}
use Rattle.jn_base.specs.declared.token.Token.{Token}
use Rattle.jn_base.specs.declared.token.TokenKind.{TokenKind}
use Rattle.jn_base.specs.declared.token.LexFault.{LexFault}
use Rattle.jn_base.specs.declared.tree.Text.{Text}
use Rattle.jn_base.specs.declared.tree.Program.{Program}
use Rattle.jn_base.specs.declared.word.Word.{Word}
use Rattle.jn_base.specs.declared.word.Word.TheVariants as word
use Rattle.jn_base.specs.declared.word.Lexeme.{Lexeme}
use Rattle.jn_base.specs.Tokens.{width, is_mark, IsToken, name, keyword, number, text, mark, Lexes, at_end, fault, blank, comment, token}
use Rattle.jn_base.specs.Places.{place_of}
use Rattle.jn_base.specs.Words as w
use Rattle.jn_base.specs.Parts.{Part, lexeme_of}
use Rattle.jn_base.specs.Spelling.{SourceSpells}
use Rattle.jn_size_laws.specs.Sizes.{total}

-- ---- tokens stand apart

width-append : (v w : List ℕ) → width (v ++ w) ≡ width v + width w
width-append v w = ap length (encodes-append v w) ∙ length-append (encode_utf8_all v) (encode_utf8_all w)

no_empty : is_mark [] ≡ false
unfolding is_mark
no_empty = refl

some_mark : (w : List ℕ) → is_mark w ≡ true → 1 ≤ length w
some_mark [] e = absurd (no (sym no_empty ∙ e))
  where
    no : false ≡ true → ⊥
    no e = cc
some_mark (c ∷ w) e = omega arith

some_token : (k : TokenKind) (w rest : List ℕ) → IsToken k w rest → 1 ≤ length w
some_token k w rest (name b a n h) = omega arith
some_token k w rest (keyword b a n h) = omega arith
some_token k w rest (number a n h) = omega arith
some_token k w rest (text h) = omega arith
some_token k w rest (mark h n l) = some_mark w h

-- how many bytes a token takes
abbrev long : Token → ℕ
long t = t.end - t.start

record Lie (ts : List Token) (n : ℕ) : Type 0 where
  pub within : total (map long ts) ≤ n
  pub some : length ts ≤ total (map long ts)

lie : {at : ℕ} {cs : List ℕ} {ts : List Token} {f : Option LexFault} → Lexes at cs ts f → Lie ts (width cs)
lie at_end = record { within = omega arith; some = omega arith }
lie (fault d) = record { within = omega arith; some = omega arith }
lie (blank {c = c} {cs = cs} b l) =
    let r = lie l in
    let e = width-append (c ∷ []) cs in
    let i = r.within in
    record { within = omega (arith, e, i); some = r.some }
lie (comment {w = w} {rest = rest} d l) =
    let r = lie l in
    let e = width-append w rest in
    let i = r.within in
    record { within = omega (arith, e, i); some = r.some }
lie (token {k = k} {w = w} {rest = rest} d l) =
    let r = lie l in
    let e = width-append w rest in
    let i = r.within in
    let s = r.some in
    let one = some_token k w rest d in
    let bytes = length-le-encodes w in
    record { within = omega (arith, e, i); some = omega (arith, s, one, bytes) }

-- ---- texts

abbrev pub takes : Text → ℕ
takes t = 4 + length t.bytes

reads_short : (v t : List ℕ) → w.Reads v t → length t ≤ length v
reads_short v t w.nothing = omega arith
reads_short v t (w.plain {w = u} {text = s} e h) = let r = reads_short u s h in omega (arith, r)
reads_short v t (w.escaped_quote {w = u} {text = s} h) = let r = reads_short u s h in omega (arith, r)
reads_short v t (w.escaped_backslash {w = u} {text = s} h) = let r = reads_short u s h in omega (arith, r)
reads_short v t (w.escaped_line_feed {w = u} {text = s} h) = let r = reads_short u s h in omega (arith, r)

-- the text of a word is in the table, and shorter than its token
abbrev InTable : List Text → List ℕ → Word → Type 0
InTable texts v (word.Text n) = (t : Text) × (slice_get texts n ≡ Some t) × (2 + length t.bytes ≤ length v)
InTable texts v x = Unit {0}

in_table : (names texts : List Text) (k : TokenKind) (v : List ℕ) (x : Word) → w.IsWord names texts k v x →
    InTable texts v x
in_table names texts k v x (w.a_name e) = tt
in_table names texts k v x (w.a_keyword y) = tt
in_table names texts k v x w.a_number = tt
in_table names texts k v x (w.a_text {w = u} {read = s} reads e) = (
  w.text s,
  e,
  (let r = reads_short u s reads in
      let l = length-append u (34 ∷ []) in omega (arith, r, l)),
)
in_table names texts k v x (w.a_mark m) = tt

-- one more text is taken
one_more : (texts : List Text) (k : ℕ) (t : Text) → slice_get texts k ≡ Some t →
    total (map takes (take (suc k) texts)) ≡ total (map takes (take k texts)) + takes t
one_more [] k t e = absurd (cc)
one_more (x ∷ texts) zero t e = omega (arith, same (got e))
  where
    got : Some x ≡ Some t → x ≡ t
    got e = cc

    same : x ≡ t → takes x ≡ takes t
    same e = ap takes e
one_more (x ∷ texts) (suc k) t e = let r = one_more texts k t e in omega (arith, r)

-- the texts that words mention take no more than two bytes for each byte of their tokens
abbrev Told : List Text → List Token → List Lexeme → ℕ → Type 0
Told texts ts ws to =
    (from : ℕ) → w.AreByMention from (filter_map (λ (x : Lexeme). w.text_number x.word) ws) to →
    total (map takes (take to texts)) ≤ total (map takes (take from texts)) + 2 * total (map long ts)

none_told : (texts : List Text) (to : ℕ) → Told texts [] [] to
none_told texts to from w.all_mentioned = omega arith

later : (texts : List Text) (t : Token) (ts : List Token) (ws : List Lexeme) (to from : ℕ) → Told texts ts ws to →
    w.AreByMention from (filter_map (λ (x : Lexeme). w.text_number x.word) ws) to →
    total (map takes (take to texts)) ≤ total (map takes (take from texts)) + 2 * (long t + total (map long ts))
later texts t ts ws to from more m = let r = more from m in omega (arith, r)

of_text : (texts : List Text) (t : Token) (ts : List Token) (ws : List Lexeme) (to n from : ℕ) (v : List ℕ) →
    length v ≤ long t → InTable texts v (word.Text n) → Told texts ts ws to →
    w.AreByMention from (n ∷ filter_map (λ (x : Lexeme). w.text_number x.word) ws) to →
    total (map takes (take to texts)) ≤ total (map takes (take from texts)) + 2 * (long t + total (map long ts))
of_text texts t ts ws to n from v short h more (w.again lt m) = later texts t ts ws to from more m
of_text texts t ts ws to n from v short h more (w.first m) =
    let r = more (from + 1) m in
    let next : from + 1 ≡ suc from = omega arith in
    let a = ap (λ (j : ℕ). total (map takes (take j texts))) next in
    let e = one_more texts from h.0 h.1 in
    let l = h.2 in
    omega (arith, r, a, e, l, short)

of_word : (bytes : List ℕ) (texts : List Text) (t : Token) (ts : List Token) (ws : List Lexeme) (to : ℕ) (x : Word) →
    length (w.text_of bytes t) ≤ long t → InTable texts (w.text_of bytes t) x → Told texts ts ws to →
    Told texts (t ∷ ts) (w.lexeme x (place_of bytes t.start) ∷ ws) to
of_word bytes texts t ts ws to (word.Text n) s h more from m =
    of_text texts t ts ws to n from (w.text_of bytes t) s h more m
of_word bytes texts t ts ws to (word.Name n) s h more from m = later texts t ts ws to from more m
of_word bytes texts t ts ws to (word.Keyword k) s h more from m = later texts t ts ws to from more m
of_word bytes texts t ts ws to (word.Number z) s h more from m = later texts t ts ws to from more m
of_word bytes texts t ts ws to (word.Mark k) s h more from m = later texts t ts ws to from more m
of_word bytes texts t ts ws to word.End s h more from m = later texts t ts ws to from more m
of_word bytes texts t ts ws to word.Fault s h more from m = later texts t ts ws to from more m

mentioned : (bytes : List ℕ) (names texts : List Text) (ts : List Token) (ws : List Lexeme) (to : ℕ) →
    w.AreWords bytes names texts ts ws → Told texts ts ws to
mentioned bytes names texts ts ws to w.no_word = none_told texts to
mentioned bytes names texts ts ws to (w.then_word {t = t} {ts = us} {x = x} {ws = vs} is rest) =
    let l = length-take (t.end - t.start) (drop t.start bytes) in
    of_word bytes texts t us vs to x (omega (arith, l)) (in_table names texts t.kind (w.text_of bytes t) x is)
    (mentioned bytes names texts us vs to rest)

-- a word for each token
words_long : (bytes : List ℕ) (names texts : List Text) (ts : List Token) (ws : List Lexeme) →
    w.AreWords bytes names texts ts ws → length ws ≡ length ts
words_long bytes names texts ts ws w.no_word = refl
words_long bytes names texts ts ws (w.then_word {ts = us} {ws = vs} is rest) =
    ap suc (words_long bytes names texts us vs rest)

all_taken : (texts : List Text) → take (length texts) texts ≡ texts
all_taken [] = refl
all_taken (t ∷ texts) = ap (λ (ts : List Text). t ∷ ts) (all_taken texts)

parts_long : (ps : List Part) → length (map lexeme_of ps) ≡ length ps
parts_long [] = refl
parts_long (x ∷ ps) = ap suc (parts_long ps)

-- A source has no more tokens than bytes, and its texts take no more than two bytes for each.
pub record Counted (p : Program) (bytes : List ℕ) (parts : List Part) : Type 0 where
  pub tokens : ℕ
  pub are : length parts ≡ suc tokens
  pub few : tokens ≤ length bytes
  pub texts : total (map takes p.texts) ≤ 2 * length bytes

pub counted : (p : Program) (bytes : List ℕ) (s : SourceSpells p bytes) → Counted p bytes s.parts
counted p bytes s =
    let ws = s.are_words in
    let lies = lie ws.lexed.lexed in
    let inside = lies.within in
    let some = lies.some in
    let all : width ws.lexed.characters ≡ length bytes = ap (λ (bs : List ℕ). length bs) ws.lexed.spelled in
    let told = mentioned bytes p.names p.texts ws.tokens ws.words (length p.texts) ws.are_words 0
    ws.texts_numbered.by_mention in
    let whole = ap (λ (ts : List Text). total (map takes ts)) (all_taken p.texts) in
    let many = words_long bytes p.names p.texts ws.tokens ws.words ws.are_words in
    let sum = ap (λ (xs : List Lexeme). length xs) ws.whole in
    let parts = parts_long s.parts in
    let l = length-append ws.words (w.last_word bytes ws.fault ∷ []) in
    record {
      tokens = length ws.tokens;
      are = omega (arith, many, sum, parts, l);
      few = omega (arith, inside, some, all);
      texts = omega (arith, told, whole, inside, all);
    }
