-- What is written word by word are the words of its bytes; words that are alike have the same names, texts and masks.
use Rattle.std.proofs.Common.{◌≡◌, ℕ, suc, ◌+◌, ◌-◌, ◌<◌, Bool, true, false, ◌&&◌, List, [], ◌∷◌, ◌++◌, map, filter_map, length, take, drop, Option, None, encode_utf8, encode_utf8_all, refl, sym, ap, ap₂, subst, ◌∙◌, append_assoc, append-nil, length-append, arith}
use Rattle.std.proofs.Math.Seq.{take-append_seam, drop-append_seam}
use Rattle.std.proofs.lemmas.Str.{encodes-append, encode_ascii}
use Rattle.std.proofs.lemmas.Bool.Decides.{nat_tests}
use Rattle.std.specs.Str.{all_scalars}
use Rattle.std.specs.List.{cons_option}
use Rattle.jn_base.specs.declared.tree.Text.{Text}
use Rattle.jn_base.specs.declared.token.Token.{Token}
use Rattle.jn_base.specs.declared.word.Mark.{Mark}
use Rattle.jn_base.specs.declared.word.Mark.TheVariants as mark_
use Rattle.jn_base.specs.declared.word.Word.{Word}
use Rattle.jn_base.specs.declared.word.Word.TheVariants as word_
use Rattle.jn_base.specs.declared.word.Lexeme.{Lexeme}
use Rattle.jn_base.specs.Places.{place_of}
use Rattle.jn_base.specs.Tokens.{is_blank, width, Lexes, at_end, blank, token}
use Rattle.jn_base.specs.Tokens as Tokens
use Rattle.jn_base.specs.Words.{lexeme, IsWord, AreWords, no_word, then_word, name_number, text_number}
use Rattle.jn_base.specs.Parts.{Part, lexeme_of}
use Rattle.jn_base.specs.Spelling.{mask_then, mask_numbers}
use Rattle.jn_printer.proofs.Written.{Setting, Written, done, is_loose, is_backslash, Alike, nothing, same_word, same_mask, more_left, more_right}
use Rattle.jn_printer.proofs.Chars.{small_scalar, scalars_append}
use Rattle.jn_printer.proofs.Tokens.{piece_is}

-- the slice of a token
pub slice_is : (whole front w rest : List ℕ) (n m : ℕ) → whole ≡ front ++ (w ++ rest) → n ≡ length front → m ≡ length w → take ((n + m) - n) (drop n whole) ≡ w
slice_is whole front w rest n m e a b =
    let from : drop n whole ≡ w ++ rest = ap₂ (λ (k : ℕ) (xs : List ℕ). drop k xs) a e ∙ drop-append_seam front (w ++ rest) in
    let long : (n + m) - n ≡ length w = omega (arith, b) in
    ap₂ (λ (k : ℕ) (xs : List ℕ). take k xs) long from ∙ take-append_seam w rest

pub front_on : (whole front w rest : List ℕ) → whole ≡ front ++ (w ++ rest) → whole ≡ (front ++ w) ++ rest
front_on whole front w rest e = e ∙ sym (append_assoc front w rest)

-- the names and texts of a program with the places of its bytes
abbrev pub setting : (names texts : List Text) → List ℕ → Setting
setting names texts whole = record { names = names; texts = texts; at = place_of whole }

pub record Lexed (names texts : List Text) (whole : List ℕ) (n : ℕ) (t : List ℕ) (v : List Part) : Type 0 where
  pub characters : List ℕ
  pub scalars : all_scalars characters ≡ true
  pub spelled : encode_utf8_all characters ≡ t
  pub tokens : List Token
  pub lexed : Lexes n characters tokens None
  pub are_words : AreWords whole names texts tokens (map lexeme_of v)

blank_small : (c : ℕ) → is_blank c ≡ true → c < 128
blank_small c h = grind (arith, nat_tests)

pub lexed_of : (names texts : List Text) (whole : List ℕ) {n : ℕ} {t : List ℕ} {v : List Part} → Written (setting names texts whole) [] n t v
    → (front : List ℕ) → whole ≡ front ++ t → n ≡ length front → Lexed names texts whole n t v
lexed_of names texts whole done front e a = record { characters = []; scalars = refl; spelled = refl; tokens = []; lexed = at_end; are_words = no_word }
lexed_of names texts whole (Written.blank {n = n} {c = c} {t = t} b d) front e a =
    let one : length (front ++ c ∷ []) ≡ suc n = omega (arith, a, length-append front (c ∷ [])) in
    let l = lexed_of names texts whole d (front ++ c ∷ []) (front_on whole front (c ∷ []) t e) (sym one) in
    let encoded : encode_utf8 c ≡ c ∷ [] = encode_ascii c (blank_small c b) in
    let wide : width (c ∷ []) ≡ 1 = ap length (append-nil (encode_utf8 c) ∙ encoded) in
    let on : suc n ≡ n + width (c ∷ []) = omega (arith, wide) in
    record {
      characters = c ∷ l.characters;
      scalars = ap₂ (λ (x y : Bool). x && y) (small_scalar c (blank_small c b)) l.scalars;
      spelled = ap₂ (λ (x y : List ℕ). x ++ y) encoded l.spelled;
      tokens = l.tokens;
      lexed = Tokens.blank b (subst (λ (k : ℕ). Lexes k l.characters l.tokens None) on l.lexed);
      are_words = l.are_words;
    }
lexed_of names texts whole (Written.then_word {n = n} w {t = t} {x = x} r p d) front e a =
    let i = piece_is (setting names texts whole) p in
    let long : length (front ++ w) ≡ n + length w = omega (arith, a, length-append front w) in
    let l = lexed_of names texts whole d (front ++ w) (front_on whole front w t e) (sym long) in
    let cs = i.stands.characters in
    let wide : width cs ≡ length w = ap length i.stands.spelled in
    let slice : take ((n + width cs) - n) (drop n whole) ≡ w = slice_is whole front w t n (width cs) e a wide in
    record {
      characters = cs ++ l.characters;
      scalars = scalars_append cs l.characters i.stands.scalars l.scalars;
      spelled = encodes-append cs l.characters ∙ ap₂ (λ (x y : List ℕ). x ++ y) i.stands.spelled l.spelled;
      tokens = record { kind = i.kind; start = n; end = n + width cs } ∷ l.tokens;
      lexed = token (i.stands.token l.characters (l.spelled ∙ sym (append-nil t))) (subst (λ (k : ℕ). Lexes (n + k) l.characters l.tokens None) (sym wide) l.lexed);
      are_words = then_word (subst (λ (y : List ℕ). IsWord names texts i.kind y x) (sym slice) i.is_word) l.are_words;
    }

-- ---- alike words

loose_no_name : (x : Word) → is_loose x ≡ true → name_number x ≡ None
loose_no_name (word_.Name n) h = absurd (cc)
loose_no_name (word_.Keyword k) h = refl
loose_no_name (word_.Number n) h = refl
loose_no_name (word_.Text n) h = refl
loose_no_name (word_.Mark m) h = refl
loose_no_name word_.End h = refl
loose_no_name word_.Fault h = refl

loose_no_text : (x : Word) → is_loose x ≡ true → text_number x ≡ None
loose_no_text (word_.Name n) h = refl
loose_no_text (word_.Keyword k) h = refl
loose_no_text (word_.Number n) h = refl
loose_no_text (word_.Text n) h = absurd (cc)
loose_no_text (word_.Mark m) h = refl
loose_no_text word_.End h = refl
loose_no_text word_.Fault h = refl

loose_plain_mark : (m : Mark) → is_loose (word_.Mark m) ≡ true → is_backslash (word_.Mark m) ≡ false
loose_plain_mark mark_.Backslash h = absurd (cc)
loose_plain_mark m h = refl

loose_plain : (x : Word) → is_loose x ≡ true → is_backslash x ≡ false
loose_plain (word_.Name n) h = refl
loose_plain (word_.Keyword k) h = refl
loose_plain (word_.Number n) h = refl
loose_plain (word_.Text n) h = refl
loose_plain (word_.Mark m) h = loose_plain_mark m h
loose_plain word_.End h = refl
loose_plain word_.Fault h = refl

-- what f gives of the words, where it gives nothing of loose ones
alike_given : (f : Word → Option ℕ) → ((x : Word) → is_loose x ≡ true → f x ≡ None) → {v w : List Part} → Alike v w
    → filter_map (λ (l : Lexeme). f l.word) (map lexeme_of v) ≡ filter_map (λ (l : Lexeme). f l.word) (map lexeme_of w)
alike_given f h nothing = refl
alike_given f h (same_word {x = x} b d) = ap (λ (ns : List ℕ). cons_option (f x) ns) (alike_given f h d)
alike_given f h (same_mask {x = x} d) = ap (λ (ns : List ℕ). cons_option (f (word_.Mark mark_.Backslash)) (cons_option (f (word_.Name x)) ns)) (alike_given f h d)
alike_given f h (more_left {x = x} {v = v} b d) = ap (λ (o : Option ℕ). cons_option o (filter_map (λ (l : Lexeme). f l.word) (map lexeme_of v))) (h x b) ∙ alike_given f h d
alike_given f h (more_right {x = x} {w = w} b d) = alike_given f h d ∙ sym (ap (λ (o : Option ℕ). cons_option o (filter_map (λ (l : Lexeme). f l.word) (map lexeme_of w))) (h x b))

abbrev pub names_in : List Part → List ℕ
names_in v = filter_map (λ (l : Lexeme). name_number l.word) (map lexeme_of v)

abbrev pub texts_in : List Part → List ℕ
texts_in v = filter_map (λ (l : Lexeme). text_number l.word) (map lexeme_of v)

pub alike_names : {v w : List Part} → Alike v w → names_in v ≡ names_in w
alike_names d = alike_given name_number loose_no_name d

pub alike_texts : {v w : List Part} → Alike v w → texts_in v ≡ texts_in w
alike_texts d = alike_given text_number loose_no_text d

mark_skipped : (m : Mark) (n : Option ℕ) (ns : List ℕ) → is_backslash (word_.Mark m) ≡ false → mask_then (word_.Mark m) n ns ≡ ns
mark_skipped mark_.Backslash n ns h = absurd (cc)
mark_skipped m n ns h = refl

mask_skipped : (x : Word) (n : Option ℕ) (ns : List ℕ) → is_backslash x ≡ false → mask_then x n ns ≡ ns
mask_skipped (word_.Name x) n ns h = refl
mask_skipped (word_.Keyword k) n ns h = refl
mask_skipped (word_.Number x) n ns h = refl
mask_skipped (word_.Text x) n ns h = refl
mask_skipped (word_.Mark m) n ns h = mark_skipped m n ns h
mask_skipped word_.End n ns h = refl
mask_skipped word_.Fault n ns h = refl

no_mask : (a : Lexeme) (v : List Lexeme) → is_backslash a.word ≡ false → mask_numbers (a ∷ v) ≡ mask_numbers v
no_mask a [] h = refl
no_mask a (b ∷ v) h = mask_skipped a.word (name_number b.word) (mask_numbers (b ∷ v)) h

pub alike_masks : {v w : List Part} → Alike v w → mask_numbers (map lexeme_of v) ≡ mask_numbers (map lexeme_of w)
alike_masks nothing = refl
alike_masks (same_word {x = x} {p = p} {q = q} {v = v} {w = w} b d) = no_mask (lexeme x p) (map lexeme_of v) b ∙ alike_masks d ∙ sym (no_mask (lexeme x q) (map lexeme_of w) b)
alike_masks (same_mask {x = x} {p' = p} {q' = q} {v = v} {w = w} d) =
    ap (λ (ns : List ℕ). x.0 ∷ ns) (no_mask (lexeme (word_.Name x) p) (map lexeme_of v) refl ∙ alike_masks d ∙ sym (no_mask (lexeme (word_.Name x) q) (map lexeme_of w) refl))
alike_masks (more_left {x = x} {p = p} {v = v} b d) = no_mask (lexeme x p) (map lexeme_of v) (loose_plain x b) ∙ alike_masks d
alike_masks (more_right {x = x} {p = p} {w = w} b d) = alike_masks d ∙ sym (no_mask (lexeme x p) (map lexeme_of w) (loose_plain x b))
