-- The canonical text of a program within the limits spells it but for places, and is within the limits.
use Rattle.std.proofs.Common.{◌≡◌, ℕ, ◌<◌, ◌≤◌, List, [], ◌∷◌, ◌++◌, map, length, filter_map, None, All, refl, sym, ap, ap₂, subst, ◌∙◌, arith}
use Rattle.std.proofs.lemmas.List.{map-append}
use Rattle.std.proofs.lemmas.List.Elements.{All-nil, All-cons, filter_map-append}
use Rattle.jn_base.specs.declared.tree.Place.{Place}
use Rattle.jn_base.specs.declared.tree.Decl.{Decl}
use Rattle.jn_base.specs.declared.tree.Program.{Program}
use Rattle.jn_base.specs.declared.word.Word.TheVariants as word
use Rattle.jn_base.specs.declared.word.Lexeme.{Lexeme}
use Rattle.jn_base.specs.Places.{place_of}
use Rattle.jn_base.specs.Words.{AreWordsOf, AreNumbered, last_word, lexeme, name_number, text_number}
use Rattle.jn_base.specs.Parts.{Part, lexeme_of, end_of_file}
use Rattle.jn_base.specs.Spelling.{limit_of, mask_numbers, HasDifferent, IsTextOf}
use Rattle.jn_printer.specs.DeclText.{program_text}
use Rattle.jn_base.specs.Unplaced.{unplaced_decl, unplaced}
use Rattle.jn_printer.specs.WayBack.{SpellsWithin, WayBack}
use Rattle.jn_printer.proofs.Written.{Setting, Fine, Low, Lays, Alike, nothing, same_word, alike_append}
use Rattle.jn_printer.proofs.WordsOut.{setting, Lexed, lexed_of, names_in, texts_in, alike_names, alike_texts, alike_masks}
use Rattle.jn_printer.proofs.WordsIn.{AllGiven, all_given}
use Rattle.jn_printer.proofs.LimitsIn.{all_low, few_masks, names_below, mentioned_below}
use Rattle.jn_printer.proofs.Chars.{Each}
use Rattle.jn_printer.proofs.TextUnseen.{same_text}
use Rattle.jn_printer.proofs.DeclsBack.{Tops, Ended, program_ends, tops_end, tops_back}

fine_of : (s : Setting) (w : List Part) → AllGiven s (map lexeme_of w) → Low w → Fine s w
fine_of s [] g l = tt
fine_of s (t ∷ w) g l = (g.0, l.0, fine_of s w g.1 l.1)

low_front : (w u : List Part) → Low (w ++ u) → Low w
low_front [] u l = tt
low_front (t ∷ w) u l = (l.0, low_front w u l.1)

all_counted : (w : List Part) → Low w → All (λ (t : Part). limit_of t.role ≡ None) w
all_counted [] l = All-nil (λ (t : Part). limit_of t.role ≡ None)
all_counted (t ∷ w) l = All-cons (λ (x : Part). limit_of x.role ≡ None) t w l.0 (all_counted w l.1)

low_on : (w : List Part) (p : Place) → Low w → Low (w ++ end_of_file p ∷ [])
low_on [] p l = (refl, tt)
low_on (t ∷ w) p l = (l.0, low_on w p l.1)

-- lists with one more behind are the same where the lists are
without_last : (xs ys : List Lexeme) (a b : Lexeme) → xs ++ a ∷ [] ≡ ys ++ b ∷ [] → xs ≡ ys
without_last [] [] a b e = refl
without_last [] (y ∷ ys) a b e = let t : [] ≡ ys ++ b ∷ [] = cc in absurd (none ys t) where
  none : (xs : List Lexeme) → [] ≡ xs ++ b ∷ [] → ⊥
  none [] e = cc
  none (x ∷ xs) e = cc
without_last (x ∷ xs) [] a b e = let t : [] ≡ xs ++ a ∷ [] = cc in absurd (none xs t) where
  none : (xs : List Lexeme) → [] ≡ xs ++ a ∷ [] → ⊥
  none [] e = cc
  none (x ∷ xs) e = cc
without_last (x ∷ xs) (y ∷ ys) a b e =
    let h : x ≡ y = cc in
    let t : xs ++ a ∷ [] ≡ ys ++ b ∷ [] = cc in
    ap₂ (λ (z : Lexeme) (zs : List Lexeme). z ∷ zs) h (without_last xs ys a b t)

each_front : (xs ys : List ℕ) → Each (λ n. n < 65535) (xs ++ ys) → Each (λ n. n < 65535) xs
each_front [] ys a = tt
each_front (x ∷ xs) ys a = (a.0, each_front xs ys a.1)

-- the words without the end of the file
source_words : (q : Program) (source : List ℕ) (parts w : List Part) (p : Place) (a : AreWordsOf source q.names q.texts (map lexeme_of parts)) → parts ≡ w ++ end_of_file p ∷ [] → a.words ≡ map lexeme_of w
source_words q source parts w p a e =
    without_last a.words (map lexeme_of w) (last_word source a.fault) (lexeme word.End p)
    (sym a.whole ∙ ap (λ (x : List Part). map lexeme_of x) e ∙ map-append lexeme_of w (end_of_file p ∷ []))

source_fine : (q : Program) (source : List ℕ) (t : IsTextOf q source) (w : List Part) (p : Place) → t.spelled.parts ≡ w ++ end_of_file p ∷ [] → (whole : List ℕ) → Fine (setting q.names q.texts whole) w
source_fine q source t w p e whole =
    let a = t.spelled.are_words in
    let l : Low t.spelled.parts = all_low q.names q.texts source t.spelled.parts q.decls t.spelled.is_program a t.not_refused in
    let g : AllGiven (setting q.names q.texts source) a.words =
    all_given q.names q.texts source a.lexed.lexed [] (sym a.lexed.spelled) refl a.lexed.scalars a.are_words in
    fine_of (setting q.names q.texts whole) w
    (subst (λ (xs : List Lexeme). AllGiven (setting q.names q.texts source) xs) (source_words q source t.spelled.parts w p a e) g)
    (low_front w (end_of_file p ∷ []) (subst Low e l))

-- the numbers of the names are below the limit, so the table is no longer than it
names_few : (q : Program) (source : List ℕ) (t : IsTextOf q source) (w : List Part) (p : Place) → t.spelled.parts ≡ w ++ end_of_file p ∷ [] → length q.names ≤ 65535
names_few q source t w p e =
    let a = t.spelled.are_words in
    let below : Each (λ n. n < 65535) (names_in t.spelled.parts) = names_below q.names q.texts source t.spelled.parts q.decls t.spelled.is_program a t.not_refused in
    let split : names_in t.spelled.parts ≡ names_in w ++ names_in (end_of_file p ∷ []) =
    ap names_in e ∙ ap (λ (x : List Lexeme). filter_map (λ (y : Lexeme). name_number y.word) x) (map-append lexeme_of w (end_of_file p ∷ []))
    ∙ filter_map-append (λ (y : Lexeme). name_number y.word) (map lexeme_of w) (map lexeme_of (end_of_file p ∷ [])) in
    let in_words : Each (λ n. n < 65535) (names_in w) = each_front (names_in w) (names_in (end_of_file p ∷ [])) (subst (λ (xs : List ℕ). Each (λ n. n < 65535) xs) split below) in
    mentioned_below a.names_numbered.by_mention
    (subst (λ (x : List Lexeme). Each (λ n. n < 65535) (filter_map (λ (y : Lexeme). name_number y.word) x)) (sym (source_words q source t.spelled.parts w p a e)) in_words) (omega arith)

-- the tables are numbered by the words that are written, since these are alike
numbered_names : (q : Program) (source : List ℕ) (t : IsTextOf q source) (v w : List Part) (p : Place) → t.spelled.parts ≡ w ++ end_of_file p ∷ [] → Alike v w → AreNumbered q.names (names_in v)
numbered_names q source t v w p e k =
    let a = t.spelled.are_words in
    let same : filter_map (λ (y : Lexeme). name_number y.word) a.words ≡ names_in v =
    ap (λ (x : List Lexeme). filter_map (λ (y : Lexeme). name_number y.word) x) (source_words q source t.spelled.parts w p a e) ∙ sym (alike_names k) in
    subst (λ (ns : List ℕ). AreNumbered q.names ns) same a.names_numbered

numbered_texts : (q : Program) (source : List ℕ) (t : IsTextOf q source) (v w : List Part) (p : Place) → t.spelled.parts ≡ w ++ end_of_file p ∷ [] → Alike v w → AreNumbered q.texts (texts_in v)
numbered_texts q source t v w p e k =
    let a = t.spelled.are_words in
    let same : filter_map (λ (y : Lexeme). text_number y.word) a.words ≡ texts_in v =
    ap (λ (x : List Lexeme). filter_map (λ (y : Lexeme). text_number y.word) x) (source_words q source t.spelled.parts w p a e) ∙ sym (alike_texts k) in
    subst (λ (ns : List ℕ). AreNumbered q.texts ns) same a.texts_numbered

-- the words of the written bytes
words_made : (q : Program) (bytes : List ℕ) (v : List Part) → Lexed q.names q.texts bytes 0 bytes v → AreNumbered q.names (names_in v) → AreNumbered q.texts (texts_in v)
    → AreWordsOf bytes q.names q.texts (map lexeme_of (v ++ end_of_file (place_of bytes (length bytes)) ∷ []))
words_made q bytes v x ns ts = record {
  tokens = x.tokens;
  fault = None;
  lexed = record { characters = x.characters; scalars = x.scalars; spelled = x.spelled; lexed = x.lexed };
  words = map lexeme_of v;
  are_words = x.are_words;
  whole = map-append lexeme_of v (end_of_file (place_of bytes (length bytes)) ∷ []);
  names_numbered = ns;
  texts_numbered = ts;
}

masks_few : (q : Program) (source : List ℕ) (t : IsTextOf q source) (v w : List Part) (p o : Place) → t.spelled.parts ≡ w ++ end_of_file p ∷ [] → Alike v w
    → HasDifferent 257 (mask_numbers (map lexeme_of (v ++ end_of_file o ∷ []))) → ⊥
masks_few q source t v w p o e k h =
    let all : Alike (v ++ end_of_file o ∷ []) (w ++ end_of_file p ∷ []) = alike_append k (same_word refl nothing) in
    let same : mask_numbers (map lexeme_of (v ++ end_of_file o ∷ [])) ≡ mask_numbers (map lexeme_of t.spelled.parts) = alike_masks all ∙ ap (λ (x : List Part). mask_numbers (map lexeme_of x)) (sym e) in
    few_masks q.names q.texts source t.spelled.parts q.decls t.spelled.is_program t.spelled.are_words t.not_refused (subst (λ (ns : List ℕ). HasDifferent 257 ns) same h)

abbrev GivesTops : List Decl → List Part → Type 0
GivesTops ds v = (us : List Decl) × Tops v us × (map unplaced_decl us ≡ map unplaced_decl ds)

spelled_by : (q : Program) (source : List ℕ) (t : IsTextOf q source) (w : List Part) (p : Place) → t.spelled.parts ≡ w ++ end_of_file p ∷ []
    → Lays (setting q.names q.texts (program_text q)) [] 0 (program_text q) w (GivesTops q.decls) → SpellsWithin q (program_text q)
spelled_by q source t w p e l = record {
  spelled = record { names = q.names; texts = q.texts; decls = l.is.0 };
  same = ap (λ (ds : List Decl). record { names = q.names; texts = q.texts; decls = ds }) l.is.2;
  spells = record {
    parts = l.parts ++ end_of_file (place_of (program_text q) (length (program_text q))) ∷ [];
    are_words =
        words_made q (program_text q) l.parts (lexed_of q.names q.texts (program_text q) l.written [] refl refl)
        (numbered_names q source t l.parts w p e l.alike) (numbered_texts q source t l.parts w p e l.alike);
    is_program = tops_end l.is.1 (place_of (program_text q) (length (program_text q)));
  };
  counted = all_counted (l.parts ++ end_of_file (place_of (program_text q) (length (program_text q))) ∷ []) (low_on l.parts (place_of (program_text q) (length (program_text q))) l.low);
  few_masks = masks_few q source t l.parts w p (place_of (program_text q) (length (program_text q))) e l.alike;
  few_names = names_few q source t w p e;
}

pub spelled_back : (q : Program) (source : List ℕ) → IsTextOf q source → SpellsWithin q (program_text q)
spelled_back q source t = from (program_ends t.spelled.is_program) where
  from : Ended t.spelled.parts q.decls → SpellsWithin q (program_text q)
  from e = spelled_by q source t e.words e.place e.split (tops_back (setting q.names q.texts (program_text q)) e.tops (source_fine q source t e.words e.place e.split (program_text q)) [] 0)

-- and so does that of each program that is the same but for places
same_within : (p q : Program) (bytes : List ℕ) → unplaced q ≡ unplaced p → SpellsWithin q bytes → SpellsWithin p bytes
same_within p q bytes h b = record {
  spelled = b.spelled;
  same = b.same ∙ h;
  spells = b.spells;
  counted = b.counted;
  few_masks = b.few_masks;
  few_names = b.few_names;
}

pub way_back : (p : Program) → WayBack p (program_text p)
way_back p w =
    subst (λ (bytes : List ℕ). SpellsWithin p bytes) (same_text w.spelled p w.same)
    (same_within p w.spelled (program_text w.spelled) w.same (spelled_back w.spelled w.source w.is_text))

pub way_back_of : (p : Program) (bytes : List ℕ) → bytes ≡ program_text p → WayBack p bytes
way_back_of p bytes e = subst (λ (x : List ℕ). WayBack p x) (sym e) (way_back p)
