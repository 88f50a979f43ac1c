-- In a source that the first three steps of the verdict don't refuse, no word passes a limit.
use Rattle.std.proofs.Common.{◌≡◌, ℕ, zero, suc, ◌<◌, ◌≤◌, Bool, true, false, List, [], ◌∷◌, ◌++◌, map, length, Option, Some, None, All, Contains, nat_lt, refl, sym, ap, ap₂, subst, ◌∙◌, append_assoc, append-nil, length-append, arith, ◌⊎◌, inl, inr}
use Rattle.std.proofs.lemmas.List.{map-append}
use Rattle.std.proofs.lemmas.List.Elements.{All-head}
use Rattle.std.proofs.lemmas.Bool.Decides.{nat_tests}
use Rattle.std.specs.List.{cons_option}
use Rattle.jn_base.specs.declared.tree.Text.{Text}
use Rattle.jn_base.specs.declared.tree.Decl.{Decl}
use Rattle.jn_base.specs.declared.refusal.Limit.{Limit}
use Rattle.jn_base.specs.declared.refusal.Limit.TheVariants as limit
use Rattle.jn_base.specs.declared.refusal.Refusal.{Refusal}
use Rattle.jn_base.specs.declared.refusal.Rule.TheVariants.{E02, E04}
use Rattle.jn_base.specs.declared.word.Lexeme.{Lexeme}
use Rattle.jn_base.specs.Words.{name_number, AreWordsOf, AreByMention, all_mentioned, again, first}
use Rattle.jn_base.specs.Parts.{Part, lexeme_of}
use Rattle.jn_base.specs.GrammarDecl.{IsProgram}
use Rattle.jn_base.specs.Spelling.{BeginsWith, limit_of, mask_numbers, HasDifferent, Passes, counted, masks, names, rank, IsClean, limit_passed, IsFirstRefused, refusal, greatest_source, IsTextRefused, too_long, word_refused}
use Rattle.jn_printer.proofs.Written.{Low}
use Rattle.jn_printer.proofs.Chars.{Each}
use Rattle.jn_printer.proofs.WordsOut.{names_in}

lower_or_not : (m n : ℕ) → (m < n) ⊎ (n ≤ m)
lower_or_not m n = by (nat_lt m n) refl where
  by : (v : Bool) → nat_lt m n ≡ v → (m < n) ⊎ (n ≤ m)
  by true e = inl (grind (arith, nat_tests))
  by false e = inr (grind (arith, nat_tests))

-- where words split, the parts of the grammar do
record SplitAt (front : List Part) (before behind : List Lexeme) (u : Lexeme) : Type 0 where
  head : List Part
  here : Part
  tail : List Part
  split : front ≡ head ++ here ∷ tail
  words : map lexeme_of head ≡ before
  word_is : lexeme_of here ≡ u

split_on : (t : Part) (front : List Part) (b : Lexeme) (before behind : List Lexeme) (u : Lexeme) → lexeme_of t ≡ b → SplitAt front before behind u → SplitAt (t ∷ front) (b ∷ before) behind u
split_on t front b before behind u h s = record {
  head = t ∷ s.head;
  here = s.here;
  tail = s.tail;
  split = ap (λ (x : List Part). t ∷ x) s.split;
  words = ap₂ (λ (x : Lexeme) (xs : List Lexeme). x ∷ xs) h s.words;
  word_is = s.word_is;
}

split_at : (front : List Part) (before behind : List Lexeme) (u : Lexeme) → map lexeme_of front ≡ before ++ u ∷ behind → SplitAt front before behind u
split_at [] [] behind u e = absurd (cc)
split_at [] (b ∷ before) behind u e = absurd (cc)
split_at (t ∷ front) [] behind u e = let h : lexeme_of t ≡ u = cc in record { head = []; here = t; tail = front; split = refl; words = refl; word_is = h }
split_at (t ∷ front) (b ∷ before) behind u e =
    let h : lexeme_of t ≡ b = cc in
    let r : map lexeme_of front ≡ before ++ u ∷ behind = cc in
    split_on t front b before behind u h (split_at front before behind u r)

module _ (names_ texts : List Text) (source : List ℕ) (parts : List Part) (decls : List Decl) (is_program : IsProgram parts decls)
    (are_words : AreWordsOf source names_ texts (map lexeme_of parts)) (never : (r : Refusal) → IsTextRefused source r → ⊥) where
  short : length source ≤ greatest_source
  short = by (lower_or_not greatest_source (length source)) where
    by : (greatest_source < length source) ⊎ (length source ≤ greatest_source) → length source ≤ greatest_source
    by (inl h) = absurd (never (refusal E02 (record { line = 1; column = 1 }) None) (too_long h))
    by (inr h) = h

  begins_with : (front others : List Part) → parts ≡ front ++ others → BeginsWith front
  begins_with front others e = record { others = others; decls = decls; is_program = subst (λ (x : List Part). IsProgram x decls) e is_program }

  begins : (front others : List Part) (t : Part) → parts ≡ front ++ t ∷ others → BeginsWith (front ++ t ∷ [])
  begins front others t e = begins_with (front ++ t ∷ []) others (e ∙ sym (append_assoc front (t ∷ []) others))

  abbrev Clean : List Part → Part → Type 0
  Clean front t = (l : Limit) → Passes (map lexeme_of front) (lexeme_of t) l → ⊥

  -- what holds in front of a word
  abbrev CleanBefore : List Part → Type 0
  CleanBefore front = (head tail : List Part) (u : Part) → length head < length front → parts ≡ head ++ u ∷ tail → Clean head u

  shorter : (front head tail : List Part) (u : Part) → front ≡ head ++ u ∷ tail → length head < length front
  shorter front head tail u e = let l = ap length e in omega (arith, l, length-append head (u ∷ tail))

  -- a word that passes l, and no limit that comes before l, is refused
  refused : (front others : List Part) (t : Part) → parts ≡ front ++ t ∷ others → CleanBefore front → (l : Limit)
      → Passes (map lexeme_of front) (lexeme_of t) l → ((m : Limit) → Passes (map lexeme_of front) (lexeme_of t) m → rank l ≤ rank m) → ⊥
  refused front others t e ih l p f = never (refusal E04 t.at (Some l)) (word_refused names_ texts short are_words it) where
    clean : (before behind : List Lexeme) (u : Lexeme) → map lexeme_of front ≡ before ++ u ∷ behind → IsClean before u
    clean before behind u h =
        let s = split_at front before behind u h in
        let whole : parts ≡ s.head ++ s.here ∷ (s.tail ++ t ∷ others) =
        e ∙ ap (λ (x : List Part). x ++ t ∷ others) s.split ∙ append_assoc s.head (s.here ∷ s.tail) (t ∷ others) in
        record {
          begins = record {
            parts = s.head ++ s.here ∷ [];
            are_words = map-append lexeme_of s.head (s.here ∷ []) ∙ ap₂ (λ (xs : List Lexeme) (x : Lexeme). xs ++ x ∷ []) s.words s.word_is;
            begins = begins s.head (s.tail ++ t ∷ others) s.here whole;
          };
          within = λ m q. ih s.head (s.tail ++ t ∷ others) s.here (shorter front s.head s.tail s.here s.split) whole m
              (subst (λ (xs : List Lexeme). Passes xs (lexeme_of s.here) m) (sym s.words) (subst (λ (x : Lexeme). Passes before x m) (sym s.word_is) q));
        }

    it : IsFirstRefused (map lexeme_of parts) E04 t.at (Some l)
    it = record {
      front = map lexeme_of front;
      word_there = lexeme_of t;
      others = map lexeme_of others;
      split = ap (λ (x : List Part). map lexeme_of x) e ∙ map-append lexeme_of front (t ∷ others);
      clean = clean;
      refused = limit_passed (record { parts = front ++ t ∷ []; are_words = map-append lexeme_of front (t ∷ []); begins = begins front others t e }) (record { passes = p; first = f });
      place = refl;
    }

  least : (front others : List Part) (t : Part) → parts ≡ front ++ t ∷ others → CleanBefore front → (r : ℕ) (l : Limit) → rank l ≤ r → Passes (map lexeme_of front) (lexeme_of t) l → ⊥
  least front others t e ih zero l h p = refused front others t e ih l p (λ m q. let z : rank l ≡ 0 = omega (arith, h) in omega (arith, z))
  least front others t e ih (suc r) l h p = refused front others t e ih l p (λ m q. by m q (lower_or_not (rank m) (rank l)) (λ k. least front others t e ih r m k q)) where
    by : (m : Limit) → Passes (map lexeme_of front) (lexeme_of t) m → (rank m < rank l) ⊎ (rank l ≤ rank m) → (rank m ≤ r → ⊥) → rank l ≤ rank m
    by m q (inl k) f = absurd (f (omega (arith, h, k)))
    by m q (inr k) f = k

  clean_below : (k : ℕ) (front others : List Part) (t : Part) → length front < k → parts ≡ front ++ t ∷ others → Clean front t
  clean_below zero front others t h e l p = omega (arith, h)
  clean_below (suc k) front others t h e l p =
      least front others t e (λ head tail u s w. clean_below k head tail u (omega (arith, s, h)) w) (rank l) l (omega arith) p

  pub never_passes : (front others : List Part) (t : Part) → parts ≡ front ++ t ∷ others → (l : Limit) → Passes (map lexeme_of front) (lexeme_of t) l → ⊥
  never_passes front others t e l p = clean_below (suc (length front)) front others t (omega arith) e l p

  -- ---- the limits one by one

  counts_none : (front others : List Part) (t : Part) → parts ≡ front ++ t ∷ others → limit_of t.role ≡ None
  counts_none front others t e = by (limit_of t.role) refl where
    by : (o : Option Limit) → limit_of t.role ≡ o → o ≡ None
    by None h = refl
    by (Some l) h = absurd (never_passes front others t e l (counted front t refl refl (begins front others t e) h))

  low_from : (front w : List Part) → parts ≡ front ++ w → Low w
  low_from front [] e = tt
  low_from front (t ∷ w) e = (counts_none front w t e, low_from (front ++ t ∷ []) w (e ∙ sym (append_assoc front (t ∷ []) w)))

  pub all_low : Low parts
  all_low = low_from [] parts refl

  none_of_none : HasDifferent 257 [] → ⊥
  none_of_none h = by h.picked h.are h.among where
    by : (xs : List ℕ) → length xs ≡ 257 → All (λ n. Contains [] n) xs → ⊥
    by [] l a = omega (arith, l)
    by (x ∷ xs) l a = let c = All-head (λ n. Contains [] n) x xs a in omega (arith, c.1)

  few_from : (front w : List Part) → parts ≡ front ++ w → (HasDifferent 257 (mask_numbers (map lexeme_of front)) → ⊥) → HasDifferent 257 (mask_numbers (map lexeme_of parts)) → ⊥
  few_from front [] e n h =
      n (subst (λ (x : List Part). HasDifferent 257 (mask_numbers (map lexeme_of x))) (e ∙ append-nil front) h)
  few_from front (t ∷ w) e n h =
      few_from (front ++ t ∷ []) w (e ∙ sym (append_assoc front (t ∷ []) w))
      (λ m. never_passes front w t e limit.Masks (masks (subst (λ (xs : List Lexeme). HasDifferent 257 (mask_numbers xs)) (map-append lexeme_of front (t ∷ [])) m) n)) h

  pub few_masks : HasDifferent 257 (mask_numbers (map lexeme_of parts)) → ⊥
  few_masks h = few_from [] parts refl none_of_none h

  name_below : (front others : List Part) (t : Part) → parts ≡ front ++ t ∷ others → (n : ℕ) → name_number t.word ≡ Some n → n < 65535
  name_below front others t e n h = by (lower_or_not n 65535) where
    by : (n < 65535) ⊎ (65535 ≤ n) → n < 65535
    by (inl k) = k
    by (inr k) = absurd (never_passes front others t e limit.Names (names n h k))

  names_from : (front w : List Part) → parts ≡ front ++ w → Each (λ n. n < 65535) (names_in w)
  names_from front [] e = tt
  names_from front (t ∷ w) e = by (name_number t.word) refl (names_from (front ++ t ∷ []) w (e ∙ sym (append_assoc front (t ∷ []) w))) where
    by : (o : Option ℕ) → name_number t.word ≡ o → Each (λ n. n < 65535) (names_in w) → Each (λ n. n < 65535) (names_in (t ∷ w))
    by None h r = subst (λ (x : Option ℕ). Each (λ n. n < 65535) (cons_option x (names_in w))) (sym h) r
    by (Some n) h r = subst (λ (x : Option ℕ). Each (λ n. n < 65535) (cons_option x (names_in w))) (sym h) (name_below front w t e n h, r)

  pub names_below : Each (λ n. n < 65535) (names_in parts)
  names_below = names_from [] parts refl

-- a table that is numbered by numbers below a bound is no longer than the bound
pub mentioned_below : {from to : ℕ} {ns : List ℕ} → AreByMention from ns to → Each (λ n. n < 65535) ns → from ≤ 65535 → to ≤ 65535
mentioned_below all_mentioned a h = h
mentioned_below (again l d) a h = mentioned_below d a.1 h
mentioned_below (first d) a h = mentioned_below d a.1 (omega (arith, a.0))
