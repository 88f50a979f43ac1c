-- Nothing is refused of a source that spells a program within the limits.
use Rattle.std.proofs.Common.{◌≡◌, ℕ, ◌<◌, ◌≤◌, List, [], ◌∷◌, ◌++◌, map, length, filter_map, Option, Some, None, Ok, Contains, slice_index_or, append-nil, ◌⊎◌, inl, inr, refl, sym, ◌∙◌, ap, subst, append_assoc, arith, IsUtf8}
use Rattle.std.specs.Str.{IsValidUpTo}
use Rattle.std.specs.List.{cons_option}
use Rattle.std.proofs.lemmas.List.{take_all}
use Rattle.std.proofs.lemmas.List.Elements.{filter_map-append}
use Rattle.jn_base.proofs.NameTests.{in_cons, in_none, first as first_of, later}
use Rattle.jn_base.specs.declared.token.LexFault.{LexFault}
use Rattle.jn_base.specs.declared.word.Mark.TheVariants.{Backslash}
use Rattle.jn_base.specs.declared.word.Word.TheVariants.{Mark as Marked}
use Rattle.jn_base.specs.declared.tree.Text.{Text}
use Rattle.jn_base.specs.declared.tree.Program.{Program}
use Rattle.jn_base.specs.declared.refusal.Limit.{Limit}
use Rattle.jn_base.specs.declared.refusal.Refusal.{Refusal}
use Rattle.jn_base.specs.declared.word.Word.{Word}
use Rattle.jn_base.specs.declared.word.Lexeme.{Lexeme}
use Rattle.jn_base.specs.Words.{name_number, AreWordsOf, AreByMention, all_mentioned, again, first, last_word}
use Rattle.jn_base.specs.Parts.{lexeme_of}
use Rattle.jn_base.specs.Spelling.{HasDifferent, mask_numbers, mask_then, IsFirstRefused, greatest_source, IsTextRefused, too_long, not_utf8, word_refused, IsTextOf}
use Rattle.jn_grammar.specs.ReadDecls.{tops_in}
use Rattle.jn_grammar.specs.ReadWhole.{program_in}
use Rattle.jn_grammar.specs.Expected.{Tops}
use Rattle.jn_grammar.specs.TokenLimits.{token_limit, earlier, checked_in}
use Rattle.jn_grammar.proofs.Whole.{only_so}
use Rattle.jn_grammar.proofs.DeclSound.{IsTops}
use Rattle.jn_grammar.proofs.Programs.{tops, whole_of}
use Rattle.jn_grammar.proofs.TokenFaults.{TokenPasses, by_masks, by_names, token_limit_at}
use Rattle.jn_grammar.proofs.Refusals.{checked_not_refused}
use Rattle.jn_printer.specs.WayBack.{SpellsWithin}
use Rattle.jn_parser.proofs.WordsOnce.{words_are_one}

not_both : (bytes : List ℕ) (n : ℕ) → IsValidUpTo bytes n → IsUtf8 bytes → ⊥
not_both bytes n v u = v.longest (length bytes) v.short (subst IsUtf8 (sym (take_all (length bytes) bytes (omega arith))) u)

-- ---- the masks of a front are among those of the whole

more_with : (m : ℕ) (ns ms : List ℕ) → ((n : ℕ) → Contains ns n → Contains ms n) → (n : ℕ) → Contains (m ∷ ns) n → Contains (m ∷ ms) n
more_with m ns ms h n c = by (in_cons m ns n c) where
  by : (m ≡ n) ⊎ Contains ns n → Contains (m ∷ ms) n
  by (inl e) = subst (λ x. Contains (m ∷ ms) x) e (first_of m ms)
  by (inr d) = later m ms n (h n d)

mask_among : (w : Word) (o : Option ℕ) (ns ms : List ℕ) → ((n : ℕ) → Contains ns n → Contains ms n) → (n : ℕ) → Contains (mask_then w o ns) n → Contains (mask_then w o ms) n
mask_among (Marked Backslash) (Some m) ns ms h n c = more_with m ns ms h n c
mask_among (Marked Backslash) None ns ms h n c = h n c
mask_among (Marked m) o ns ms h n c = h n c
mask_among w o ns ms h n c = h n c

masks_among : (front others : List Lexeme) (n : ℕ) → Contains (mask_numbers front) n → Contains (mask_numbers (front ++ others)) n
masks_among [] others n c = absurd (in_none n c)
masks_among (w ∷ []) others n c = absurd (in_none n c)
masks_among (w ∷ v ∷ front) others n c =
    mask_among w.word (name_number v.word) (mask_numbers (v ∷ front)) (mask_numbers ((v ∷ front) ++ others)) (λ m d. masks_among (v ∷ front) others m d) n c

more_masks : (front others : List Lexeme) → HasDifferent 257 (mask_numbers front) → HasDifferent 257 (mask_numbers (front ++ others))
more_masks front others h = record {
  picked = h.picked;
  are = h.are;
  different = h.different;
  among = λ k d l. masks_among front others (slice_index_or h.picked k d) (h.among k d l);
}

-- ---- names

end_not_below : {from to : ℕ} {ns : List ℕ} → AreByMention from ns to → from ≤ to
end_not_below all_mentioned = omega arith
end_not_below (again l d) = end_not_below d
end_not_below (first d) = let r = end_not_below d in omega (arith, r)

abbrev Each : (ℕ → Type 0) → List ℕ → Type 0
Each P [] = Unit {0}
Each P (x ∷ xs) = P x × Each P xs

-- each number is below the end of the table
numbers_below : {from to : ℕ} {ns : List ℕ} → AreByMention from ns to → Each (λ n. n < to) ns
numbers_below all_mentioned = tt
numbers_below (again l d) = let r = end_not_below d in (omega (arith, l, r), numbers_below d)
numbers_below (first d) = let r = end_not_below d in (omega (arith, r), numbers_below d)

each_at : (P : ℕ → Type 0) (xs ys : List ℕ) (n : ℕ) → Each P (xs ++ n ∷ ys) → P n
each_at P [] ys n a = a.0
each_at P (x ∷ xs) ys n a = each_at P xs ys n a.1

abbrev numbers : List Lexeme → List ℕ
numbers ws = filter_map (λ (w : Lexeme). name_number w.word) ws

last_no_name : (bytes : List ℕ) (f : Option LexFault) → name_number (last_word bytes f).word ≡ None
last_no_name bytes None = refl
last_no_name bytes (Some f) = refl

names_below : (names texts : List Text) (bytes : List ℕ) (ws front others : List Lexeme) (t : Lexeme) (n : ℕ) → AreWordsOf bytes names texts ws → ws ≡ front ++ t ∷ others → name_number t.word ≡ Some n → n < length names
names_below names texts bytes ws front others t n a e h =
    let f = λ (w : Lexeme). name_number w.word in
    let last = last_word bytes a.fault in
    let all : numbers ws ≡ numbers a.words =
    ap numbers a.whole ∙ filter_map-append (λ (w : Lexeme). name_number w.word) a.words (last ∷ [])
    ∙ ap (λ (o : Option ℕ). numbers a.words ++ cons_option o []) (last_no_name bytes a.fault) ∙ append-nil (numbers a.words) in
    let split : numbers ws ≡ numbers front ++ n ∷ numbers others =
    ap numbers e ∙ filter_map-append (λ (w : Lexeme). name_number w.word) front (t ∷ others) ∙ ap (λ (o : Option ℕ). numbers front ++ cons_option o (numbers others)) h in
    each_at (λ m. m < length names) (numbers front) (numbers others) n
    (subst (λ (ns : List ℕ). Each (λ m. m < length names) ns) (sym all ∙ split) (numbers_below a.names_numbered.by_mention))

-- ---- no limit of words is passed, and the program is read

no_token_limit : (names texts : List Text) (bytes : List ℕ) (ws : List Lexeme) → AreWordsOf bytes names texts ws → (HasDifferent 257 (mask_numbers ws) → ⊥) → length names ≤ 65535 → token_limit ws ≡ None
no_token_limit names texts bytes ws a few short = by (token_limit ws) refl where
  passed : (front others : List Lexeme) (t : Lexeme) (l : Limit) → ws ≡ front ++ t ∷ others → TokenPasses front t l → ⊥
  passed front others t _ e (by_masks d n) =
      few (subst (λ (vs : List Lexeme). HasDifferent 257 (mask_numbers vs)) (append_assoc front (t ∷ []) others ∙ sym e) (more_masks (front ++ t ∷ []) others d))
  passed front others t _ e (by_names n h g m) = let b = names_below names texts bytes ws front others t n a e h in omega (arith, b, g, short)

  by : (o : Option (Limit × ℕ)) → token_limit ws ≡ o → o ≡ None
  by None e = refl
  by (Some l) e = let r = token_limit_at ws l.0 l.1 e in absurd (passed r.front r.others r.word_there l.0 r.split r.passes)

checked : (p : Program) (bytes : List ℕ) (w : SpellsWithin p bytes) → checked_in (map lexeme_of w.spells.parts) ≡ Ok (w.spelled.decls, [])
unfolding checked_in
checked p bytes w =
    ap (λ o. earlier o (program_in (map lexeme_of w.spells.parts))) (no_token_limit w.spelled.names w.spelled.texts bytes (map lexeme_of w.spells.parts) w.spells.are_words w.few_masks w.few_names)
    ∙ only_so IsTops tops_in Tops tops w.spells.parts w.spelled.decls (whole_of w.spells.is_program) w.counted

pub within_is_text : (p : Program) (bytes : List ℕ) (w : SpellsWithin p bytes) → length bytes ≤ greatest_source → IsTextOf w.spelled bytes
within_is_text p bytes w short = record { spelled = w.spells; not_refused = never } where
  refused : {bs : List ℕ} {r : Refusal} → bs ≡ bytes → IsTextRefused bs r → ⊥
  refused e (too_long {bytes = bs} h) = let l = ap length e in omega (arith, l, h, short)
  refused e (not_utf8 {bytes = bs} {n = n} h v) = not_both bs n v (subst IsUtf8 (sym e) (w.spells.are_words.lexed.characters, (w.spells.are_words.lexed.scalars, w.spells.are_words.lexed.spelled)))
  refused e (word_refused {bytes = bs} names texts {ws = ws} {r = r} {at = at} {l = l} h a f) =
      let same = (words_are_one bytes w.spelled.names w.spelled.texts names texts (map lexeme_of w.spells.parts) ws w.spells.are_words (subst (λ (x : List ℕ). AreWordsOf x names texts ws) e a)).words in
      checked_not_refused (map lexeme_of w.spells.parts) (w.spelled.decls, []) (checked p bytes w) r at l (subst (λ (vs : List Lexeme). IsFirstRefused vs r at l) (sym same) f)

  never : (r : Refusal) → IsTextRefused bytes r → ⊥
  never r h = refused refl h
