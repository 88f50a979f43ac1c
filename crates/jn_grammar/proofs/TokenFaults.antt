-- The pass over the words finds the first that passes a limit of masks or names.
use Rattle.std.proofs.Common.{◌≡◌, ◌⊎◌, inl, inr, ℕ, suc, ◌≤◌, ◌<◌, Bool, true, false, List, [], ◌∷◌, ◌++◌, length, Option, Some, None, refl, sym, ◌∙◌, ap, subst, append_assoc, arith, if◌then◌else◌}
use Rattle.std.specs.Prelude.{◌&&◌, not, nat_le}
use Rattle.std.proofs.lemmas.List.{append-nil}
use Rattle.jn_base.specs.declared.refusal.Limit.{Limit}
use Rattle.jn_base.specs.declared.refusal.Limit.TheVariants.{Masks, Names}
use Rattle.jn_base.specs.declared.word.Mark.TheVariants.{Backslash}
use Rattle.jn_base.specs.declared.word.Word.{Word}
use Rattle.jn_base.specs.declared.word.Word.TheVariants.{Mark as Marked}
use Rattle.jn_base.specs.declared.word.Lexeme.{Lexeme}
use Rattle.jn_base.specs.Words.{name_number}
use Rattle.jn_base.specs.Spelling.{HasDifferent, mask_then, mask_numbers}
use Rattle.jn_grammar.specs.Begins.{is_word}
use Rattle.jn_grammar.specs.TokenLimits.{Seen, nothing_seen, has, passes_names, shows, masks_with, after_word, limit_or, limits_from, token_limit}
use Rattle.jn_grammar.proofs.FirstWords.{never}
use Rattle.jn_grammar.proofs.Different.{Mem, first, later, NoTwice, mem_append_left, mem_append_right, has_mem, mem_has, at_most, so_many}

-- a word passes neither limit
pub record TokenClean (front : List Lexeme) (t : Lexeme) : Type 0 where
  pub masks : HasDifferent 257 (mask_numbers (front ++ t ∷ [])) → ⊥
  pub names : (n : ℕ) → name_number t.word ≡ Some n → 65535 ≤ n → ⊥

-- it passes this one, the first of the two that it passes
pub data TokenPasses (front : List Lexeme) (t : Lexeme) : Limit → Type 0 where
  by_masks : HasDifferent 257 (mask_numbers (front ++ t ∷ [])) → (HasDifferent 257 (mask_numbers front) → ⊥) → TokenPasses front t Masks
  by_names : (n : ℕ) → name_number t.word ≡ Some n → 65535 ≤ n → (HasDifferent 257 (mask_numbers (front ++ t ∷ [])) → ⊥) → TokenPasses front t Names

-- ---- the masks with a word more

abbrev mask_if : Bool → Option ℕ → List ℕ
mask_if true (Some n) = n ∷ []
mask_if true None = []
mask_if false n = []

-- the mask that a word is behind these
new_mask : List Lexeme → Option ℕ → List ℕ
new_mask [] n = []
new_mask (w ∷ []) n = mask_then w.word n []
new_mask (w ∷ v ∷ ws) n = new_mask (v ∷ ws) n

mask_then_append : (w : Word) (n : Option ℕ) (xs ys : List ℕ) → mask_then w n (xs ++ ys) ≡ mask_then w n xs ++ ys
mask_then_append (Marked Backslash) (Some n) xs ys = refl
mask_then_append (Marked Backslash) None xs ys = refl
mask_then_append (Marked m) n xs ys = refl
mask_then_append w n xs ys = refl

mask_then_if : (w : Word) (n : Option ℕ) → mask_then w n [] ≡ mask_if (is_word (Marked Backslash) w) n
mask_then_if (Marked Backslash) (Some n) = refl
mask_then_if (Marked Backslash) None = refl
mask_then_if (Marked m) n = refl
mask_then_if w n = refl

masks_append : (front : List Lexeme) (t : Lexeme) → mask_numbers (front ++ t ∷ []) ≡ mask_numbers front ++ new_mask front (name_number t.word)
unfolding new_mask
masks_append [] t = refl
masks_append (w ∷ []) t = refl
masks_append (w ∷ v ∷ ws) t = ap (λ ns. mask_then w.word (name_number v.word) ns) (masks_append (v ∷ ws) t) ∙ mask_then_append w.word (name_number v.word) (mask_numbers (v ∷ ws)) (new_mask (v ∷ ws) (name_number t.word))

new_mask_append : (front : List Lexeme) (t : Lexeme) (n : Option ℕ) → new_mask (front ++ t ∷ []) n ≡ mask_then t.word n []
unfolding new_mask
new_mask_append [] t n = refl
new_mask_append (w ∷ []) t n = refl
new_mask_append (w ∷ v ∷ ws) t n = new_mask_append (v ∷ ws) t n

-- ---- what the pass knows of the words before

record Knows (front : List Lexeme) (s : Seen) : Type 0 where
  all : (n : ℕ) → Mem n (mask_numbers front) → Mem n s.masks
  only : (n : ℕ) → Mem n s.masks → Mem n (mask_numbers front)
  no_twice : NoTwice s.masks
  few : length s.masks ≤ 256
  new : (n : Option ℕ) → new_mask front n ≡ mask_if s.behind n

knows_nothing : Knows [] nothing_seen
unfolding new_mask
knows_nothing = record { all = λ n i. i; only = λ n i. i; no_twice = tt; few = omega arith; new = λ n. refl }

-- the masks with a word more are those that the pass has, and that word where it is one
masks_now : (front : List Lexeme) (s : Seen) → Knows front s → (t : Lexeme) → mask_numbers (front ++ t ∷ []) ≡ mask_numbers front ++ mask_if s.behind (name_number t.word)
masks_now front s k t = masks_append front t ∙ ap (λ ns. mask_numbers front ++ ns) (k.new (name_number t.word))

in_both : {n : ℕ} (xs ys : List ℕ) → Mem n (xs ++ ys) → Mem n xs ⊎ Mem n ys
in_both [] ys i = inr i
in_both (x ∷ xs) ys first = inl first
in_both (x ∷ xs) ys (later i) = by_side (in_both xs ys i)
  where
    by_side : {n : ℕ} → Mem n xs ⊎ Mem n ys → Mem n (x ∷ xs) ⊎ Mem n ys
    by_side (inl j) = inl (later j)
    by_side (inr j) = inr j

-- what stays after a word, by the masks alone
record Masked (front : List Lexeme) (t : Lexeme) (ms : List ℕ) : Type 0 where
  all : (n : ℕ) → Mem n (mask_numbers (front ++ t ∷ [])) → Mem n ms
  only : (n : ℕ) → Mem n ms → Mem n (mask_numbers (front ++ t ∷ []))
  no_twice : NoTwice ms
  few : length ms ≤ 256

no_mask : (front : List Lexeme) (s : Seen) → Knows front s → (t : Lexeme) → mask_numbers (front ++ t ∷ []) ≡ mask_numbers front ++ [] → Masked front t s.masks
no_mask front s k t e =
    let same : mask_numbers (front ++ t ∷ []) ≡ mask_numbers front = e ∙ append-nil (mask_numbers front) in
    record { all = λ n i. k.all n (subst (λ (ns : List ℕ). Mem n ns) same i); only = λ n i. subst (λ (ns : List ℕ). Mem n ns) (sym same) (k.only n i); no_twice = k.no_twice; few = k.few }

old_mask : (front : List Lexeme) (s : Seen) → Knows front s → (t : Lexeme) (m : ℕ) → mask_numbers (front ++ t ∷ []) ≡ mask_numbers front ++ m ∷ [] → has s.masks m ≡ true → Masked front t s.masks
old_mask front s k t m e h = record {
  all = λ n i. by_side (in_both (mask_numbers front) (m ∷ []) (subst (λ (ns : List ℕ). Mem n ns) e i));
  only = λ n i. subst (λ (ns : List ℕ). Mem n ns) (sym e) (mem_append_left (k.only n i) (m ∷ []));
  no_twice = k.no_twice;
  few = k.few;
}
  where
    nothing : {n : ℕ} {A : Type 0} → Mem n [] → A
    nothing i = elim i [ ]

    by_side : {n : ℕ} → Mem n (mask_numbers front) ⊎ Mem n (m ∷ []) → Mem n s.masks
    by_side (inl i) = k.all _ i
    by_side (inr first) = has_mem s.masks m h
    by_side (inr (later i)) = nothing i

new_one : (front : List Lexeme) (s : Seen) → Knows front s → (t : Lexeme) (m : ℕ) → mask_numbers (front ++ t ∷ []) ≡ mask_numbers front ++ m ∷ [] → has s.masks m ≡ false → length s.masks < 256 → Masked front t (m ∷ s.masks)
new_one front s k t m e h l = record {
  all = λ n i. by_side (in_both (mask_numbers front) (m ∷ []) (subst (λ (ns : List ℕ). Mem n ns) e i));
  only = λ n i. subst (λ (ns : List ℕ). Mem n ns) (sym e) (of_mem i);
  no_twice = ((λ i. never (sym h ∙ mem_has i)), k.no_twice);
  few = omega (arith, l);
}
  where
    nothing : {n : ℕ} {A : Type 0} → Mem n [] → A
    nothing i = elim i [ ]

    by_side : {n : ℕ} → Mem n (mask_numbers front) ⊎ Mem n (m ∷ []) → Mem n (m ∷ s.masks)
    by_side (inl i) = later (k.all _ i)
    by_side (inr first) = first
    by_side (inr (later i)) = nothing i

    of_mem : {n : ℕ} → Mem n (m ∷ s.masks) → Mem n (mask_numbers front ++ m ∷ [])
    of_mem first = mem_append_right (mask_numbers front) first
    of_mem (later i) = mem_append_left (k.only _ i) (m ∷ [])

masked_clean : (front : List Lexeme) (t : Lexeme) (ms : List ℕ) → Masked front t ms → HasDifferent 257 (mask_numbers (front ++ t ∷ [])) → ⊥
masked_clean front t ms m d = at_most 257 (mask_numbers (front ++ t ∷ [])) ms m.all (let l = m.few in omega (arith, l)) d

knows_clean : (front : List Lexeme) (s : Seen) → Knows front s → HasDifferent 257 (mask_numbers front) → ⊥
knows_clean front s k d = at_most 257 (mask_numbers front) s.masks k.all (let l = k.few in omega (arith, l)) d

-- ---- one word

-- what a word shows: nothing, and then the masks are these; or the limit that it passes
data Step (front : List Lexeme) (t : Lexeme) (ms : List ℕ) : Option Limit → Type 0 where
  clean : Masked front t ms → ((n : ℕ) → name_number t.word ≡ Some n → 65535 ≤ n → ⊥) → Step front t ms None
  passes : {l : Limit} → TokenPasses front t l → Step front t ms (Some l)

some_is : (a b : ℕ) → Some a ≡ Some b → a ≡ b
some_is a b e = cc

le_true : (a b : ℕ) → nat_le a b ≡ true → a ≤ b
le_true a b h = grind arith

le_false : (a b : ℕ) → nat_le a b ≡ false → b < a
le_false a b h = grind arith

by_names_step : (front : List Lexeme) (t : Lexeme) (ms : List ℕ) (n : ℕ) → name_number t.word ≡ Some n → Masked front t ms → Step front t ms (passes_names n)
by_names_step front t ms n e m = by_bool (nat_le 65535 n) refl
  where
    by_bool : (c : Bool) → nat_le 65535 n ≡ c → Step front t ms (if c then Some Names else None)
    by_bool true h = passes (by_names n e (le_true 65535 n h) (masked_clean front t ms m))
    by_bool false h = clean m (λ k f l. (let same = some_is n k (sym e ∙ f) in let less = le_false 65535 n h in omega (arith, l, same, less)))

one_word : (front : List Lexeme) (s : Seen) → Knows front s → (t : Lexeme) → Step front t (masks_with s.behind (name_number t.word) s.masks) (shows s (name_number t.word))
one_word front s k t = by_number s.behind (name_number t.word) refl (masks_now front s k t)
  where
    by_full : (n : ℕ) (c : Bool) → nat_le 256 (length s.masks) ≡ c → has s.masks n ≡ false → name_number t.word ≡ Some n → mask_numbers (front ++ t ∷ []) ≡ mask_numbers front ++ n ∷ [] → Step front t (n ∷ s.masks) (if c then Some Masks else passes_names n)
    by_full n true q h e m =
        let l : length (n ∷ s.masks) ≡ 257 = (let a = le_true 256 (length s.masks) q in let b = k.few in omega (arith, a, b)) in
        passes (by_masks (so_many 257 (mask_numbers (front ++ t ∷ [])) (n ∷ s.masks) (no_twice_now n h) l (λ j i. subst (λ (ns : List ℕ). Mem j ns) (sym m) (of_mem n i))) (knows_clean front s k))
      where
        no_twice_now : (n : ℕ) → has s.masks n ≡ false → NoTwice (n ∷ s.masks)
        no_twice_now n h = ((λ i. never (sym h ∙ mem_has i)), k.no_twice)

        of_mem : (n : ℕ) {j : ℕ} → Mem j (n ∷ s.masks) → Mem j (mask_numbers front ++ n ∷ [])
        of_mem n first = mem_append_right (mask_numbers front) first
        of_mem n (later i) = mem_append_left (k.only _ i) (n ∷ [])
    by_full n false q h e m = by_names_step front t (n ∷ s.masks) n e (new_one front s k t n m h (le_false 256 (length s.masks) q))

    by_has : (n : ℕ) (c : Bool) → has s.masks n ≡ c → name_number t.word ≡ Some n → mask_numbers (front ++ t ∷ []) ≡ mask_numbers front ++ n ∷ []
        → Step front t (if c then s.masks else n ∷ s.masks) (if not c && nat_le 256 (length s.masks) then Some Masks else passes_names n)
    by_has n true h e m = by_names_step front t s.masks n e (old_mask front s k t n m h)
    by_has n false h e m = by_full n (nat_le 256 (length s.masks)) refl h e m

    by_number : (b : Bool) (i : Option ℕ) → name_number t.word ≡ i → mask_numbers (front ++ t ∷ []) ≡ mask_numbers front ++ mask_if b i → Step front t (masks_with b i s.masks) (shows (record { masks = s.masks; behind = b }) i)
    by_number true (Some n) e m = by_has n (has s.masks n) refl e m
    by_number false (Some n) e m = by_names_step front t s.masks n e (no_mask front s k t m)
    by_number true None e m = clean (no_mask front s k t m) (λ n f l. none_not n (sym e ∙ f))
      where
        none_not : (n : ℕ) → None ≡ Some n → ⊥
        none_not n e = cc
    by_number false None e m = clean (no_mask front s k t m) (λ n f l. none_not n (sym e ∙ f))
      where
        none_not : (n : ℕ) → None ≡ Some n → ⊥
        none_not n e = cc

knows_after : (front : List Lexeme) (s : Seen) (t : Lexeme) → Masked front t (masks_with s.behind (name_number t.word) s.masks) → Knows (front ++ t ∷ []) (after_word s t.word)
knows_after front s t m = record { all = m.all; only = m.only; no_twice = m.no_twice; few = m.few; new = λ n. new_mask_append front t n ∙ mask_then_if t.word n }

-- ---- all words

-- the first word of ts that passes a limit, where `done` stands before them
pub record TokenLimitAt (done ts : List Lexeme) (l : Limit) (left : ℕ) : Type 0 where
  pub front : List Lexeme
  pub word_there : Lexeme
  pub others : List Lexeme
  pub split : ts ≡ front ++ word_there ∷ others
  pub count : left ≡ suc (length others)
  pub clean : (before behind : List Lexeme) (t : Lexeme) → front ≡ before ++ t ∷ behind → TokenClean (done ++ before) t
  pub passes : TokenPasses (done ++ front) word_there l

abbrev AllClean : List Lexeme → List Lexeme → Type 0
AllClean done ts = (before behind : List Lexeme) (t : Lexeme) → ts ≡ before ++ t ∷ behind → TokenClean (done ++ before) t

abbrev Found : List Lexeme → List Lexeme → Option (Limit × ℕ) → Type 0
Found done ts None = AllClean done ts
Found done ts (Some x) = TokenLimitAt done ts x.0 x.1

clean_first : (done ts : List Lexeme) (t : Lexeme) → TokenClean done t → AllClean (done ++ t ∷ []) ts → AllClean done (t ∷ ts)
clean_first done ts t c h [] behind u e = subst (λ (w : Lexeme). TokenClean (done ++ []) w) (head_is e) (subst (λ (z : List Lexeme). TokenClean z t) (sym (append-nil done)) c)
  where
    head_is : t ∷ ts ≡ u ∷ behind → t ≡ u
    head_is e = cc
clean_first done ts t c h (w ∷ before) behind u e =
    subst (λ (z : List Lexeme). TokenClean (done ++ z) u) (ap (λ (v : Lexeme). v ∷ before) (head_is e)) (subst (λ (z : List Lexeme). TokenClean z u) (append_assoc done (t ∷ []) before) (h before behind u (tail_is e)))
  where
    head_is : t ∷ ts ≡ w ∷ (before ++ u ∷ behind) → t ≡ w
    head_is e = cc

    tail_is : t ∷ ts ≡ w ∷ (before ++ u ∷ behind) → ts ≡ before ++ u ∷ behind
    tail_is e = cc

nothing_left : (done : List Lexeme) → AllClean done []
nothing_left done [] behind t e = cc
nothing_left done (w ∷ before) behind t e = cc

found_later : (done ts : List Lexeme) (t : Lexeme) (l : Limit) (left : ℕ) → TokenClean done t → TokenLimitAt (done ++ t ∷ []) ts l left → TokenLimitAt done (t ∷ ts) l left
found_later done ts t l left c r = record {
  front = t ∷ r.front;
  word_there = r.word_there;
  others = r.others;
  split = ap (λ (v : List Lexeme). t ∷ v) r.split;
  count = r.count;
  clean = clean_first done r.front t c r.clean;
  passes = subst (λ (z : List Lexeme). TokenPasses z r.word_there l) (append_assoc done (t ∷ []) r.front) r.passes;
}

limits_found : (ts done : List Lexeme) (s : Seen) → Knows done s → Found done ts (limits_from ts s)
unfolding limits_from
limits_found [] done s k = nothing_left done
limits_found (t ∷ ts) done s k = by_step (shows s (name_number t.word)) (one_word done s k t) (λ m. limits_found ts (done ++ t ∷ []) (after_word s t.word) (knows_after done s t m))
  where
    with_more : TokenClean done t → (r : Option (Limit × ℕ)) → Found (done ++ t ∷ []) ts r → Found done (t ∷ ts) r
    with_more c None h = clean_first done ts t c h
    with_more c (Some x) h = found_later done ts t x.0 x.1 c h

    by_step : (o : Option Limit) → Step done t (masks_with s.behind (name_number t.word) s.masks) o → (Masked done t (masks_with s.behind (name_number t.word) s.masks) → Found (done ++ t ∷ []) ts (limits_from ts (after_word s t.word)))
        → Found done (t ∷ ts) (limit_or o (suc (length ts)) (limits_from ts (after_word s t.word)))
    by_step None (clean m n) h = with_more (record { masks = masked_clean done t _ m; names = n }) (limits_from ts (after_word s t.word)) (h m)
    by_step (Some l) (passes p) h = record {
      front = [];
      word_there = t;
      others = ts;
      split = refl;
      count = refl;
      clean = nothing_left done;
      passes = subst (λ (z : List Lexeme). TokenPasses z t l) (sym (append-nil done)) p;
    }

-- WHAT THE PASS FINDS
pub token_limit_at : (ws : List Lexeme) (l : Limit) (left : ℕ) → token_limit ws ≡ Some (l, left) → TokenLimitAt [] ws l left
token_limit_at ws l left e = subst (λ r. Found [] ws r) e (limits_found ws [] nothing_seen knows_nothing)

pub token_clean : (ws : List Lexeme) → token_limit ws ≡ None → (before behind : List Lexeme) (t : Lexeme) → ws ≡ before ++ t ∷ behind → TokenClean before t
token_clean ws e = subst (λ r. Found [] ws r) e (limits_found ws [] nothing_seen knows_nothing)
