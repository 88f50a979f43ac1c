-- Masks: which have a name, which are fields, which stand twice, and the words of their set.
use Rattle.std.proofs.Common.{◌≡◌, ◌<◌, ◌≤◌, ◌+◌, ◌*◌, ◌/◌, ◌%◌, ◌^◌, ℕ, zero, suc, List, [], ◌∷◌, length, take, drop}
use Rattle.std.proofs.Common.{map, reverse, get_or, slice_get, Some, None, Option, ◌↔◌, ◌⊎◌, inl, inr, refl, sym, ap}
use Rattle.std.proofs.Common.{◌∙◌, subst, arith, bit_or}
use Rattle.std.specs.Int.{bit_at}
use Rattle.std.proofs.lemmas.Bool.{cases_lt}
use Rattle.std.proofs.lemmas.List.{reverse-append}
use Rattle.std.proofs.lemmas.Option.{slice_get_read}
use Rattle.std.proofs.Math.ListN.{drop_of_length-le}
use Rattle.std.proofs.lemmas.Nat.Bits.{bit_at-zero, bit_at_set_same, bit_at_set_other}
use mir.Syntax.{w64}
use Rattle.jn_reach.proofs.Searches.{NoneBefore, none_all}
use Rattle.jn_base.specs.declared.tree.Name.{Name}
use Rattle.jn_base.specs.declared.tree.Named.{Named}
use Rattle.jn_base.specs.declared.tree.Program.{Program}
use Rattle.jn_base.specs.Paths.{Path}
use Rattle.jn_base.specs.ResolveTypes.{IsMask, MasksAre, IsFieldOfAny, MaskFits, FirstUnfit}
use Rattle.jn_table.specs.Rows.{HasField}
use Rattle.jn_names.specs.Masking.{name_of, seen_of, IsMaskNamed}
use Rattle.jn_names.proofs.Turned.{at_place}
use Rattle.jn_names.proofs.ScopedProof.{take_one, map_both}

-- ---- names

pub named_here : (ms : List Named) (i : ℕ) (m : Named) (n : Name) → i < length ms → m ≡ get_or ms i m → m.name ≡ n
    → IsMaskNamed ms n
named_here ms i m n l e h = (m, (i, l, sym e), h)

pub named_none : (ms : List Named) (i : ℕ) (n : Name) → length ms ≤ i → NoneBefore (λ (m : Named). m.name ≡ n) ms i
    → IsMaskNamed ms n → ⊥
named_none ms i n past none h = none_all (λ (m : Named). m.name ≡ n) ms i past none (h.1.0, h.0, h.1.1, h.1.2, h.2)

pub mask_named : (names : List Name) (ms : List Named) (i : ℕ) (n : Name) → slice_get names i ≡ Some n
    → IsMaskNamed ms n ↔ IsMask names ms i
mask_named names ms i n at = (
  λ h. record { mask = h.0; among = h.1; is = at ∙ ap Some (sym h.2) },
  λ k. (k.mask, k.among, let e : ◌≡◌ {A = Option Name} (Some n) (Some k.mask.name) = sym at ∙ k.is in cc),
)

pub no_mask : (names : List Name) (ms : List Named) (i : ℕ) → slice_get names i ≡ None → IsMask names ms i → ⊥
no_mask names ms i at k = let e : ◌≡◌ {A = Option Name} None (Some k.mask.name) = sym at ∙ k.is in cc

-- ---- fields

pub field_here : (p : Program) (bounds : List Path) (i : ℕ) (B : Path) (f : Name) → i < length bounds
    → B ≡ get_or bounds i B → HasField p B f → IsFieldOfAny p bounds f
field_here p bounds i B f l e h = record { bound = B; among = (i, l, sym e); at = h.0; declares = h.1 }

pub no_field : (p : Program) (bounds : List Path) (i : ℕ) (f : Name) → length bounds ≤ i
    → NoneBefore (λ (B : Path). HasField p B f) bounds i → IsFieldOfAny p bounds f → ⊥
no_field p bounds i f past none h =
    none_all (λ (B : Path). HasField p B f) bounds i past none (h.among.0, h.bound, h.among.1, h.among.2, (h.at, h.declares))

-- ---- what stands before

pub seen_more : (ms : List Named) (i : ℕ) (m : Named) → slice_get ms i ≡ Some m
    → seen_of (take (i + 1) ms) ≡ m.name ∷ seen_of (take i ms)
seen_more ms i m at =
    ap seen_of (take_one ms i m at)
    ∙ (ap reverse (map_both name_of (take i ms) (m ∷ [])) ∙ reverse-append (map name_of (take i ms)) (m.name ∷ []))

pub unfit_here : (p : Program) (bounds : List Path) (ms : List Named) (i : ℕ) (m : Named) → i < length ms → m ≡ get_or ms i m
    → ((o : Option Named) → FirstUnfit p bounds (seen_of (take i ms)) (drop i ms) o → FirstUnfit p bounds [] ms o)
    → (MaskFits p bounds (seen_of (take i ms)) m → ⊥) → FirstUnfit p bounds [] ms (Some m)
unfit_here p bounds ms i m l e k n =
    k (Some m) (subst (λ (xs : List Named). FirstUnfit p bounds (seen_of (take i ms)) xs (Some m))
    (sym (at_place ms i m l ∙ ap (λ (x : Named). x ∷ drop (i + 1) ms) (sym e))) (inr (n, refl)))

pub fits_here : (p : Program) (bounds : List Path) (ms : List Named) (i : ℕ) (m : Named) (o : Option Named)
    → i < length ms → m ≡ get_or ms i m
    → (FirstUnfit p bounds (seen_of (take i ms)) (drop i ms) o → FirstUnfit p bounds [] ms o)
    → MaskFits p bounds (seen_of (take i ms)) m
    → FirstUnfit p bounds (seen_of (take (i + 1) ms)) (drop (i + 1) ms) o → FirstUnfit p bounds [] ms o
fits_here p bounds ms i m o l e k f h =
    k (subst (λ (xs : List Named). FirstUnfit p bounds (seen_of (take i ms)) xs o)
    (sym (at_place ms i m l ∙ ap (λ (x : Named). x ∷ drop (i + 1) ms) (sym e)))
    (inl (
      f,
      subst (λ (seen : List Name). FirstUnfit p bounds seen (drop (i + 1) ms) o)
          (seen_more ms i m (slice_get_read ms (length ms) i m refl l e)) h,
    )))

pub all_fit : (p : Program) (bounds : List Path) (ms : List Named) (i : ℕ) → length ms ≤ i
    → ((o : Option Named) → FirstUnfit p bounds (seen_of (take i ms)) (drop i ms) o → FirstUnfit p bounds [] ms o)
    → FirstUnfit p bounds [] ms None
all_fit p bounds ms i past k =
    k None (subst (λ (xs : List Named). FirstUnfit p bounds (seen_of (take i ms)) xs None) (sym (drop_of_length-le ms past)) refl)

-- ---- a word

-- the bits below b are those of the masks from the number `from` on, and no other bit is set
pub record WordTo (names : List Name) (ms : List Named) (from b w : ℕ) : Type 0 where
  pub bits : (i : ℕ) → i < b → (bit_at w i ≡ 1) ↔ IsMask names ms (from + i)
  pub rest : (i : ℕ) → b ≤ i → bit_at w i ≡ 0

pub word_start : (names : List Name) (ms : List Named) (from : ℕ) → WordTo names ms from 0 0
word_start names ms from = record { bits = λ i h. absurd (omega arith); rest = λ i h. bit_at-zero i }

pub word_set : (names : List Name) (ms : List Named) (from b w : ℕ) → b < 64 → WordTo names ms from b w
    → IsMask names ms (from + b)
    → WordTo names ms from (b + 1) (bit_or w (1 * 2 ^ b % 2 ^ 64))
word_set names ms from b w l h m = record { bits = each; rest = above } where
  other : (i : ℕ) → (i ≡ b → ⊥) → bit_at (bit_or w (1 * 2 ^ b % 2 ^ 64)) i ≡ bit_at w i
  other i n = bit_at_set_other w64 w b l i n

  here : bit_at (bit_or w (1 * 2 ^ b % 2 ^ 64)) b ≡ 1
  here = bit_at_set_same w64 w b l

  each : (i : ℕ) → i < b + 1 → (bit_at (bit_or w (1 * 2 ^ b % 2 ^ 64)) i ≡ 1) ↔ IsMask names ms (from + i)
  each i k = by_place (cases_lt i b) where
    by_place : (i < b) ⊎ (b ≤ i) → (bit_at (bit_or w (1 * 2 ^ b % 2 ^ 64)) i ≡ 1) ↔ IsMask names ms (from + i)
    by_place (inl j) = let e = other i (λ x. omega (arith, x, j)) in (λ x. (h.bits i j).0 (sym e ∙ x), λ x. e ∙ (h.bits i j).1 x)
    by_place (inr j) = let e : b ≡ i = omega arith in
        subst (λ (n : ℕ). (bit_at (bit_or w (1 * 2 ^ b % 2 ^ 64)) n ≡ 1) ↔ IsMask names ms (from + n)) e (λ x. m, λ x. here)

  above : (i : ℕ) → b + 1 ≤ i → bit_at (bit_or w (1 * 2 ^ b % 2 ^ 64)) i ≡ 0
  above i k = other i (λ x. omega (arith, x, k)) ∙ h.rest i (omega arith)

pub word_kept : (names : List Name) (ms : List Named) (from b w : ℕ) → WordTo names ms from b w
    → (IsMask names ms (from + b) → ⊥) → WordTo names ms from (b + 1) w
word_kept names ms from b w h n = record { bits = each; rest = λ i k. h.rest i (omega arith) } where
  each : (i : ℕ) → i < b + 1 → (bit_at w i ≡ 1) ↔ IsMask names ms (from + i)
  each i k = by_place (cases_lt i b) where
    by_place : (i < b) ⊎ (b ≤ i) → (bit_at w i ≡ 1) ↔ IsMask names ms (from + i)
    by_place (inl j) = h.bits i j
    by_place (inr j) = let e : b ≡ i = omega arith in
        subst (λ (n : ℕ). (bit_at w n ≡ 1) ↔ IsMask names ms (from + n)) e
        (λ x. absurd (let z = h.rest b (omega arith) in omega (arith, x, z)), λ x. absurd (n x))

-- ---- the four words

module _ (names : List Name) (ms : List Named) where
  abbrev pub WordFrom : ℕ → ℕ → Type 0
  WordFrom from w = (i : ℕ) → i < 64 → (bit_at w i ≡ 1) ↔ IsMask names ms (from + i)

  in_word : (from w i : ℕ) → WordFrom from w → i / 64 * 64 ≡ from → (bit_at w (i % 64) ≡ 1) ↔ IsMask names ms i
  in_word from w i h e =
      let s : from + i % 64 ≡ i = omega arith in
      subst (λ (n : ℕ). (bit_at w (i % 64) ≡ 1) ↔ IsMask names ms n) s (h (i % 64) (omega arith))

  pub four_words : (a b c d : ℕ) → WordFrom 0 a → WordFrom 64 b → WordFrom 128 c → WordFrom 192 d → a < 2 ^ 64
      → b < 2 ^ 64 → c < 2 ^ 64 → d < 2 ^ 64
      → MasksAre names ms (record { 0 = a ∷ b ∷ c ∷ d ∷ [] })
  four_words a b c d wa wb wc wd la lb lc ld = record { words = refl; wide = wide; each = λ i h. each i (i / 64) refl h } where
    wide : (k e : ℕ) → k < 4 → get_or (a ∷ b ∷ c ∷ d ∷ []) k e < 2 ^ 64
    wide zero e h = la
    wide (suc zero) e h = lb
    wide (suc (suc zero)) e h = lc
    wide (suc (suc (suc zero))) e h = ld
    wide (suc (suc (suc (suc k)))) e h = absurd (omega arith)

    each : (i w : ℕ) → i / 64 ≡ w → i < 256 → (bit_at (get_or (a ∷ b ∷ c ∷ d ∷ []) (i / 64) 0) (i % 64) ≡ 1) ↔ IsMask names ms i
    each i zero e h =
        subst (λ (n : ℕ). (bit_at (get_or (a ∷ b ∷ c ∷ d ∷ []) n 0) (i % 64) ≡ 1) ↔ IsMask names ms i) (sym e)
        (in_word 0 a i wa (omega (arith, e)))
    each i (suc zero) e h =
        subst (λ (n : ℕ). (bit_at (get_or (a ∷ b ∷ c ∷ d ∷ []) n 0) (i % 64) ≡ 1) ↔ IsMask names ms i) (sym e)
        (in_word 64 b i wb (omega (arith, e)))
    each i (suc (suc zero)) e h =
        subst (λ (n : ℕ). (bit_at (get_or (a ∷ b ∷ c ∷ d ∷ []) n 0) (i % 64) ≡ 1) ↔ IsMask names ms i) (sym e)
        (in_word 128 c i wc (omega (arith, e)))
    each i (suc (suc (suc zero))) e h =
        subst (λ (n : ℕ). (bit_at (get_or (a ∷ b ∷ c ∷ d ∷ []) n 0) (i % 64) ≡ 1) ↔ IsMask names ms i) (sym e)
        (in_word 192 d i wd (omega (arith, e)))
    each i (suc (suc (suc (suc w)))) e h = absurd (omega arith)
