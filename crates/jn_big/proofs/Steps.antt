-- One line more.
use Rattle.std.proofs.Common.{◌≡◌, ◌≢◌, ◌∙◌, sym, ap, ℕ, ◌+◌, ◌-◌, ◌<◌, ◌≤◌, ◌==◌, Bool, false, if◌then◌else◌, List, [], ◌∷◌, ◌++◌, length, take, drop, get_or, add-one, arith, length-drop, eq-eqb}
use Rattle.std.proofs.lemmas.Bool.Decides.{nat_tests}
use Rattle.std.proofs.lemmas.List.{take_more, drop_more, get_or-drop}
use Rattle.jn_big.specs.Source.{print_line, print_lines}
use Rattle.jn_big.specs.Summary.{lines_behind, last_of}

pub more_lines : (j : ℕ) → print_lines (j + 1) ≡ print_lines j ++ print_line (j + 1)
more_lines j =
    ap print_lines (add-one j) ∙
    ap (λ i. print_lines j ++ print_line i) (sym (add-one j))

-- the part from s up to i, and the byte there
part_more : (w : List ℕ) (s i : ℕ) → s ≤ i → i < length w → take (i + 1 - s) (drop s w) ≡ take (i - s) (drop s w) ++ get_or w i 0 ∷ []
part_more w s i below within =
    let long : length (drop s w) ≡ length w - s = length-drop s w in
    let far : i - s < length (drop s w) = omega arith in
    let next : i + 1 - s ≡ (i - s) + 1 = omega arith in
    let there : s + (i - s) ≡ i = omega arith in
    let byte : get_or (drop s w) (i - s) 0 ≡ get_or w i 0 =
    get_or-drop s w (i - s) 0 ∙
    ap (λ k. get_or w k 0) there in
    ap (λ k. take k (drop s w)) next ∙
    take_more (drop s w) (i - s) 0 far ∙
    ap (λ b. take (i - s) (drop s w) ++ b ∷ []) byte

at_feed : (begun w : List ℕ) (b : ℕ) → b ≡ 10 → lines_behind begun (b ∷ w) ≡ begun ∷ lines_behind [] w
at_feed begun w b e = ap (λ (test : Bool). if test then begun ∷ lines_behind [] w else lines_behind (begun ++ b ∷ []) w) (eq-eqb b 10 e)

at_other : (begun w : List ℕ) (b : ℕ) → b ≢ 10 → lines_behind begun (b ∷ w) ≡ lines_behind (begun ++ b ∷ []) w
at_other begun w b e = ap (λ (test : Bool). if test then begun ∷ lines_behind [] w else lines_behind (begun ++ b ∷ []) w) (lemma b e) where
  lemma : (b : ℕ) → b ≢ 10 → (b == 10) ≡ false
  lemma b e = grind (arith, nat_tests)

-- what the lines are at byte i, of which the first began at s
abbrev pub lines_from : (w : List ℕ) (s i : ℕ) → List (List ℕ)
lines_from w s i = lines_behind (take (i - s) (drop s w)) (drop i w)

pub feed_ends : (w : List ℕ) (s i : ℕ) → i < length w → get_or w i 0 ≡ 10 → lines_from w s i ≡ take (i - s) (drop s w) ∷ lines_from w (i + 1) (i + 1)
feed_ends w s i within e =
    let none : (i + 1) - (i + 1) ≡ 0 = omega arith in
    ap (lines_behind (take (i - s) (drop s w))) (drop_more w i 0 within) ∙
    at_feed (take (i - s) (drop s w)) (drop (i + 1) w) (get_or w i 0) e ∙
    ap (λ (begun : List ℕ). take (i - s) (drop s w) ∷ lines_behind begun (drop (i + 1) w)) (sym (ap (λ k. take k (drop (i + 1) w)) none))

pub other_goes_on : (w : List ℕ) (s i : ℕ) → s ≤ i → i < length w → get_or w i 0 ≢ 10 → lines_from w s i ≡ lines_from w s (i + 1)
other_goes_on w s i below within e =
    ap (lines_behind (take (i - s) (drop s w))) (drop_more w i 0 within) ∙
    at_other (take (i - s) (drop s w)) (drop (i + 1) w) (get_or w i 0) e ∙
    ap (λ (begun : List ℕ). lines_behind begun (drop (i + 1) w)) (sym (part_more w s i below within))

pub record Counted (w shown : List ℕ) (n s i : ℕ) : Type 0 where
  pub begun : s ≤ i
  pub few : n ≤ i
  pub count : n + length (lines_from w s i) ≡ length (lines_behind [] w)
  pub last : last_of shown (lines_from w s i) ≡ last_of [] (lines_behind [] w)

pub counted_at_feed : (w shown : List ℕ) (n s i : ℕ) → i < length w → get_or w i 0 ≡ 10 → Counted w shown n s i → Counted w (take (i - s) (drop s w)) (n + 1) (i + 1) (i + 1)
counted_at_feed w shown n s i within e c =
    let same = feed_ends w s i within e in
    let few : n ≤ i = c.few in
    let long = ap length same in
    let counted = c.count in
    record {
      begun = omega arith;
      few = omega arith;
      count = omega (arith, long, counted);
      last = sym (ap (last_of shown) same) ∙
          c.last;
    }

pub counted_at_other : (w shown : List ℕ) (n s i : ℕ) → i < length w → get_or w i 0 ≢ 10 → Counted w shown n s i → Counted w shown n s (i + 1)
counted_at_other w shown n s i within e c =
    let below : s ≤ i = c.begun in
    let few : n ≤ i = c.few in
    let same = other_goes_on w s i below within e in
    record {
      begun = omega arith;
      few = omega arith;
      count = sym (ap (λ (ls : List (List ℕ)). n + length ls) same) ∙
          c.count;
      last = sym (ap (last_of shown) same) ∙
          c.last;
    }
