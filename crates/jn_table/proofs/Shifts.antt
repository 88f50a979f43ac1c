-- The nodes of some depths and of the next one.
use Rattle.std.proofs.Common.{◌≡◌, ◌<◌, ◌≤◌, ◌+◌, ℕ, List, [], ◌∷◌, ◌++◌, length, slice_get, Some, get_or, take, map, arith, sym, ◌∙◌, ap, subst, refl, zero, suc, All, Contains, append_assoc, length-append}
use Rattle.std.specs.declared.vec.Vec.{Vec}
use Rattle.std.specs.declared.alloc.Global.{Global}
use Rattle.std.specs.List.Sorted.{IsStrictlyIncreasing}
use Rattle.std.proofs.lemmas.List.{append-nil}
use Rattle.std.proofs.lemmas.List.Elements.{All-append, All-contains, All-weaker, Contains-get_or}
use Rattle.std.proofs.lemmas.Option.{slice_get_within, slice_get-get_or, get_or_from_slice_get}
use Rattle.jn_reach.specs.Graph.{Graph, HasEdge, InRange}
use Rattle.jn_reach.specs.Numbers.{Numbers}
use Rattle.jn_reach.proofs.Eachs.{Each-at, Each-back, Each-length, Each-more, Each-none}
use Rattle.jn_table.specs.Level.{IsShaped}
use Rattle.jn_table.specs.Nodes.{IsShifted, AddsShifted, AddsLevel, FitNodes}
use Rattle.jn_table.specs.declared.level.Level.{Level}
use Rattle.jn_table.specs.declared.nodes.Nodes.{Nodes}
use Rattle.jn_table.proofs.Places.{take_whole}
use Rattle.jn_table.proofs.Sides.{Side, front, back, side, left, right}

pub shifted_none : (off : ℕ) (xs : Graph) → AddsShifted off [] xs xs
shifted_none off xs = record { added = []; is = sym (append-nil xs); each = Each-none (IsShifted off) [] refl }

pub shifted_more : (off : ℕ) (rows before mid : Graph) (i : ℕ) (row moved : Vec ℕ Global) → i < length rows
    → row ≡ get_or rows i row
    → AddsShifted off (take i rows) before mid → moved.items ≡ map (λ j. j + off) row.items
    → AddsShifted off (take (i + 1) rows) before (mid ++ moved ∷ [])
shifted_more off rows before mid i row moved l is a m = record {
  added = a.added ++ moved ∷ [];
  is = ap (λ (xs : Graph). xs ++ moved ∷ []) a.is ∙ simp append_assoc;
  each = Each-more (IsShifted off) rows a.added i row moved l is a.each m;
}

pub shifted_all : (off : ℕ) (rows before after : Graph) (i : ℕ) → length rows ≤ i
    → AddsShifted off (take i rows) before after
    → AddsShifted off rows before after
shifted_all off rows before after i past a =
    subst (λ (rs : Graph). AddsShifted off rs before after) (take_whole i rows past) a

moved_in : (off : ℕ) (xs : List ℕ) (j : ℕ) → Contains (map (λ k. k + off) xs) j
    → (k : ℕ) × Contains xs k × (j ≡ k + off)
moved_in off [] j c = absurd (omega (arith, c.1))
moved_in off (x ∷ xs) j (zero, l, e) = (x, (0, omega arith, refl), sym e)
moved_in off (x ∷ xs) j (suc n, l, e) =
    let r = moved_in off xs j (n, omega (arith, l), e) in
    (r.0, (suc r.1.0, omega (arith, r.1.1), r.1.2), r.2)

in_moved : (off : ℕ) (xs : List ℕ) (k : ℕ) → Contains xs k → Contains (map (λ j. j + off) xs) (k + off)
in_moved off [] k c = absurd (omega (arith, c.1))
in_moved off (x ∷ xs) k (zero, l, e) = (0, omega arith, ap (λ (n : ℕ). n + off) e)
in_moved off (x ∷ xs) k (suc n, l, e) =
    let r = in_moved off xs k (n, omega (arith, l), e) in
    (suc r.0, omega (arith, r.1), r.2)

module _ {A : Type 0} (E : A → A → Type 0) (xs ys : List A) (g h after : Graph) (long : length g ≡ length xs)
    (n : Numbers E xs (HasEdge g)) (m : Numbers E ys (HasEdge h)) (a : AddsShifted (length xs) h g after) where
  in_old : (i : ℕ) (row : Vec ℕ Global) → i < length xs → slice_get after i ≡ Some row → slice_get g i ≡ Some row
  in_old i row l at = by_side (side g a.added i row (subst (λ (r : Graph). slice_get r i ≡ Some row) a.is at)) where
    by_side : Side g a.added i row → slice_get g i ≡ Some row
    by_side (front x) = x
    by_side (back j e x) = absurd (omega (arith, l, long, e))

  in_new : (j : ℕ) (row : Vec ℕ Global) → slice_get after (length xs + j) ≡ Some row → slice_get a.added j ≡ Some row
  in_new j row at = by_side (side g a.added (length xs + j) row
      (subst (λ (r : Graph). slice_get r (length xs + j) ≡ Some row) a.is at)) where
        by_side : Side g a.added (length xs + j) row → slice_get a.added j ≡ Some row
        by_side (front x) = absurd (let w = slice_get_within g (length xs + j) row x in omega (arith, w, long))
        by_side (back k e x) =
            subst (λ (i : ℕ). slice_get a.added i ≡ Some row) (let f : k ≡ j = omega (arith, e, long) in f) x

  sound_by : (i j : ℕ) (x : A) → HasEdge after i j → Side xs ys i x
      → (y : A) × (slice_get (xs ++ ys) j ≡ Some y) × E x y
  sound_by i j x e (front f) =
      let w = slice_get_within xs i x f in
      let s = n.sound i j x f (record { row = e.row; at = in_old i e.row w e.at; in_row = e.in_row }) in
      (s.0, left xs ys j s.0 s.1, s.2)
  sound_by i j x e (back k p f) =
      let at = in_new k e.row (subst (λ (q : ℕ). slice_get after q ≡ Some e.row) p e.at) in
      let r = Each-back (IsShifted (length xs)) a.each k e.row at in
      let c = moved_in (length xs) (r.0).items j (subst (λ (ns : List ℕ). Contains ns j) r.2 e.in_row) in
      let s = m.sound k c.0 x f (record { row = r.0; at = r.1; in_row = c.1 }) in (
        s.0,
        subst (λ (q : ℕ). slice_get (xs ++ ys) q ≡ Some s.0)
            (let q : length xs + c.0 ≡ j = omega (arith, c.2) in q) (right xs ys c.0 s.0 s.1),
        s.2,
      )

  complete_by : (i : ℕ) (x y : A) → E x y → Side xs ys i x
      → (j : ℕ) × (slice_get (xs ++ ys) j ≡ Some y) × HasEdge after i j
  complete_by i x y h (front f) =
      let c = n.complete i x y f h in
      let e = c.2 in (
        c.0,
        left xs ys c.0 y c.1,
        record {
          row = e.row;
          at = subst (λ (r : Graph). slice_get r i ≡ Some e.row) (sym a.is) (left g a.added i e.row e.at);
          in_row = e.in_row;
        },
      )
  complete_by i x y h (back k p f) =
      let c = m.complete k x y f h in
      let e = c.2 in
      let r = Each-at (IsShifted (length xs)) a.each k e.row e.at in
      let off : length g + k ≡ i = omega (arith, p, long) in
      let to : length xs + c.0 ≡ c.0 + length xs = omega arith in (
        c.0 + length xs,
        subst (λ (q : ℕ). slice_get (xs ++ ys) q ≡ Some y) to (right xs ys c.0 y c.1),
        record {
          row = r.0;
          at = subst (λ (q : ℕ). slice_get after q ≡ Some r.0) off
              (subst (λ (s : Graph). slice_get s (length g + k) ≡ Some r.0) (sym a.is) (right g a.added k r.0 r.1));
          in_row = subst (λ (ns : List ℕ). Contains ns (c.0 + length xs)) (sym r.2)
              (in_moved (length xs) (e.row).items c.0 e.in_row);
        },
      )

  -- the edges of both parts
  pub numbers_joined : Numbers E (xs ++ ys) (HasEdge after)
  numbers_joined = record {
    sound = λ i j x at e. sound_by i j x e (side xs ys i x at);
    complete = λ i x y at h. complete_by i x y h (side xs ys i x at);
  }

module _ (level : Level) (before after : Nodes) (s : IsShaped level) (f : FitNodes before)
    (a : AddsLevel level before after)
    (few : length before.paths.items + length level.paths.items ≤ 4096) where
  off : ℕ
  off = length before.paths.items

  total : length after.paths.items ≡ length before.paths.items + length level.paths.items
  total = ap length a.paths ∙ length-append before.paths.items level.paths.items

  rows : length after.direct.items ≡ length before.direct.items + length (a.direct).added
  rows = ap length (a.direct).is ∙ length-append before.direct.items (a.direct).added

  moved : length (a.direct).added ≡ length level.direct.items
  moved = Each-length (IsShifted (length before.paths.items)) (a.direct).each

  row_within : (k : ℕ) (row : Vec ℕ Global) → slice_get (a.direct).added k ≡ Some row
      → All (λ (j : ℕ). j < length after.paths.items) row.items
  row_within k row at i d l =
      let r = Each-back (IsShifted (length before.paths.items)) (a.direct).each k row at in
      let c = moved_in (length before.paths.items) (r.0).items (get_or row.items i d)
      (subst (λ (ns : List ℕ). Contains ns (get_or row.items i d)) r.2 (Contains-get_or row.items i d l)) in
      let in_level = s.direct_in k r.0 (slice_get_within level.direct.items k r.0 r.1) in
      let same : get_or level.direct.items k r.0 ≡ r.0 = get_or_from_slice_get level.direct.items k r.0 r.0 r.1 in
      let w = All-contains (λ (j : ℕ). j < length level.paths.items) (r.0).items c.0
      (subst (λ (v : Vec ℕ Global). All (λ (j : ℕ). j < length level.paths.items) v.items) same in_level) c.1 in
      let t : length after.paths.items ≡ length before.paths.items + length level.paths.items = total in
      omega (arith, w, c.2, t)

  row_ascends : (k : ℕ) (row : Vec ℕ Global) → slice_get (a.direct).added k ≡ Some row → IsStrictlyIncreasing row.items
  row_ascends k row at =
      let r = Each-back (IsShifted (length before.paths.items)) (a.direct).each k row at in
      let up = s.ascending k r.0 (slice_get_within level.direct.items k r.0 r.1) in
      let same : get_or level.direct.items k r.0 ≡ r.0 = get_or_from_slice_get level.direct.items k r.0 r.0 r.1 in
      subst IsStrictlyIncreasing (sym r.2)
      (shifts (length before.paths.items) (r.0).items
      (subst (λ (v : Vec ℕ Global). IsStrictlyIncreasing v.items) same up)) where
        at_moved : (off : ℕ) (xs : List ℕ) (k : ℕ) → k < length xs
            → get_or (map (λ j. j + off) xs) k 0 ≡ get_or xs k 0 + off
        at_moved off [] k l = absurd (omega (arith, l))
        at_moved off (x ∷ xs) zero l = refl
        at_moved off (x ∷ xs) (suc k) l = at_moved off xs k (omega (arith, l))

        long_moved : (off : ℕ) (xs : List ℕ) → length (map (λ j. j + off) xs) ≡ length xs
        long_moved off [] = refl
        long_moved off (x ∷ xs) = ap suc (long_moved off xs)

        shifts : (off : ℕ) (xs : List ℕ) → IsStrictlyIncreasing xs → IsStrictlyIncreasing (map (λ j. j + off) xs)
        shifts off xs up k l =
            let m = long_moved off xs in
            let b : k + 1 < length xs = omega (arith, l, m) in
            let x = at_moved off xs k (omega (arith, b)) in
            let y = at_moved off xs (k + 1) b in
            let z = up k b in
            omega (arith, x, y, z)

  all_at : {X : Type 0} (P : X → Type 0) (xs : List X) → ((k : ℕ) (x : X) → slice_get xs k ≡ Some x → P x) → All P xs
  all_at P xs f k d l = f k (get_or xs k d) (slice_get-get_or xs k d l)

  pub level_fits : FitNodes after
  level_fits = record {
    few = let t = total in omega (arith, t, few);
    long = let t = total in let r = rows in let m = moved in omega (arith, t, r, m, f.long, s.direct);
    within = subst (λ (g : Graph). InRange g (length after.paths.items)) (sym (a.direct).is)
        (All-append (λ (row : Vec ℕ Global). All
        (λ (j : ℕ). j < length after.paths.items) row.items) before.direct.items (a.direct).added
        (All-weaker (λ (row : Vec ℕ Global). All (λ (j : ℕ). j < length before.paths.items) row.items)
        (λ (row : Vec ℕ Global). All (λ (j : ℕ). j < length after.paths.items) row.items)
        (λ row w. All-weaker (λ (j : ℕ). j < length before.paths.items) (λ (j : ℕ). j < length after.paths.items)
        (λ j l. let t = total in omega (arith, l, t)) row.items w) before.direct.items f.within)
        (all_at (λ (row : Vec ℕ Global). All (λ (j : ℕ). j < length after.paths.items) row.items)
        (a.direct).added row_within));
    ascending =
        subst (λ (g : Graph). All (λ (row : Vec ℕ Global). IsStrictlyIncreasing row.items) g) (sym (a.direct).is)
        (All-append (λ (row : Vec ℕ Global). IsStrictlyIncreasing row.items) before.direct.items
        (a.direct).added f.ascending
        (all_at (λ (row : Vec ℕ Global). IsStrictlyIncreasing row.items) (a.direct).added row_ascends));
  }
