-- The paths near each path, and how loops over their numbers make a row.
use Rattle.std.proofs.Common.{All, ◌≡◌, ◌<◌, ◌≤◌, ◌+◌, ◌++◌, ◌∙◌, ℕ, zero, suc, List, [], ◌∷◌, Option, Some, add-one, ap, arith, get_or, inl, inr, length, map, refl, reverse, slice_get, subst, sym, take}
use Rattle.std.specs.List.{Any}
use Rattle.std.specs.List.Sorted.{IsStrictlyIncreasing}
use Rattle.std.specs.declared.vec.Vec.{Vec}
use Rattle.std.specs.declared.alloc.Global.{Global}
use Rattle.std.proofs.lemmas.Bool.{cases_lt}
use Rattle.std.proofs.lemmas.List.{length-map, reverse-append, take_more}
use Rattle.std.proofs.lemmas.List.Elements.{Contains-get_or}
use Rattle.std.proofs.lemmas.Option.{slice_get_within, slice_get_read, slice_get-get_or, get_or_from_slice_get}
use Rattle.jn_reach.specs.Each.{Each}
use Rattle.jn_reach.specs.Graph.{Graph, InRange, Lists}
use Rattle.jn_reach.proofs.Eachs.{Each-at, Each-back, Each-length}
use Rattle.jn_reach.proofs.Listing.{Lists-same}
use Rattle.jn_reach.proofs.Searches.{same_some}
use Rattle.jn_base.specs.declared.tree.Name.{Name}
use Rattle.jn_base.specs.Paths.{Path}
use Rattle.jn_table.specs.Groups.{PlacesOf}
use Rattle.jn_table.specs.Near.{ArePathsAt, IsNear, IsPathAt}
use Rattle.jn_table.specs.Places.{path_key}
use Rattle.jn_table.specs.Universes.{MembersUpTo}
use Rattle.jn_table.specs.Ups.{IsUnder, up_path}
use Rattle.jn_table.specs.declared.class.RowMember.{RowMember}
use Rattle.jn_table.specs.declared.near.Near.{Near}
use Rattle.jn_table.proofs.Grouped.{each_then, lists_with}
use Rattle.jn_table.proofs.Places.{take_whole}
use Rattle.jn_table.proofs.RowSteps.{members_push, members_skip}

-- ---- a path without its last name

pub last_off : (names init : List Name) (n : ℕ) → length names ≡ n + 1 → init ≡ take n names
    → reverse init ≡ up_path (reverse names)
last_off names init n l is =
    let none : Name = record { 0 = 0 } in
    let x : Name = get_or names n none in
    let whole : names ≡ init ++ x ∷ [] = sym (take_whole (n + 1) names (omega (arith, l)))
    ∙ (take_more names n none (omega (arith, l)) ∙ ap (λ (ns : List Name). ns ++ x ∷ []) (sym is)) in
    let turned : reverse names ≡ x ∷ reverse init = ap reverse whole ∙ reverse-append init (x ∷ []) in
    sym (ap up_path turned)

pub empty_off : (names : List Name) → length names ≡ 0 → reverse names ≡ up_path (reverse names)
empty_off [] e = refl
empty_off (x ∷ xs) e = absurd (omega (arith, e))

-- ---- the numbers of paths

pub paths_among : (others paths : List Path) (rows : Graph) → Each (PlacesOf (map path_key others)) paths rows
    → ArePathsAt others paths rows
paths_among others paths rows e =
    each_then (PlacesOf (map path_key others)) (λ (P : Path) (row : Vec ℕ Global). Lists (IsPathAt others P) row.items)
    paths rows by e where
      by : (P : Path) (row : Vec ℕ Global) → PlacesOf (map path_key others) P row → Lists (IsPathAt others P) row.items
      by P row l =
          Lists-same (λ k. (x : Path) × (slice_get others k ≡ Some x) × (x ≡ P)) (IsPathAt others P) row.items
          (λ k w. subst (λ (x : Path). slice_get others k ≡ Some x) w.2 w.1) (λ k at. (P, at, refl))
          (lists_with (λ (x : Path). x) others P row.items l)

module _ (others paths : List Path) (rows : Graph) (are : ArePathsAt others paths rows) where
  within_others : InRange rows (length others)
  within_others k row l i d m =
      let v = get_or rows k row in
      let r = Each-back (λ (P : Path) (row : Vec ℕ Global). Lists (IsPathAt others P) row.items) are k v
      (slice_get-get_or rows k row l) in
      slice_get_within others (get_or v.items i d) r.0
      ((r.2.exact (get_or v.items i d)).0 (Contains-get_or v.items i d m))

  pub row_lists : (k : ℕ) (P : Path) (row : Vec ℕ Global) → slice_get paths k ≡ Some P → slice_get rows k ≡ Some row
      → Lists (IsPathAt others P) row.items
  row_lists k P row at there =
      let r = Each-at (λ (P : Path) (row : Vec ℕ Global). Lists (IsPathAt others P) row.items) are k P at in
      subst (λ (v : Vec ℕ Global). Lists (IsPathAt others P) v.items) (same_some (slice_get rows k) r.0 row r.1 there) r.2

pub near_is : (paths : List Path) (near : Near) → ArePathsAt paths (map up_path paths) near.ups.items
    → ArePathsAt (map up_path paths) paths near.members.items → IsNear paths near
near_is paths near u m = record {
  ups = u;
  ups_long = Each-length (λ (P : Path) (row : Vec ℕ Global). Lists (IsPathAt paths P) row.items) u ∙ length-map paths up_path;
  ups_in = within_others paths (map up_path paths) near.ups.items u;
  members = m;
  members_long = Each-length (λ (P : Path) (row : Vec ℕ Global). Lists (IsPathAt (map up_path paths) P) row.items) m;
  members_in =
      subst (InRange near.members.items) (length-map paths up_path)
      (within_others (map up_path paths) paths near.members.items m);
}

pub mapped_get : {A B : Type 0} (f : A → B) (xs : List A) (k : ℕ) (x : A) → slice_get xs k ≡ Some x
    → slice_get (map f xs) k ≡ Some (f x)
mapped_get f [] k x at = absurd (omega (arith, slice_get_within [] k x at))
mapped_get {A} {B} f (y ∷ ys) zero x at = let h : y ≡ x = cc at in ap (λ (z : A). let o : Option B = Some (f z) in o) h
mapped_get f (y ∷ ys) (suc k) x at = mapped_get f ys k x at

-- ---- the number of the path without its last name

-- the path of that number is R without its last name
abbrev pub IsUpAt : List Path → Path → ℕ → Type 0
IsUpAt paths R k = (U : Path) × (slice_get paths k ≡ Some U) × IsUnder R U

pub no_up_at : (paths : List Path) (R : Path) (row : List ℕ) → Lists (IsPathAt paths (up_path R)) row
    → (Any (IsUpAt paths R) row → ⊥) → (k : ℕ) (U : Path) → slice_get paths k ≡ Some U → IsUnder R U → ⊥
no_up_at paths R row l none k U at u =
    let e : U ≡ up_path R = sym (ap up_path u.1) in
    let c = (l.exact k).1 (subst (λ (P : Path). slice_get paths k ≡ Some P) e at) in
    none (c.0, k, c.1, c.2, (U, at, u))

-- ---- the members

-- behind the numbers before
abbrev pub bound : List ℕ → ℕ → ℕ
bound row zero = 0
bound row (suc i) = get_or row i 0 + 1

rising : (row : List ℕ) → IsStrictlyIncreasing row → (i j : ℕ) → i < j → j < length row → get_or row i 0 < get_or row j 0
rising row up i zero l m = absurd (omega (arith, l))
rising row up i (suc j) l m = elim (cases_lt i j) [
  | inl before ↦
      let a = rising row up i j before (omega (arith, m)) in
      let b : get_or row j 0 < get_or row (suc j) 0 = step j m in
      omega (arith, a, b)
  | inr past ↦
      let e : j ≡ i = omega (arith, l, past) in
      subst (λ (k : ℕ). get_or row k 0 < get_or row (suc j) 0) e (step j m)
] where
  step : (k : ℕ) → suc k < length row → get_or row k 0 < get_or row (suc k) 0
  step k l =
      subst (λ (n : ℕ). get_or row k 0 < get_or row n 0) (add-one k)
      (up k (subst (λ (n : ℕ). n < length row) (sym (add-one k)) l))

members_past : (paths : List Path) (R : Path) (n m : ℕ) (all : List RowMember) → n ≤ m
    → ((k : ℕ) (C : Name) → n ≤ k → k < m → slice_get paths k ≡ Some (C ∷ R) → ⊥)
    → MembersUpTo paths R n all → MembersUpTo paths R m all
members_past paths R n m all le none u = record {
  sound = λ j x h. let s = u.sound j x h in (omega (arith, le, s.0), s.1);
  complete = λ k C l h. elim (cases_lt k n) [
    | inl below ↦ u.complete k C below h
    | inr past ↦ absurd (none k C past l h)
  ];
  ascending = u.ascending;
}

module _ (paths : List Path) (R : Path) (row : List ℕ) (l : Lists (IsPathAt (map up_path paths) R) row) where
  -- a member is in the row
  member_in : (k : ℕ) (C : Name) → slice_get paths k ≡ Some (C ∷ R) → (j : ℕ) × (j < length row) × (get_or row j 0 ≡ k)
  member_in k C at =
      let c = (l.exact k).1 (mapped_get up_path paths k (C ∷ R) at) in
      (c.0, c.1, get_or_from_slice_get row c.0 k 0 (slice_get_read row (length row) c.0 k refl c.1 (sym c.2)))

  not_before : (i k : ℕ) → bound row i ≤ k → (j : ℕ) → j < i → i ≤ length row → get_or row j 0 ≡ k → ⊥
  not_before zero k b j m n e = omega (arith, m)
  not_before (suc i) k b j m n e = elim (cases_lt j i) [
    | inl before ↦
        let r = rising row l.ascending j i before (omega (arith, n)) in
        omega (arith, r, e, b)
    | inr past ↦
        let same : j ≡ i = omega (arith, m, past) in
        let h : get_or row i 0 ≡ k = subst (λ (x : ℕ). get_or row x 0 ≡ k) same e in
        omega (arith, h, b)
  ]

  not_behind : (i k : ℕ) → k < get_or row i 0 → (j : ℕ) → i ≤ j → j < length row → get_or row j 0 ≡ k → ⊥
  not_behind i k b j m n e = elim (cases_lt i j) [
    | inl before ↦
        let r = rising row l.ascending i j before n in
        omega (arith, r, e, b)
    | inr past ↦
        let same : j ≡ i = omega (arith, m, past) in
        let h : get_or row i 0 ≡ k = subst (λ (x : ℕ). get_or row x 0 ≡ k) same e in
        omega (arith, h, b)
  ]

  below_next : (i : ℕ) → i < length row → bound row i ≤ get_or row i 0
  below_next zero m = omega arith
  below_next (suc i) m =
      let r = rising row l.ascending i (suc i) (omega arith) m in
      omega (arith, r)

  -- up to the next number of the row
  pub members_next : (i : ℕ) (all : List RowMember) → i < length row → MembersUpTo paths R (bound row i) all
      → MembersUpTo paths R (get_or row i 0) all
  members_next i all m u =
      members_past paths R (bound row i) (get_or row i 0) all (below_next i m)
      (λ k C a b at.
      let w = member_in k C at in
      elim (cases_lt w.0 i) [
        | inl before ↦ not_before i k a w.0 before (omega (arith, m)) w.2
        | inr past ↦ not_behind i k b w.0 past w.1 w.2
      ]) u

  -- and to the end
  pub members_end : (i : ℕ) (all : List RowMember) → i ≡ length row → All (λ (k : ℕ). k < length paths) row
      → MembersUpTo paths R (bound row i) all → MembersUpTo paths R (length paths) all
  members_end i all e within u =
      members_past paths R (bound row i) (length paths) all (last i e)
      (λ k C a b at. let w = member_in k C at in not_before i k a w.0 (omega (arith, w.1, e)) (omega (arith, e)) w.2) u where
        last : (n : ℕ) → n ≡ length row → bound row n ≤ length paths
        last zero h = omega arith
        last (suc n) h = let w = within n 0 (omega (arith, h)) in omega (arith, w)

pub bound_next : (row : List ℕ) (i : ℕ) → bound row (i + 1) ≡ get_or row i 0 + 1
bound_next row i = ap (bound row) (add-one i)

-- a number that is no member, and one that is
module _ (paths : List Path) (R : Path) (row : List ℕ) (l : Lists (IsPathAt (map up_path paths) R) row) (i : ℕ)
    (P : Path) (all : List RowMember) (m : i < length row) (at : slice_get paths (get_or row i 0) ≡ Some P)
    (u : MembersUpTo paths R (bound row i) all) where
  pub row_skip : ((C : Name) → P ≡ C ∷ R → ⊥) → MembersUpTo paths R (bound row (i + 1)) all
  row_skip none =
      subst (λ (n : ℕ). MembersUpTo paths R n all) (sym (bound_next row i))
      (members_skip paths R (get_or row i 0) P all at none (members_next paths R row l i all m u))

  pub row_push : (member : RowMember) → P ≡ member.name ∷ R → member.id.0 ≡ get_or row i 0
      → MembersUpTo paths R (bound row (i + 1)) (all ++ member ∷ [])
  row_push member is number =
      subst (λ (n : ℕ). MembersUpTo paths R n (all ++ member ∷ [])) (sym (bound_next row i))
      (members_push paths R (get_or row i 0) member.name member all
      (subst (λ (Q : Path). slice_get paths (get_or row i 0) ≡ Some Q) is at) refl number
      (members_next paths R row l i all m u))
