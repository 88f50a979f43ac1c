-- The steps that tell classes apart.
use Rattle.std.proofs.Common.{◌≡◌, ◌<◌, ◌≤◌, ◌+◌, ◌⊎◌, inl, inr, ℕ, zero, suc, List, [], ◌∷◌, length, Contains, Some, slice_get, get_or, refl, sym, ap, ◌∙◌, subst, arith}
use Rattle.std.specs.List.Sorted.{IsStrictlyIncreasing}
use Rattle.std.proofs.lemmas.Bool.{cases_lt}
use Rattle.std.proofs.lemmas.List.Kept.{AllPairs-from_increasing}
use Rattle.jn_reach.proofs.Searches.{same_some}
use Rattle.jn_base.specs.declared.tree.Program.{Program}
use Rattle.jn_base.specs.declared.path.Path.{Path as ShownPath}
use Rattle.jn_base.specs.Paths.{Path}
use Rattle.jn_table.specs.declared.table.Table.{Table}
use Rattle.jn_table.specs.Tables.{IsFilled}
use Rattle.jn_sem.specs.Sharing.{IsClass}
use Rattle.jn_sem.specs.LawsOfSlots.{FieldsPass}
use Rattle.jn_share.specs.Pairing.{IsAt}
use Rattle.jn_share.specs.Parting.{SamePart, Alike, NotAlike, KeepsOne, IsStable}
use Rattle.jn_share.specs.Refining.{IsLike, Refines}
use Rattle.jn_share.proofs.Diffs.{alike_back, alike_on, unlike_on, unlike_never, one_turned}
use Rattle.jn_share.proofs.PairsFound.{same_number, same_path}

-- ---- the first that is like a class

module _ (p : Program) (known : List ShownPath) (among : List ℕ) (N : Path → Type 0) where
  -- N holds of the classes of the first n numbers
  abbrev pub UnlikeTo : ℕ → Type 0
  UnlikeTo n = (k : ℕ) (X : Path) → k < n → IsAt known (get_or among k 0) X → IsClass p X → N X

  at_zero : (k j : ℕ) → k < length among → get_or among k j ≡ j → get_or among k 0 ≡ j
  at_zero k j l e = reread among k l ∙ e where
    reread : (xs : List ℕ) (n : ℕ) → n < length xs → get_or xs n 0 ≡ get_or xs n j
    reread [] n m = absurd (omega arith)
    reread (x ∷ xs) zero m = refl
    reread (x ∷ xs) (suc n) m = reread xs n (omega (arith, m))

  -- where the number at i isn't below r, each number of the list below r was passed
  pub passed_all : IsStrictlyIncreasing among → (i r : ℕ) → i < length among → r ≤ get_or among i 0 → UnlikeTo i → (j : ℕ) (X : Path) → Contains among j → j < r
      → IsAt known j X → IsClass p X → N X
  passed_all up i r l m none j X c b at k = by_place (cases_lt c.0 i) where
    here : get_or among c.0 0 ≡ j
    here = at_zero c.0 j c.1 c.2

    by_place : (c.0 < i) ⊎ (i ≤ c.0) → N X
    by_place (inl before) = none c.0 X before (subst (λ (n : ℕ). IsAt known n X) (sym here) at) k
    by_place (inr past) = by_order (cases_lt i c.0) where
      by_order : (i < c.0) ⊎ (c.0 ≤ i) → N X
      by_order (inl later) = absurd (omega (arith, AllPairs-from_increasing among up i c.0 0 later c.1, here, m, b))
      by_order (inr same) =
          let e : c.0 ≡ i = omega arith in
          absurd (omega (arith, ap (λ (n : ℕ). get_or among n 0) e, here, m, b))

  pub passed_end : (i r : ℕ) → length among ≤ i → UnlikeTo i → (j : ℕ) (X : Path) → Contains among j → j < r → IsAt known j X → IsClass p X → N X
  passed_end i r past none j X c b at k =
      none c.0 X (omega (arith, c.1, past)) (subst (λ (n : ℕ). IsAt known n X) (sym (at_zero c.0 j c.1 c.2)) at) k

  pub unlike_more : (i : ℕ) → ((X : Path) → IsAt known (get_or among i 0) X → IsClass p X → N X) → UnlikeTo i → UnlikeTo (i + 1)
  unlike_more i h none k X l at c = by_place (cases_lt k i) where
    by_place : (k < i) ⊎ (i ≤ k) → N X
    by_place (inl b) = none k X b at c
    by_place (inr b) =
        let q : k ≡ i = omega arith in
        h X (subst (λ (n : ℕ). IsAt known (get_or among n 0) X) q at) c

pub itself_like : (p : Program) (known : List ShownPath) (Same : Path → Path → Type 0) (V : Path) (v : ℕ) → IsAt known v V → IsClass p V → IsLike p known Same v V
itself_like p known Same V v at c = record { path = V; at = at; class = c; like = inl refl }

-- ---- a step keeps together what nothing may tell apart

module _ (p : Program) (t : Table) (f : IsFilled p t) (ok : FieldsPass p) (parts : List ℕ) where
  pub same_joined : (U W X : Path) → SamePart t.known.items parts U W → SamePart t.known.items parts W X → SamePart t.known.items parts U X
  same_joined U W X a b =
      let e : a.j ≡ b.i = same_number p t f a.j b.i W a.other b.one in
      let q : a.part ≡ b.part = same_some (slice_get parts b.i) a.part b.part (subst (λ (n : ℕ). slice_get parts n ≡ Some a.part) e a.other_in) b.one_in in
      record { i = a.i; j = b.j; one = a.one; other = b.other; part = a.part; one_in = a.one_in; other_in = b.other_in ∙ ap Some (sym q) }

  pub same_turned : (U W : Path) → SamePart t.known.items parts U W → SamePart t.known.items parts W U
  same_turned U W a = record { i = a.j; j = a.i; one = a.other; other = a.one; part = a.part; one_in = a.other_in; other_in = a.one_in }

  -- not alike one of two that are like each other is not alike the other
  unlike_by : (r : ℕ) (U W : Path) → IsLike p t.known.items (SamePart t.known.items parts) r U → (X : Path) → IsAt t.known.items r X
      → NotAlike p (SamePart t.known.items parts) X W → NotAlike p (SamePart t.known.items parts) U W
  unlike_by r U W is X at n = by_case is.like where
    same : is.path ≡ X
    same = same_path t.known.items r is.path X is.at at

    N : NotAlike p (SamePart t.known.items parts) is.path W
    N = subst (λ (Y : Path). NotAlike p (SamePart t.known.items parts) Y W) (sym same) n

    by_case : (is.path ≡ U) ⊎ Alike p (SamePart t.known.items parts) is.path U → NotAlike p (SamePart t.known.items parts) U W
    by_case (inl e) = subst (λ (Y : Path). NotAlike p (SamePart t.known.items parts) Y W) e N
    by_case (inr a) = unlike_on p ok (SamePart t.known.items parts) same_joined same_turned is.path U W is.class a N

  pub step_keeps : (next : List ℕ) → ((k : ℕ) (V : Path) → IsAt t.known.items k V → IsClass p V → Refines p t.known.items parts next k V)
      → KeepsOne p (SamePart t.known.items parts) → KeepsOne p (SamePart t.known.items next)
  step_keeps next refines keeps U W o =
      let s = keeps U W o in
      let a = refines s.i U s.one o.related.one in
      let b = refines s.j W s.other o.related.other in
      let pa : a.part ≡ s.part = same_some (slice_get parts s.i) a.part s.part a.at s.one_in in
      let pb : b.part ≡ s.part = same_some (slice_get parts s.j) b.part s.part b.at s.other_in in
      let same = one_now s a b pa pb in
      record { i = s.i; j = s.j; one = s.one; other = s.other; part = a.now; one_in = a.now_at; other_in = b.now_at ∙ ap Some (sym same) } where
        one_now : (s : SamePart t.known.items parts U W) (a : Refines p t.known.items parts next s.i U) (b : Refines p t.known.items parts next s.j W)
            → a.part ≡ s.part → b.part ≡ s.part → a.now ≡ b.now
        one_now s a b pa pb = by_order (cases_lt a.now b.now) where
          first_is : (a.now < b.now) → ⊥
          first_is l =
              unlike_never p ok (SamePart t.known.items parts) same_joined same_turned keeps U W o
              (unlike_by a.now U W a.first.is a.first.is.path a.first.is.at
              (b.first.first a.now a.first.is.path (a.within ∙ ap Some (pa ∙ sym pb)) l a.first.is.at a.first.is.class))

          second_is : (b.now < a.now) → ⊥
          second_is l =
              unlike_never p ok (SamePart t.known.items parts) same_joined same_turned keeps W U (one_turned p ok (SamePart t.known.items parts) same_joined same_turned U W o)
              (unlike_by b.now W U b.first.is b.first.is.path b.first.is.at
              (a.first.first b.now b.first.is.path (b.within ∙ ap Some (pb ∙ sym pa)) l b.first.is.at b.first.is.class))

          by_order : (a.now < b.now) ⊎ (b.now ≤ a.now) → a.now ≡ b.now
          by_order (inl l) = absurd (first_is l)
          by_order (inr m) = by_other (cases_lt b.now a.now) where
            by_other : (b.now < a.now) ⊎ (a.now ≤ b.now) → a.now ≡ b.now
            by_other (inl l) = absurd (second_is l)
            by_other (inr k) = omega arith

  -- where the step changed nothing, all that is together is alike
  pub step_stable : ((k : ℕ) (V : Path) → IsAt t.known.items k V → IsClass p V → Refines p t.known.items parts parts k V) → IsStable p (SamePart t.known.items parts)
  step_stable refines U W c d s =
      let a = refines s.i U s.one c in
      let b = refines s.j W s.other d in
      let na : a.now ≡ s.part = same_some (slice_get parts s.i) a.now s.part a.now_at s.one_in in
      let nb : b.now ≡ s.part = same_some (slice_get parts s.j) b.now s.part b.now_at s.other_in in
      let same : a.first.is.path ≡ b.first.is.path =
      same_path t.known.items s.part a.first.is.path b.first.is.path (subst (λ (n : ℕ). IsAt t.known.items n a.first.is.path) na a.first.is.at)
      (subst (λ (n : ℕ). IsAt t.known.items n b.first.is.path) nb b.first.is.at) in
      by_case a.first.is.class a.first.is.like (subst (λ (R : Path). (R ≡ W) ⊎ Alike p (SamePart t.known.items parts) R W) (sym same) b.first.is.like) where
        by_case : {R : Path} → IsClass p R → (R ≡ U) ⊎ Alike p (SamePart t.known.items parts) R U → (R ≡ W) ⊎ Alike p (SamePart t.known.items parts) R W
            → (U ≡ W) ⊎ Alike p (SamePart t.known.items parts) U W
        by_case k (inl e) (inl h) = inl (sym e ∙ h)
        by_case k (inl e) (inr h) = inr (subst (λ (X : Path). Alike p (SamePart t.known.items parts) X W) e h)
        by_case {R} k (inr e) (inl h) = inr (subst (λ (X : Path). Alike p (SamePart t.known.items parts) U X) h (alike_back p ok (SamePart t.known.items parts) same_joined same_turned R U e))
        by_case {R} k (inr e) (inr h) =
            inr (alike_on p ok (SamePart t.known.items parts) same_joined same_turned U R W k
            (alike_back p ok (SamePart t.known.items parts) same_joined same_turned R U e) h)
