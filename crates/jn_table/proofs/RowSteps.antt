-- How loops make the rows.
use Rattle.std.proofs.Common.{◌≡◌, ◌<◌, ◌+◌, ◌↔◌, ℕ, List, [], ◌∷◌, ◌++◌, length, slice_get, Some, arith, sym, ◌∙◌, ap, subst, refl, inl, inr, ◌⊎◌, Contains, length-append, reverse, Result, Ok, Err, IfOk}
use Rattle.std.proofs.lemmas.Bool.{cases_lt}
use Rattle.std.proofs.lemmas.Option.{slice_get_within, slice_get_cases}
use Rattle.std.specs.declared.vec.Vec.{Vec}
use Rattle.std.specs.declared.alloc.Global.{Global}
use Rattle.jn_reach.proofs.Rows.{slice_get-push_cases}
use Rattle.jn_reach.proofs.Firsts.{slice_get-append_left, slice_get-push}
use Rattle.jn_reach.proofs.Searches.{same_some}
use Rattle.jn_base.specs.declared.tree.Name.{Name}
use Rattle.jn_base.specs.declared.tree.Text.{Text}
use Rattle.jn_base.specs.declared.path.Path.{Path as ShownPath}
use Rattle.jn_base.specs.Paths.{Path, shown}
use Rattle.jn_table.specs.Order.{IsOrderOf}
use Rattle.jn_table.specs.Universes.{MembersUpTo, OrderedBy, RowOf, RowsOf}
use Rattle.jn_table.specs.declared.class.Row.{Row}
use Rattle.jn_table.specs.declared.class.RowMember.{RowMember}
use Rattle.jn_table.specs.declared.universe.Universe.{Universe}

pub members_none : (paths : List Path) (R : Path) (all : List RowMember) → all ≡ [] → MembersUpTo paths R 0 all
members_none paths R all e = subst (MembersUpTo paths R 0) (sym e) (record {
  sound = λ j m at. absurd (cc at);
  complete = λ k C l at. absurd (omega (arith, l));
  ascending = λ i j a b l at_i at_j. absurd (cc at_i);
})

-- one more path, which is no member
pub members_skip : (paths : List Path) (R : Path) (n : ℕ) (P : Path) (all : List RowMember)
    → slice_get paths n ≡ Some P
    → ((C : Name) → P ≡ C ∷ R → ⊥) → MembersUpTo paths R n all → MembersUpTo paths R (n + 1) all
members_skip paths R n P all at none u = record {
  sound = λ j m h. let s = u.sound j m h in (omega (arith, s.0), s.1);
  complete = λ k C l h. elim (cases_lt k n) [
    | inl below ↦ u.complete k C below h
    | inr past ↦
        let e : k ≡ n = omega (arith, l, past) in
        absurd (none C (same_some (slice_get paths n) P (C ∷ R) at
        (subst (λ (j : ℕ). slice_get paths j ≡ Some (C ∷ R)) e h)))
  ];
  ascending = u.ascending;
}

-- one more, which is one
pub members_push : (paths : List Path) (R : Path) (n : ℕ) (C : Name) (m : RowMember) (all : List RowMember)
    → slice_get paths n ≡ Some (C ∷ R)
    → m.name ≡ C → m.id.0 ≡ n → MembersUpTo paths R n all → MembersUpTo paths R (n + 1) (all ++ m ∷ [])
members_push paths R n C m all at name id u = record {
  sound = λ j x h. sound j x (slice_get-push_cases all m j x h);
  complete = complete;
  ascending =
      λ i j a b l h k. ascending i j a b l (slice_get-push_cases all m i a h) (slice_get-push_cases all m j b k);
} where
  here : slice_get paths m.id.0 ≡ Some (m.name ∷ R)
  here = subst (λ (k : ℕ). slice_get paths k ≡ Some (m.name ∷ R)) (sym id)
      (subst (λ (D : Name). slice_get paths n ≡ Some (D ∷ R)) (sym name) at)

  sound : (j : ℕ) (x : RowMember) → (slice_get all j ≡ Some x) ⊎ ((j ≡ length all) × (x ≡ m))
      → (x.id.0 < n + 1) × (slice_get paths x.id.0 ≡ Some (x.name ∷ R))
  sound j x (inl h) = let s = u.sound j x h in (omega (arith, s.0), s.1)
  sound j x (inr h) =
      subst (λ (y : RowMember). (y.id.0 < n + 1) × (slice_get paths y.id.0 ≡ Some (y.name ∷ R))) (sym h.1)
      (omega (arith, id), here)

  complete : (k : ℕ) (D : Name) → k < n + 1 → slice_get paths k ≡ Some (D ∷ R)
      → (j : ℕ) × (x : RowMember) × (slice_get (all ++ m ∷ []) j ≡ Some x) × (x.id.0 ≡ k)
  complete k D l h = elim (cases_lt k n) [
    | inl below ↦ let c = u.complete k D below h in (c.0, c.1, slice_get-append_left all (m ∷ []) c.0 c.1 c.2, c.3)
    | inr past ↦ (length all, m, slice_get-push all m, (let e : m.id.0 ≡ k = omega (arith, l, past, id) in e))
  ]

  ascending : (i j : ℕ) (a b : RowMember) → i < j → (slice_get all i ≡ Some a) ⊎ ((i ≡ length all) × (a ≡ m))
      → (slice_get all j ≡ Some b) ⊎ ((j ≡ length all) × (b ≡ m))
      → a.id.0 < b.id.0
  ascending i j a b l (inl h) (inl k) = u.ascending i j a b l h k
  ascending i j a b l (inl h) (inr k) =
      let s = (u.sound i a h).0 in
      let e : b.id.0 ≡ n = ap (λ (x : RowMember). x.id.0) k.1 ∙ id in
      omega (arith, s, e)
  ascending i j a b l (inr h) (inl k) = absurd (let w = slice_get_within all j b k in omega (arith, l, h.0, w))
  ascending i j a b l (inr h) (inr k) = absurd (omega (arith, l, h.0, k.0))

-- what was gathered, in order
pub gathered_order : (texts : List Text) (T : Name → Type 0) (names order : List Name)
    → ((D : Name) → Contains names D ↔ T D)
    → IsOrderOf texts names order → OrderedBy texts T order
gathered_order texts T names order g o = record {
  exact = λ C. (λ c. (g C).0 ((o.exact C).0 c), λ t. (o.exact C).1 ((g C).1 t));
  in_order = o.in_order;
}

pub rows_none : (texts : List Text) (u : Universe) (rows : List Row) → rows ≡ [] → RowsOf texts u 0 rows
rows_none texts u rows e = subst (RowsOf texts u 0) (sym e) (record { long = refl; each = λ k row at. absurd (cc at) })

pub rows_more : (texts : List Text) (u : Universe) (n : ℕ) (rows : List Row) (row : Row) → RowsOf texts u n rows
    → RowOf texts u n row
    → RowsOf texts u (n + 1) (rows ++ row ∷ [])
rows_more texts u n rows row r now = record {
  long = let l = length-append rows (row ∷ []) in omega (arith, l, r.long);
  each = λ k x at. elim (slice_get-push_cases rows row k x at) [
    | inl old ↦ r.each k x old
    | inr last ↦
        subst (λ (j : ℕ). RowOf texts u j x) (sym (last.0 ∙ r.long)) (subst (RowOf texts u n) (sym last.1) now)
  ];
}

pub rows_all : (texts : List Text) (u : Universe) (n m : ℕ) (rows : List Row) → n ≡ m → RowsOf texts u n rows
    → RowsOf texts u m rows
rows_all texts u n m rows e r = subst (λ (k : ℕ). RowsOf texts u k rows) e r

pub shown_is : (path : ShownPath) (R : Path) → path.names ≡ reverse R → path ≡ shown R
shown_is path R e = ap (λ (ns : List Name). record { names = ns }) e

-- the same of what is answered
pub ordered_answer : {E : Type 0} (texts : List Text) (T : Name → Type 0) (names : List Name) (r : Result (Vec Name Global) E) → ((D : Name) → Contains names D ↔ T D)
    → IfOk r (λ order. IsOrderOf texts names order.items) → IfOk r (λ order. OrderedBy texts T order.items)
ordered_answer texts T names (Ok order) g o = gathered_order texts T names order.items g o
ordered_answer texts T names (Err e) g o = tt

-- at a number within the list there is something
pub slice_there : {X : Type 0} (xs : List X) (i : ℕ) → i < length xs → (x : X) × (slice_get xs i ≡ Some x)
slice_there xs i l = elim (slice_get_cases xs i).1 [
  | inl (x, k, e, d) ↦ (x, e)
  | inr (k, e) ↦ absurd (omega (arith, l, k))
]
