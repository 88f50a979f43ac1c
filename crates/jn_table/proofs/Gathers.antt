-- How loops gather things.
use Rattle.std.proofs.Common.{◌≡◌, ◌<◌, ◌≤◌, ◌+◌, ℕ, List, [], ◌∷◌, ◌++◌, length, Contains, slice_get, Some, arith, sym}
use Rattle.std.proofs.Common.{◌∙◌, ap, subst, refl, inl, inr, take, get_or, ◌⊎◌, ◌↔◌}
use Rattle.std.specs.List.{Any}
use Rattle.std.specs.declared.vec.Vec.{Vec}
use Rattle.std.specs.declared.alloc.Global.{Global}
use Rattle.jn_reach.specs.Graph.{Graph}
use Rattle.std.proofs.lemmas.List.{take_more}
use Rattle.std.proofs.lemmas.Option.{slice_get_read}
use Rattle.std.proofs.lemmas.List.Elements.{Contains-push, Contains-push_cases}
use Rattle.std.proofs.lemmas.List.Elements.{Contains-append_cases, Contains-append_left, Contains-append_right}
use Rattle.jn_reach.proofs.Searches.{same_some}
use Rattle.jn_table.proofs.Places.{same_item, take_whole}
use Rattle.jn_base.specs.declared.tree.Name.{Name}
use Rattle.jn_table.specs.Gather.{Gains, PartOf, PartAmong, PartIn, part_of}
use Rattle.jn_table.specs.declared.entry.Entry.{Entry}
use Rattle.jn_table.specs.declared.gather.Part.{Part}

pub any_in : {X : Type 0} (P : X → Type 0) (xs : List X) (x : X) → Contains xs x → P x → Any P xs
any_in P xs x c p = (c.0, x, c.1, c.2, p)

pub in_any : {X : Type 0} (P : X → Type 0) (xs : List X) → Any P xs → (x : X) × Contains xs x × P x
in_any P xs a = (a.1, (a.0, a.2, a.3), a.4)

taken : {X : Type 0} (xs : List X) (i : ℕ) (x : X) → i < length xs → x ≡ get_or xs i x
    → take (i + 1) xs ≡ take i xs ++ x ∷ []
taken xs i x l is = take_more xs i x l ∙ ap (λ y. take i xs ++ y ∷ []) (sym is)

pub gains_none : {A : Type 0} (S : A → Type 0) (xs : List A) → ((D : A) → S D → ⊥) → Gains S xs xs
gains_none S xs none D = (λ c. inl c, λ s. elim s [ inl c ↦ c | inr b ↦ absurd (none D b) ])

pub none_of : {X : Type 0} (P : X → Type 0) → Any P [] → ⊥
none_of P a = omega (arith, a.2)

-- one more thing, with those of which `now` holds
pub gains_more : {X A : Type 0} (W : X → A → Type 0) (xs : List X) (i : ℕ) (x : X) (now : A → Type 0)
    (before mid after : List A)
    → i < length xs → x ≡ get_or xs i x → ((D : A) → W x D → now D) → ((D : A) → now D → W x D)
    → Gains (λ D. Any (λ y. W y D) (take i xs)) before mid → Gains now mid after
    → Gains (λ D. Any (λ y. W y D) (take (i + 1) xs)) before after
gains_more {X} {A} W xs i x now before mid after l is from to g h D = (forth, back) where
  forth : Contains after D → Contains before D ⊎ Any (λ y. W y D) (take (i + 1) xs)
  forth c = elim ((h D).0 c) [
    | inl m ↦ elim ((g D).0 m) [
      | inl b ↦ inl b
      | inr a ↦
          let f = in_any (λ y. W y D) (take i xs) a in
          inr (subst (λ ys. Any (λ y. W y D) ys) (sym (taken xs i x l is))
          (any_in (λ y. W y D) (take i xs ++ x ∷ []) f.0 (Contains-append_left (take i xs) (x ∷ []) f.0 f.1) f.2))
    ]
    | inr n ↦
        inr (subst (λ ys. Any (λ y. W y D) ys) (sym (taken xs i x l is))
        (any_in (λ y. W y D) (take i xs ++ x ∷ []) x (Contains-push (take i xs) x) (to D n)))
  ]

  back : Contains before D ⊎ Any (λ y. W y D) (take (i + 1) xs) → Contains after D
  back (inl b) = (h D).1 (inl ((g D).1 (inl b)))
  back (inr a) =
      let f = in_any (λ y. W y D) (take i xs ++ x ∷ []) (subst (λ ys. Any (λ y. W y D) ys) (taken xs i x l is) a) in
      elim (Contains-push_cases (take i xs) x f.0 f.1) [
        | inl old ↦ (h D).1 (inl ((g D).1 (inr (any_in (λ y. W y D) (take i xs) f.0 old f.2))))
        | inr same ↦ (h D).1 (inr (from D (subst (λ y. W y D) (sym same) f.2)))
      ]

pub gains_all : {X A : Type 0} (W : X → A → Type 0) (xs : List X) (i : ℕ) (before after : List A) → length xs ≤ i
    → Gains (λ D. Any (λ y. W y D) (take i xs)) before after → Gains (λ D. Any (λ y. W y D) xs) before after
gains_all W xs i before after past g =
    subst (λ ys. Gains (λ D. Any (λ y. W y D) ys) before after) (take_whole i xs past) g

-- those of a list
pub gains_joined : {A : Type 0} (S : A → Type 0) (xs ys zs : List A) → zs ≡ xs ++ ys
    → ((x : A) → Contains ys x ↔ S x) → Gains S xs zs
gains_joined {A} S xs ys zs is exact D = (forth, back) where
  forth : Contains zs D → Contains xs D ⊎ S D
  forth c = elim (Contains-append_cases xs ys D (subst (λ (l : List A). Contains l D) is c)) [
    | inl b ↦ inl b
    | inr a ↦ inr ((exact D).0 a)
  ]

  back : Contains xs D ⊎ S D → Contains zs D
  back (inl b) = subst (λ (l : List A). Contains l D) (sym is) (Contains-append_left xs ys D b)
  back (inr s) = subst (λ (l : List A). Contains l D) (sym is) (Contains-append_right xs ys D ((exact D).1 s))

-- one more thing
pub gains_push : {A : Type 0} (xs : List A) (x : A) → Gains (λ (y : A). x ≡ y) xs (xs ++ x ∷ [])
gains_push xs x y = (
  λ c. Contains-push_cases xs x y c,
  λ s. elim s [
    | inl c ↦ Contains-append_left xs (x ∷ []) y c
    | inr e ↦ subst (Contains (xs ++ x ∷ [])) e
        (Contains-push xs x)
  ],
)

-- what all hold of which the gathering began with none
pub gains_exact : {A : Type 0} (S : A → Type 0) (before after : List A) → before ≡ [] → Gains S before after → (D : A)
    → Contains after D ↔ S D
gains_exact S before after none g D = (
  λ c. elim ((g D).0 c) [
    | inl b ↦ absurd
        (let n : Contains [] D = subst (λ ns. Contains ns D) none b in omega (arith, n.1))
    | inr s ↦ s
  ],
  λ s. (g D).1 (inr s),
)

-- one more name of a list
pub named_more : (names : List Name) (i : ℕ) (d : Name) (before mid : List Name) → i < length names
    → Gains (Contains (take i names)) before mid
    → Gains (Contains (take (i + 1) names)) before (mid ++ get_or names i d ∷ [])
named_more names i d before mid l g D = (forth, back) where
  x : Name
  x = get_or names i d

  more : take (i + 1) names ≡ take i names ++ x ∷ []
  more = taken names i x l (same_item names i d l)

  forth : Contains (mid ++ x ∷ []) D → Contains before D ⊎ Contains (take (i + 1) names) D
  forth c = elim (Contains-push_cases mid x D c) [
    | inl m ↦ elim ((g D).0 m) [
      | inl b ↦ inl b
      | inr a ↦ inr (subst (λ ys. Contains ys D) (sym more) (Contains-append_left (take i names) (x ∷ []) D a))
    ]
    | inr e ↦ inr (subst (λ ys. Contains ys D) (sym more)
        (subst (Contains (take i names ++ x ∷ [])) e (Contains-push (take i names) x)))
  ]

  back : Contains before D ⊎ Contains (take (i + 1) names) D → Contains (mid ++ x ∷ []) D
  back (inl b) = Contains-append_left mid (x ∷ []) D ((g D).1 (inl b))
  back (inr a) = elim (Contains-push_cases (take i names) x D (subst (λ ys. Contains ys D) more a)) [
    | inl old ↦ Contains-append_left mid (x ∷ []) D ((g D).1 (inr old))
    | inr e ↦ subst (Contains (mid ++ x ∷ [])) e (Contains-push mid x)
  ]

pub named_all : (names : List Name) (i : ℕ) (before after : List Name) → length names ≤ i
    → Gains (Contains (take i names)) before after
    → Gains (Contains names) before after
named_all names i before after past g = subst (λ ys. Gains (Contains ys) before after) (take_whole i names past) g

-- what stands at a number of the entries
module _ (es : List Entry) (i : ℕ) (x : Entry) (l : i < length es) (is : x ≡ get_or es i x) where
  entry_at : slice_get es i ≡ Some x
  entry_at = slice_get_read es (length es) i x refl l is

  pub part_here : (C : Name) (part : Part) (D : Name) → x.name ≡ C → Contains (part_of part x) D → PartOf es C part D i
  part_here C part D n c = (x, entry_at, n, c)

  pub part_is : (C : Name) (part : Part) (D : Name) → PartOf es C part D i → (x.name ≡ C) × Contains (part_of part x) D
  part_is C part D w = subst (λ (e : Entry). (e.name ≡ C) × Contains (part_of part e) D)
      (same_some (slice_get es i) w.0 x w.1 entry_at) (w.2, w.3)

-- one more number: the names of its entry, or none of them
pub part_more : (es : List Entry) (C : Name) (part : Part) (row : List ℕ) (k d : ℕ) (x : Entry)
    (before mid after : List Name) → k < length row
    → get_or row k d < length es → x ≡ get_or es (get_or row k d) x → x.name ≡ C
    → Gains (PartAmong es C part (take k row)) before mid
    → Gains (Contains (part_of part x)) mid after → Gains (PartAmong es C part (take (k + 1) row)) before after
part_more es C part row k d x before mid after l within is name g h =
    gains_more (λ i D. PartOf es C part D i) row k (get_or row k d) (Contains (part_of part x)) before mid after l
    (same_item row k d l)
    (λ D w. (part_is es (get_or row k d) x within is C part D w).1)
    (λ D c. part_here es (get_or row k d) x within is C part D name c) g h

pub part_skipped : (es : List Entry) (C : Name) (part : Part) (row : List ℕ) (k d : ℕ) (x : Entry)
    (before mid : List Name) → k < length row
    → get_or row k d < length es → x ≡ get_or es (get_or row k d) x → (x.name ≡ C → ⊥)
    → Gains (PartAmong es C part (take k row)) before mid
    → Gains (PartAmong es C part (take (k + 1) row)) before mid
part_skipped es C part row k d x before mid l within is none g =
    gains_more (λ i D. PartOf es C part D i) row k (get_or row k d) (λ D. ⊥) before mid mid l (same_item row k d l)
    (λ D w. none (part_is es (get_or row k d) x within is C part D w).0) (λ D b. absurd b) g
    (gains_none (λ D. ⊥) mid (λ D b. b))

pub part_none : (es : List Entry) (C : Name) (part : Part) (all : List Name) → Gains (PartAmong es C part []) all all
part_none es C part all = gains_none (PartAmong es C part []) all (λ D a. none_of (PartOf es C part D) a)

pub part_all : (es : List Entry) (C : Name) (part : Part) (row : List ℕ) (k : ℕ) (before after : List Name)
    → length row ≤ k
    → Gains (PartAmong es C part (take k row)) before after → Gains (PartAmong es C part row) before after
part_all es C part row k before after past g = gains_all (λ i D. PartOf es C part D i) row k before after past g

-- one more row
module _ (rows : Graph) (n : ℕ) (row : Vec ℕ Global) (l : n < length rows) (is : row ≡ get_or rows n row) where
  row_at : slice_get rows n ≡ Some row
  row_at = slice_get_read rows (length rows) n row refl l is

  part_in : (es : List Entry) (C : Name) (part : Part) (D : Name) → PartAmong es C part row.items D
      → PartIn es C part rows D n
  part_in es C part D h = record { row = row; at = row_at; has = h }

  in_part : (es : List Entry) (C : Name) (part : Part) (D : Name) → PartIn es C part rows D n
      → PartAmong es C part row.items D
  in_part es C part D w = subst (λ (v : Vec ℕ Global). PartAmong es C part v.items D)
      (same_some (slice_get rows n) w.row row w.at row_at) w.has

pub parts_more : (es : List Entry) (C : Name) (part : Part) (rows : Graph) (numbers : List ℕ) (i d : ℕ)
    (row : Vec ℕ Global) (before mid after : List Name)
    → i < length numbers → get_or numbers i d < length rows → row ≡ get_or rows (get_or numbers i d) row
    → Gains (λ D. Any (PartIn es C part rows D) (take i numbers)) before mid
    → Gains (PartAmong es C part row.items) mid after
    → Gains (λ D. Any (PartIn es C part rows D) (take (i + 1) numbers)) before after
parts_more es C part rows numbers i d row before mid after l within is g h =
    gains_more (λ n D. PartIn es C part rows D n) numbers i (get_or numbers i d)
    (PartAmong es C part row.items) before mid after l (same_item numbers i d l)
    (λ D w. in_part rows (get_or numbers i d) row within is es C part D w)
    (λ D f. part_in rows (get_or numbers i d) row within is es C part D f) g h

pub parts_none : (es : List Entry) (C : Name) (part : Part) (rows : Graph) (all : List Name) → all ≡ []
    → Gains (λ D. Any (PartIn es C part rows D) []) [] all
parts_none es C part rows all e =
    subst (Gains (λ D. Any (PartIn es C part rows D) []) []) (sym e)
    (gains_none (λ D. Any (PartIn es C part rows D) []) [] (λ D a. none_of (PartIn es C part rows D) a))

pub parts_all : (es : List Entry) (C : Name) (part : Part) (rows : Graph) (numbers : List ℕ) (i : ℕ)
    (all : List Name) → length numbers ≤ i
    → Gains (λ D. Any (PartIn es C part rows D) (take i numbers)) [] all → (D : Name)
    → Contains all D ↔ Any (PartIn es C part rows D) numbers
parts_all es C part rows numbers i all past g =
    gains_exact (λ D. Any (PartIn es C part rows D) numbers) [] all refl
    (gains_all (λ n D. PartIn es C part rows D n) numbers i [] all past g)
