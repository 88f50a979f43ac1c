-- Lists put in order, where elements that tie are the same.
use Rattle.std.proofs.Common.{◌≡◌, List, [], ◌∷◌, refl, sym, ap, ◌∙◌, subst, ◌⊎◌, inl, inr}
use Rattle.std.specs.declared.cmp.Ordering.{Ordering}
use Rattle.std.specs.declared.cmp.Ordering.TheVariants.{Less, Equal, Greater}
use Rattle.std.specs.Ordering.{ordering_reverse}
use Rattle.std.specs.List.{AllByRecursion}
use Rattle.std.specs.List.Sorted.{IsStrictlySortedBy}
use Rattle.std.specs.Cmp.{IsTotalOrder}
use Rattle.std.proofs.lemmas.Map.Keys.{sorted_head, sorted_tail}
use Rattle.jn_base.specs.Atoms.{Among, first, later}

all_from : {A : Type 0} (P : A → Type 0) (xs : List A) → ((x : A) → Among xs x → P x) → AllByRecursion P xs
all_from P [] h = tt
all_from P (x ∷ xs) h = (h x first, all_from P xs (λ y m. h y (later m)))

all_among : {A : Type 0} (P : A → Type 0) (xs : List A) (x : A) → AllByRecursion P xs → Among xs x → P x
all_among P [] x h m = elim m [ ]
all_among P (y ∷ ys) _ h first = h.0
all_among P (y ∷ ys) x h (later m) = all_among P ys x h.1 m

-- the list in order: the same elements
pub record InOrder {A : Type 0} (cmp : A → A → Ordering) (xs : List A) : Type 0 where
  pub items : List A
  pub sorted : IsStrictlySortedBy cmp items
  pub from : (a : A) → Among items a → Among xs a
  pub to : (a : A) → Among xs a → Among items a

module _ {A : Type 0} (cmp : A → A → Ordering) (total : IsTotalOrder cmp) where
  sorted_cons : (x : A) (xs : List A) → ((y : A) → Among xs y → cmp x y ≡ Less) → IsStrictlySortedBy cmp xs → IsStrictlySortedBy cmp (x ∷ xs)
  unfolding IsStrictlySortedBy
  sorted_cons x xs h s = (all_from (λ y. cmp x y ≡ Less) xs h, s)

  sorted_none : IsStrictlySortedBy cmp []
  unfolding IsStrictlySortedBy
  sorted_none = tt

  below_head : (y : A) (ys : List A) → IsStrictlySortedBy cmp (y ∷ ys) → (z : A) → Among ys z → cmp y z ≡ Less
  below_head y ys s z m = all_among (λ w. cmp y w ≡ Less) ys z (sorted_head cmp y ys s) m

  -- x put into ys
  record Put (x : A) (ys : List A) : Type 0 where
    items : List A
    sorted : IsStrictlySortedBy cmp items
    from : (a : A) → Among items a → (a ≡ x) ⊎ Among ys a
    has : Among items x
    keeps : (a : A) → Among ys a → Among items a

  cases : (y : A) (ys : List A) (a : A) → Among (y ∷ ys) a → (a ≡ y) ⊎ Among ys a
  cases y ys _ first = inl refl
  cases y ys a (later m) = inr m

  module _ (Same : A → Type 0) (ties : (x y : A) → Same x → Same y → cmp x y ≡ Equal → x ≡ y) where
    put_by : (x y : A) (ys : List A) → Same x → Same y → IsStrictlySortedBy cmp (y ∷ ys) → Put x ys → (o : Ordering) → cmp x y ≡ o → Put x (y ∷ ys)
    put_by x y ys i j s r Less e = record {
      items = x ∷ (y ∷ ys);
      sorted = sorted_cons x (y ∷ ys) (λ z m. at z (cases y ys z m)) s;
      from = cases x (y ∷ ys);
      has = first;
      keeps = λ a m. later m;
    } where
      at : (z : A) → (z ≡ y) ⊎ Among ys z → cmp x z ≡ Less
      at z (inl h) = subst (λ (w : A). cmp x w ≡ Less) (sym h) e
      at z (inr m) = total.trans x y z e (below_head y ys s z m)
    put_by x y ys i j s r Equal e = record {
      items = y ∷ ys;
      sorted = s;
      from = λ a m. inr m;
      has = subst (Among (y ∷ ys)) (sym (ties x y i j e)) first;
      keeps = λ a m. m;
    }
    put_by x y ys i j s r Greater e = record {
      items = y ∷ r.items;
      sorted = sorted_cons y r.items (λ z m. at z (r.from z m)) r.sorted;
      from = λ a m. behind a (cases y r.items a m);
      has = later r.has;
      keeps = λ a m. kept a (cases y ys a m);
    } where
      less : cmp y x ≡ Less
      less = total.antisymm y x ∙ ap ordering_reverse e

      at : (z : A) → (z ≡ x) ⊎ Among ys z → cmp y z ≡ Less
      at z (inl h) = subst (λ (w : A). cmp y w ≡ Less) (sym h) less
      at z (inr m) = below_head y ys s z m

      more : (a : A) → (a ≡ x) ⊎ Among ys a → (a ≡ x) ⊎ Among (y ∷ ys) a
      more a (inl h) = inl h
      more a (inr m) = inr (later m)

      behind : (a : A) → (a ≡ y) ⊎ Among r.items a → (a ≡ x) ⊎ Among (y ∷ ys) a
      behind a (inl h) = inr (subst (Among (y ∷ ys)) (sym h) first)
      behind a (inr m) = more a (r.from a m)

      kept : (a : A) → (a ≡ y) ⊎ Among ys a → Among (y ∷ r.items) a
      kept a (inl h) = subst (Among (y ∷ r.items)) (sym h) first
      kept a (inr m) = later (r.keeps a m)

    put : (x : A) (ys : List A) → Same x → ((y : A) → Among ys y → Same y) → IsStrictlySortedBy cmp ys → Put x ys
    put x [] i all s = record {
      items = x ∷ [];
      sorted = sorted_cons x [] (λ y m. elim m [ ]) s;
      from = λ a m. cases x [] a m;
      has = first;
      keeps = λ a m. elim m [ ];
    }
    put x (y ∷ ys) i all s = put_by x y ys i (all y first) s (put x ys i (λ z m. all z (later m)) (sorted_tail cmp y ys s)) (cmp x y) refl

    pub in_order : (xs : List A) → ((x : A) → Among xs x → Same x) → InOrder cmp xs
    in_order [] all = record { items = []; sorted = sorted_none; from = λ a m. m; to = λ a m. m }
    in_order (x ∷ xs) all = as_whole (in_order xs (λ y m. all y (later m))) where
      as_whole : InOrder cmp xs → InOrder cmp (x ∷ xs)
      as_whole r =
          let q = put x r.items (all x first) (λ y m. all y (later (r.from y m))) r.sorted in record {
            items = q.items;
            sorted = q.sorted;
            from = λ a m. at a (q.from a m);
            to = λ a m. to a (cases x xs a m);
          } where
            at : (a : A) → (a ≡ x) ⊎ Among r.items a → Among (x ∷ xs) a
            at a (inl h) = subst (Among (x ∷ xs)) (sym h) first
            at a (inr m) = later (r.from a m)

            to : (a : A) → (a ≡ x) ⊎ Among xs a → Among (put x r.items (all x first) (λ y m. all y (later (r.from y m))) r.sorted).items a
            to a (inl h) = subst (Among _) (sym h) (put x r.items (all x first) (λ y m. all y (later (r.from y m))) r.sorted).has
            to a (inr m) = (put x r.items (all x first) (λ y m. all y (later (r.from y m))) r.sorted).keeps a (r.to a m)
