-- A class table has one refusal at most.
use Rattle.std.proofs.Common.{◌≡◌, ◌<◌, ◌≤◌, ℕ, List, [], ◌∷◌, ◌++◌, length, drop, refl, sym, ap, ◌∙◌, subst, ◌⊎◌, inl, inr, arith, Contains, length-append}
use Rattle.std.specs.Prelude.{All}
use Rattle.std.specs.List.{AllByRecursion}
use Rattle.std.specs.List.Sorted.{IsStrictlySortedBy}
use Rattle.std.proofs.lemmas.List.Elements.{All-nil, All-cons, All-head, All-tail, All-contains, All-from_recursion, Contains-append_cases}
use Rattle.jn_base.specs.declared.tree.Name.{Name}
use Rattle.jn_base.specs.declared.tree.Named.{Named}
use Rattle.jn_base.specs.declared.tree.Place.{Place}
use Rattle.jn_base.specs.declared.tree.Program.{Program}
use Rattle.jn_base.specs.declared.tree.Decl.{Decl}
use Rattle.jn_base.specs.declared.refusal.Refusal.{Refusal}
use Rattle.jn_base.specs.declared.refusal.Rule.{Rule}
use Rattle.jn_base.specs.declared.refusal.Rule.TheVariants as rule
use Rattle.jn_base.specs.Paths.{Path, StandsAt}
use Rattle.jn_base.specs.Supers.{Sup, itself, above, Member, IsOwnSuper}
use Rattle.jn_base.specs.Universe.{IsNamespace, InUniverse}
use Rattle.jn_base.specs.ClassOrder.{class_cmp, Before, HasDistinctNames, HasItsNames, IsFirst}
use Rattle.jn_base.specs.Members.{IsHome, Least}
use Rattle.jn_base.specs.Duplicates.{duplicates, IsFirstDuplicate}
use Rattle.jn_base.specs.TableRules.{DeclarationsRefuse, twice, table, DeclarationsPass, MOST_PATHS, IsPathAfter, IsCycle, IsMixed, ExtendsUnknown, HasUnknown, at_home, unknown_at, TableRefuses, too_many, cycle, two_kinds, unknown, TablePasses}
use Rattle.jn_base.specs.LawsOfTable.{NamesItsPaths}
use Rattle.jn_base.proofs.SuperLaws.{sup_joined}
use Rattle.jn_base.proofs.Reaching.{declared_in_universe}
use Rattle.jn_base.proofs.ClassOrders.{before_irreflexive, before_total, before_chain}
use Rattle.jn_base.proofs.NameTests.{in_cons, in_none, first, later}
use Rattle.jn_base.proofs.Unique.{one_decl}

-- ---- homes

order_of : (m n : ℕ) → (m < n) ⊎ ((m ≡ n) ⊎ (n < m))
order_of m n = grind arith

pub one_home : (p : Program) → duplicates p ≡ [] → (R : Path) (at to : Place) → IsHome p R at → IsHome p R to → at ≡ to
one_home p e R at to h k = by_off (order_of h.off k.off) where
  by_off : (h.off < k.off) ⊎ ((h.off ≡ k.off) ⊎ (k.off < h.off)) → at ≡ to
  by_off (inl l) = absurd (k.longest h.off l (record { decl = h.decl; stands = h.stands }))
  by_off (inr (inl q)) =
      let d = one_decl p e (drop k.off R) h.decl k.decl (subst (λ n. StandsAt p (drop n R) h.decl) q h.stands) k.stands in
      h.is ∙ ap (λ (g : Decl). g.name.at) d ∙ sym k.is
  by_off (inr (inr l)) = absurd (h.longest k.off l (record { decl = k.decl; stands = k.stands }))

-- ---- the first unknown name of a list

heads : {X : Type 0} (x y : X) (xs ys : List X) → x ∷ xs ≡ y ∷ ys → (x ≡ y) × (xs ≡ ys)
heads x y xs ys e = (cc, cc)

first_unknown : (K : Named → Type 0) (xs ys : List Named) (x y : Named) (us vs : List Named)
    → xs ++ x ∷ us ≡ ys ++ y ∷ vs → All K xs → All K ys → (K x → ⊥) → (K y → ⊥) → x ≡ y
first_unknown K [] [] x y us vs e a b m n = (heads x y us vs e).0
first_unknown K [] (z ∷ ys) x y us vs e a b m n = absurd (m (subst K (sym (heads x z us (ys ++ y ∷ vs) e).0) (All-head K z ys b)))
first_unknown K (z ∷ xs) [] x y us vs e a b m n = absurd (n (subst K (heads z y (xs ++ x ∷ us) vs e).0 (All-head K z xs a)))
first_unknown K (z ∷ xs) (w ∷ ys) x y us vs e a b m n =
    first_unknown K xs ys x y us vs (heads z w (xs ++ x ∷ us) (ys ++ y ∷ vs) e).1 (All-tail K z xs a) (All-tail K w ys b) m n

pub one_unknown : (p : Program) → duplicates p ≡ [] → (R : Path) (x y : Named) → ExtendsUnknown p R x → ExtendsUnknown p R y → x ≡ y
one_unknown p e R x y h k =
    let d = one_decl p e R h.decl k.decl h.stands k.stands in
    first_unknown (λ n. Member p (drop 1 R) n.name) h.before k.before x y h.after k.after
    (sym h.is ∙ ap (λ (g : Decl). g.extends) d ∙ k.is) h.known k.known h.unknown k.unknown

-- ---- members

pub one_least : (p : Program) (R : Path) (m : Name) (Q S : Path) → Least p R m Q → Least p R m S → (IsOwnSuper p Q → ⊥) → Q ≡ S
one_least p R m Q S h k n = by_chain (h.below S k.among) (k.below Q h.among) n where
  by_chain : {Q S : Path} → Sup p Q S → Sup p S Q → (IsOwnSuper p Q → ⊥) → Q ≡ S
  by_chain itself t n = refl
  by_chain (above d s) t n = absurd (n (record { next = _; direct = d; back = sup_joined s t }))

-- ---- names

universe_head : (p : Program) → NamesItsPaths p → (P : Path) → IsNamespace p P → HasItsNames p P
universe_head p n [] u = All-nil _
universe_head p n (C ∷ P) u =
    All-cons (λ (m : Name). m.0 < length p.names) C P (All-head (λ (m : Name). m.0 < length p.names) C u.1.at (n (C ∷ u.1.at) u.1.declared)) (universe_head p n P u.0)

pub universe_named : (p : Program) → NamesItsPaths p → (R : Path) → InUniverse p R → HasItsNames p R
universe_named p n [] u = absurd u
universe_named p n (C ∷ P) u = universe_head p n (C ∷ P) u

-- ---- the path that has n before it

-- a sorted list whose elements stand in another one is no longer
module _ (p : Program) where
  tail_in : (x : Path) (xs : List Path) (y : Path) (ys : List Path)
      → ((z : Path) → Contains (x ∷ xs) z → Contains (y ∷ ys) z) → All (λ z. Before p x z) xs → y ≡ x
      → (z : Path) → Contains xs z → Contains ys z
  tail_in x xs y ys f a e z c = not_first (in_cons y ys z (f z (later x xs z c))) where
    not_first : (y ≡ z) ⊎ Contains ys z → Contains ys z
    not_first (inl h) = absurd (before_irreflexive p x (subst (Before p x) (sym h ∙ e) (All-contains (Before p x) xs z a c)))
    not_first (inr k) = k

  abbrev pub Sorted : List Path → Type 0
  Sorted xs = IsStrictlySortedBy (class_cmp p) xs

  sorted_head : (x : Path) (xs : List Path) → Sorted (x ∷ xs) → All (λ z. Before p x z) xs
  unfolding IsStrictlySortedBy
  sorted_head x xs s = All-from_recursion (λ z. Before p x z) xs s.0

  sorted_tail : (x : Path) (xs : List Path) → Sorted (x ∷ xs) → Sorted xs
  unfolding IsStrictlySortedBy
  sorted_tail x xs s = s.1

  -- an element of xs is none of ys' first, which is before x
  all_later : (x : Path) (xs : List Path) (y : Path) (ys : List Path)
      → ((z : Path) → Contains (x ∷ xs) z → Contains (y ∷ ys) z) → All (λ z. Before p x z) xs → All (λ z. Before p y z) ys
      → Contains ys x → (z : Path) → Contains (x ∷ xs) z → Contains ys z
  all_later x xs y ys f a b k z c = by_place (in_cons x xs z c) (in_cons y ys z (f z c)) where
    by_place : (x ≡ z) ⊎ Contains xs z → (y ≡ z) ⊎ Contains ys z → Contains ys z
    by_place (inl e) h = subst (Contains ys) e k
    by_place (inr i) (inr h) = h
    by_place (inr i) (inl e) =
        let l = before_chain p y x z (All-contains (Before p y) ys x b k) (All-contains (Before p x) xs z a i) in
        absurd (before_irreflexive p y (subst (Before p y) (sym e) l))

  step_no_longer : (x : Path) (xs : List Path) (y : Path) (ys : List Path)
      → ((zs : List Path) → Sorted zs → ((z : Path) → Contains zs z → Contains ys z) → length zs ≤ length ys)
      → Sorted (x ∷ xs) → Sorted (y ∷ ys) → ((z : Path) → Contains (x ∷ xs) z → Contains (y ∷ ys) z)
      → (y ≡ x) ⊎ Contains ys x → length (x ∷ xs) ≤ length (y ∷ ys)
  step_no_longer x xs y ys ih s t f (inl e) =
      let l = ih xs (sorted_tail x xs s) (tail_in x xs y ys f (sorted_head x xs s) e) in
      omega (arith, l)
  step_no_longer x xs y ys ih s t f (inr k) =
      let l = ih (x ∷ xs) s (all_later x xs y ys f (sorted_head x xs s) (sorted_head y ys t) k) in
      omega (arith, l)

  pub no_longer : (ys xs : List Path) → Sorted xs → Sorted ys → ((z : Path) → Contains xs z → Contains ys z) → length xs ≤ length ys
  no_longer [] [] s t f = omega arith
  no_longer [] (x ∷ xs) s t f = absurd (in_none x (f x (first x xs)))
  no_longer (y ∷ ys) [] s t f = omega arith
  no_longer (y ∷ ys) (x ∷ xs) s t f =
      step_no_longer x xs y ys (λ zs u g. no_longer ys zs u (sorted_tail y ys t) g) s t f (in_cons y ys x (f x (first x xs)))

  all_then : (x : Path) (xs : List Path) (y : Path) → AllByRecursion (λ z. Before p x z) xs → Before p x y → AllByRecursion (λ z. Before p x z) (xs ++ y ∷ [])
  all_then x [] y a b = (b, tt)
  all_then x (z ∷ xs) y a b = (a.0, all_then x xs y a.1 b)

  sorted_then : (xs : List Path) (y : Path) → Sorted xs → ((x : Path) → Contains xs x → Before p x y) → Sorted (xs ++ y ∷ [])
  unfolding IsStrictlySortedBy
  sorted_then [] y s b = (tt, tt)
  sorted_then (x ∷ xs) y s b = (all_then x xs y s.0 (b x (first x xs)), sorted_then xs y s.1 (λ z c. b z (later x xs z c)))

  -- of two paths with n before them neither is before the other
  not_before : (n : ℕ) (R S : Path) → IsPathAfter p n R → IsPathAfter p n S → Before p R S → ⊥
  not_before n R S r s b =
      let t = sorted_then r.earlier R r.in_order (λ Q c. ((r.exact Q).0 c).1) in
      let l = no_longer s.earlier (r.earlier ++ R ∷ []) t s.in_order within in
      let k = length-append r.earlier (R ∷ []) in
      absurd (omega (arith, l, k, r.count, s.count)) where
        by_part : (Q : Path) → Contains r.earlier Q ⊎ Contains (R ∷ []) Q → Contains s.earlier Q
        by_part Q (inl c) =
            let q = (r.exact Q).0 c in
            (s.exact Q).1 (q.0, before_chain p Q R S q.1 b)
        by_part Q (inr c) = is_last (in_cons R [] Q c) where
          is_last : (R ≡ Q) ⊎ Contains [] Q → Contains s.earlier Q
          is_last (inl e) = subst (Contains s.earlier) e ((s.exact R).1 (r.universe, b))
          is_last (inr h) = absurd (in_none Q h)

        within : (Q : Path) → Contains (r.earlier ++ R ∷ []) Q → Contains s.earlier Q
        within Q c = by_part Q (Contains-append_cases r.earlier (R ∷ []) Q c)

-- ---- one refusal

module _ (p : Program) (u : HasDistinctNames p) (n : NamesItsPaths p) (t : duplicates p ≡ []) where
  same_path : (R S : Path) → InUniverse p R → InUniverse p S → (Before p R S → ⊥) → (Before p S R → ⊥) → R ≡ S
  same_path R S r s a b = by_place (before_total p u R S (universe_named p n R r) (universe_named p n S s)) where
    by_place : (R ≡ S) ⊎ (Before p R S ⊎ Before p S R) → R ≡ S
    by_place (inl e) = e
    by_place (inr (inl l)) = absurd (a l)
    by_place (inr (inr l)) = absurd (b l)

  same_first : (T : Path → Type 0) → ((Q : Path) → T Q → InUniverse p Q) → (R S : Path) → IsFirst p T R → IsFirst p T S → R ≡ S
  same_first T i R S r s = same_path R S (i R r.holds) (i S s.holds) (s.first R r.holds) (r.first S s.holds)

  at_one_home : (rule : Rule) (R S : Path) (at to : Place) → R ≡ S → IsHome p R at → IsHome p S to → at_home rule R at ≡ at_home rule S to
  at_one_home rule R S at to e h k =
      let h' = subst (λ (Q : Path). IsHome p Q at) e h in
      ap (λ (Q : Path). at_home rule Q at) e ∙ ap (λ (place : Place). at_home rule S place) (one_home p t S at to h' k)

  in_universe : (Q : Path) → HasUnknown p Q → InUniverse p Q
  in_universe Q h = declared_in_universe p Q h.1.decl h.1.stands

  unknown_same : (R S : Path) (x y : Named) → R ≡ S → ExtendsUnknown p R x → ExtendsUnknown p S y → unknown_at R x ≡ unknown_at S y
  unknown_same R S x y e h k =
      let h' = subst (λ (Q : Path). ExtendsUnknown p Q x) e h in
      ap (λ (Q : Path). unknown_at Q x) e ∙ ap (λ (z : Named). unknown_at S z) (one_unknown p t S x y h' k)

  pub one_refusal : (r s : Refusal) → TableRefuses p r → TableRefuses p s → r ≡ s
  one_refusal r s (too_many R at o h e) (too_many S to q k f) =
      let l = same_path R S o.universe q.universe (not_before p MOST_PATHS R S o q) (not_before p MOST_PATHS S R q o) in
      e ∙ at_one_home rule.E13 R S at to l h k ∙ sym f
  one_refusal r s (too_many R at o h e) (cycle S to m q k f) = absurd (m R o)
  one_refusal r s (too_many R at o h e) (two_kinds S to m c q k f) = absurd (m R o)
  one_refusal r s (too_many R at o h e) (unknown S x m c d q k f) = absurd (m R o)
  one_refusal r s (cycle R at m o h e) (too_many S to q k f) = absurd (m S q)
  one_refusal r s (cycle R at m o h e) (cycle S to m' q k f) =
      e ∙ at_one_home rule.E08 R S at to (same_first (IsCycle p) (λ Q i. i.0) R S o q) h k ∙ sym f
  one_refusal r s (cycle R at m o h e) (two_kinds S to m' c q k f) = absurd (c R o.holds)
  one_refusal r s (cycle R at m o h e) (unknown S x m' c d q k f) = absurd (c R o.holds)
  one_refusal r s (two_kinds R at m c o h e) (too_many S to q k f) = absurd (m S q)
  one_refusal r s (two_kinds R at m c o h e) (cycle S to m' q k f) = absurd (c S q.holds)
  one_refusal r s (two_kinds R at m c o h e) (two_kinds S to m' c' q k f) =
      e ∙ at_one_home rule.E07 R S at to (same_first (IsMixed p) (λ Q i. i.0) R S o q) h k ∙ sym f
  one_refusal r s (two_kinds R at m c o h e) (unknown S x m' c' d q k f) = absurd (d R o.holds)
  one_refusal r s (unknown R x m c d o h e) (too_many S to q k f) = absurd (m S q)
  one_refusal r s (unknown R x m c d o h e) (cycle S to m' q k f) = absurd (c S q.holds)
  one_refusal r s (unknown R x m c d o h e) (two_kinds S to m' c' q k f) = absurd (d S q.holds)
  one_refusal r s (unknown R x m c d o h e) (unknown S y m' c' d' q k f) =
      e ∙ unknown_same R S x y (same_first (HasUnknown p) in_universe R S o q) h k ∙ sym f

pub refused_or_passed : (p : Program) (r : Refusal) → TableRefuses p r → TablePasses p → ⊥
refused_or_passed p r (too_many R at o h e) t = t.within R o
refused_or_passed p r (cycle R at m o h e) t = t.no_cycle R o.holds
refused_or_passed p r (two_kinds R at m c o h e) t = t.one_kind R o.holds
refused_or_passed p r (unknown R x m c d o h e) t = t.all_known R o.holds

-- ---- with the names that stand twice

no_twice : (p : Program) (r : Refusal) → IsFirstDuplicate p r → duplicates p ≡ [] → ⊥
no_twice p r d e = clash (sym d.is ∙ e) where
  clash : r ∷ d.others ≡ [] → ⊥
  clash h = cc h

first_same : (r s : Refusal) (xs ys : List Refusal) → r ∷ xs ≡ s ∷ ys → r ≡ s
first_same r s xs ys e = cc

pub declarations_refused_or_passed : (p : Program) (r : Refusal) → DeclarationsRefuse p r → DeclarationsPass p → ⊥
declarations_refused_or_passed p r (twice d) t = no_twice p r d t.once
declarations_refused_or_passed p r (table e h) t = refused_or_passed p r h t.table

pub one_declarations_refusal : (p : Program) → HasDistinctNames p → NamesItsPaths p → (r s : Refusal) → DeclarationsRefuse p r → DeclarationsRefuse p s → r ≡ s
one_declarations_refusal p u n r s (twice d) (twice e) = first_same r s d.others e.others (sym d.is ∙ e.is)
one_declarations_refusal p u n r s (twice d) (table e k) = absurd (no_twice p r d e)
one_declarations_refusal p u n r s (table e h) (twice d) = absurd (no_twice p s d e)
one_declarations_refusal p u n r s (table e h) (table f k) = one_refusal p u n e r s h k
