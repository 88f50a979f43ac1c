-- The row of a program with more than 4,096 paths.
use Rattle.std.proofs.Common.{◌≡◌, ◌<◌, ◌≤◌, ◌+◌, ℕ, zero, suc, List, [], ◌∷◌, map, length, Contains, Bool, true, false, nat_lt, refl, sym, ap, ◌∙◌, subst, inl, inr, ◌⊎◌, arith}
use Rattle.std.specs.declared.cmp.Ordering.TheVariants.{Less}
use Rattle.std.specs.Cmp.Lexicographic.{slice_cmp}
use Rattle.std.specs.Ordering.{nat_cmp}
use Rattle.std.specs.List.{range_with_len, AllByRecursion}
use Rattle.std.specs.List.Sorted.{IsStrictlySortedBy}
use Rattle.std.proofs.lemmas.Option.{slice_get-get_or}
use Rattle.std.proofs.lemmas.List.FromFn.{length-map-range_with_len, get_or-map-range_with_len}
use Rattle.jn_base.specs.declared.tree.Name.{Name}
use Rattle.jn_base.specs.declared.tree.Text.{Text}
use Rattle.jn_base.specs.declared.tree.Decl.{Decl}
use Rattle.jn_base.specs.declared.tree.Program.{Program}
use Rattle.jn_base.specs.Paths.{Path, nested, StandsIn}
use Rattle.jn_base.specs.NameTexts.{bytes_of}
use Rattle.jn_base.specs.Supers.{itself}
use Rattle.jn_base.specs.Universe.{InUniverse}
use Rattle.jn_base.specs.ClassOrder.{name_bytes, name_cmp, class_cmp, Before}
use Rattle.jn_base.specs.TableRules.{IsPathAfter, too_many}
use Rattle.jn_base.specs.ExampleTrees.{name}
use Rattle.jn_base.proofs.NameTests.{in_cons, in_none, has_in, first as at_first, later as behind}
use Rattle.jn_base.proofs.ClassOrders.{before_irreflexive}
use Rattle.jn_base.specs.Duplicates.{has_name, in_decl, in_decls, duplicates}
use Rattle.jn_base.proofs.Unique.{decl_opened}
use Rattle.jn_rules.specs.Verdict.{headers, table}
use Rattle.jn_base.proofs.SuperLaws.{sup_level, sup_root}
use Rattle.jn_rule_rows.specs.ManyRows.{spelled, spelled_name, kth_package, many, ManyRows}

-- ---- numbers from one on

in_range : {X : Type 0} (f : ℕ → X) (a n k : ℕ) → k < n → Contains (map f (range_with_len a n)) (f (a + k))
in_range f a zero k l = absurd (omega (arith, l))
in_range f a (suc n) zero l = subst (λ (i : ℕ). Contains (map f (range_with_len a (suc n))) (f i)) (omega arith) (at_first (f a) (map f (range_with_len (a + 1) n)))
in_range f a (suc n) (suc k) l =
    behind (f a) (map f (range_with_len (a + 1) n)) (f (a + suc k))
    (subst (λ (i : ℕ). Contains (map f (range_with_len (a + 1) n)) (f i)) (omega arith) (in_range f (a + 1) n k (omega (arith, l))))

-- an element is that of a number
record IsOf {X : Type 0} (f : ℕ → X) (a n : ℕ) (x : X) : Type 0 where
  number : ℕ
  from : a ≤ number
  below : number < a + n
  is : f number ≡ x

of_range : {X : Type 0} (f : ℕ → X) (a n : ℕ) (x : X) → Contains (map f (range_with_len a n)) x → IsOf f a n x
of_range f a zero x c = absurd (in_none x c)
of_range f a (suc n) x c = at (λ h. of_range f (a + 1) n x h) (in_cons (f a) (map f (range_with_len (a + 1) n)) x c) where
  later : IsOf f (a + 1) n x → IsOf f a (suc n) x
  later o = record { number = o.number; from = omega (arith, o.from); below = omega (arith, o.below); is = o.is }

  at : (Contains (map f (range_with_len (a + 1) n)) x → IsOf f (a + 1) n x) → (f a ≡ x) ⊎ Contains (map f (range_with_len (a + 1) n)) x → IsOf f a (suc n) x
  at go (inl e) = record { number = a; from = omega arith; below = omega arith; is = e }
  at go (inr h) = later (go h)

-- ---- the order of the names

spelled_less : (i j : ℕ) → i < j → slice_cmp nat_cmp (spelled i) (spelled j) ≡ Less
unfolding spelled
spelled_less i zero l = absurd (omega (arith, l))
spelled_less zero (suc zero) l = refl
spelled_less zero (suc (suc j)) l = refl
spelled_less (suc i) (suc j) l = spelled_less i j (omega (arith, l))

abbrev path : ℕ → Path
path k = name k ∷ []

module _ (n : ℕ) where
  its_bytes : (i : ℕ) → i < n → name_bytes (many n) (name i) ≡ spelled i
  unfolding many
  its_bytes i l =
      ap bytes_of (slice_get-get_or (map spelled_name (range_with_len 0 n)) i (spelled_name 0) (omega (arith, l, length-map-range_with_len spelled_name 0 n)))
      ∙ ap (λ (t : Text). t.bytes) (get_or-map-range_with_len spelled_name 0 n i i (spelled_name 0) l (omega arith))

  name_less : (i j : ℕ) → i < j → j < n → name_cmp (many n) (name i) (name j) ≡ Less
  name_less i j l u =
      ap (λ (x : List ℕ). slice_cmp nat_cmp x (name_bytes (many n) (name j))) (its_bytes i (omega (arith, l, u)))
      ∙ ap (λ (y : List ℕ). slice_cmp nat_cmp (spelled i) y) (its_bytes j u)
      ∙ spelled_less i j l

  path_less : (i j : ℕ) → i < j → j < n → Before (many n) (path i) (path j)
  path_less i j l u = cc (name_less i j l u)

  -- ---- the universe

  the_decl : (d : Decl) → Contains (many n).decls d → IsOf kth_package 0 n d
  unfolding many
  the_decl d c = of_range kth_package 0 n d c

  none_inside : (C : Name) (P : Path) (d : Decl) → StandsIn (many n) (C ∷ P) d → ⊥
  none_inside C [] d s = in_none d (subst (λ (e : Decl). Contains (nested e.members) d) (sym (the_decl s.0 s.1).is) s.3)
  none_inside C (D ∷ P) d s = none_inside D P s.0 s.1

  no_second : (D : Name) (P S : Path) (C : Name) (d : Decl) → length S ≡ length (D ∷ P) → StandsIn (many n) S d → ⊥
  no_second D P [] C d e s = absurd (omega (arith, e))
  no_second D P (E ∷ S) C d e s = none_inside E S d s

  universe_of : (Q : Path) → InUniverse (many n) Q → IsOf path 0 n Q
  universe_of [] u = absurd u
  universe_of (C ∷ []) u =
      let m = u.1 in
      let s = subst (λ (Q : Path). StandsIn (many n) Q m.declared.decl) (sup_root m.super) m.declared.stands.0 in
      let o = the_decl m.declared.decl s in
      record {
        number = o.number;
        from = omega arith;
        below = o.below;
        is = ap (λ (N : Name). N ∷ []) (ap (λ (d : Decl). d.name.name) o.is ∙ m.declared.stands.1);
      }
  universe_of (C ∷ D ∷ P) u =
      let m = u.1 in
      absurd (no_second D P m.at C m.declared.decl (sup_level m.super) m.declared.stands.0)

  declares : (i : ℕ) → i < n → Contains (many n).decls (kth_package i)
  unfolding many
  declares i l = subst (λ (k : ℕ). Contains (map kth_package (range_with_len 0 n)) (kth_package k)) (omega arith) (in_range kth_package 0 n i l)

  there : (i : ℕ) → i < n → InUniverse (many n) (path i)
  there i l = (tt, record { at = []; super = itself; declared = record { decl = kth_package i; stands = (declares i l, refl) } })

  -- ---- in order

  all_after : (i b k : ℕ) → i < b → b + k ≤ n → AllByRecursion (λ (Q : Path). class_cmp (many n) (path i) Q ≡ Less) (map path (range_with_len b k))
  all_after i b zero l u = tt
  all_after i b (suc k) l u = (path_less i b l (omega (arith, u)), all_after i (b + 1) k (omega (arith, l)) (omega (arith, u)))

  in_order : (b k : ℕ) → b + k ≤ n → IsStrictlySortedBy (class_cmp (many n)) (map path (range_with_len b k))
  unfolding IsStrictlySortedBy
  in_order b zero u = tt
  in_order b (suc k) u = (all_after b (b + 1) k (omega arith) (omega (arith, u)), in_order (b + 1) k (omega (arith, u)))

is_below : (m n : ℕ) → nat_lt m n ≡ true → m < n
is_below m n e = grind arith

is_not_below : (m n : ℕ) → nat_lt m n ≡ false → n ≤ m
is_not_below m n e = grind arith

-- ---- the last of n + 1 packages has n before it

module _ (n : ℕ) where
  abbrev p : Program
  p = many (suc n)

  number_less : (i : ℕ) → i < suc n → Before p (path i) (path n) → i < n
  number_less i l b = at (nat_lt i n) refl where
    at : (t : Bool) → nat_lt i n ≡ t → i < n
    at true e = is_below i n e
    at false e = absurd (before_irreflexive p (path n) (subst (λ (k : ℕ). Before p (path k) (path n)) (omega (arith, l, is_not_below i n e)) b))

  abbrev earlier : List Path
  earlier = map path (range_with_len 0 n)

  is_earlier : (Q : Path) → Contains earlier Q → InUniverse p Q × Before p Q (path n)
  is_earlier Q c =
      let o = of_range path 0 n Q c in
      subst (λ (P : Path). InUniverse p P × Before p P (path n)) o.is
      (there (suc n) o.number (omega (arith, o.below)), path_less (suc n) o.number n (omega (arith, o.below)) (omega arith))

  among_earlier : (Q : Path) → InUniverse p Q → Before p Q (path n) → Contains earlier Q
  among_earlier Q u b =
      let o = universe_of (suc n) Q u in
      let l = number_less o.number (omega (arith, o.below)) (subst (λ (P : Path). Before p P (path n)) (sym o.is) b) in
      subst (Contains earlier) (ap path (omega arith) ∙ o.is) (in_range path 0 n o.number l)

  last_path : IsPathAfter p n (path n)
  last_path = record {
    universe = there (suc n) n (omega arith);
    earlier = earlier;
    exact = λ Q. (is_earlier Q, λ h. among_earlier Q h.0 h.1);
    in_order = in_order (suc n) 0 n (omega arith);
    count = length-map-range_with_len path 0 n;
  }

-- ---- no name stands twice

has_not : (before : List Name) (a : ℕ) → ((x : Name) → Contains before x → x.0 < a) → has_name before (name a) ≡ false
has_not before a h = at (has_name before (name a)) refl where
  at : (t : Bool) → has_name before (name a) ≡ t → has_name before (name a) ≡ false
  at true e = let l = h (name a) (has_in before (name a) e) in absurd (omega (arith, l))
  at false e = e

and_next : (before : List Name) (a : ℕ) → ((x : Name) → Contains before x → x.0 < a) → (x : Name) → Contains (name a ∷ before) x → x.0 < a + 1
and_next before a h x c = at (in_cons (name a) before x c) where
  at : (name a ≡ x) ⊎ Contains before x → x.0 < a + 1
  at (inl e) = omega (arith, ap (λ (y : Name). y.0) e)
  at (inr k) = let l = h x k in omega (arith, l)

once_from : (before : List Name) (a n : ℕ) → ((x : Name) → Contains before x → x.0 < a)
    → in_decls before (map in_decl (map kth_package (range_with_len a n))) ≡ []
once_from before a zero h = refl
once_from before a (suc n) h = simp (decl_opened, has_not before a h, once_from (name a ∷ before) (a + 1) n (and_next before a h))

once : (n : ℕ) → duplicates (many n) ≡ []
unfolding many
once n = once_from [] 0 n (λ x c. absurd (in_none x c))

pub many_rows : ManyRows
many_rows = record {
  too_many = headers (once 4097) (table (too_many (path 4096) _ (last_path 4096)
      (record {
        off = 0;
        decl = kth_package 4096;
        stands = (declares 4097 4096 (omega arith), refl);
        longest = λ k l. absurd (omega (arith, l));
        is = refl;
      })
      refl));
}
