-- The second names of a list are those behind an equal one.
use Rattle.std.proofs.Common.{◌≡◌, List, [], ◌∷◌, ◌++◌, refl, sym, ap, ◌∙◌, subst, Bool, true, false, nat_eq, ◌⊎◌, inl, inr, Contains}
use Rattle.std.proofs.lemmas.List.Elements.{Contains-append_left, Contains-append_right, Contains-append_cases}
use Rattle.jn_base.specs.declared.tree.Name.{Name}
use Rattle.jn_base.specs.declared.tree.Named.{Named}
use Rattle.jn_base.specs.Duplicates.{only_if, has_name, seconds}
use Rattle.jn_base.specs.Twice.{IsSecond}
use Rattle.jn_base.proofs.NameTests.{in_cons, in_none, first, later, second, or_either, or_left, or_right, same_name, itself_named}

-- behind an equal one in the list, or in `seen`
pub data SecondIn : List Name → List Named → Named → Type 0 where
  hit : {seen : List Name} {n : Named} {ns : List Named} → has_name seen n.name ≡ true → SecondIn seen (n ∷ ns) n
  next : {seen : List Name} {m n : Named} {ns : List Named} → SecondIn (m.name ∷ seen) ns n → SecondIn seen (m ∷ ns) n

pub only_has : {X : Type 0} (t : Bool) (x y : X) → Contains (only_if t (x ∷ [])) y → (t ≡ true) × (x ≡ y)
only_has true x y c = (refl, one_of (in_cons x [] y c)) where
  one_of : (x ≡ y) ⊎ Contains [] y → x ≡ y
  one_of (inl e) = e
  one_of (inr h) = absurd (in_none y h)
only_has false x y c = absurd (in_none y c)

pub only_from : {X : Type 0} (t : Bool) (x : X) → t ≡ true → Contains (only_if t (x ∷ [])) x
only_from true x e = first x []
only_from false x e = cc

by_part : (seen : List Name) (m : Named) (ns : List Named) (n : Named) → Contains (only_if (has_name seen m.name) (m ∷ [])) n ⊎ SecondIn (m.name ∷ seen) ns n
    → SecondIn seen (m ∷ ns) n
by_part seen m ns n (inl c) =
    let o = only_has (has_name seen m.name) m n c in
    subst (λ (k : Named). SecondIn seen (m ∷ ns) k) o.1 (hit o.0)
by_part seen m ns n (inr s) = next s

pub seconds_to : (seen : List Name) (ns : List Named) (n : Named) → Contains (seconds seen ns) n → SecondIn seen ns n
seconds_to seen [] n c = absurd (in_none n c)
seconds_to seen (m ∷ ns) n c =
    by_part seen m ns n (second (λ (h : Contains (seconds (m.name ∷ seen) ns) n). seconds_to (m.name ∷ seen) ns n h)
    (Contains-append_cases (only_if (has_name seen m.name) (m ∷ [])) (seconds (m.name ∷ seen) ns) n c))

pub seconds_from : (seen : List Name) (ns : List Named) (n : Named) → SecondIn seen ns n → Contains (seconds seen ns) n
seconds_from seen [] n s = elim s [ ]
seconds_from seen (m ∷ ns) n (hit e) = Contains-append_left (only_if (has_name seen m.name) (m ∷ [])) (seconds (m.name ∷ seen) ns) n (only_from (has_name seen m.name) m e)
seconds_from seen (m ∷ ns) n (next s) = Contains-append_right (only_if (has_name seen m.name) (m ∷ [])) (seconds (m.name ∷ seen) ns) n (seconds_from (m.name ∷ seen) ns n s)

-- the same by the split of the list
record Split (seen : List Name) (names : List Named) (n : Named) : Type 0 where
  before : List Named
  after : List Named
  is : names ≡ before ++ n ∷ after
  from : (has_name seen n.name ≡ true) ⊎ ((m : Named) × Contains before m × (m.name ≡ n.name))

next_split : {seen : List Name} (m : Named) {ns : List Named} {n : Named} → Split (m.name ∷ seen) ns n → Split seen (m ∷ ns) n
next_split {seen} m {ns} {n} s = record {
  before = m ∷ s.before;
  after = s.after;
  is = ap (λ (l : List Named). m ∷ l) s.is;
  from = by_name s.from;
} where
  from_seen : (nat_eq m.name.0 n.name.0 ≡ true) ⊎ (has_name seen n.name ≡ true)
      → (has_name seen n.name ≡ true) ⊎ ((k : Named) × Contains (m ∷ s.before) k × (k.name ≡ n.name))
  from_seen (inl e) = inr (m, first m s.before, same_name m.name n.name e)
  from_seen (inr h) = inl h

  by_name : (has_name (m.name ∷ seen) n.name ≡ true) ⊎ ((k : Named) × Contains s.before k × (k.name ≡ n.name))
      → (has_name seen n.name ≡ true) ⊎ ((k : Named) × Contains (m ∷ s.before) k × (k.name ≡ n.name))
  by_name (inl h) = from_seen (or_either (nat_eq m.name.0 n.name.0) (has_name seen n.name) h)
  by_name (inr h) = inr (h.0, later m s.before h.0 h.1, h.2)

split_of : {seen : List Name} {ns : List Named} {n : Named} → SecondIn seen ns n → Split seen ns n
split_of {n = n} (hit {ns = ns} e) = record { before = []; after = ns; is = refl; from = inl e }
split_of (next {m = m} s) = next_split m (split_of s)

pub second_is : {ns : List Named} {n : Named} → SecondIn [] ns n → IsSecond ns n
second_is {ns} {n} s = is_from (split_of s) where
  is_from : Split [] ns n → IsSecond ns n
  is_from t = by_name t.from where
    by_name : (has_name [] n.name ≡ true) ⊎ ((k : Named) × Contains t.before k × (k.name ≡ n.name)) → IsSecond ns n
    by_name (inl h) = absurd (cc h)
    by_name (inr h) = record { before = t.before; after = t.after; is = t.is; earlier = h.0; among = h.1; same = h.2 }

-- behind `before`, where the name is in `seen` or in `before`
shifted : (seen : List Name) (m : Named) (before : List Named) (n : Named)
    → (has_name seen n.name ≡ true) ⊎ ((k : Named) × Contains (m ∷ before) k × (k.name ≡ n.name))
    → (has_name (m.name ∷ seen) n.name ≡ true) ⊎ ((k : Named) × Contains before k × (k.name ≡ n.name))
shifted seen m before n (inl h) = inl (or_right (nat_eq m.name.0 n.name.0) (has_name seen n.name) h)
shifted seen m before n (inr h) = by_place (in_cons m before h.0 h.1) where
  by_place : (m ≡ h.0) ⊎ Contains before h.0 → (has_name (m.name ∷ seen) n.name ≡ true) ⊎ ((k : Named) × Contains before k × (k.name ≡ n.name))
  by_place (inl e) =
      inl (or_left (nat_eq m.name.0 n.name.0) (has_name seen n.name)
      (subst (λ (x : Name). nat_eq m.name.0 x.0 ≡ true) (ap (λ (k : Named). k.name) e ∙ h.2) (itself_named m.name)))
  by_place (inr c) = inr (h.0, c, h.2)

second_in : (seen : List Name) (before after : List Named) (n : Named)
    → (has_name seen n.name ≡ true) ⊎ ((m : Named) × Contains before m × (m.name ≡ n.name)) → SecondIn seen (before ++ n ∷ after) n
second_in seen [] after n (inl h) = hit h
second_in seen [] after n (inr h) = absurd (in_none h.0 h.1)
second_in seen (m ∷ before) after n h = next (second_in (m.name ∷ seen) before after n (shifted seen m before n h))

pub second_from : {ns : List Named} {n : Named} → IsSecond ns n → SecondIn [] ns n
second_from {ns} {n} s = subst (λ (l : List Named). SecondIn [] l n) (sym s.is) (second_in [] s.before s.after n (inr (s.earlier, s.among, s.same)))
