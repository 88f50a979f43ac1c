-- The entries of a program, counted.
use Rattle.std.proofs.Common.{◌≡◌, ◌<◌, ◌≤◌, ◌+◌, ◌↔◌, ◌⊎◌, inl, inr, ℕ, zero, suc, List, [], ◌∷◌, ◌++◌, length, map, Contains, Some, slice_get, get_or, refl, sym, ap, ◌∙◌, subst, arith}
use Rattle.std.specs.List.Sorted.{IsStrictlyIncreasing}
use Rattle.std.proofs.lemmas.Bool.{cases_lt}
use Rattle.std.proofs.lemmas.List.{length-append, length-map}
use Rattle.std.proofs.lemmas.List.Elements.{Contains-append_left, Contains-append_right, Contains-append_cases}
use Rattle.std.proofs.lemmas.List.Kept.{AllPairs-from_increasing}
use Rattle.std.proofs.lemmas.Option.{slice_get_read, slice_get_within, slice_get-get_or}
use Rattle.jn_reach.proofs.Searches.{same_some}
use Rattle.jn_base.specs.declared.tree.Name.{Name}
use Rattle.jn_base.specs.declared.tree.Program.{Program}
use Rattle.jn_base.specs.declared.path.Path.{Path as ShownPath}
use Rattle.jn_base.specs.Paths.{Path}
use Rattle.jn_base.specs.ClassOrder.{name_cmp}
use Rattle.jn_base.proofs.NameTests.{in_cons, in_none, first}
use Rattle.jn_table.specs.declared.table.Table.{Table}
use Rattle.jn_table.specs.Rows.{AreNames}
use Rattle.jn_table.specs.Tables.{IsFilled}
use Rattle.jn_table.proofs.Sorted.{in_order, one_place}
use Rattle.jn_sem.specs.Sharing.{IsClass}
use Rattle.jn_share.specs.Counting.{CountIs, Counts, AmongOthers}
use Rattle.jn_share.specs.Keys.{IsOnce}
use Rattle.jn_share.specs.Pairing.{IsAt}
use Rattle.jn_share.proofs.FieldRows.{less_itself}
use Rattle.jn_share.proofs.KeyLists.{at_in, once_joined, once_none}
use Rattle.jn_share.proofs.PairsFound.{same_number, same_path}

-- ---- counts

pub count_sum : (m n a b : ℕ) → CountIs m a → CountIs n b → CountIs (m + n) (a + b)
count_sum m n a b (inl e) (inl h) = inl (omega (arith, e, h))
count_sum m n a b (inl e) (inr h) = let x = h.0 in let y = h.1 in inr (omega arith, omega arith)
count_sum m n a b (inr e) (inl h) = let x = e.0 in let y = e.1 in inr (omega arith, omega arith)
count_sum m n a b (inr e) (inr h) = let x = e.0 in let y = e.1 in inr (omega arith, omega arith)

-- ---- lists without doubles

pub place : {A : Type 0} (xs : List A) (x : A) (c : Contains xs x) → slice_get xs c.0 ≡ Some x
place xs x c = slice_get_read xs (length xs) c.0 x refl c.1 (sym c.2)

map_at : {A B : Type 0} (f : A → B) (xs : List A) (i : ℕ) (y : B) → slice_get (map f xs) i ≡ Some y → (x : A) × (slice_get xs i ≡ Some x) × (f x ≡ y)
map_at f [] i y e = absurd (cc e)
map_at f (x ∷ xs) zero y e = (x, refl, let h : f x ≡ y = cc e in h)
map_at f (x ∷ xs) (suc i) y e = map_at f xs i y e

at_map : {A B : Type 0} (f : A → B) (xs : List A) (i : ℕ) (x : A) → slice_get xs i ≡ Some x → slice_get (map f xs) i ≡ Some (f x)
at_map f [] i x e = absurd (cc e)
at_map f (y ∷ ys) zero x e = let h : y ≡ x = cc e in ap (λ (z : _). Some (f z)) h
at_map f (y ∷ ys) (suc i) x e = at_map f ys i x e

once_map : {A B : Type 0} (f : A → B) (xs : List A) → ((x y : A) → f x ≡ f y → x ≡ y) → IsOnce xs → IsOnce (map f xs)
once_map f xs one o i j y a b =
    let u = map_at f xs i y a in
    let v = map_at f xs j y b in
    o i j u.0 u.1 (v.1 ∙ ap Some (one v.0 u.0 (v.2 ∙ sym u.2)))

in_map : {A B : Type 0} (f : A → B) (xs : List A) (x : A) → Contains xs x → Contains (map f xs) (f x)
in_map f xs x c = at_in (map f xs) c.0 (f x) (at_map f xs c.0 x (place xs x c))

map_in : {A B : Type 0} (f : A → B) (xs : List A) (y : B) → Contains (map f xs) y → (x : A) × Contains xs x × (f x ≡ y)
map_in f xs y c = let r = map_at f xs c.0 y (place (map f xs) y c) in (r.0, at_in xs c.0 r.0 r.1, r.2)

-- names in order stand once each
pub names_once : (p : Program) (T : Name → Type 0) (names : List Name) → AreNames p T names → IsOnce names
names_once p T names a i j x u v = one_place (name_cmp p) (less_itself p) names (in_order (name_cmp p) names a.in_order) i j x u v

-- two counts of different things are one of both
pub counts_joined : {A : Type 0} (S T : A → Type 0) (m n told : ℕ) → ((x : A) → S x → T x → ⊥) → ((a b : ℕ) → CountIs a m → CountIs b n → CountIs (a + b) told)
    → Counts S m → Counts T n → Counts (λ x. S x ⊎ T x) told
counts_joined S T m n told apart sum s t = record {
  list = s.list ++ t.list;
  exact = λ x. (
    λ c. both x (Contains-append_cases s.list t.list x c),
    λ h. back x h,
  );
  once = once_joined s.list t.list s.once t.once (λ x a b. apart x ((s.exact x).0 a) ((t.exact x).0 b));
  count = subst (λ (k : ℕ). CountIs k told) (sym (length-append s.list t.list)) (sum (length s.list) (length t.list) s.count t.count);
} where
  both : (x : _) → Contains s.list x ⊎ Contains t.list x → S x ⊎ T x
  both x (inl a) = inl ((s.exact x).0 a)
  both x (inr a) = inr ((t.exact x).0 a)

  back : (x : _) → S x ⊎ T x → Contains (s.list ++ t.list) x
  back x (inl a) = Contains-append_left s.list t.list x ((s.exact x).1 a)
  back x (inr a) = Contains-append_right s.list t.list x ((t.exact x).1 a)

pub counts_same : {A : Type 0} (S T : A → Type 0) (m : ℕ) → ((x : A) → S x ↔ T x) → Counts S m → Counts T m
counts_same S T m i s = record {
  list = s.list;
  exact = λ x. (λ c. (i x).0 ((s.exact x).0 c), λ h. (s.exact x).1 ((i x).1 h));
  once = s.once;
  count = s.count;
}

pub counts_map : {A B : Type 0} (f : A → B) (T : A → Type 0) (m : ℕ) → ((x y : A) → f x ≡ f y → x ≡ y) → Counts T m → Counts (λ (y : B). (x : A) × T x × (f x ≡ y)) m
counts_map f T m one s = record {
  list = map f s.list;
  exact = λ y. (
    λ c. let r = map_in f s.list y c in (r.0, (s.exact r.0).0 r.1, r.2),
    λ h. subst (Contains (map f s.list)) h.2 (in_map f s.list h.0 ((s.exact h.0).1 h.1)),
  );
  once = once_map f s.list one s.once;
  count = subst (λ (k : ℕ). CountIs k m) (sym (length-map s.list f)) s.count;
}

pub counts_names : (p : Program) (T : Name → Type 0) (names : List Name) (n : ℕ) → AreNames p T names → n ≡ length names → Counts T n
counts_names p T names n a e = record { list = names; exact = a.exact; once = names_once p T names a; count = inl e }

-- ---- the other classes of a group

abbrev pub FirstOf : List ℕ → ℕ → ℕ → Type 0
FirstOf among n r = (i : ℕ) × (i < n) × (slice_get among i ≡ Some r)

pub others_start : (p : Program) (known : List ShownPath) (among : List ℕ) (k : ℕ) → Counts (AmongOthers p known (FirstOf among 0) k) 0
others_start p known among k = record {
  list = [];
  exact = λ S. (λ c. absurd (in_none S c), λ h. absurd (let l = h.among.1 in omega arith));
  once = once_none;
  count = inl refl;
}

module _ (p : Program) (t : Table) (f : IsFilled p t) (among : List ℕ) (k i : ℕ) (l : i < length among) where
  r : ℕ
  r = get_or among i 0

  at_i : slice_get among i ≡ Some (get_or among i 0)
  at_i = slice_get-get_or among i 0 l

  wider : (S : Path) → AmongOthers p t.known.items (FirstOf among i) k S → AmongOthers p t.known.items (FirstOf among (i + 1)) k S
  wider S h = let b = h.among.1 in record { number = h.number; among = (h.among.0, omega arith, h.among.2); at = h.at; class = h.class; other = h.other }

  narrower : (S : Path) → AmongOthers p t.known.items (FirstOf among (i + 1)) k S → AmongOthers p t.known.items (FirstOf among i) k S ⊎ (h : IsAt t.known.items (get_or among i 0) S) × IsClass p S × (get_or among i 0 ≡ k → ⊥)
  narrower S h = by_place (cases_lt h.among.0 i) where
    by_place : (h.among.0 < i) ⊎ (i ≤ h.among.0)
        → AmongOthers p t.known.items (FirstOf among i) k S ⊎ (h : IsAt t.known.items (get_or among i 0) S) × IsClass p S × (get_or among i 0 ≡ k → ⊥)
    by_place (inl b) = inl (record { number = h.number; among = (h.among.0, b, h.among.2); at = h.at; class = h.class; other = h.other })
    by_place (inr b) =
        let q = h.among.1 in
        let same : h.among.0 ≡ i = omega arith in
        let one : h.number ≡ get_or among i 0 = same_some (slice_get among h.among.0) h.number (get_or among i 0) h.among.2 (ap (slice_get among) same ∙ at_i) in
        inr (subst (λ (n : ℕ). IsAt t.known.items n S) one h.at, h.class, λ e. h.other (one ∙ e))

  pub others_skip : (told : ℕ) → ((S : Path) → IsAt t.known.items (get_or among i 0) S → IsClass p S × (get_or among i 0 ≡ k → ⊥) → ⊥)
      → Counts (AmongOthers p t.known.items (FirstOf among i) k) told → Counts (AmongOthers p t.known.items (FirstOf among (i + 1)) k) told
  others_skip told n w = counts_same (AmongOthers p t.known.items (FirstOf among i) k) (AmongOthers p t.known.items (FirstOf among (i + 1)) k) told (λ S. (wider S, λ h. by_case S (narrower S h))) w where
    by_case : (S : Path) → AmongOthers p t.known.items (FirstOf among i) k S ⊎ (h : IsAt t.known.items (get_or among i 0) S) × IsClass p S × (get_or among i 0 ≡ k → ⊥)
        → AmongOthers p t.known.items (FirstOf among i) k S
    by_case S (inl h) = h
    by_case S (inr h) = absurd (n S h.0 (h.1, h.2))

  pub others_more : IsStrictlyIncreasing among → (told now : ℕ) → (S : Path) → IsAt t.known.items (get_or among i 0) S → IsClass p S → (get_or among i 0 ≡ k → ⊥)
      → ((a b : ℕ) → CountIs a told → CountIs b 1 → CountIs (a + b) now) → Counts (AmongOthers p t.known.items (FirstOf among i) k) told
      → Counts (AmongOthers p t.known.items (FirstOf among (i + 1)) k) now
  others_more up told now S at c n sum w =
      counts_same (λ (T : Path). AmongOthers p t.known.items (FirstOf among i) k T ⊎ (T ≡ S)) (AmongOthers p t.known.items (FirstOf among (i + 1)) k) now (λ T. (to T, λ h. from T (narrower T h)))
      (counts_joined (AmongOthers p t.known.items (FirstOf among i) k) (λ (T : Path). T ≡ S) told 1 now apart sum w single) where
        single : Counts (λ (T : Path). T ≡ S) 1
        single = record { list = S ∷ []; exact = λ T. (λ h. one T (in_cons S [] T h), λ e. subst (Contains (S ∷ [])) (sym e) (first S [])); once = once; count = inl refl } where
          one : (T : Path) → (S ≡ T) ⊎ Contains [] T → T ≡ S
          one T (inl e) = sym e
          one T (inr h) = absurd (in_none T h)

          once : IsOnce (S ∷ [])
          once zero zero x a b = refl
          once zero (suc j) x a b = absurd (cc b)
          once (suc i) j x a b = absurd (cc a)

        apart : (T : Path) → AmongOthers p t.known.items (FirstOf among i) k T → T ≡ S → ⊥
        apart T h e =
            let same = same_number p t f h.number (get_or among i 0) T h.at (subst (λ (U : Path). IsAt t.known.items (get_or among i 0) U) (sym e) at) in
            let less = AllPairs-from_increasing among up h.among.0 i 0 h.among.1 l in
            let there : get_or among h.among.0 0 ≡ h.number =
            same_some (slice_get among h.among.0) (get_or among h.among.0 0) h.number (slice_get-get_or among h.among.0 0 (slice_get_within among h.among.0 h.number h.among.2)) h.among.2 in
            absurd (omega (arith, less, there, same))

        to : (T : Path) → AmongOthers p t.known.items (FirstOf among i) k T ⊎ (T ≡ S) → AmongOthers p t.known.items (FirstOf among (i + 1)) k T
        to T (inl h) = wider T h
        to T (inr e) = record {
          number = get_or among i 0;
          among = (i, omega arith, at_i);
          at = subst (λ (U : Path). IsAt t.known.items (get_or among i 0) U) (sym e) at;
          class = subst (IsClass p) (sym e) c;
          other = n;
        }

        from : (T : Path) → AmongOthers p t.known.items (FirstOf among i) k T ⊎ (h : IsAt t.known.items (get_or among i 0) T) × IsClass p T × (get_or among i 0 ≡ k → ⊥)
            → AmongOthers p t.known.items (FirstOf among i) k T ⊎ (T ≡ S)
        from T (inl h) = inl h
        from T (inr h) = inr (same_path t.known.items (get_or among i 0) T S h.0 at)

pub others_all : (p : Program) (known : List ShownPath) (among : List ℕ) (k i told : ℕ) → length among ≤ i → Counts (AmongOthers p known (FirstOf among i) k) told
    → Counts (AmongOthers p known (Contains among) k) told
others_all p known among k i told past w = counts_same (AmongOthers p known (FirstOf among i) k) (AmongOthers p known (Contains among) k) told (λ S. (
  λ h. record { number = h.number; among = at_in among h.among.0 h.number h.among.2; at = h.at; class = h.class; other = h.other },
  λ h. let l = h.among.1 in record { number = h.number; among = (h.among.0, omega arith, place among h.number h.among); at = h.at; class = h.class; other = h.other },
)) w
