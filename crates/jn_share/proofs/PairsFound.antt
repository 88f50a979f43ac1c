-- The pairs of numbers that the listed names give, one after the other.
use Rattle.std.proofs.Common.{◌≡◌, ◌≤◌, ◌<◌, ◌+◌, ◌↔◌, ◌⊎◌, inl, inr, ℕ, List, [], ◌∷◌, ◌++◌, length, reverse, map, take, Contains, Option, Some, None, slice_get, get_or, Bool, IsTrue, true, false, IfSome, refl, sym, ap, ◌∙◌, subst, arith}
use Rattle.std.proofs.lemmas.Bool.{cases_lt}
use Rattle.std.proofs.lemmas.List.{reverse-reverse, take_all}
use Rattle.std.proofs.lemmas.List.Elements.{Contains-append_left, Contains-append_right, Contains-append_cases, All-nil, All-cons, All-append}
use Rattle.std.proofs.lemmas.Option.{slice_get_within, slice_get_read}
use Rattle.jn_reach.specs.Graph.{Graph, HasEdge}
use Rattle.jn_reach.proofs.Searches.{not_when, same_some}
use Rattle.jn_base.specs.declared.tree.Name.{Name}
use Rattle.jn_base.specs.declared.tree.Kind.TheVariants as kind
use Rattle.jn_base.specs.declared.tree.Program.{Program}
use Rattle.jn_base.specs.declared.path.Path.{Path as ShownPath}
use Rattle.jn_base.specs.ClassOrder.{class_cmp}
use Rattle.jn_base.specs.Members.{HasKind}
use Rattle.jn_base.specs.Paths.{Path, shown}
use Rattle.jn_base.proofs.NameTests.{in_cons, in_none, first}
use Rattle.jn_table.specs.declared.class.ClassId.{ClassId}
use Rattle.jn_table.specs.declared.table.Table.{Table}
use Rattle.jn_table.specs.Rows.{IsNumber}
use Rattle.jn_table.specs.Tables.{IsFilled, HasNoNumber}
use Rattle.jn_table.proofs.Shown.{path_number, number_path}
use Rattle.jn_table.proofs.Sorted.{in_order}
use Rattle.jn_share.proofs.Numbered.{kind_known, none_known}
use Rattle.jn_sem.specs.Sharing.{IsClass, family_of, in_family}
use Rattle.jn_sem.specs.NotFamily.{Listed, adapting, sharing}
use Rattle.jn_reach.specs.Pairs.{IsPair, AreBelow}
use Rattle.jn_share.specs.declared.listed.InList.{InList}
use Rattle.jn_share.specs.declared.listed.InList.TheVariants as lists
use Rattle.jn_share.specs.declared.listed.ListedName.{ListedName}
use Rattle.jn_share.specs.Listing.{listing_of, listed_of}
use Rattle.jn_share.specs.Pairing.{Meets, by_family, by_path, IsAt, RelatesAt, ClassTold, PartnerIs, RowIs, StandsBefore, AddsPairs, AreByFamily, ArePairs}
use Rattle.jn_share.specs.Trails.{HasNone}
use Rattle.jn_share.proofs.Names.{path_at}
use Rattle.jn_share.proofs.Walk.{map_both}

-- a path has one number
pub one_number : (p : Program) (t : Table) → IsFilled p t → (a b : ClassId) (P : Path) → IsNumber t.known.items a P → IsNumber t.known.items b P → a ≡ b
one_number p t f a b P x y =
    let r = f.table.rows in
    path_number p r.paths t.known.items r.shown_are (in_order (class_cmp p) r.paths r.in_order) a b P x y

pub same_number : (p : Program) (t : Table) → IsFilled p t → (i j : ℕ) (P : Path) → IsAt t.known.items i P → IsAt t.known.items j P → i ≡ j
same_number p t f i j P x y = ap (λ (id : ClassId). id.0) (one_number p t f (record { 0 = i }) (record { 0 = j }) P x y)

pub same_path : (known : List ShownPath) (k : ℕ) (P Q : Path) → IsAt known k P → IsAt known k Q → P ≡ Q
same_path known k P Q x y = number_path known (record { 0 = k }) P Q x y

pub at_path : (known : List ShownPath) (k : ℕ) (names : List Name) → slice_get known k ≡ Some (record { names = names }) → IsAt known k (reverse names)
at_path known k names a = a ∙ ap (λ (ns : List Name). Some (record { names = ns })) (sym (reverse-reverse names))

-- ---- the partner of a number

module _ (p : Program) (known : List ShownPath) (x : Listed) (k : ℕ) (names : List Name) (at : slice_get known k ≡ Some (record { names = names })) where
  pub no_meets : (b : Bool) → b ≡ false → IsTrue b ↔ Meets x (reverse names) → (j : ℕ) → RelatesAt p known x k j → ⊥
  no_meets b e m j r = not_when e m (subst (Meets x) (sym (path_at known k names r.R at r.one_at)) r.relates.meets)

  there_is : (there : Path) → there ≡ in_family x.name.name (reverse names) → (j : ℕ) (r : RelatesAt p known x k j) → r.S ≡ there
  there_is there e j r = r.relates.there ∙ (ap (in_family x.name.name) (sym (path_at known k names r.R at r.one_at)) ∙ sym e)

  pub no_class_here : (b : Bool) → b ≡ false → ((R : Path) → IsAt known k R → IsTrue b ↔ IsClass p R) → (j : ℕ) → RelatesAt p known x k j → ⊥
  no_class_here b e c j r = not_when e (c r.R r.one_at) r.relates.one

  pub partner_told : (there : Path) (m b : Bool) (o : Option ℕ) → m ≡ true → IsTrue m ↔ Meets x (reverse names) → b ≡ true → ((R : Path) → IsAt known k R → IsTrue b ↔ IsClass p R)
      → there ≡ in_family x.name.name (reverse names) → IfSome o (λ j. (j < length known) × IsAt known j there) → ClassTold p there o → PartnerIs p known x k o
  partner_told there m b None me mi be bi e s h = λ j r. h (subst (λ (P : Path). HasKind p P kind.Class) (there_is there e j r) r.relates.other.kind)
  partner_told there m b (Some j) me mi be bi e s h = record {
    R = reverse names;
    S = there;
    one_at = at_path known k names at;
    other_at = s.1;
    relates = record { meets = mi.0 me; there = e; one = (bi (reverse names) (at_path known k names at)).0 be; other = h };
  }

-- no path has a number past the last one
pub past_end : (p : Program) (known : List ShownPath) (x : Listed) (k : ℕ) → length known ≤ k → (j : ℕ) → RelatesAt p known x k j → ⊥
past_end p known x k l j r = let w = slice_get_within known k (shown r.R) r.one_at in omega (arith, l, w)

pub both_within : (known : List ShownPath) (there : Path) (k : ℕ) (o : Option ℕ) → k < length known → IfSome o (λ j. (j < length known) × IsAt known j there)
    → IfSome o (λ j. (k < length known) × (j < length known))
both_within known there k None l s = tt
both_within known there k (Some j) l s = (l, s.0)

pub some_within : (n k j : ℕ) (o : Option ℕ) → o ≡ Some j → IfSome o (λ i. (k < n) × (i < n)) → (k < n) × (j < n)
some_within n k j None e h = absurd (cc e)
some_within n k j (Some v) e h = let s : v ≡ j = cc e in subst (λ (i : ℕ). (k < n) × (i < n)) s h

-- ---- the number of a class

pub class_none : (p : Program) (t : Table) → IsFilled p t → (R : Path) → HasNone t R → HasKind p R kind.Class → ⊥
class_none p t f R n h = none_known p t R f n (kind_known p R kind.Class h)

pub class_other : (p : Program) (R : Path) (b : Bool) → b ≡ false → IsTrue b ↔ IsClass p R → HasKind p R kind.Class → ⊥
class_other p R b e i h = not_when e i (record { universe = kind_known p R kind.Class h; kind = h })

-- by what is answered
pub partner_none : (p : Program) (known : List ShownPath) (x : Listed) (k : ℕ) (o : Option ℕ) → o ≡ None → PartnerIs p known x k o → (j : ℕ) → RelatesAt p known x k j → ⊥
partner_none p known x k None e h = h
partner_none p known x k (Some v) e h = absurd (cc e)

pub partner_some : (p : Program) (known : List ShownPath) (x : Listed) (k j : ℕ) (o : Option ℕ) → o ≡ Some j → PartnerIs p known x k o → RelatesAt p known x k j
partner_some p known x k j None e h = absurd (cc e)
partner_some p known x k j (Some v) e h = let s : v ≡ j = cc e in subst (RelatesAt p known x k) s h

-- ---- adding

pub adds_no_pair : (p : Program) (known : List ShownPath) (x : Listed) (k : ℕ) (pairs : List (ℕ × ℕ)) → ((j : ℕ) → RelatesAt p known x k j → ⊥)
    → AddsPairs p known x (λ i. i ≡ k) pairs pairs
adds_no_pair p known x k pairs n = record {
  kept = λ i j c. c;
  added = λ i j e r. absurd (n j (subst (λ (m : ℕ). RelatesAt p known x m j) e r));
  others = λ i j c. inl c;
}

pub adds_pair : (p : Program) (t : Table) → IsFilled p t → (x : Listed) (k j : ℕ) (before after : List (ℕ × ℕ)) → RelatesAt p t.known.items x k j
    → after ≡ before ++ (k, j) ∷ [] → AddsPairs p t.known.items x (λ i. i ≡ k) before after
adds_pair p t f x k j before after q e = record { kept = kept; added = added; others = others } where
  kept : (a b : ℕ) → IsPair before a b → IsPair after a b
  kept a b c = subst (λ (ps : List (ℕ × ℕ)). Contains ps (a, b)) (sym e) (Contains-append_left before ((k, j) ∷ []) (a, b) c)

  last : IsPair after k j
  last = subst (λ (ps : List (ℕ × ℕ)). Contains ps (k, j)) (sym e) (Contains-append_right before ((k, j) ∷ []) (k, j) (first (k, j) []))

  added : (a b : ℕ) → a ≡ k → RelatesAt p t.known.items x a b → IsPair after a b
  added a b i r =
      let one : r.R ≡ q.R = same_path t.known.items k r.R q.R (subst (λ (m : ℕ). IsAt t.known.items m r.R) i r.one_at) q.one_at in
      let two : r.S ≡ q.S = r.relates.there ∙ (ap (in_family x.name.name) one ∙ sym q.relates.there) in
      let to : b ≡ j = same_number p t f b j q.S (subst (λ (P : Path). IsAt t.known.items b P) two r.other_at) q.other_at in
      subst (λ (m : ℕ). IsPair after m b) (sym i) (subst (λ (m : ℕ). IsPair after k m) (sym to) last)

  by_place : (a b : ℕ) → (◌≡◌ {A = ℕ × ℕ} (k, j) (a, b)) ⊎ Contains {X = ℕ × ℕ} [] (a, b) → RelatesAt p t.known.items x a b
  by_place a b (inl h) = subst (λ (w : ℕ × ℕ). RelatesAt p t.known.items x w.0 w.1) h q
  by_place a b (inr c) = absurd (in_none (a, b) c)

  by_part : (a b : ℕ) → Contains {X = ℕ × ℕ} before (a, b) ⊎ Contains {X = ℕ × ℕ} ((k, j) ∷ []) (a, b) → IsPair before a b ⊎ RelatesAt p t.known.items x a b
  by_part a b (inl c) = inl c
  by_part a b (inr c) = inr (by_place a b (in_cons (k, j) [] (a, b) c))

  others : (a b : ℕ) → IsPair after a b → IsPair before a b ⊎ RelatesAt p t.known.items x a b
  others a b c = by_part a b (Contains-append_cases before ((k, j) ∷ []) (a, b) (subst (λ (ps : List (ℕ × ℕ)). Contains ps (a, b)) e c))

module _ (p : Program) (known : List ShownPath) (x : Listed) where
  pub adds_nothing : (T : ℕ → Type 0) (pairs : List (ℕ × ℕ)) → ((i j : ℕ) → T i → RelatesAt p known x i j → ⊥) → AddsPairs p known x T pairs pairs
  adds_nothing T pairs n = record { kept = λ i j c. c; added = λ i j t r. absurd (n i j t r); others = λ i j c. inl c }

  pub adds_weaker : (T U : ℕ → Type 0) (a b : List (ℕ × ℕ)) → ((i j : ℕ) → U i → RelatesAt p known x i j → T i) → AddsPairs p known x T a b → AddsPairs p known x U a b
  adds_weaker T U a b h g = record { kept = g.kept; added = λ i j u r. g.added i j (h i j u r) r; others = g.others }

  -- one number of a list after the other
  pub adds_start : (numbers : List ℕ) (pairs : List (ℕ × ℕ)) → AddsPairs p known x (StandsBefore numbers 0) pairs pairs
  adds_start numbers pairs = adds_nothing (StandsBefore numbers 0) pairs (λ i j w r. omega (arith, w.1))

  pub adds_next : (numbers : List ℕ) (n k : ℕ) (a b c : List (ℕ × ℕ)) → n < length numbers → k ≡ get_or numbers n k → AddsPairs p known x (StandsBefore numbers n) a b
      → AddsPairs p known x (λ i. i ≡ k) b c → AddsPairs p known x (StandsBefore numbers (n + 1)) a c
  adds_next numbers n k a b c l e g h = record {
    kept = λ i j w. h.kept i j (g.kept i j w);
    added = λ i j w r. by_order i j w r (cases_lt w.0 n);
    others = λ i j w. by_last i j (h.others i j w);
  } where
    by_order : (i j : ℕ) → (w : StandsBefore numbers (n + 1) i) → RelatesAt p known x i j → (w.0 < n) ⊎ (n ≤ w.0) → IsPair c i j
    by_order i j w r (inl m) = h.kept i j (g.added i j (w.0, m, w.2) r)
    by_order i j w r (inr m) =
        let same : w.0 ≡ n = omega (arith, w.1, m) in
        let here : slice_get numbers n ≡ Some k = slice_get_read numbers (length numbers) n k refl l e in
        h.added i j (same_some (slice_get numbers n) i k (ap (slice_get numbers) (sym same) ∙ w.2) here) r

    by_last : (i j : ℕ) → IsPair b i j ⊎ RelatesAt p known x i j → IsPair a i j ⊎ RelatesAt p known x i j
    by_last i j (inl w) = g.others i j w
    by_last i j (inr r) = inr r

  pub adds_end : (numbers : List ℕ) (n : ℕ) (a b : List (ℕ × ℕ)) → length numbers ≤ n → AddsPairs p known x (StandsBefore numbers n) a b
      → AddsPairs p known x (StandsBefore numbers (length numbers)) a b
  adds_end numbers n a b l g = adds_weaker (StandsBefore numbers n) (StandsBefore numbers (length numbers)) a b (λ i j w r. (w.0, omega (arith, w.1, l), w.2)) g

-- ---- where a listed name looks

not_adapted : (l : InList) → l ≡ lists.Adapts → listing_of l ≡ sharing → ⊥
not_adapted l e h = let k : adapting ≡ sharing = ap listing_of (sym e) ∙ h in cc k

not_shared : (l : InList) → l ≡ lists.Shares → listing_of l ≡ adapting → ⊥
not_shared l e h = let k : sharing ≡ adapting = ap listing_of (sym e) ∙ h in cc k

-- a name in a list of `adapts`: in its family
module _ (p : Program) (t : Table) (f : IsFilled p t) (classes : Graph) (families : AreByFamily t.known.items classes) (x : ListedName) (adapts : x.list ≡ lists.Adapts)
    (names : List Name) (its : names ≡ x.at.names) (path : Path) (own : (X : Name) → family_of (reverse names) ≡ Some X → path ≡ X ∷ []) where
  record Found (i : ℕ) : Type 0 where
    family : ℕ
    at : IsAt t.known.items family path
    edge : HasEdge classes family i

  found_in : (i : ℕ) (R : Path) → IsAt t.known.items i R → Meets (listed_of x) R → Found i
  found_in i R a (by_path l e) = absurd (not_adapted x.list adapts l)
  found_in i R a (by_family l n h) =
      let w = families i R h.X a h.one in
      let is : path ≡ h.X ∷ [] = own h.X (ap (λ (ns : List Name). family_of (reverse ns)) its ∙ h.other) in
      record { family = w.0; at = subst (λ (P : Path). IsAt t.known.items w.0 P) (sym is) w.1; edge = w.2 }

  pub adds_no_family : (T : ℕ → Type 0) (pairs : List (ℕ × ℕ)) → HasNone t path → AddsPairs p t.known.items (listed_of x) T pairs pairs
  adds_no_family T pairs n =
      adds_nothing p t.known.items (listed_of x) T pairs
      (λ i j _ r. let w = found_in i r.R r.one_at r.relates.meets in n (record { 0 = w.family }) w.at)

  pub adds_family : (T : ℕ → Type 0) (id : ClassId) (numbers : List ℕ) (a b : List (ℕ × ℕ)) → IsNumber t.known.items id path → RowIs classes id.0 numbers
      → AddsPairs p t.known.items (listed_of x) (StandsBefore numbers (length numbers)) a b → AddsPairs p t.known.items (listed_of x) T a b
  adds_family T id numbers a b n row g =
      adds_weaker p t.known.items (listed_of x) (StandsBefore numbers (length numbers)) T a b (λ i j _ r. there i (found_in i r.R r.one_at r.relates.meets)) g where
        there : (i : ℕ) → Found i → StandsBefore numbers (length numbers) i
        there i w =
            let same : w.family ≡ id.0 = same_number p t f w.family id.0 path w.at n in
            let edge : HasEdge classes id.0 i = subst (λ (k : ℕ). HasEdge classes k i) same w.edge in
            let all : numbers ≡ (edge.row).items = row edge.row edge.at in
            let c : Contains numbers i = subst (λ (xs : List ℕ). Contains xs i) (sym all) edge.in_row in
            (c.0, c.1, slice_get_read numbers (length numbers) c.0 i refl c.1 (sym c.2))

-- a name in a list of `shares`: at the path itself
module _ (p : Program) (t : Table) (f : IsFilled p t) (x : ListedName) (shares : x.list ≡ lists.Shares) where
  path_of : (R : Path) → Meets (listed_of x) R → R ≡ reverse x.at.names
  path_of R (by_family l n h) = absurd (not_shared x.list shares l)
  path_of R (by_path l e) = e

  at_it : (i : ℕ) (R : Path) → IsAt t.known.items i R → Meets (listed_of x) R → slice_get t.known.items i ≡ Some x.at
  at_it i R a m =
      a ∙ ap (λ (ns : List Name). Some (record { names = ns })) (ap reverse (path_of R m) ∙ reverse-reverse x.at.names)

  pub adds_no_shared : (T : ℕ → Type 0) (pairs : List (ℕ × ℕ)) → HasNoNumber t x.at → AddsPairs p t.known.items (listed_of x) T pairs pairs
  adds_no_shared T pairs n =
      adds_nothing p t.known.items (listed_of x) T pairs (λ i j _ r. n (record { 0 = i }) (at_it i r.R r.one_at r.relates.meets))

  pub adds_shared : (T : ℕ → Type 0) (id : ClassId) (a b : List (ℕ × ℕ)) → slice_get t.known.items id.0 ≡ Some x.at
      → AddsPairs p t.known.items (listed_of x) (λ i. i ≡ id.0) a b → AddsPairs p t.known.items (listed_of x) T a b
  adds_shared T id a b n g =
      adds_weaker p t.known.items (listed_of x) (λ i. i ≡ id.0) T a b (λ i j _ r. there i r.R r.one_at r.relates.meets) g where
        there : (i : ℕ) (R : Path) → IsAt t.known.items i R → Meets (listed_of x) R → i ≡ id.0
        there i R at m =
            let one : Some (shown R) ≡ Some x.at = sym at ∙ at_it i R at m in
            same_number p t f i id.0 R at (n ∙ sym one)

module _ (p : Program) (known : List ShownPath) where
  pub pairs_none : (pairs : List (ℕ × ℕ)) → pairs ≡ [] → ArePairs p known [] pairs
  pairs_none pairs e = record {
    sound = λ i j c. absurd (in_none (i, j) (subst (λ (ps : List (ℕ × ℕ)). Contains ps (i, j)) e c));
    complete = λ i j x c r. absurd (in_none x c);
  }

  pub pairs_more : (xs : List Listed) (x : Listed) (a b : List (ℕ × ℕ)) → ArePairs p known xs a → AddsPairs p known x (λ i. i < length known) a b
      → ArePairs p known (xs ++ x ∷ []) b
  pairs_more xs x a b g h = record { sound = λ i j c. by_last i j (h.others i j c); complete = λ i j y c r. by_part i j y r (Contains-append_cases xs (x ∷ []) y c) } where
    by_last : (i j : ℕ) → IsPair a i j ⊎ RelatesAt p known x i j → (y : Listed) × Contains (xs ++ x ∷ []) y × RelatesAt p known y i j
    by_last i j (inl c) = let s = g.sound i j c in (s.0, Contains-append_left xs (x ∷ []) s.0 s.1, s.2)
    by_last i j (inr r) = (x, Contains-append_right xs (x ∷ []) x (first x []), r)

    by_place : (i j : ℕ) (y : Listed) → RelatesAt p known y i j → (x ≡ y) ⊎ Contains [] y → IsPair b i j
    by_place i j y r (inl e) =
        h.added i j (slice_get_within known i (shown r.R) r.one_at) (subst (λ (z : Listed). RelatesAt p known z i j) (sym e) r)
    by_place i j y r (inr c) = absurd (in_none y c)

    by_part : (i j : ℕ) (y : Listed) → RelatesAt p known y i j → Contains xs y ⊎ Contains (x ∷ []) y → IsPair b i j
    by_part i j y r (inl c) = h.kept i j (g.complete i j y c r)
    by_part i j y r (inr c) = by_place i j y r (in_cons x [] y c)

  -- one name more, and all of them
  pub pairs_next : (xs : List ListedName) (i : ℕ) (x : ListedName) (a b : List (ℕ × ℕ)) → take (i + 1) xs ≡ take i xs ++ x ∷ []
      → ArePairs p known (map listed_of (take i xs)) a → AddsPairs p known (listed_of x) (λ k. k < length known) a b → ArePairs p known (map listed_of (take (i + 1) xs)) b
  pairs_next xs i x a b e g h =
      subst (λ (ys : List Listed). ArePairs p known ys b) (sym (ap (map listed_of) e ∙ map_both listed_of (take i xs) (x ∷ [])))
      (pairs_more (map listed_of (take i xs)) (listed_of x) a b g h)

  pub pairs_all : (xs : List ListedName) (i : ℕ) (a : List (ℕ × ℕ)) → length xs ≤ i → ArePairs p known (map listed_of (take i xs)) a → ArePairs p known (map listed_of xs) a
  pairs_all xs i a l g = subst (λ (ys : List ListedName). ArePairs p known (map listed_of ys) a) (take_all i xs l) g

pub below_more : (n k j : ℕ) (before after : List (ℕ × ℕ)) → (k < n) × (j < n) → after ≡ before ++ (k, j) ∷ [] → AreBelow n before → AreBelow n after
below_more n k j before after h e b =
    subst (AreBelow n) (sym e) (All-append (λ (w : ℕ × ℕ). (w.0 < n) × (w.1 < n)) before ((k, j) ∷ []) b (All-cons (λ (w : ℕ × ℕ). (w.0 < n) × (w.1 < n)) (k, j) [] h (All-nil (λ (w : ℕ × ℕ). (w.0 < n) × (w.1 < n)))))

pub below_none : (n : ℕ) (pairs : List (ℕ × ℕ)) → pairs ≡ [] → AreBelow n pairs
below_none n pairs e = subst (AreBelow n) (sym e) (λ i d l. absurd (omega (arith, l)))
