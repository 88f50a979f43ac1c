-- What the slots of groups become: each that an entry names has the kind of some entry that names it.
use Rattle.std.proofs.Common.{◌≡◌, ◌<◌, ◌≤◌, ◌⊎◌, inl, inr, ℕ, zero, suc, List, [], ◌∷◌, length, set, All, Contains, Option, Some, None, slice_get, refl, sym, ap, ◌∙◌, subst, arith}
use Rattle.std.proofs.lemmas.Bool.{cases_lt}
use Rattle.std.proofs.lemmas.List.{length-set}
use Rattle.std.proofs.lemmas.List.Elements.{All-set, All-contains}
use Rattle.std.proofs.lemmas.Option.{slice_get_within, get_or_from_slice_get}
use Rattle.jn_base.proofs.NameTests.{in_cons, in_none, first, later}
use Rattle.jn_code.specs.declared.image.Group.{Group}
use Rattle.jn_code.specs.declared.image.ClassRow.{ClassRow}
use Rattle.jn_code.specs.declared.image.FieldEntry.{FieldEntry}
use Rattle.jn_code.specs.Form.{IsKind, IsFieldKind, GroupInForm}
use Rattle.jn_link.specs.Groups.{slot_kind, painted_by, painted, painted_in, painted_rows}

-- ---- lists

pub set_same : {A : Type 0} (xs : List A) (i : ℕ) (v : A) → i < length xs → slice_get (set xs i v) i ≡ Some v
set_same [] i v l = absurd (omega (arith, l))
set_same (x ∷ xs) zero v l = refl
set_same (x ∷ xs) (suc i) v l = set_same xs i v (omega (arith, l))

pub set_other : {A : Type 0} (xs : List A) (i j : ℕ) (v : A) → (i ≡ j → ⊥) → slice_get (set xs i v) j ≡ slice_get xs j
set_other [] i j v n = refl
set_other (x ∷ xs) zero zero v n = absurd (n refl)
set_other (x ∷ xs) zero (suc j) v n = refl
set_other (x ∷ xs) (suc i) zero v n = refl
set_other (x ∷ xs) (suc i) (suc j) v n = set_other xs i j v (λ e. n (ap suc e))

pub same_or_not : (i j : ℕ) → (i ≡ j) ⊎ (i ≡ j → ⊥)
same_or_not i j = by_less (cases_lt i j) (cases_lt j i) where
  by_less : (i < j) ⊎ (j ≤ i) → (j < i) ⊎ (i ≤ j) → (i ≡ j) ⊎ (i ≡ j → ⊥)
  by_less (inl l) d = inr (λ e. omega (arith, l, e))
  by_less (inr l) (inl m) = inr (λ e. omega (arith, m, e))
  by_less (inr l) (inr m) = inl (omega (arith, l, m))

some_here : {A : Type 0} (o : Option A) → ((x : A) × (o ≡ Some x)) ⊎ (o ≡ None)
some_here (Some x) = inl (x, refl)
some_here None = inr refl

-- ---- one group

-- an entry has given the slot its kind
pub record IsGiven (names : List ℕ) (es : List FieldEntry) (m : ℕ) (kinds : List ℕ) : Type 0 where
  pub entry : FieldEntry
  pub among : Contains es entry
  pub slot : entry.slot ≡ m
  pub kind : ℕ
  pub named : slice_get names entry.selector ≡ Some kind
  pub at : slice_get kinds m ≡ Some (slot_kind kind)

given_later : (names : List ℕ) (e : FieldEntry) (es : List FieldEntry) (m : ℕ) (kinds : List ℕ)
    → IsGiven names es m kinds → IsGiven names (e ∷ es) m kinds
given_later names e es m kinds g = record {
  entry = g.entry;
  among = later e es g.entry g.among;
  slot = g.slot;
  kind = g.kind;
  named = g.named;
  at = g.at;
}

by_long : (o : Option ℕ) (slot : ℕ) (kinds : List ℕ) → length (painted_by o slot kinds) ≡ length kinds
by_long None slot kinds = refl
by_long (Some k) slot kinds = length-set kinds slot (slot_kind k)

pub painted_long : (names : List ℕ) (es : List FieldEntry) (kinds : List ℕ)
    → length (painted names es kinds) ≡ length kinds
painted_long names [] kinds = refl
painted_long names (e ∷ es) kinds =
    painted_long names es (painted_by (slice_get names e.selector) e.slot kinds)
    ∙ by_long (slice_get names e.selector) e.slot kinds

-- a slot is as it was, or an entry has given it its kind
pub kept_or_given : (names : List ℕ) (es : List FieldEntry) (kinds : List ℕ) (m : ℕ) → m < length kinds
    → (slice_get (painted names es kinds) m ≡ slice_get kinds m) ⊎ IsGiven names es m (painted names es kinds)
kept_or_given names [] kinds m l = inl refl
kept_or_given names (e ∷ es) kinds m l = by_rest (kept_or_given names es next m (omega (arith, l, long))) where
  next : List ℕ
  next = painted_by (slice_get names e.selector) e.slot kinds

  last : List ℕ
  last = painted names es next

  long : length next ≡ length kinds
  long = by_long (slice_get names e.selector) e.slot kinds

  Settled : Type 0
  Settled = (slice_get last m ≡ slice_get kinds m) ⊎ IsGiven names (e ∷ es) m last

  by_kind : slice_get last m ≡ slice_get next m → ((k : ℕ) × (slice_get names e.selector ≡ Some k))
      ⊎ (slice_get names e.selector ≡ None) → Settled
  by_kind same (inr none) =
      inl (same ∙ ap (λ (o : Option ℕ). slice_get (painted_by o e.slot kinds) m) none)
  by_kind same (inl (k, named)) = by_slot (same_or_not e.slot m) where
    set_is : slice_get next m ≡ slice_get (set kinds e.slot (slot_kind k)) m
    set_is = ap (λ (o : Option ℕ). slice_get (painted_by o e.slot kinds) m) named

    by_slot : (e.slot ≡ m) ⊎ (e.slot ≡ m → ⊥) → Settled
    by_slot (inr other) = inl (same ∙ (set_is ∙ set_other kinds e.slot m (slot_kind k) other))
    by_slot (inl here) = inr (record {
      entry = e;
      among = first e es;
      slot = here;
      kind = k;
      named = named;
      at = same ∙ (set_is
          ∙ (ap (λ (j : ℕ). slice_get (set kinds e.slot (slot_kind k)) j) (sym here)
          ∙ set_same kinds e.slot (slot_kind k) (omega (arith, l, here))));
    })

  by_rest : (slice_get last m ≡ slice_get next m) ⊎ IsGiven names es m last → Settled
  by_rest (inr g) = inr (given_later names e es m last g)
  by_rest (inl same) = by_kind same (some_here (slice_get names e.selector))

-- the slot of each entry has been given its kind by one
pub entry_given : (names : List ℕ) (es : List FieldEntry) (kinds : List ℕ) (e : FieldEntry) (k : ℕ) → Contains es e
    → slice_get names e.selector ≡ Some k → e.slot < length kinds → IsGiven names es e.slot (painted names es kinds)
entry_given names [] kinds e k c named l = absurd (in_none e c)
entry_given names (z ∷ es) kinds e k c named l =
    by_place (in_cons z es e c) (λ d. entry_given names es next e k d named (omega (arith, l, long))) where
      next : List ℕ
      next = painted_by (slice_get names z.selector) z.slot kinds

      last : List ℕ
      last = painted names es next

      long : length next ≡ length kinds
      long = by_long (slice_get names z.selector) z.slot kinds

      by_kept : z ≡ e → (slice_get last e.slot ≡ slice_get next e.slot) ⊎ IsGiven names es e.slot last
          → IsGiven names (z ∷ es) e.slot last
      by_kept same (inr g) = given_later names z es e.slot last g
      by_kept same (inl kept) = record {
        entry = z;
        among = first z es;
        slot = ap (λ (x : FieldEntry). x.slot) same;
        kind = k;
        named = subst (λ (x : FieldEntry). slice_get names x.selector ≡ Some k) (sym same) named;
        at = kept
            ∙ (ap (λ (x : FieldEntry). slice_get (painted_by (slice_get names x.selector) x.slot kinds) e.slot) same
            ∙ (ap (λ (o : Option ℕ). slice_get (painted_by o e.slot kinds) e.slot) named
            ∙ set_same kinds e.slot (slot_kind k) l));
      }

      by_place : (z ≡ e) ⊎ Contains es e → (Contains es e → IsGiven names es e.slot last)
          → IsGiven names (z ∷ es) e.slot last
      by_place (inl same) again = by_kept same (kept_or_given names es next e.slot (omega (arith, l, long)))
      by_place (inr d) again = given_later names z es e.slot last (again d)

-- ---- all groups

-- a row of the group has an entry that has given the slot its kind
pub record IsGivenIn (names : List ℕ) (rows : List ClassRow) (j m : ℕ) (g : Group) : Type 0 where
  pub row : ClassRow
  pub among : Contains rows row
  pub group : row.group ≡ j
  pub given : IsGiven names row.fields m g.slots

-- the group number j, which has as many slots as it had; each is as it was, or it was given its kind
pub record IsPainted (names : List ℕ) (rows : List ClassRow) (j : ℕ) (old : Group) (groups : List Group) : Type 0 where
  pub group : Group
  pub at : slice_get groups j ≡ Some group
  pub long : length group.slots ≡ length old.slots
  pub kept_or_given : (m : ℕ) → m < length old.slots
      → (slice_get group.slots m ≡ slice_get old.slots m) ⊎ IsGivenIn names rows j m group

in_later : (names : List ℕ) (r : ClassRow) (rows : List ClassRow) (j m : ℕ) (g : Group) → IsGivenIn names rows j m g
    → IsGivenIn names (r ∷ rows) j m g
in_later names r rows j m g x = record {
  row = x.row;
  among = later r rows x.row x.among;
  group = x.group;
  given = x.given;
}

-- what a row makes of the group number j
record AfterRow (names : List ℕ) (r : ClassRow) (j : ℕ) (old : Group) (groups : List Group) : Type 0 where
  group : Group
  at : slice_get (painted_in names r (slice_get groups r.group) groups) j ≡ Some group
  long : length group.slots ≡ length old.slots
  kept_or_given : (m : ℕ) → m < length old.slots
      → (slice_get group.slots m ≡ slice_get old.slots m) ⊎ ((r.group ≡ j) × IsGiven names r.fields m group.slots)
  mine : r.group ≡ j → (e : FieldEntry) (k : ℕ) → Contains r.fields e → slice_get names e.selector ≡ Some k
      → e.slot < length old.slots → IsGiven names r.fields e.slot group.slots

after_row : (names : List ℕ) (r : ClassRow) (j : ℕ) (old : Group) (groups : List Group) → slice_get groups j ≡ Some old
    → AfterRow names r j old groups
after_row names r j old groups at = by_group (same_or_not r.group j) where
  there : r.group ≡ j → slice_get groups r.group ≡ Some old
  there e = ap (slice_get groups) e ∙ at

  by_group : (r.group ≡ j) ⊎ (r.group ≡ j → ⊥) → AfterRow names r j old groups
  by_group (inl e) = record {
    group = record { slots = painted names r.fields old.slots };
    at = ap (λ (o : Option Group). slice_get (painted_in names r o groups) j) (there e)
        ∙ (ap (slice_get (set groups r.group (record { slots = painted names r.fields old.slots }))) (sym e)
        ∙ set_same groups r.group (record { slots = painted names r.fields old.slots })
        (slice_get_within groups r.group old (there e)));
    long = painted_long names r.fields old.slots;
    kept_or_given = λ m l. by_kept m (kept_or_given names r.fields old.slots m l);
    mine = λ here x k c named l. entry_given names r.fields old.slots x k c named l;
  } where
    by_kept : (m : ℕ)
        → (slice_get (painted names r.fields old.slots) m ≡ slice_get old.slots m)
        ⊎ IsGiven names r.fields m (painted names r.fields old.slots)
        → (slice_get (painted names r.fields old.slots) m ≡ slice_get old.slots m)
        ⊎ ((r.group ≡ j) × IsGiven names r.fields m (painted names r.fields old.slots))
    by_kept m (inl same) = inl same
    by_kept m (inr g) = inr (e, g)
  by_group (inr other) = record {
    group = old;
    at = by_there (some_here (slice_get groups r.group)) ∙ at;
    long = refl;
    kept_or_given = λ m l. inl refl;
    mine = λ here. absurd (other here);
  } where
    by_there : ((g : Group) × (slice_get groups r.group ≡ Some g)) ⊎ (slice_get groups r.group ≡ None)
        → slice_get (painted_in names r (slice_get groups r.group) groups) j ≡ slice_get groups j
    by_there (inr none) = ap (λ (o : Option Group). slice_get (painted_in names r o groups) j) none
    by_there (inl (g, is)) =
        ap (λ (o : Option Group). slice_get (painted_in names r o groups) j) is
        ∙ set_other groups r.group j (record { slots = painted names r.fields g.slots }) other

pub group_painted : (names : List ℕ) (rows : List ClassRow) (j : ℕ) (old : Group) (groups : List Group)
    → slice_get groups j ≡ Some old → IsPainted names rows j old (painted_rows names rows groups)
group_painted names [] j old groups at = record {
  group = old;
  at = at;
  long = refl;
  kept_or_given = λ m l. inl refl;
}
group_painted names (r ∷ rows) j old groups at = joined (group_painted names rows j now.group next now.at) where
  next : List Group
  next = painted_in names r (slice_get groups r.group) groups

  now : AfterRow names r j old groups
  now = after_row names r j old groups at

  by_now : (g : Group) (m : ℕ) → slice_get g.slots m ≡ slice_get now.group.slots m
      → (slice_get now.group.slots m ≡ slice_get old.slots m)
      ⊎ ((r.group ≡ j) × IsGiven names r.fields m now.group.slots)
      → (slice_get g.slots m ≡ slice_get old.slots m) ⊎ IsGivenIn names (r ∷ rows) j m g
  by_now g m same (inl kept) = inl (same ∙ kept)
  by_now g m same (inr (e, x)) = inr (record {
    row = r;
    among = first r rows;
    group = e;
    given = record {
      entry = x.entry;
      among = x.among;
      slot = x.slot;
      kind = x.kind;
      named = x.named;
      at = same ∙ x.at;
    };
  })

  by_rest : (g : Group) (m : ℕ) → m < length old.slots
      → (slice_get g.slots m ≡ slice_get now.group.slots m) ⊎ IsGivenIn names rows j m g
      → (slice_get g.slots m ≡ slice_get old.slots m) ⊎ IsGivenIn names (r ∷ rows) j m g
  by_rest g m l (inr x) = inr (in_later names r rows j m g x)
  by_rest g m l (inl same) = by_now g m same (now.kept_or_given m l)

  joined : IsPainted names rows j now.group (painted_rows names rows next)
      → IsPainted names (r ∷ rows) j old (painted_rows names rows next)
  joined rest = record {
    group = rest.group;
    at = rest.at;
    long = rest.long ∙ now.long;
    kept_or_given = λ m l.
        by_rest rest.group m l (rest.kept_or_given m (let h = now.long in omega (arith, l, h)));
  }

-- the slot of each entry of each row of the group has been given its kind
pub row_given : (names : List ℕ) (rows : List ClassRow) (j : ℕ) (old : Group) (groups : List Group)
    → slice_get groups j ≡ Some old → (row : ClassRow) → Contains rows row → row.group ≡ j
    → (e : FieldEntry) (k : ℕ) → Contains row.fields e → slice_get names e.selector ≡ Some k → e.slot < length old.slots
    → (g : Group) → slice_get (painted_rows names rows groups) j ≡ Some g → IsGivenIn names rows j e.slot g
row_given names [] j old groups at row among is e k c named l g there = absurd (in_none row among)
row_given names (r ∷ rows) j old groups at row among is e k c named l g there =
    by_place (in_cons r rows row among)
    (λ d. row_given names rows j now.group next now.at row d is e k c named less g there) where
      next : List Group
      next = painted_in names r (slice_get groups r.group) groups

      now : AfterRow names r j old groups
      now = after_row names r j old groups at

      less : e.slot < length now.group.slots
      less = let h = now.long in omega (arith, l, h)

      rest : IsPainted names rows j now.group (painted_rows names rows next)
      rest = group_painted names rows j now.group next now.at

      same_group : rest.group ≡ g
      same_group = let h : Some rest.group ≡ Some g = sym rest.at ∙ there in cc h

      by_kept : IsGiven names r.fields e.slot now.group.slots → r.group ≡ j
          → (slice_get rest.group.slots e.slot ≡ slice_get now.group.slots e.slot)
          ⊎ IsGivenIn names rows j e.slot rest.group
          → IsGivenIn names (r ∷ rows) j e.slot g
      by_kept mine here (inr x) = subst (IsGivenIn names (r ∷ rows) j e.slot) same_group
          (in_later names r rows j e.slot rest.group x)
      by_kept mine here (inl kept) = subst (IsGivenIn names (r ∷ rows) j e.slot) same_group (record {
        row = r;
        among = first r rows;
        group = here;
        given = record {
          entry = mine.entry;
          among = mine.among;
          slot = mine.slot;
          kind = mine.kind;
          named = mine.named;
          at = kept ∙ mine.at;
        };
      })

      by_place : (r ≡ row) ⊎ Contains rows row → (Contains rows row → IsGivenIn names rows j e.slot g)
          → IsGivenIn names (r ∷ rows) j e.slot g
      by_place (inl same) again =
          let here : r.group ≡ j = ap (λ (x : ClassRow). x.group) same ∙ is in
          by_kept
          (now.mine here e k (subst (λ (x : ClassRow). Contains x.fields e) (sym same) c) named l)
          here (rest.kept_or_given e.slot less)
      by_place (inr d) again = in_later names r rows j e.slot g (again d)

-- ---- their form

least_kind : (k : ℕ) → IsFieldKind k → IsKind (slot_kind k)
least_kind k (one, most) = (omega (arith, one, most), omega (arith, one, most))

painted_kinds : (names : List ℕ) → All IsFieldKind names → (es : List FieldEntry) (kinds : List ℕ) → All IsKind kinds
    → All IsKind (painted names es kinds)
painted_kinds names all [] kinds good = good
painted_kinds names all (e ∷ es) kinds good =
    painted_kinds names all es (painted_by (slice_get names e.selector) e.slot kinds)
    (by_named (some_here (slice_get names e.selector))) where
      at_named : (xs : List ℕ) → All IsFieldKind xs → (i k : ℕ) → slice_get xs i ≡ Some k → IsFieldKind k
      at_named xs every i k at =
          All-contains IsFieldKind xs k every (i, slice_get_within xs i k at, get_or_from_slice_get xs i k k at)

      by_named : ((k : ℕ) × (slice_get names e.selector ≡ Some k)) ⊎ (slice_get names e.selector ≡ None)
          → All IsKind (painted_by (slice_get names e.selector) e.slot kinds)
      by_named (inr none) = subst (λ (o : Option ℕ). All IsKind (painted_by o e.slot kinds)) (sym none) good
      by_named (inl (k, named)) =
          subst (λ (o : Option ℕ). All IsKind (painted_by o e.slot kinds)) (sym named)
          (All-set IsKind kinds e.slot (slot_kind k) (least_kind k (at_named names all e.selector k named)) good)

pub painted_in_form : (names : List ℕ) → All IsFieldKind names → (rows : List ClassRow) (groups : List Group)
    → All GroupInForm groups → All GroupInForm (painted_rows names rows groups)
painted_in_form names all [] groups good = good
painted_in_form names all (r ∷ rows) groups good =
    painted_in_form names all rows (painted_in names r (slice_get groups r.group) groups)
    (by_there (some_here (slice_get groups r.group))) where
      by_there : ((g : Group) × (slice_get groups r.group ≡ Some g)) ⊎ (slice_get groups r.group ≡ None)
          → All GroupInForm (painted_in names r (slice_get groups r.group) groups)
      by_there (inr none) = subst (λ (o : Option Group). All GroupInForm (painted_in names r o groups)) (sym none) good
      by_there (inl (g, is)) =
          let old : GroupInForm g =
          All-contains GroupInForm groups g good
          (r.group, slice_get_within groups r.group g is, get_or_from_slice_get groups r.group g g is) in
          let long = painted_long names r.fields g.slots in
          let few = old.count in
          let new : GroupInForm (record { slots = painted names r.fields g.slots }) =
          record { count = omega (arith, long, few); slots = painted_kinds names all r.fields g.slots old.slots } in
          subst (λ (o : Option Group). All GroupInForm (painted_in names r o groups)) (sym is)
          (All-set GroupInForm groups r.group (record { slots = painted names r.fields g.slots }) new good)

pub painted_rows_long : (names : List ℕ) (rows : List ClassRow) (groups : List Group)
    → length (painted_rows names rows groups) ≡ length groups
painted_rows_long names [] groups = refl
painted_rows_long names (r ∷ rows) groups =
    painted_rows_long names rows (painted_in names r (slice_get groups r.group) groups)
    ∙ one_long (slice_get groups r.group) where
      one_long : (o : Option Group) → length (painted_in names r o groups) ≡ length groups
      one_long None = refl
      one_long (Some g) = length-set groups r.group (record { slots = painted names r.fields g.slots })
