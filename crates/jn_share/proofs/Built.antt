-- The limits are checked, and what is built is right.
use Rattle.std.proofs.Common.{◌≡◌, ◌<◌, ◌≤◌, ◌↔◌, ◌⊎◌, inl, inr, ℕ, suc, List, [], length, Contains, Some, None, Option, slice_get, true, false, IsTrue, refl, sym, ap, ◌∙◌, subst, arith, Result, Ok, Err}
use Rattle.std.specs.declared.vec.Vec.{Vec}
use Rattle.std.specs.declared.alloc.Global.{Global}
use Rattle.std.proofs.lemmas.Bool.{cases_lt}
use Rattle.std.proofs.lemmas.Option.{slice_get_within}
use Rattle.jn_base.specs.declared.tree.Place.{Place}
use Rattle.jn_base.specs.declared.tree.Program.{Program}
use Rattle.jn_base.specs.declared.refusal.Limit.TheVariants as limit
use Rattle.jn_base.specs.declared.refusal.Refusal.{Refusal}
use Rattle.jn_base.specs.Paths.{Path}
use Rattle.jn_base.specs.ClassOrder.{class_cmp, Before, IsFirst, HasDistinctNames}
use Rattle.jn_base.specs.Duplicates.{duplicates}
use Rattle.jn_base.specs.LawsOfTable.{NamesItsPaths}
use Rattle.jn_base.specs.Limits.{greatest}
use Rattle.jn_base.specs.Members.{IsHome}
use Rattle.jn_base.specs.TableRules.{NoneIs}
use Rattle.jn_base.specs.Universe.{InUniverse}
use Rattle.jn_base.proofs.ClassOrders.{before_total}
use Rattle.jn_base.proofs.Homes.{home_of}
use Rattle.jn_base.proofs.TableLaws.{one_home, universe_named}
use Rattle.jn_table.specs.declared.class.ClassId.{ClassId}
use Rattle.jn_table.specs.declared.field_types.FieldTypes.{FieldTypes}
use Rattle.jn_table.specs.declared.table.Table.{Table}
use Rattle.jn_table.specs.Tables.{IsFilled}
use Rattle.jn_table.proofs.Sorted.{in_order}
use Rattle.jn_table.proofs.Shown.{numbers_before}
use Rattle.jn_homes.specs.Homes.{HomeIs}
use Rattle.jn_sem.specs.Sharing.{IsClass}
use Rattle.jn_share.specs.declared.fault.ShareFault.{ShareFault}
use Rattle.jn_share.specs.declared.fault.ShareFault.TheVariants.{Refused, Memory}
use Rattle.jn_share.specs.declared.field_first.FieldFirst.{FieldFirst}
use Rattle.jn_share.specs.declared.groups.Groups.{Groups}
use Rattle.jn_share.specs.declared.keys.FieldKey.{FieldKey}
use Rattle.jn_share.specs.declared.members.GroupMembers.{GroupMembers}
use Rattle.jn_share.specs.declared.slots.Slots.{Slots}
use Rattle.jn_share.specs.Counting.{CountIs, Counts, IsEntryTo}
use Rattle.jn_share.specs.Firsts.{FirstsTo}
use Rattle.jn_share.specs.Keys.{KeysFor, SaysOver, NoneOverTo, SlotRowsTo}
use Rattle.jn_share.specs.Limits.{Entry, IsEntry, member, method, field, counterpart, path_of, TooManyEntries, TooManySlots, LimitRefused, entries, slots, LimitsPass, over_limit}
use Rattle.jn_share.specs.Listing.{IsFault}
use Rattle.jn_share.specs.Members.{AreGroupMembers}
use Rattle.jn_share.specs.Pairing.{IsAt}
use Rattle.jn_share.specs.Slots.{SlotsAsked, SlotsGive, SlotsRefusedOr, AreSlots}
use Rattle.jn_share.proofs.Assembled.{ClassAt, class_at, keys_of_class, size_is, are_slots}
use Rattle.jn_share.proofs.Fewer.{no_longer}

-- ---- entries

entry_known : (p : Program) (e : Entry) → IsEntry p e → InUniverse p (path_of e)
entry_known p e (member R C u m) = u
entry_known p e (method R m u h) = u
entry_known p e (field R f u h) = u
entry_known p e (counterpart R S r n) = r.one.universe

pub entries_over : (p : Program) (t : Table) (told : ℕ) → Counts (IsEntryTo p t.known.items (length t.known.items)) told → 1_048_576 < told → TooManyEntries p
entries_over p t told w more = record {
  list = w.list;
  each = λ e c. ((w.exact e).0 c).0;
  once = w.once;
  more = by_count w.count;
} where
  by_count : CountIs (length w.list) told → greatest limit.Entries < length w.list
  by_count (inl e) = omega (arith, e, more)
  by_count (inr h) = h.1

pub entries_within : (p : Program) (t : Table) → IsFilled p t → (told : ℕ) → Counts (IsEntryTo p t.known.items (length t.known.items)) told → told ≤ 1_048_576 → TooManyEntries p → ⊥
entries_within p t f told w few m = by_count w.count where
  known : (e : Entry) → Contains m.list e → Contains w.list e
  known e c =
      let i = m.each e c in
      let k = f.whole.whole (path_of e) (entry_known p e i) in
      (w.exact e).1 (i, (k.0.0, slice_get_within t.known.items k.0.0 _ k.1, k.1))

  by_count : CountIs (length w.list) told → ⊥
  by_count (inl e) = let q = no_longer m.list w.list m.once known in let n : 1_048_576 < length m.list = m.more in omega (arith, q, n, e, few)
  by_count (inr h) = let l = h.0 in omega (arith, l, few)

-- ---- one refusal

module _ (p : Program) (once : duplicates p ≡ []) (named : HasDistinctNames p) (paths : NamesItsPaths p) where
  one_first : (R S : Path) → IsFirst p (TooManySlots p) R → IsFirst p (TooManySlots p) S → R ≡ S
  one_first R S r s = by_order (before_total p named R S (universe_named p paths R r.holds.class.universe) (universe_named p paths S s.holds.class.universe)) where
    by_order : (R ≡ S) ⊎ (Before p R S ⊎ Before p S R) → R ≡ S
    by_order (inl e) = e
    by_order (inr (inl b)) = absurd (s.first R r.holds b)
    by_order (inr (inr b)) = absurd (r.first S s.holds b)

  one_limit : (q r : Refusal) → LimitRefused p q → LimitRefused p r → q ≡ r
  one_limit q r (entries m e) (entries n f) = e ∙ sym f
  one_limit q r (entries m e) (slots S to n s k f) = absurd (n m)
  one_limit q r (slots R at m s h e) (entries n f) = absurd (m n)
  one_limit q r (slots R at m s h e) (slots S to n u k f) =
      let same = one_first R S s u in
      let one : at ≡ to = one_home p once S at to (subst (λ (Q : Path). IsHome p Q at) same h) k in
      e ∙ (ap (over_limit limit.Slots) one ∙ sym f)

  passed : (r : Refusal) → LimitsPass p → LimitRefused p r → ⊥
  passed r ok (entries m e) = ok.entries m
  passed r ok (slots R at m s h e) = ok.slots R s.holds

  pub limits_refused : (known : List _) (res : Result Slots ShareFault) → SlotsGive p known res → (r : Refusal) → LimitRefused p r → SlotsRefusedOr r res
  limits_refused known (Ok s) g r h = passed r g.0 h
  limits_refused known (Err (Refused q)) g r h = one_limit q r g h
  limits_refused known (Err Memory) g r h = tt

pub gives_over : (p : Program) (known : List _) (r : Refusal) (fault : ShareFault) → LimitRefused p r → IsFault fault r → SlotsGive p known (Err fault)
gives_over p known r (Refused q) h e = subst (LimitRefused p) (sym e) h
gives_over p known r Memory h e = tt

-- ---- slots

module _ (p : Program) (t : Table) (g : Groups) (types : FieldTypes) (asked : SlotsAsked p t g types) (lists : GroupMembers) (are : AreGroupMembers g lists)
    (rows : List (Vec FieldFirst Global)) (rows_long : length rows ≡ length t.known.items) (firsts : FirstsTo p t (length t.known.items) rows)
    (keys : List (Vec FieldKey Global)) (keys_for : KeysFor rows lists.numbers.items keys) where
  at_class : (k : ℕ) (V : Path) → IsAt t.known.items k V → IsClass p V → ClassAt p t g types asked lists are rows rows_long firsts keys keys_for k V
  at_class = class_at p t g types asked lists are rows rows_long firsts keys keys_for

  -- many slots are many keys
  many : (k : ℕ) (V : Path) → IsAt t.known.items k V → (c : IsClass p V) → (w : ClassAt p t g types asked lists are rows rows_long firsts keys keys_for k V)
      → TooManySlots p V ↔ (250 < length w.slots.items)
  many k V a c w = (to, from) where
    to : TooManySlots p V → 250 < length w.slots.items
    to m =
        let s = size_is p t g types asked lists are rows rows_long firsts keys keys_for k V a c w (suc (length w.slots.items)) refl in
        let q = no_longer m.more.list s.slots m.more.once (λ x h. (s.exact x).1 (m.more.each x h)) in
        let n : 250 < length m.more.list = m.more.more in
        omega (arith, q, n, s.is)

    from : 250 < length w.slots.items → TooManySlots p V
    from l =
        let s = size_is p t g types asked lists are rows rows_long firsts keys keys_for k V a c w (suc (length w.slots.items)) refl in
        record { class = c; more = record { list = s.slots; each = λ x h. (s.exact x).0 h; once = s.once; more = omega (arith, l, s.is) } }

  few_at : (n k : ℕ) → NoneOverTo t keys lists.starts.items n → k < n → (V : Path) → IsAt t.known.items k V → (c : IsClass p V)
      → (w : ClassAt p t g types asked lists are rows rows_long firsts keys keys_for k V) → 250 < length w.slots.items → ⊥
  few_at n k none l V a c w m =
      let h : IsTrue false = ((none k l p V asked.filled a).1 w.slots.items (keys_of_class p t g types asked lists are rows rows_long firsts keys keys_for k V w)).1 (c, m) in
      cc h

  pub first_slots : (k : ℕ) (V : Path) → IsAt t.known.items k V → SaysOver t keys lists.starts.items k true → NoneOverTo t keys lists.starts.items k
      → IsFirst p (TooManySlots p) V
  first_slots k V a over none = record {
    holds = over_class ((over p V asked.filled a).0 refl);
    first = first;
  } where
    over_class : IsClass p V → TooManySlots p V
    over_class c =
        let w = at_class k V a c in
        (many k V a c w).1 (((over p V asked.filled a).1 w.slots.items (keys_of_class p t g types asked lists are rows rows_long firsts keys keys_for k V w)).0 refl).1

    first : (Q : Path) → TooManySlots p Q → Before p Q V → ⊥
    first Q m b =
        let r = asked.filled.table.rows in
        let j = asked.filled.whole.whole Q m.class.universe in
        let id : ClassId = record { 0 = k } in
        let lower = (numbers_before p r.paths t.known.items r.shown_are (in_order (class_cmp p) r.paths r.in_order) j.0 id Q V j.1 a).1 b in
        let w = at_class j.0.0 Q j.1 m.class in
        few_at k j.0.0 none lower Q j.1 m.class w ((many j.0.0 Q j.1 m.class w).0 m)

  pub none_over : NoneOverTo t keys lists.starts.items (length t.known.items) → NoneIs (TooManySlots p)
  none_over none V m =
      let j = asked.filled.whole.whole V m.class.universe in
      let w = at_class j.0.0 V j.1 m.class in
      few_at (length t.known.items) j.0.0 none (slice_get_within t.known.items j.0.0 _ j.1) V j.1 m.class w ((many j.0.0 V j.1 m.class w).0 m)

  pub few_slots : NoneOverTo t keys lists.starts.items (length t.known.items) → (k : ℕ) (V : Path) (a : IsAt t.known.items k V) (c : IsClass p V)
      → (w : ClassAt p t g types asked lists are rows rows_long firsts keys keys_for k V) → length w.slots.items ≤ 250
  few_slots none k V a c w = by_count (cases_lt 250 (length w.slots.items)) where
    by_count : (250 < length w.slots.items) ⊎ (length w.slots.items ≤ 250) → length w.slots.items ≤ 250
    by_count (inl m) = absurd (few_at (length t.known.items) k none (slice_get_within t.known.items k _ a) V a c w m)
    by_count (inr m) = m

  pub built : (s : Slots) → SlotRowsTo t keys lists.starts.items rows (length t.known.items) s.rows.items → NoneOverTo t keys lists.starts.items (length t.known.items)
      → (told : ℕ) → Counts (IsEntryTo p t.known.items (length t.known.items)) told → told ≤ 1_048_576 → LimitsPass p × AreSlots p t.known.items s
  built s out none told w few = (
    record { entries = entries_within p t asked.filled told w few; slots = none_over none },
    are_slots p t g types asked lists are rows rows_long firsts keys keys_for s out (few_slots none),
  )

  pub refused_at : (k : ℕ) (V : Path) → IsAt t.known.items k V → SaysOver t keys lists.starts.items k true → NoneOverTo t keys lists.starts.items k
      → (place : Place) → ((at : Place) → slice_get g.homes.items k ≡ Some (Some at) → place ≡ at)
      → (told : ℕ) → Counts (IsEntryTo p t.known.items (length t.known.items)) told → told ≤ 1_048_576 → LimitRefused p (over_limit limit.Slots place)
  refused_at k V a over none place is told w few =
      let first = first_slots k V a over none in
      let h = asked.groups.homes asked.declarations.once k V (slice_get_within t.known.items k _ a) a in
      by_home first h.0 h.1 h.2 where
        by_home : IsFirst p (TooManySlots p) V → (o : Option Place) → slice_get g.homes.items k ≡ Some o → HomeIs p V o → LimitRefused p (over_limit limit.Slots place)
        by_home first (Some at) e h = slots V at (entries_within p t asked.filled told w few) first h (ap (over_limit limit.Slots) (is at e))
        by_home first None e n = let q = home_of p V first.holds.class.universe in absurd (n q.at q.home)
