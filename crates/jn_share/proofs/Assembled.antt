-- The slot numbers of all classes are right.
use Rattle.std.proofs.Common.{◌≡◌, ◌<◌, ◌≤◌, ◌↔◌, ◌⊎◌, inl, inr, ℕ, zero, suc, List, [], ◌∷◌, length, Contains, Some, slice_get, refl, sym, ap, ◌∙◌, subst, arith}
use Rattle.std.specs.declared.vec.Vec.{Vec}
use Rattle.std.specs.declared.alloc.Global.{Global}
use Rattle.std.proofs.lemmas.Option.{slice_get_read, slice_get_within}
use Rattle.jn_reach.specs.Each.{Each, none, more}
use Rattle.jn_reach.proofs.Eachs.{Each-at, Each-back, Each-length}
use Rattle.jn_reach.proofs.Searches.{same_some}
use Rattle.jn_base.specs.declared.tree.Name.{Name}
use Rattle.jn_base.specs.declared.tree.Kind.{Kind}
use Rattle.jn_base.specs.declared.tree.Kind.TheVariants as kind
use Rattle.jn_base.specs.declared.tree.Program.{Program}
use Rattle.jn_base.specs.Paths.{Path}
use Rattle.jn_base.specs.ClassOrder.{class_cmp, IsFirst}
use Rattle.jn_table.specs.declared.class.ClassId.{ClassId}
use Rattle.jn_table.specs.declared.class.Row.{Row}
use Rattle.jn_table.specs.declared.field_types.FieldTypes.{FieldTypes}
use Rattle.jn_table.specs.declared.table.Table.{Table}
use Rattle.jn_table.specs.Rows.{IsNumber, IsRow}
use Rattle.jn_table.proofs.Shown.{place_of_number}
use Rattle.jn_table.proofs.Sorted.{in_order}
use Rattle.jn_share.proofs.Numbered.{numbered_known}
use Rattle.jn_sem.specs.Values.{HasField}
use Rattle.jn_sem.specs.Sharing.{IsClass, Related}
use Rattle.jn_sem.specs.Slots.{OneSlot, FieldHangs, Slot, IsSlot, SlotOfGroup, IsSize}
use Rattle.jn_sem.proofs.FindingLaws.{finds_one_in}
use Rattle.jn_sem.proofs.SharedLaws.{sharing_laws}
use Rattle.jn_sem.proofs.SlotLaws.{slot_laws}
use Rattle.jn_share.specs.declared.field_first.FieldFirst.{FieldFirst}
use Rattle.jn_share.specs.declared.groups.Groups.{Groups}
use Rattle.jn_share.specs.declared.keys.FieldKey.{FieldKey}
use Rattle.jn_share.specs.declared.members.GroupMembers.{GroupMembers}
use Rattle.jn_share.specs.declared.slots.FieldSlot.{FieldSlot}
use Rattle.jn_share.specs.declared.slots.SlotRow.{SlotRow}
use Rattle.jn_share.specs.declared.slots.Slots.{Slots}
use Rattle.jn_share.specs.Firsts.{IsFirstSlot, AreFieldFirsts, FirstsTo}
use Rattle.jn_share.specs.Keys.{key, IsOnce, OnceEach, IsKeyOf, AreKeys, SlotFor, SlotRowFor, KeysFor, KeysAt, FieldsAt, SlotRowsTo}
use Rattle.jn_share.specs.Members.{AreGroupMembers}
use Rattle.jn_share.specs.Pairing.{IsAt}
use Rattle.jn_share.specs.Slots.{SlotsAsked, HasEntry, HasSlot, HasSize, IsHanging, HaveOneSlot, UsesSlot, AreSlotsOf, AreSlots}
use Rattle.jn_share.proofs.Covers.{path_there}
use Rattle.jn_share.proofs.Grouped.{start_at, one_start, start_related, row_there}
use Rattle.jn_share.proofs.KeyLists.{at_in}
use Rattle.jn_share.proofs.PairsFound.{same_number, same_path}

place : {A : Type 0} (xs : List A) (x : A) (c : Contains xs x) → slice_get xs c.0 ≡ Some x
place xs x c = slice_get_read xs (length xs) c.0 x refl c.1 (sym c.2)

one_kind : (k : Kind) → (k ≡ kind.Class) ⊎ (kind.Class ≡ k → ⊥)
one_kind kind.Class = inl refl
one_kind kind.Package = inr clash where
  clash : kind.Class ≡ kind.Package → ⊥
  clash e = cc e

-- ---- one path for each key

pub record SlotAt (p : Program) (t : Table) (k : FieldKey) (s : Slot) : Type 0 where
  pub class : IsAt t.known.items k.class s.class
  pub field : s.field ≡ k.field

slots_for : (p : Program) (t : Table) (ks : List FieldKey) → ((k : FieldKey) → Contains ks k → (R : Path) × IsAt t.known.items k.class R) → (slots : List Slot) × Each (SlotAt p t) ks slots
slots_for p t [] h = ([], none)
slots_for p t (k ∷ ks) h =
    let R = h k (0, omega arith, refl) in
    let r = slots_for p t ks (λ j c. h j (suc c.0, omega (arith, c.1), c.2)) in
    (record { class = R.0; field = k.field } ∷ r.0, more (record { class = R.1; field = refl }) r.1)

module _ (p : Program) (t : Table) (g : Groups) (types : FieldTypes) (asked : SlotsAsked p t g types) (lists : GroupMembers) (are : AreGroupMembers g lists)
    (rows : List (Vec FieldFirst Global)) (rows_long : length rows ≡ length t.known.items) (firsts : FirstsTo p t (length t.known.items) rows)
    (keys : List (Vec FieldKey Global)) (keys_for : KeysFor rows lists.numbers.items keys) where
  -- ---- classes and their slots

  class_or_not : (k : ℕ) (R : Path) → IsAt t.known.items k R → IsClass p R ⊎ (IsClass p R → ⊥)
  class_or_not k R a =
      let w = asked.filled.table.rows in
      let id : ClassId = record { 0 = k } in
      let r = Each-at (IsRow p t.known.items) w.each k R (place_of_number p w.paths t.known.items w.shown_are (in_order (class_cmp p) w.paths w.in_order) id R a) in
      by_kind r.0 r.2 (one_kind r.0.kind) where
        by_kind : (row : Row) → IsRow p t.known.items R row → (row.kind ≡ kind.Class) ⊎ (kind.Class ≡ row.kind → ⊥) → IsClass p R ⊎ (IsClass p R → ⊥)
        by_kind row is (inl e) = inl (record { universe = numbered_known p t R (record { 0 = k }) asked.filled a; kind = (is.kind kind.Class).1 (sym e) })
        by_kind row is (inr n) = inr (λ c. n ((is.kind kind.Class).0 c.kind))

  slot_once : (V : Path) (f : Name) (R S : Path) → IsFirst p (λ W. OneSlot p W V f) R → IsFirst p (λ W. OneSlot p W V f) S → R ≡ S
  slot_once V f R S x y =
      let named = asked.filled.table.named in
      ap (λ (s : Slot). s.class) ((finds_one_in p asked.declarations named.distinct named.paths).slot V f (record { class = R; field = f }) (record { class = S; field = f })
      (record { field = refl; first = x }) (record { field = refl; first = y }))

  -- the first class of a slot is its own first one
  own_first : (V : Path) (f : Name) (R : Path) → IsFirst p (λ W. OneSlot p W V f) R → IsFirst p (λ W. OneSlot p W R f) R
  own_first V f R x = record {
    holds = (slot_laws p asked.passes f).itself R x.holds.both.related.one x.holds.both.in_one;
    first = λ Q o b. x.first Q ((slot_laws p asked.passes f).joined Q R V o x.holds) b;
  }

  -- the fields of a class
  pub record ClassAt (k : ℕ) (V : Path) : Type 0 where
    pub start : ℕ
    pub starts_at : slice_get lists.starts.items k ≡ Some start
    pub numbers : Vec ℕ Global
    pub numbers_at : slice_get lists.numbers.items start ≡ Some numbers
    pub slots : Vec FieldKey Global
    pub slots_at : slice_get keys start ≡ Some slots
    pub are_slots : AreKeys rows numbers.items slots.items
    pub row : Vec FieldFirst Global
    pub row_at : slice_get rows k ≡ Some row
    pub are_fields : AreFieldFirsts p t.known.items V row.items

  pub class_at : (k : ℕ) (V : Path) → IsAt t.known.items k V → IsClass p V → ClassAt k V
  class_at k V a c =
      let s = start_at p t g asked.groups lists are k V a c in
      let n = row_there p t g asked.groups lists are k s.0 V a c s.1 in
      let q = Each-at (λ (among : Vec ℕ Global) (ks : Vec FieldKey Global). AreKeys rows among.items ks.items) keys_for s.0 n.0 n.1 in
      let f = firsts k V (slice_get_within t.known.items k _ a) a in
      record {
        start = s.0;
        starts_at = s.1;
        numbers = n.0;
        numbers_at = n.1;
        slots = q.0;
        slots_at = q.1;
        are_slots = q.2;
        row = f.0;
        row_at = f.1;
        are_fields = f.2 c;
      }

  pub keys_of_class : (k : ℕ) (V : Path) (w : ClassAt k V) → KeysAt keys lists.starts.items k w.slots.items
  keys_of_class k V w = record { start = w.start; row = w.slots; starts_at = w.starts_at; keys_at = w.slots_at; is = refl }

  pub fields_of_class : (k : ℕ) (V : Path) (w : ClassAt k V) → FieldsAt rows k w.row.items
  fields_of_class k V w = record { row = w.row; at = w.row_at; is = refl }

  -- related classes have the same slots
  same_slots : (k j : ℕ) (V W : Path) → IsAt t.known.items k V → IsAt t.known.items j W → Related p V W → (v : ClassAt k V) (w : ClassAt j W) → v.slots ≡ w.slots
  same_slots k j V W a b r v w =
      let e = one_start p t g asked.groups lists are k j V W a b r v.start w.start v.starts_at w.starts_at in
      same_some (slice_get keys w.start) v.slots w.slots (subst (λ (s : ℕ). slice_get keys s ≡ Some v.slots) e v.slots_at) w.slots_at

  -- a field of a class, by its name
  field_at : (k : ℕ) (V : Path) (w : ClassAt k V) (f : Name) → HasField p V f → (x : FieldFirst) × Contains w.row.items x × (x.field ≡ f)
  field_at k V w f h = (w.are_fields.has f).0 h

  -- ---- the keys of a group

  record KeyIs (V : Path) (k : FieldKey) : Type 0 where
    class : Path
    at : IsAt t.known.items k.class class
    is : IsClass p class
    related : Related p class V
    first : IsFirst p (λ W. OneSlot p W class k.field) class

  key_sound : (v : ℕ) (V : Path) → IsAt t.known.items v V → IsClass p V → (w : ClassAt v V) → (k : FieldKey) → Contains w.slots.items k → KeyIs V k
  key_sound v V a c w k m =
      let s = (w.are_slots.exact k).0 m in
      let R = path_there p t asked.filled k.class (subst (λ (n : ℕ). k.class < n) rows_long (slice_get_within rows k.class s.row s.at)) in
      by_class s R.0 R.1 (class_or_not k.class R.0 R.1) where
        by_class : (s : IsKeyOf rows (Contains w.numbers.items) k) (R : Path) → IsAt t.known.items k.class R → IsClass p R ⊎ (IsClass p R → ⊥) → KeyIs V k
        by_class s R b (inr n) =
            let f = firsts k.class R (slice_get_within t.known.items k.class _ b) b in
            let row : f.0 ≡ s.row = same_some (slice_get rows k.class) f.0 s.row f.1 s.at in
            absurd (empty s.row.items (sym (ap (λ (r : Vec FieldFirst Global). r.items) row) ∙ f.3 n) s.own.field s.own.among) where
              empty : (xs : List FieldFirst) → xs ≡ [] → (x : FieldFirst) → Contains xs x → ⊥
              empty xs e x q = let h = subst (λ (ys : List FieldFirst). Contains ys x) e q in let l = h.1 in omega arith
        by_class s R b (inl d) =
            let f = firsts k.class R (slice_get_within t.known.items k.class _ b) b in
            let row : f.0 ≡ s.row = same_some (slice_get rows k.class) f.0 s.row f.1 s.at in
            let fields : AreFieldFirsts p t.known.items R s.row.items = subst (λ (r : Vec FieldFirst Global). AreFieldFirsts p t.known.items R r.items) row (f.2 d) in
            let first = fields.first s.own.field s.own.among in
            let name : s.own.field.field ≡ k.field = ap (λ (z : FieldKey). z.field) (sym s.own.is) in
            let same : first.class ≡ R = same_path t.known.items k.class first.class R (subst (λ (n : ℕ). IsAt t.known.items n first.class) s.own.first first.at) b in
            let r : IsFirst p (λ W. OneSlot p W R s.own.field.field) R = subst (IsFirst p (λ W. OneSlot p W R s.own.field.field)) same first.first in
            let at_r = ((are.numbers.each w.start w.numbers w.numbers_at).exact k.class).0 s.among in
            record {
              class = R;
              at = b;
              is = d;
              related = start_related p t g asked.groups lists are k.class v R V b a d c w.start at_r w.starts_at;
              first = subst (λ (f : Name). IsFirst p (λ W. OneSlot p W R f) R) name r;
            }

  key_complete : (v : ℕ) (V : Path) → IsAt t.known.items v V → IsClass p V → (w : ClassAt v V) → (r : ℕ) (R : Path) (f : Name) → IsAt t.known.items r R → Related p R V
      → IsFirst p (λ W. OneSlot p W R f) R → Contains w.slots.items (key r f)
  key_complete v V a c w r R f b rel x =
      let u = class_at r R b rel.one in
      let y = field_at r R u f x.holds.both.in_one in
      let z = u.are_fields.first y.0 y.1 in
      let first : IsFirst p (λ W. OneSlot p W R f) z.class = subst (λ (n : Name). IsFirst p (λ W. OneSlot p W R n) z.class) y.2 z.first in
      let same : z.class ≡ R = slot_once R f z.class R first x in
      let number : y.0.first ≡ r = same_number p t asked.filled y.0.first r R (subst (IsAt t.known.items y.0.first) same z.at) b in
      let e = one_start p t g asked.groups lists are r v R V b a rel u.start w.start u.starts_at w.starts_at in
      let among = ((are.numbers.each w.start w.numbers w.numbers_at).exact r).1 (u.starts_at ∙ ap Some e) in
      (w.are_slots.exact (key r f)).1 (record {
        among = among;
        row = u.row;
        at = u.row_at;
        own = record { field = y.0; among = y.1; first = number; is = ap (key r) (sym y.2) };
      })

  keys_once : (v : ℕ) (V : Path) (w : ClassAt v V) → IsOnce w.slots.items
  keys_once v V w = w.are_slots.once once_each where
    once_each : (m : ℕ) (row : Vec FieldFirst Global) → Contains w.numbers.items m → slice_get rows m ≡ Some row → OnceEach row.items
    once_each m row c at =
        let R = path_there p t asked.filled m (subst (λ (n : ℕ). m < n) rows_long (slice_get_within rows m row at)) in
        by_class R.0 R.1 (class_or_not m R.0 R.1) where
          by_class : (R : Path) → IsAt t.known.items m R → IsClass p R ⊎ (IsClass p R → ⊥) → OnceEach row.items
          by_class R b (inl d) =
              let f = firsts m R (slice_get_within t.known.items m _ b) b in
              let same : f.0 ≡ row = same_some (slice_get rows m) f.0 row f.1 at in
              subst (λ (r : Vec FieldFirst Global). OnceEach r.items) same (f.2 d).once
          by_class R b (inr n) =
              let f = firsts m R (slice_get_within t.known.items m _ b) b in
              let same : f.0 ≡ row = same_some (slice_get rows m) f.0 row f.1 at in
              subst OnceEach (sym (sym (ap (λ (r : Vec FieldFirst Global). r.items) same) ∙ f.3 n)) (λ i j x y q. absurd (cc q))

  -- the key of a field of a class
  its_key : (v : ℕ) (V : Path) → IsAt t.known.items v V → IsClass p V → (w : ClassAt v V) (x : FieldFirst) → Contains w.row.items x → Contains w.slots.items (key x.first x.field)
  its_key v V a c w x m =
      let z = w.are_fields.first x m in
      key_complete v V a c w x.first z.class x.field z.at z.first.holds.both.related (own_first V x.field z.class z.first)

  -- ---- the size of a group

  pub size_is : (v : ℕ) (V : Path) → IsAt t.known.items v V → IsClass p V → (w : ClassAt v V) (n : ℕ) → n ≡ suc (length w.slots.items) → IsSize p V n
  size_is v V a c w n e =
      let s = slots_for p t w.slots.items (λ k m. let r = key_sound v V a c w k m in (r.class, r.at)) in
      record { class = c; slots = s.0; exact = exact s.0 s.1; once = once s.0 s.1; is = e ∙ ap suc (sym (Each-length (SlotAt p t) s.1)) } where
        exact : (slots : List Slot) → Each (SlotAt p t) w.slots.items slots → (s : Slot) → Contains slots s ↔ SlotOfGroup p V s
        exact slots each s = (to, from) where
          to : Contains slots s → SlotOfGroup p V s
          to m =
              let k = Each-back (SlotAt p t) each m.0 s (place slots s m) in
              let r = key_sound v V a c w k.0 (at_in w.slots.items m.0 k.0 k.1) in
              let same : r.class ≡ s.class = same_path t.known.items k.0.class r.class s.class r.at k.2.class in
              record {
                view = r.class;
                related = (sharing_laws p).turned r.class V r.related;
                field = k.0.field;
                slot = record { field = k.2.field; first = subst (IsFirst p (λ W. OneSlot p W r.class k.0.field)) same r.first };
              }

          from : SlotOfGroup p V s → Contains slots s
          from h =
              let x = h.slot.first in
              let R = asked.filled.whole.whole s.class x.holds.both.related.one.universe in
              let related : Related p s.class V = (sharing_laws p).joined s.class h.view V x.holds.both.related ((sharing_laws p).turned V h.view h.related) in
              let m = key_complete v V a c w R.0.0 s.class h.field R.1 related (own_first h.view h.field s.class x) in
              let k = Each-at (SlotAt p t) each m.0 (key R.0.0 h.field) (place w.slots.items (key R.0.0 h.field) m) in
              let path : k.0.class ≡ s.class = same_path t.known.items R.0.0 k.0.class s.class k.2.class R.1 in
              let field : k.0.field ≡ s.field = k.2.field ∙ sym h.slot.field in
              subst (Contains slots) (one_slot k.0 s path field) (at_in slots m.0 k.0 k.1) where
                one_slot : (x y : Slot) → x.class ≡ y.class → x.field ≡ y.field → x ≡ y
                one_slot x y q r i = record { class = q i; field = r i }

        once : (slots : List Slot) → Each (SlotAt p t) w.slots.items slots → (i j : ℕ) (s : Slot) → slice_get slots i ≡ Some s → slice_get slots j ≡ Some s → i ≡ j
        once slots each i j s x y =
            let k = Each-back (SlotAt p t) each i s x in
            let l = Each-back (SlotAt p t) each j s y in
            let class : l.0.class ≡ k.0.class = same_number p t asked.filled l.0.class k.0.class s.class l.2.class k.2.class in
            let field : l.0.field ≡ k.0.field = sym l.2.field ∙ k.2.field in
            keys_once v V w i j k.0 k.1 (l.1 ∙ ap Some (one_key l.0 k.0 class field)) where
              one_key : (m o : FieldKey) → m.class ≡ o.class → m.field ≡ o.field → m ≡ o
              one_key m o q r i = record { class = q i; field = r i }

  -- ---- the numbers of slots

  module _ (s : Slots) (out : SlotRowsTo t keys lists.starts.items rows (length t.known.items) s.rows.items)
      (few : (k : ℕ) (V : Path) (a : IsAt t.known.items k V) (c : IsClass p V) (w : ClassAt k V) → length w.slots.items ≤ 250) where
    record SlotsAt (k : ℕ) (V : Path) (w : ClassAt k V) : Type 0 where
      row : SlotRow
      at : slice_get s.rows.items k ≡ Some row
      is : SlotRowFor w.slots.items w.row.items row

    slots_at : (k : ℕ) (V : Path) → IsAt t.known.items k V → IsClass p V → (w : ClassAt k V) → SlotsAt k V w
    slots_at k V a c w =
        let r = out k (slice_get_within t.known.items k _ a) in
        record { row = r.0; at = r.1; is = (r.2 p V asked.filled a).0 c w.slots.items w.row.items (keys_of_class k V w) (fields_of_class k V w) }

    -- the field of an entry
    record FieldOf (k : ℕ) (V : Path) (w : ClassAt k V) (r : SlotsAt k V w) (f : Name) (e : FieldSlot) : Type 0 where
      i : ℕ
      field : FieldFirst
      field_at : slice_get w.row.items i ≡ Some field
      named : field.field ≡ f
      entry_at : slice_get r.row.fields.items i ≡ Some e
      for : SlotFor w.slots.items field e

    field_of : (k : ℕ) (V : Path) (w : ClassAt k V) (r : SlotsAt k V w) (f : Name) (e : FieldSlot) → HasEntry s.rows.items (record { 0 = k }) f e → FieldOf k V w r f e
    field_of k V w r f e h =
        let same : h.row ≡ r.row = same_some (slice_get s.rows.items k) h.row r.row h.at r.at in
        let m : Contains r.row.fields.items e = subst (λ (x : SlotRow). Contains x.fields.items e) same h.among in
        let b = Each-back (SlotFor w.slots.items) r.is.each m.0 e (place r.row.fields.items e m) in
        record {
          i = m.0;
          field = b.0;
          field_at = b.1;
          named = sym b.2.field ∙ h.field;
          entry_at = place r.row.fields.items e m;
          for = b.2;
        }

    entry_of : (k : ℕ) (V : Path) (w : ClassAt k V) (r : SlotsAt k V w) (f : Name) → HasField p V f → (e : FieldSlot) × HasEntry s.rows.items (record { 0 = k }) f e
    entry_of k V w r f h =
        let x = field_at k V w f h in
        let b = Each-at (SlotFor w.slots.items) r.is.each x.1.0 x.0 (place w.row.items x.0 x.1) in
        (b.0, record { row = r.row; at = r.at; among = at_in r.row.fields.items x.1.0 b.0 b.1; field = b.2.field ∙ x.2 })

    -- one field has one entry
    same_entry : (k : ℕ) (V : Path) (w : ClassAt k V) (r : SlotsAt k V w) (f : Name) (d e : FieldSlot) → HasEntry s.rows.items (record { 0 = k }) f d
        → HasEntry s.rows.items (record { 0 = k }) f e → d ≡ e
    same_entry k V w r f d e x y =
        let m = field_of k V w r f d x in
        let n = field_of k V w r f e y in
        let i = w.are_fields.once m.i n.i m.field n.field m.field_at n.field_at (m.named ∙ sym n.named) in
        same_some (slice_get r.row.fields.items n.i) d e (subst (λ (j : ℕ). slice_get r.row.fields.items j ≡ Some d) i m.entry_at) n.entry_at

    -- the slot number of a field is the place of its key
    record NumberOf (k : ℕ) (V : Path) (w : ClassAt k V) (f : Name) (n : ℕ) : Type 0 where
      first : ℕ
      is_first : IsFirstSlot p t.known.items V f first
      key_at : slice_get w.slots.items n ≡ Some (key first f)

    number_of : (k : ℕ) (V : Path) → IsAt t.known.items k V → IsClass p V → (w : ClassAt k V) (f : Name) (n : ℕ) → HasSlot s (record { 0 = k }) f n → NumberOf k V w f n
    number_of k V a c w f n h =
        let r = slots_at k V a c w in
        let x = field_of k V w r f h.0 h.1 in
        let m = at_in w.row.items x.i x.field x.field_at in
        let q = x.for.slot (few k V a c w) (its_key k V a c w x.field m) in
        let first = w.are_fields.first x.field m in
        record {
          first = x.field.first;
          is_first = subst (λ (g : Name). IsFirstSlot p t.known.items V g x.field.first) x.named first;
          key_at = ap (slice_get w.slots.items) (sym h.2) ∙ (q ∙ ap (λ (g : Name). Some (key x.field.first g)) x.named);
        }

    size_of : (k : ℕ) (V : Path) → IsAt t.known.items k V → IsClass p V → (w : ClassAt k V) (n : ℕ) → HasSize s (record { 0 = k }) n → n ≡ suc (length w.slots.items)
    size_of k V a c w n h =
        let r = slots_at k V a c w in
        let same : h.row ≡ r.row = same_some (slice_get s.rows.items k) h.row r.row h.at r.at in
        sym h.is ∙ (ap (λ (x : SlotRow). x.size) same ∙ r.is.size (few k V a c w))

    has_slot : (k : ℕ) (V : Path) (w : ClassAt k V) (r : SlotsAt k V w) (f : Name) → HasField p V f → (n : ℕ) × HasSlot s (record { 0 = k }) f n
    has_slot k V w r f h = let e = entry_of k V w r f h in (e.0.slot, (e.0, e.1, refl))

    is_slot : (V : Path) (f : Name) (r : ℕ) (x : IsFirstSlot p t.known.items V f r) → IsSlot p V f (record { class = x.class; field = f })
    is_slot V f r x = record { field = refl; first = x.first }

    pub slots_of : (id : ClassId) (V : Path) → IsNumber t.known.items id V → IsClass p V → AreSlotsOf p t.known.items s id V
    slots_of id V a c = record {
      fields = λ f. (has_slot id.0 V w r f, λ h. let x = field_of id.0 V w r f h.1.0 h.1.1 in (w.are_fields.has f).1 (x.field, at_in w.row.items x.i x.field x.field_at, x.named));
      once = λ f m n x y. let e = same_entry id.0 V w r f x.0 y.0 x.1 y.1 in sym x.2 ∙ (ap (λ (z : FieldSlot). z.slot) e ∙ y.2);
      entry = λ f d e x y. same_entry id.0 V w r f d e x y;
      below = λ f n size x y.
          let k = number_of id.0 V a c w f n x in
          let l = slice_get_within w.slots.items n (key k.first f) k.key_at in
          let q = size_of id.0 V a c w size y in
          omega (arith, l, q);
      used = used;
      equal = equal;
      size = λ n x. size_is id.0 V a c w n (size_of id.0 V a c w n x);
      sized = (r.row.size, record { row = r.row; at = r.at; is = refl });
      hangs = hangs;
    } where
      w : ClassAt id.0 V
      w = class_at id.0 V a c

      r : SlotsAt id.0 V (class_at id.0 V a c)
      r = slots_at id.0 V a c (class_at id.0 V a c)

      used : (n size : ℕ) → HasSize s id size → suc n < size → UsesSlot p t.known.items s V n
      used n size y l =
          let v = class_at id.0 V a c in
          let q = size_of id.0 V a c v size y in
          let b : n < length v.slots.items = omega (arith, l, q) in
          let k = there v.slots.items n b in
          let x = key_sound id.0 V a c v k.0 (at_in v.slots.items n k.0 k.1) in
          let u = class_at k.0.class x.class x.at x.is in
          let e = has_slot k.0.class x.class u (slots_at k.0.class x.class x.at x.is u) k.0.field x.first.holds.both.in_one in
          let m = number_of k.0.class x.class x.at x.is u k.0.field e.0 e.1 in
          let same : m.is_first.class ≡ x.class = slot_once x.class k.0.field m.is_first.class x.class m.is_first.first x.first in
          let number : m.first ≡ k.0.class = same_number p t asked.filled m.first k.0.class x.class (subst (IsAt t.known.items m.first) same m.is_first.at) x.at in
          let lists_same : u.slots ≡ v.slots = same_slots k.0.class id.0 x.class V x.at a x.related u v in
          let key_there : slice_get v.slots.items e.0 ≡ Some k.0 =
          subst (λ (ks : Vec FieldKey Global). slice_get ks.items e.0 ≡ Some k.0) lists_same (m.key_at ∙ ap (λ (j : ℕ). Some (key j k.0.field)) number) in
          let place_same : e.0 ≡ n = keys_once id.0 V v e.0 n k.0 key_there k.1 in
          record {
            class = x.class;
            related = (sharing_laws p).turned x.class V x.related;
            id = record { 0 = k.0.class };
            number = x.at;
            field = k.0.field;
            slot = subst (HasSlot s (record { 0 = k.0.class }) k.0.field) place_same e.1;
          } where
            there : (ks : List FieldKey) (i : ℕ) → i < length ks → (k : FieldKey) × (slice_get ks i ≡ Some k)
            there [] i m = absurd (omega arith)
            there (y ∷ ys) zero m = (y, refl)
            there (y ∷ ys) (suc i) m = there ys i (omega (arith, m))

      equal : (T : Path) (other : ClassId) (f h : Name) (m n : ℕ) → IsNumber t.known.items other T → Related p V T → HasSlot s id f m → HasSlot s other h n
          → (m ≡ n) ↔ HaveOneSlot p V f T h
      equal T other f h m n b rel x y = (to, from) where
        to : m ≡ n → HaveOneSlot p V f T h
        to e =
            let v = class_at id.0 V a c in
            let u = class_at other.0 T b rel.other in
            let k = number_of id.0 V a c v f m x in
            let l = number_of other.0 T b rel.other u h n y in
            let lists_same : v.slots ≡ u.slots = same_slots id.0 other.0 V T a b rel v u in
            let one : key k.first f ≡ key l.first h =
            same_some (slice_get u.slots.items n) (key k.first f) (key l.first h)
            (subst (λ (j : ℕ). slice_get u.slots.items j ≡ Some (key k.first f)) e (subst (λ (ks : Vec FieldKey Global). slice_get ks.items m ≡ Some (key k.first f)) lists_same k.key_at))
            l.key_at in
            let number : k.first ≡ l.first = ap (λ (z : FieldKey). z.class) one in
            let field : f ≡ h = ap (λ (z : FieldKey). z.field) one in
            let class : l.is_first.class ≡ k.is_first.class =
            same_path t.known.items k.first l.is_first.class k.is_first.class (subst (λ (j : ℕ). IsAt t.known.items j l.is_first.class) (sym number) l.is_first.at) k.is_first.at in (
              record { class = k.is_first.class; field = f },
              is_slot V f k.first k.is_first,
              record { field = field; first = subst (IsFirst p (λ W. OneSlot p W T h)) class l.is_first.first },
            )

        from : HaveOneSlot p V f T h → m ≡ n
        from z =
            let v = class_at id.0 V a c in
            let u = class_at other.0 T b rel.other in
            let k = number_of id.0 V a c v f m x in
            let l = number_of other.0 T b rel.other u h n y in
            let lists_same : v.slots ≡ u.slots = same_slots id.0 other.0 V T a b rel v u in
            let field : f ≡ h = sym z.1.field ∙ z.2.field in
            let one : k.is_first.class ≡ z.0.class = slot_once V f k.is_first.class z.0.class k.is_first.first z.1.first in
            let two : l.is_first.class ≡ z.0.class = slot_once T h l.is_first.class z.0.class l.is_first.first z.2.first in
            let number : k.first ≡ l.first =
            same_number p t asked.filled k.first l.first z.0.class (subst (IsAt t.known.items k.first) one k.is_first.at) (subst (IsAt t.known.items l.first) two l.is_first.at) in
            let keys_same : key l.first h ≡ key k.first f = ap (λ (j : ℕ). key j h) (sym number) ∙ ap (key k.first) (sym field) in
            keys_once other.0 T u m n (key k.first f)
            (subst (λ (ks : Vec FieldKey Global). slice_get ks.items m ≡ Some (key k.first f)) lists_same k.key_at) (l.key_at ∙ ap Some keys_same)

      hangs : (f : Name) → IsHanging s id f ↔ FieldHangs p V f
      hangs f = (
        λ h.
            let v = class_at id.0 V a c in
            let x = field_of id.0 V v (slots_at id.0 V a c v) f h.0 h.1 in
            let m = at_in v.row.items x.i x.field x.field_at in
            subst (FieldHangs p V) x.named ((v.are_fields.hangs x.field m).0 (sym x.for.hangs ∙ h.2)),
        λ q.
            let v = class_at id.0 V a c in
            let o = slots_at id.0 V a c v in
            let e = entry_of id.0 V v o f (record { at = q.type.class; declares = q.type.is_field.declares }) in
            let x = field_of id.0 V v o f e.0 e.1 in
            let m = at_in v.row.items x.i x.field x.field_at in
            (e.0, e.1, x.for.hangs ∙ (v.are_fields.hangs x.field m).1 (subst (FieldHangs p V) (sym x.named) q)),
      )

    pub are_slots : AreSlots p t.known.items s
    are_slots = record {
      classes = slots_of;
      no_slot = λ id V f n a k h.
          let r = out id.0 (slice_get_within t.known.items id.0 _ a) in
          let e = (r.2 p V asked.filled a).1 k in
          let same : h.1.row ≡ r.0 = same_some (slice_get s.rows.items id.0) h.1.row r.0 h.1.at r.1 in
          nothing (subst (λ (xs : List FieldSlot). Contains xs h.0) e.0 (subst (λ (x : SlotRow). Contains x.fields.items h.0) same h.1.among));
      no_size = λ id V n a k h.
          let r = out id.0 (slice_get_within t.known.items id.0 _ a) in
          let e = (r.2 p V asked.filled a).1 k in
          let same : h.row ≡ r.0 = same_some (slice_get s.rows.items id.0) h.row r.0 h.at r.1 in
          sym h.is ∙ (ap (λ (x : SlotRow). x.size) same ∙ e.1);
    } where
      nothing : {x : FieldSlot} → Contains [] x → ⊥
      nothing c = let l = c.1 in omega arith
