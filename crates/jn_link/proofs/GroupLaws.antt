-- The groups of an image are the program's: there is one for each class, of its size, with the kinds of its fields.
use Rattle.std.proofs.Common.{◌≡◌, ◌≤◌, ◌<◌, ◌-◌, ℕ, suc, List, [], ◌∷◌, length, map, All, Contains, Some, Bool, true, false, nat_eq, eqb-true, get_or, ◌⊎◌, inl, inr, slice_get, refl, sym, ap, ◌∙◌, subst, arith, cond}
use Rattle.std.specs.List.{find}
use Rattle.std.specs.Option.{option_map}
use Rattle.std.proofs.lemmas.List.{length-replicate}
use Rattle.std.proofs.lemmas.List.Elements.{All-contains, All-replicate}
use Rattle.std.proofs.lemmas.Bool.{cases_lt}
use Rattle.std.proofs.lemmas.Option.{slice_get_read, slice_get-map, slice_get-get_or}
use Rattle.jn_reach.specs.Each.{Each}
use Rattle.jn_reach.proofs.Eachs.{Each-at, Each-back, Each-length}
use Rattle.jn_reach.proofs.Searches.{same_some}
use Rattle.jn_base.specs.declared.tree.Name.{Name}
use Rattle.jn_base.specs.declared.tree.Program.{Program}
use Rattle.jn_base.specs.declared.types.Ty.{Ty}
use Rattle.jn_base.specs.declared.types.Ty.TheVariants as ty
use Rattle.jn_base.specs.Paths.{Path}
use Rattle.jn_base.specs.ClassOrder.{IsFirst}
use Rattle.jn_base.specs.TableRules.{DeclarationsPass, NoneIs}
use Rattle.jn_base.proofs.NameTests.{in_none, first, later}
use Rattle.jn_table.specs.declared.table.Table.{Table}
use Rattle.jn_table.specs.Rows.{IsNumber}
use Rattle.jn_table.proofs.Maps.{in_list}
use Rattle.jn_names.specs.declared.members.Members.{Members}
use Rattle.jn_sem.specs.Sharing.{IsClass, Related, HangsOnThis}
use Rattle.jn_sem.specs.Slots.{Slot, IsSlot, IsSize, FieldType}
use Rattle.jn_sem.specs.LawsOfSlots.{FieldsPass}
use Rattle.jn_sem.specs.LawsOfSharing.{SharingOf}
use Rattle.jn_sem.proofs.Codes.{contains_of}
use Rattle.jn_sem.proofs.FindingLaws.{finds_one}
use Rattle.jn_sem.proofs.SharedLaws.{sharing_laws}
use Rattle.jn_laws.proofs.StoredValues.{one_type}
use Rattle.jn_rules.specs.Members.{TooManySlots}
use Rattle.jn_share.specs.declared.groups.Groups.{Groups}
use Rattle.jn_share.specs.declared.slots.Slots.{Slots}
use Rattle.jn_share.specs.Pairing.{IsAt}
use Rattle.jn_share.specs.Slots.{HasSlot, HaveOneSlot, AreSlotsOf}
use Rattle.jn_code.specs.declared.image.Image.{Image}
use Rattle.jn_code.specs.declared.image.Group.{Group}
use Rattle.jn_code.specs.declared.image.ClassRow.{ClassRow}
use Rattle.jn_code.specs.declared.image.FieldEntry.{FieldEntry}
use Rattle.jn_code.specs.Form.{IsKind, IsFieldKind, GroupInForm, RowInForm}
use Rattle.jn_code.specs.Machine.{slot_in}
use Rattle.jn_agree.specs.declared.selectors.Selectors.{Selectors}
use Rattle.jn_agree.specs.declared.selectors.FieldSel.{FieldSel}
use Rattle.jn_agree.specs.Naming.{Naming}
use Rattle.jn_agree.specs.Matches.{RowOf, SlotNumber}
use Rattle.jn_agree.specs.Rows.{FieldKind, plain, hanging, kind_of_type, RowIs, GroupsAre}
use Rattle.jn_layout.specs.Asked.{RowsAsked}
use Rattle.jn_layout.specs.Lookups.{FieldPlace}
use Rattle.jn_layout.specs.RowLists.{RowsRight}
use Rattle.jn_layout.proofs.Faultless.{told_own}
use Rattle.jn_layout.proofs.PartProof.{at_class, one_number}
use Rattle.jn_link.specs.Start.{sel_kind}
use Rattle.jn_link.specs.Groups.{slot_kind, IsBlankFor, AreGroupsFor, GivesGroups}
use Rattle.jn_link.proofs.Painting.{IsGivenIn, IsPainted, group_painted, row_given, painted_in_form, painted_rows_long}

-- ---- the entry of a slot

record FoundEntry (es : List FieldEntry) (k m : ℕ) : Type 0 where
  entry : FieldEntry
  among : Contains es entry
  selector : entry.selector ≡ k
  slot : entry.slot ≡ m

entry_found : (es : List FieldEntry) (k m : ℕ)
    → option_map (λ (e : FieldEntry). e.slot) (find (λ (e : FieldEntry). nat_eq e.selector k) es) ≡ Some m
    → FoundEntry es k m
entry_found [] k m e = absurd (cc e)
entry_found (x ∷ es) k m e = by_test (nat_eq x.selector k) refl (λ h. entry_found es k m h) where
  by_test : (b : Bool) → nat_eq x.selector k ≡ b
      → (option_map (λ (y : FieldEntry). y.slot) (find (λ (y : FieldEntry). nat_eq y.selector k) es) ≡ Some m
      → FoundEntry es k m)
      → FoundEntry (x ∷ es) k m
  by_test true t again =
      let h : Some x.slot ≡ Some m =
      ap (λ (d : Bool). option_map (λ (y : FieldEntry). y.slot)
      (cond d (Some x) (find (λ (y : FieldEntry). nat_eq y.selector k) es))) (sym t) ∙ e in
      record { entry = x; among = first x es; selector = eqb-true x.selector k t; slot = cc h }
  by_test false t again =
      let w = again
      (ap (λ (d : Bool). option_map (λ (y : FieldEntry). y.slot)
      (cond d (Some x) (find (λ (y : FieldEntry). nat_eq y.selector k) es))) (sym t) ∙ e) in
      record { entry = w.entry; among = later x es w.entry w.among; selector = w.selector; slot = w.slot }

-- 4 counts as 3, and a type that hangs on `this` is that of a reference
kind_counted : (t : Ty) (k : ℕ) → FieldKind t k → slot_kind k ≡ kind_of_type t
kind_counted t k (plain u e) = by_type t e where
  by_type : (v : Ty) → k ≡ kind_of_type v → slot_kind k ≡ kind_of_type v
  by_type ty.Int h = ap slot_kind h
  by_type ty.Bool h = ap slot_kind h
  by_type ty.Null h = ap slot_kind h
  by_type ty.Void h = ap slot_kind h
  by_type (ty.Class xs m) h = ap slot_kind h
kind_counted t k (hanging h e) = ap slot_kind e ∙ by_type t h where
  by_type : (u : Ty) → HangsOnThis u → slot_kind 4 ≡ kind_of_type u
  by_type ty.Int x = absurd (in_none x.atom (contains_of [] x.atom x.among))
  by_type ty.Bool x = absurd (in_none x.atom (contains_of [] x.atom x.among))
  by_type ty.Null x = refl
  by_type ty.Void x = refl
  by_type (ty.Class xs m) x = refl

-- related classes have one size
size_moved : (p : Program) (V G : Path) (k : ℕ) → Related p V G → IsSize p G k → IsSize p V k
size_moved p V G k r z = record {
  class = r.one;
  slots = z.slots;
  exact = λ s. (
    λ c. let w = (z.exact s).0 c in
        record { view = w.view; related = laws.joined V G w.view r w.related; field = w.field; slot = w.slot },
    λ w. (z.exact s).1 (record {
      view = w.view;
      related = laws.joined G V w.view (laws.turned V G r) w.related;
      field = w.field;
      slot = w.slot;
    }),
  );
  once = z.once;
  is = z.is;
} where
  laws : SharingOf p
  laws = sharing_laws p

module _ (p : Program) (t : Table) (m : Members) (g : Groups) (s : Slots) (names : Selectors) (n : Naming)
    (asked : RowsAsked p t m g s names n) (rows : List ClassRow) (right : RowsRight p n s rows) (firsts kinds : List ℕ)
    (listed : Each (λ (G : Path) (k : ℕ). IsAt t.known.items k G) n.groups firsts)
    (kinds_are : kinds ≡ map sel_kind n.fields)
    (groups : List Group) (made : AreGroupsFor s firsts kinds rows groups)
  where
    number : (k : ℕ) (R : Path) → slice_get n.classes k ≡ Some R → IsNumber t.known.items (record { 0 = k }) R
    number k R a = at_class t n asked.naming.classes k R a

    one_class : (j k : ℕ) (R : Path) → slice_get n.classes j ≡ Some R → slice_get n.classes k ≡ Some R → j ≡ k
    one_class j k R a b = one_number p t asked.parts.filled j k R (number j R a) (number k R b)

    slots_of : (k : ℕ) (R : Path) → slice_get n.classes k ≡ Some R → IsClass p R
        → AreSlotsOf p t.known.items s (record { 0 = k }) R
    slots_of k R a c = asked.parts.slots.classes (record { 0 = k }) R (number k R a) c

    -- the group of a class, as it was made
    record GroupOf (V : Path) (row : ClassRow) : Type 0 where
      first : Path
      is_first : IsFirst p (Related p V) first
      at : slice_get n.groups row.group ≡ Some first
      place : ℕ
      blank : Group
      blank_at : slice_get made.blanks row.group ≡ Some blank
      blank_is : IsBlankFor s place blank
      size : IsSize p V (suc (length blank.slots))

    group_of : (V : Path) (row : ClassRow) → IsClass p V → RowIs p n V row → GroupOf V row
    group_of V row class is =
        let w = is.group.of_class class in
        let f = Each-at (λ (G : Path) (k : ℕ). IsAt t.known.items k G) listed row.group w.0 w.2 in
        let b = Each-at (IsBlankFor s) made.sized row.group f.0 f.1 in
        record {
          first = w.0;
          is_first = w.1;
          at = w.2;
          place = f.0;
          blank = b.0;
          blank_at = b.1;
          blank_is = b.2;
          size = sized w.0 w.1.holds f.0 f.2 b.0 b.2;
        } where
          sized : (G : Path) → Related p V G → (k : ℕ) → IsAt t.known.items k G → (b : Group) → IsBlankFor s k b
              → IsSize p V (suc (length b.slots))
          sized G r k at b x =
              let told : IsSize p G x.size =
              x.told p t.known.items G asked.parts.slots
              (subst (λ (j : ℕ). IsAt t.known.items j G) (sym x.number) at) r.other in
              let is_size = told.is in
              let many : length b.slots ≡ x.size - 1 =
              ap (λ (ks : List ℕ). length ks) x.blank ∙ length-replicate (x.size - 1) 3 in
              let same : x.size ≡ suc (length b.slots) = omega (arith, is_size, many) in
              subst (IsSize p V) same (size_moved p V G x.size r told)

    painted : (V : Path) (row : ClassRow) (w : GroupOf V row) → IsPainted kinds rows row.group w.blank groups
    painted V row w =
        subst (IsPainted kinds rows row.group w.blank) (sym made.painted)
        (group_painted kinds rows row.group w.blank made.blanks w.blank_at)

    -- ---- an image with these rows and groups

    module _ (i : Image) (classes : i.classes ≡ rows) (its : i.groups ≡ groups) where
      row_there : (V : Path) (k : ℕ) (row : ClassRow) → RowOf i n V k row → slice_get rows k ≡ Some row
      row_there V k row w = subst (λ (rs : List ClassRow). slice_get rs k ≡ Some row) classes w.there

      row_is : (V : Path) (k : ℕ) (row : ClassRow) → RowOf i n V k row → RowIs p n V row
      row_is V k row w =
          let x = Each-at (RowIs p n) right.rows_are k V w.class in
          let same : x.0 ≡ row = same_some (slice_get rows k) x.0 row x.1 (row_there V k row w) in
          subst (RowIs p n V) same x.2

      group_is : (V : Path) (k : ℕ) (row : ClassRow) (x : Group) → RowOf i n V k row → (w : GroupOf V row)
          → slice_get i.groups row.group ≡ Some x → length x.slots ≡ length w.blank.slots
      group_is V k row x r w at =
          let y = painted V row w in
          let there : slice_get groups row.group ≡ Some x =
          subst (λ (gs : List Group). slice_get gs row.group ≡ Some x) its at in
          let same : y.group ≡ x = same_some (slice_get groups row.group) y.group x y.at there in
          subst (λ (z : Group). length z.slots ≡ length w.blank.slots) same y.long

      there : (V : Path) (k : ℕ) (row : ClassRow) → IsClass p V → RowOf i n V k row
          → (x : Group) × (slice_get i.groups row.group ≡ Some x)
      there V k row class r =
          let y = painted V row (group_of V row class (row_is V k row r)) in
          (y.group, subst (λ (gs : List Group). slice_get gs row.group ≡ Some y.group) (sym its) y.at)

      sized_so : (V : Path) (k many : ℕ) (row : ClassRow) (x : Group) → RowOf i n V k row
          → slice_get i.groups row.group ≡ Some x → IsSize p V many → many ≡ suc (length x.slots)
      sized_so V k many row x r at z =
          let w = group_of V row z.class (row_is V k row r) in
          let one : many ≡ suc (length w.blank.slots) =
          (finds_one p).size V many (suc (length w.blank.slots)) z w.size in
          let long = group_is V k row x r w at in
          omega (arith, one, long)

      module _ (passes : DeclarationsPass p) (fields : FieldsPass p) where
        -- two fields of one slot have one kind
        one_kind : (V W : Path) (f h : Name) (q : Slot) (u v : Ty) → IsSlot p V f q → IsSlot p W h q → FieldType p V f u
            → FieldType p W h v → kind_of_type v ≡ kind_of_type u
        one_kind V W f h q u v a b x y =
            let name : h ≡ f = sym b.field ∙ a.field in
            ap kind_of_type (sym (one_type p fields V W f q a (subst (λ (N : Name). IsSlot p W N q) name b) passes u v x
            (subst (λ (N : Name). FieldType p W N v) name y)))

        kinds_of : (V : Path) (k j : ℕ) (row : ClassRow) (x : Group) (f : Name) (u : Ty) → RowOf i n V k row
            → slice_get i.groups row.group ≡ Some x → SlotNumber i n V f j → FieldType p V f u
            → slice_get x.slots j ≡ Some (kind_of_type u)
        kinds_of V k j row x f u r at num type = given_is by_entry where
          class : IsClass p V
          class = asked.typed.of_classes V f u type

          mine : GroupOf V row
          mine = group_of V row class (row_is V k row r)

          same_place : num.k ≡ k
          same_place = one_class num.k k V num.is.class r.class

          same_row : num.row ≡ row
          same_row =
              same_some (slice_get i.classes k) num.row row
              (subst (λ (q : ℕ). slice_get i.classes q ≡ Some num.row) same_place num.is.there) r.there

          slot : slot_in row num.s ≡ Some j
          slot = subst (λ (q : ClassRow). slot_in q num.s ≡ Some j) same_row num.slot

          place : FieldPlace p n s (record { 0 = k }) V num.s j
          place = right.slots k num.s j V row r.class (row_there V k row r) slot

          has : HasSlot s (record { 0 = k }) f j
          has =
              let sel : place.entry.sel ≡ num.sel =
              same_some (slice_get n.fields num.s) place.entry.sel num.sel place.entry.selector num.selector in
              subst (λ (N : Name). HasSlot s (record { 0 = k }) N j)
              (ap (λ (q : FieldSel). q.name) sel ∙ num.name) place.slot

          less : j < length mine.blank.slots
          less =
              let own = slots_of k V r.class class in
              let z = own.sized in
              let below = own.below f j z.0 has z.1 in
              let same = (finds_one p).size V z.0 (suc (length mine.blank.slots)) (own.size z.0 z.1) mine.size in
              omega (arith, below, same)

          entry : FoundEntry row.fields num.s j
          entry = entry_found row.fields num.s j slot

          kind_named : (q : ℕ) → q ≡ num.s → slice_get kinds q ≡ Some num.sel.kind
          kind_named q e =
              subst (λ (ks : List ℕ). slice_get ks q ≡ Some num.sel.kind) (sym kinds_are)
              (mapped n.fields q num.sel (ap (slice_get n.fields) e ∙ num.selector)) where
                mapped : (xs : List FieldSel) (q : ℕ) (y : FieldSel) → slice_get xs q ≡ Some y
                    → slice_get (map sel_kind xs) q ≡ Some (sel_kind y)
                mapped xs q y a = slice_get-map sel_kind xs q ∙ ap (option_map sel_kind) a

          by_entry : IsGivenIn kinds rows row.group j x
          by_entry =
              subst (λ (q : ℕ). IsGivenIn kinds rows row.group q x) entry.slot
              (row_given kinds rows row.group mine.blank made.blanks mine.blank_at row
              (in_list rows k row (row_there V k row r)) refl entry.entry num.sel.kind entry.among
              (kind_named entry.entry.selector entry.selector)
              (let e = entry.slot in omega (arith, less, e)) x
              (subst (λ (gs : List Group). slice_get gs row.group ≡ Some x) (its ∙ made.painted) at))

          given_is : IsGivenIn kinds rows row.group j x → slice_get x.slots j ≡ Some (kind_of_type u)
          given_is w = w.given.at ∙ ap Some its_kind where
            k2 : ℕ
            k2 = w.among.0

            at_k2 : slice_get rows k2 ≡ Some w.row
            at_k2 = slice_get_read rows (length rows) k2 w.row refl w.among.1 (sym w.among.2)

            back : (Q : Path) × (slice_get n.classes k2 ≡ Some Q) × RowIs p n Q w.row
            back = Each-back (RowIs p n) right.rows_are k2 w.row at_k2

            W : Path
            W = back.0

            e : FieldEntry
            e = w.given.entry

            its_slot : slot_in w.row e.selector ≡ Some e.slot
            its_slot =
                told_own (λ (z : FieldEntry). z.selector) (λ (z : FieldEntry). z.slot) w.row.fields
                (All-contains RowInForm rows w.row right.in_form w.among).fields e w.given.among

            other : FieldPlace p n s (record { 0 = k2 }) W e.selector e.slot
            other = right.slots k2 e.selector e.slot W w.row back.1 at_k2 its_slot

            other_class : IsClass p W
            other_class = asked.typed.of_classes W other.entry.sel.name other.entry.type other.entry.is

            theirs : GroupOf W w.row
            theirs = group_of W w.row other_class back.2

            related : Related p V W
            related =
                let laws = sharing_laws p in
                let same : theirs.first ≡ mine.first =
                same_some (slice_get n.groups row.group) theirs.first mine.first
                (subst (λ (q : ℕ). slice_get n.groups q ≡ Some theirs.first) w.group theirs.at) mine.at in
                laws.joined V mine.first W mine.is_first.holds
                (laws.turned W mine.first (subst (Related p W) same theirs.is_first.holds))

            one_slot : HaveOneSlot p V f W other.entry.sel.name
            one_slot =
                ((slots_of k V r.class class).equal W (record { 0 = k2 }) f other.entry.sel.name j j
                (number k2 W back.1) related has
                (subst (HasSlot s (record { 0 = k2 }) other.entry.sel.name) w.given.slot other.slot)).0 refl

            named : w.given.kind ≡ other.entry.sel.kind
            named =
                let a : slice_get kinds e.selector ≡ Some other.entry.sel.kind =
                subst (λ (ks : List ℕ). slice_get ks e.selector ≡ Some other.entry.sel.kind) (sym kinds_are)
                (slice_get-map sel_kind n.fields e.selector ∙ ap (option_map sel_kind) other.entry.selector) in
                same_some (slice_get kinds e.selector) w.given.kind other.entry.sel.kind w.given.named a

            its_kind : slot_kind w.given.kind ≡ kind_of_type u
            its_kind =
                ap slot_kind named
                ∙ (kind_counted other.entry.type other.entry.sel.kind other.entry.kind
                ∙ one_kind V W f other.entry.sel.name one_slot.0 u other.entry.type one_slot.1 one_slot.2
                type other.entry.is)

        pub groups_are : GroupsAre p i n
        groups_are = record { there = there; size = sized_so; kinds = kinds_of }

    -- ---- their form

    few_slots : NoneIs (TooManySlots p) → (V : Path) (k : ℕ) → IsSize p V k → k ≤ 251
    few_slots few V k z = by_less (cases_lt 250 (length z.slots)) where
      by_less : (250 < length z.slots) ⊎ (length z.slots ≤ 250) → k ≤ 251
      by_less (inr l) = let e = z.is in omega (arith, l, e)
      by_less (inl l) = absurd (few V (record {
        class = z.class;
        more = record { list = z.slots; each = λ q c. (z.exact q).0 c; once = z.once; more = l };
      }))

    blank_in_form : NoneIs (TooManySlots p) → (j : ℕ) (b : Group) → slice_get made.blanks j ≡ Some b → GroupInForm b
    blank_in_form few j b at = record {
      count = let l = few_slots few its.0 x.size told in omega (arith, l, long);
      slots = subst (λ (ks : List ℕ). All IsKind ks) (sym x.blank)
          (All-replicate IsKind (x.size - 1) 3 (omega arith, omega arith));
    } where
      f : (k : ℕ) × (slice_get firsts j ≡ Some k) × IsBlankFor s k b
      f = Each-back (IsBlankFor s) made.sized j b at

      x : IsBlankFor s f.0 b
      x = f.2

      its : (G : Path) × (slice_get n.groups j ≡ Some G) × IsAt t.known.items f.0 G
      its = Each-back (λ (G : Path) (k : ℕ). IsAt t.known.items k G) listed j f.0 f.1

      class : IsClass p its.0
      class =
          let w = (asked.naming.groups.exact its.0).0 (in_list n.groups j its.0 its.1) in
          w.2.holds.other

      told : IsSize p its.0 x.size
      told =
          x.told p t.known.items its.0 asked.parts.slots
          (subst (λ (k : ℕ). IsAt t.known.items k its.0) (sym x.number) its.2) class

      long : length b.slots ≡ x.size - 1
      long = ap (λ (ks : List ℕ). length ks) x.blank ∙ length-replicate (x.size - 1) 3

    pub groups_in_form : NoneIs (TooManySlots p) → All IsFieldKind kinds → All GroupInForm groups
    groups_in_form few all =
        subst (λ (gs : List Group). All GroupInForm gs) (sym made.painted)
        (painted_in_form kinds all rows made.blanks
        (λ k d l. blank_in_form few k (get_or made.blanks k d) (slice_get-get_or made.blanks k d l)))

    pub as_many : length groups ≡ length n.groups
    as_many =
        ap (λ (gs : List Group). length gs) made.painted
        ∙ (painted_rows_long kinds rows made.blanks
        ∙ (Each-length (IsBlankFor s) made.sized ∙ Each-length (λ (G : Path) (k : ℕ). IsAt t.known.items k G) listed))

pub gives_groups : (s : Slots) (firsts kinds : List ℕ) (rows : List ClassRow) (groups : List Group)
    → AreGroupsFor s firsts kinds rows groups → GivesGroups s firsts kinds rows groups
gives_groups s firsts kinds rows groups made p t m g names n i asked right listed kinds_are passes fields classes its =
    groups_are p t m g s names n asked rows right firsts kinds listed kinds_are groups made i classes its passes fields
