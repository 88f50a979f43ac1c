-- A row is right.
use Rattle.std.proofs.Common.{◌≡◌, ◌<◌, ℕ, List, [], ◌∷◌, length, Some, slice_get, refl, sym, subst, ap, ◌∙◌, arith}
use Rattle.std.proofs.lemmas.Option.{slice_get_within}
use Rattle.jn_reach.specs.Each.{Each}
use Rattle.jn_reach.proofs.Searches.{same_some}
use Rattle.jn_base.specs.declared.tree.Name.{Name}
use Rattle.jn_base.specs.declared.tree.Program.{Program}
use Rattle.jn_base.specs.declared.types.Ty.{Ty}
use Rattle.jn_base.specs.Paths.{Path, shown}
use Rattle.jn_table.specs.declared.class.ClassId.{ClassId}
use Rattle.jn_table.specs.declared.table.Table.{Table}
use Rattle.jn_table.specs.Rows.{IsNumber}
use Rattle.jn_names.specs.declared.members.Members.{Members}
use Rattle.jn_names.specs.FieldTypes.{declared_fields}
use Rattle.jn_share.proofs.Numbered.{numbered_known}
use Rattle.jn_share.specs.declared.groups.Groups.{Groups}
use Rattle.jn_share.specs.declared.slots.Slots.{Slots}
use Rattle.jn_share.specs.Slots.{HasSlot}
use Rattle.jn_sem.specs.Sharing.{family_of, in_family}
use Rattle.jn_sem.specs.Slots.{FieldType}
use Rattle.jn_sem.specs.Does.{Body, IsBody}
use Rattle.jn_code.specs.declared.image.ClassRow.{ClassRow}
use Rattle.jn_code.specs.declared.image.MemberEntry.{MemberEntry}
use Rattle.jn_code.specs.declared.image.MethodEntry.{MethodEntry}
use Rattle.jn_code.specs.declared.image.FieldEntry.{FieldEntry}
use Rattle.jn_code.specs.declared.image.OtherEntry.{OtherEntry}
use Rattle.jn_agree.specs.declared.selectors.Selectors.{Selectors}
use Rattle.jn_agree.specs.declared.selectors.MethodSel.{MethodSel}
use Rattle.jn_agree.specs.declared.selectors.FieldSel.{FieldSel}
use Rattle.jn_agree.specs.Naming.{Naming}
use Rattle.jn_agree.specs.Rows.{UpIs, GroupIs, HasEntry, HasFieldEntry, HasOther, FieldKind, plain, hanging, bodies_of}
use Rattle.jn_layout.specs.declared.declared.BodyAt.{BodyAt}
use Rattle.jn_layout.specs.declared.declared.FieldAt.{FieldAt}
use Rattle.jn_layout.specs.declared.rows.Made.{Made}
use Rattle.jn_layout.specs.declared.rows.RowPairs.{RowPairs}
use Rattle.jn_layout.specs.Parts.{MemberAt}
use Rattle.jn_layout.specs.Shapes.{IsBodyAt, IsFieldAt}
use Rattle.jn_layout.specs.Lookups.{MethodsAsked, FieldsAsked, FieldPlace}
use Rattle.jn_layout.specs.RowLists.{IsMade, ArePairs, RowRight, FitIn, AreMemberEntries, AreMethodEntries, AreFieldEntries, AreOtherEntries}
use Rattle.jn_layout.specs.Asked.{RowsAsked}
use Rattle.jn_layout.proofs.PartProof.{at_class, one_number}
use Rattle.jn_layout.proofs.EntryLaws.{entries_ascend, entries_sound, entries_complete, entries_count, entries_values}
use Rattle.std.proofs.lemmas.List.Elements.{All-contains}
use Rattle.jn_base.proofs.NameTests.{first}
use Rattle.jn_base.proofs.TableLaws.{universe_named}
use Rattle.jn_sem.proofs.SharedLaws.{sharing_laws}
use Rattle.jn_code.specs.Form.{RowInForm}
use Rattle.jn_code.specs.Machine.{member_in, slot_in}

one_kind : (t : Ty) (a b : ℕ) → FieldKind t a → FieldKind t b → a ≡ b
one_kind t a b (plain u e) (plain v h) = e ∙ sym h
one_kind t a b (plain u e) (hanging v h) = absurd (u v)
one_kind t a b (hanging u e) (plain v h) = absurd (v u)
one_kind t a b (hanging u e) (hanging v h) = e ∙ sym h

module _ (p : Program) (t : Table) (m : Members) (g : Groups) (s : Slots) (names : Selectors) (n : Naming) (asked : RowsAsked p t m g s names n) where
  pub methods_asked : (made : Made) → IsMade p t g names made → (sels : List MethodSel) → sels ≡ names.methods → (bodies : List BodyAt) → bodies ≡ made.declared.bodies.items
      → MethodsAsked p t m sels bodies n
  methods_asked made is sels e bodies h = record {
    filled = asked.parts.filled;
    members = asked.parts.members;
    classes = asked.naming.classes;
    methods = asked.naming.methods ∙ sym e;
    numbered = asked.naming.bodies;
    bodies_are = subst (λ (xs : List BodyAt). Each (IsBodyAt t) (bodies_of p) xs) (sym h) is.declared.bodies;
    selectors = asked.selectors;
    typed = asked.typed;
    few = asked.few;
  }

  pub fields_asked : (made : Made) → IsMade p t g names made → (sels : List FieldSel) → sels ≡ names.fields → (fields : List FieldAt) → fields ≡ made.declared.fields.items
      → FieldsAsked p t m s sels fields n
  fields_asked made is sels e fields h = record {
    filled = asked.parts.filled;
    members = asked.parts.members;
    slots = asked.parts.slots;
    classes = asked.naming.classes;
    selectors_are = asked.naming.fields ∙ sym e;
    fields_are = subst (λ (xs : List FieldAt). Each (IsFieldAt t) (declared_fields p) xs) (sym h) is.declared.fields;
    selectors = asked.selectors;
    typed = asked.typed;
    few = asked.few;
  }

  -- ---- one value for each key

  one_class : (j k : ℕ) (Q : Path) → slice_get n.classes j ≡ Some Q → slice_get n.classes k ≡ Some Q → j ≡ k
  one_class j k Q a b =
      one_number p t asked.parts.filled j k Q (at_class t n asked.naming.classes j Q a) (at_class t n asked.naming.classes k Q b)

  class_below : (k : ℕ) (Q : Path) → slice_get n.classes k ≡ Some Q → k < 65535
  class_below k Q a =
      let l = slice_get_within t.known.items k (shown Q) (at_class t n asked.naming.classes k Q a) in
      omega (arith, l, t.few)

  module _ (id : ClassId) (R : Path) (number : IsNumber t.known.items id R) where
    one_member : (c v w : ℕ) → MemberAt n R c v → MemberAt n R c w → v ≡ w
    one_member c v w a b =
        let number_same : a.name.0 ≡ b.name.0 = sym a.is ∙ b.is in
        let name : a.name ≡ b.name = ap (λ (k : ℕ). record { 0 = k }) number_same in
        one_class v w (b.name ∷ R) (a.class ∙ ap (λ (N : Name). Some (N ∷ R)) name) b.class

    one_code : (k v w : ℕ) → HasEntry p n R k v → HasEntry p n R k w → v ≡ w
    one_code k v w a b =
        let sel : a.sel ≡ b.sel = same_some (slice_get n.methods k) a.sel b.sel a.selector b.selector in
        let mine : IsBody p R b.sel.name a.body = subst (λ (x : MethodSel). IsBody p R x.name a.body) sel a.least in
        let body : a.body ≡ b.body = asked.typed.once.body R b.sel.name (numbered_known p t R id asked.parts.filled number) a.body b.body mine b.least in
        asked.typed.one_place v w b.body
        (subst (λ (xs : List Body). slice_get xs v ≡ Some b.body) asked.naming.bodies (a.code ∙ ap Some body))
        (subst (λ (xs : List Body). slice_get xs w ≡ Some b.body) asked.naming.bodies b.code)

    one_slot : (k v w : ℕ) → FieldPlace p n s id R k v → FieldPlace p n s id R k w → v ≡ w
    one_slot k v w a b =
        let sel : a.entry.sel ≡ b.entry.sel = same_some (slice_get n.fields k) a.entry.sel b.entry.sel a.entry.selector b.entry.selector in
        let class = asked.typed.of_classes R b.entry.sel.name b.entry.type b.entry.is in
        (asked.parts.slots.classes id R number class).once b.entry.sel.name v w (subst (λ (x : FieldSel). HasSlot s id x.name v) sel a.slot) b.slot

    one_other : (k v w : ℕ) → HasOther p n R k v → HasOther p n R k w → v ≡ w
    one_other k v w a b =
        let one : (a.family ∷ []) ≡ (b.family ∷ []) = same_some (slice_get n.classes k) (a.family ∷ []) (b.family ∷ []) a.number b.number in
        let family : a.family ≡ b.family = cc one in
        let class : a.class ≡ b.class = a.counterpart.is ∙ (ap (λ (Y : Name). in_family Y R) family ∙ sym b.counterpart.is) in
        one_class v w b.class (a.at ∙ ap Some class) b.at

    one_field : (j k v : ℕ) → FieldPlace p n s id R j v → FieldPlace p n s id R k v → j ≡ k
    one_field j k v a b =
        let class = asked.typed.of_classes R b.entry.sel.name b.entry.type b.entry.is in
        let same = ((asked.parts.slots.classes id R number class).equal R id a.entry.sel.name b.entry.sel.name v v number ((sharing_laws p).itself R class) a.slot b.slot).0 refl in
        let name : a.entry.sel.name ≡ b.entry.sel.name = sym same.1.field ∙ same.2.field in
        let type : a.entry.type ≡ b.entry.type =
        asked.typed.once.field R b.entry.sel.name a.entry.type b.entry.type (subst (λ (N : Name). FieldType p R N a.entry.type) name a.entry.is) b.entry.is in
        let kind : a.entry.sel.kind ≡ b.entry.sel.kind =
        one_kind b.entry.type a.entry.sel.kind b.entry.sel.kind (subst (λ (u : Ty). FieldKind u a.entry.sel.kind) type a.entry.kind) b.entry.kind in
        let sel : a.entry.sel ≡ b.entry.sel =
        ap (λ (N : Name). record { name = N; kind = a.entry.sel.kind }) name ∙ ap (λ (c : ℕ). record { name = b.entry.sel.name; kind = c }) kind in
        asked.selectors.field_once j k b.entry.sel (a.entry.selector ∙ ap Some sel) b.entry.selector

    name_below : (k : ℕ) (N : Name) → slice_get n.classes k ≡ Some (N ∷ R) → N.0 < 65535
    name_below k N e =
        let u = numbered_known p t (N ∷ R) (record { 0 = k }) asked.parts.filled (at_class t n asked.naming.classes k (N ∷ R) e) in
        let l = All-contains (λ (x : Name). x.0 < length p.names) (N ∷ R) N (universe_named p asked.typed.named (N ∷ R) u) (first N R) in
        omega (arith, l, asked.few.names)

    module _ (all : RowPairs) (are : ArePairs p n s id R all) where
      fit_members : FitIn 65536 65536 all.members.items
      fit_members x c =
          let w = (are.members.exact x).0 c in
          let k = name_below x.value w.name w.class in
          let v = class_below x.value (w.name ∷ R) w.class in
          (omega (arith, k, w.is), omega (arith, v))

      fit_fields : FitIn 4294967296 256 all.fields.items
      fit_fields x c =
          let w = (are.fields.exact x).0 c in
          let l = slice_get_within n.fields x.key w.entry.sel w.entry.selector in
          (omega (arith, l, asked.few.fields), are.small x c)

      fit_others : FitIn 65536 65536 all.others.items
      fit_others x c =
          let w = (are.others.exact x).0 c in
          let k = class_below x.key (w.family ∷ []) w.number in
          let v = class_below x.value w.class w.at in
          (omega (arith, k), omega (arith, v))

      module _ (row : ClassRow) (members : AreMemberEntries all.members.items row.members) (methods : AreMethodEntries all.methods.items row.methods)
          (fields : AreFieldEntries all.fields.items row.fields) (others : AreOtherEntries all.others.items row.others) where
        in_form : RowInForm row
        in_form = record {
          members_count = let l = entries_count (λ (e : MemberEntry). e.name) (λ (e : MemberEntry). e.class) (MemberAt n R) one_member all.members.items are.members row.members (members fit_members) 65535
              (λ k v w. let h = name_below v w.name w.class in omega (arith, h, w.is)) in omega (arith, l);
          methods_count = let l = entries_count (λ (e : MethodEntry). e.selector) (λ (e : MethodEntry). e.code) (HasEntry p n R) one_code all.methods.items are.methods row.methods methods (length n.methods)
              (λ k v w. slice_get_within n.methods k w.sel w.selector) in omega (arith, l, asked.few.methods);
          fields_count = let l = entries_values (λ (e : FieldEntry). e.selector) (λ (e : FieldEntry). e.slot) (FieldPlace p n s id R) one_slot all.fields.items are.fields row.fields (fields fit_fields) 256 one_field are.small in omega (arith, l);
          others_count = let l = entries_count (λ (e : OtherEntry). e.family) (λ (e : OtherEntry). e.class) (HasOther p n R) one_other all.others.items are.others row.others (others fit_others) 65535
              (λ k v w. class_below k (w.family ∷ []) w.number) in omega (arith, l);
          members = entries_ascend (λ (e : MemberEntry). e.name) (λ (e : MemberEntry). e.class) (MemberAt n R) one_member all.members.items are.members row.members (members fit_members);
          methods = entries_ascend (λ (e : MethodEntry). e.selector) (λ (e : MethodEntry). e.code) (HasEntry p n R) one_code all.methods.items are.methods row.methods methods;
          fields = entries_ascend (λ (e : FieldEntry). e.selector) (λ (e : FieldEntry). e.slot) (FieldPlace p n s id R) one_slot all.fields.items are.fields row.fields (fields fit_fields);
          others = entries_ascend (λ (e : OtherEntry). e.family) (λ (e : OtherEntry). e.class) (HasOther p n R) one_other all.others.items are.others row.others (others fit_others);
        }

        slots_are : (f v : ℕ) → slot_in row f ≡ Some v → FieldPlace p n s id R f v
        slots_are f v e = entries_sound (λ (e : FieldEntry). e.selector) (λ (e : FieldEntry). e.slot) (FieldPlace p n s id R) one_slot all.fields.items are.fields row.fields (fields fit_fields) f v e

        has_slot : (f : ℕ) → HasFieldEntry p n R f → (v : ℕ) × (slot_in row f ≡ Some v)
        has_slot f w =
            let class = asked.typed.of_classes R w.sel.name w.type w.is in
            let x = ((asked.parts.slots.classes id R number class).fields w.sel.name).0 (record { at = w.is.class; declares = w.is.is_field.declares }) in
            (x.0, entries_complete (λ (e : FieldEntry). e.selector) (λ (e : FieldEntry). e.slot) (FieldPlace p n s id R) one_slot all.fields.items are.fields row.fields (fields fit_fields) f x.0 (record { entry = w; slot = x.1 }))

        member_to : (C : Name) (k : ℕ) → member_in row C.0 ≡ Some k → slice_get n.classes k ≡ Some (C ∷ R)
        member_to C k e =
            let w = entries_sound (λ (e : MemberEntry). e.name) (λ (e : MemberEntry). e.class) (MemberAt n R) one_member all.members.items are.members row.members (members fit_members) C.0 k e in
            let name : w.name ≡ C = ap (λ (i : ℕ). record { 0 = i }) (sym w.is) in
            subst (λ (N : Name). slice_get n.classes k ≡ Some (N ∷ R)) name w.class

        member_from : (C : Name) (k : ℕ) → slice_get n.classes k ≡ Some (C ∷ R) → member_in row C.0 ≡ Some k
        member_from C k e =
            entries_complete (λ (e : MemberEntry). e.name) (λ (e : MemberEntry). e.class) (MemberAt n R) one_member all.members.items are.members row.members (members fit_members) C.0 k (record { name = C; is = refl; class = e })

        pub row_right : UpIs n R row.up → ((Y : Name) → family_of R ≡ Some Y → slice_get n.classes row.family ≡ Some (Y ∷ [])) → GroupIs p n R row.group → RowRight p n s id R row
        row_right up family group = record {
          is = record {
            up = up;
            family = family;
            group = group;
            members = λ C k. (member_to C k, member_from C k);
            methods = λ f k e. entries_sound (λ (e : MethodEntry). e.selector) (λ (e : MethodEntry). e.code) (HasEntry p n R) one_code all.methods.items are.methods row.methods methods f k e;
            has_method = λ f k h. entries_complete (λ (e : MethodEntry). e.selector) (λ (e : MethodEntry). e.code) (HasEntry p n R) one_code all.methods.items are.methods row.methods methods f k h;
            fields = λ f v e. (slots_are f v e).entry;
            has_field = has_slot;
            others = λ f k. (
              λ e. entries_sound (λ (e : OtherEntry). e.family) (λ (e : OtherEntry). e.class) (HasOther p n R) one_other all.others.items are.others row.others (others fit_others) f k e,
              λ h. entries_complete (λ (e : OtherEntry). e.family) (λ (e : OtherEntry). e.class) (HasOther p n R) one_other all.others.items are.others row.others (others fit_others) f k h,
            );
          };
          in_form = in_form;
          slots = slots_are;
        }
