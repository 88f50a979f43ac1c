-- The rows of an image have no more entries than the program has.
use Rattle.std.proofs.Common.{◌≡◌, ◌≤◌, ◌<◌, ◌+◌, ◌⊎◌, inl, inr, ℕ, zero, suc, List, [], ◌∷◌, ◌++◌, length, length-append, map, Contains, Option, Some, None, slice_get, refl, sym, ap, ◌∙◌, subst, nat_eq, arith}
use Rattle.std.specs.List.{find}
use Rattle.std.specs.Option.{option_map}
use Rattle.std.proofs.lemmas.Bool.{cases_lt}
use Rattle.std.proofs.lemmas.List.{length-map}
use Rattle.std.proofs.lemmas.Option.{slice_get_read}
use Rattle.std.proofs.lemmas.List.Elements.{All-contains, Contains-append_cases}
use Rattle.jn_reach.specs.Each.{Each, none, more}
use Rattle.jn_reach.proofs.Searches.{same_some}
use Rattle.jn_base.specs.declared.tree.Name.{Name}
use Rattle.jn_base.specs.declared.tree.Program.{Program}
use Rattle.jn_base.specs.declared.types.Ty.{Ty}
use Rattle.jn_base.specs.Paths.{Path}
use Rattle.jn_base.specs.Universe.{InUniverse}
use Rattle.jn_base.proofs.NameTests.{in_cons, in_none, first, later}
use Rattle.jn_table.specs.declared.table.Table.{Table}
use Rattle.jn_table.proofs.Maps.{in_list}
use Rattle.jn_names.specs.declared.members.Members.{Members}
use Rattle.jn_sem.specs.Sharing.{family_of}
use Rattle.jn_sem.specs.Slots.{FieldType}
use Rattle.jn_sem.specs.Does.{Body, IsBody}
use Rattle.jn_sem.proofs.SharedLaws.{sharing_laws}
use Rattle.jn_rules.specs.Members.{Entry, of_member_name, of_method_name, of_field_name, of_counterpart, IsEntry, member, method, field, counterpart, TooManyEntries}
use Rattle.jn_share.specs.declared.groups.Groups.{Groups}
use Rattle.jn_share.specs.declared.slots.Slots.{Slots}
use Rattle.jn_share.proofs.Numbered.{numbered_known}
use Rattle.jn_code.specs.declared.image.ClassRow.{ClassRow}
use Rattle.jn_code.specs.declared.image.MemberEntry.{MemberEntry}
use Rattle.jn_code.specs.declared.image.MethodEntry.{MethodEntry}
use Rattle.jn_code.specs.declared.image.FieldEntry.{FieldEntry}
use Rattle.jn_code.specs.declared.image.OtherEntry.{OtherEntry}
use Rattle.jn_code.specs.declared.image.Shape.{Shape}
use Rattle.jn_code.specs.Form.{Ascends, IsBelowFirst, RowInForm}
use Rattle.jn_agree.specs.declared.selectors.Selectors.{Selectors}
use Rattle.jn_agree.specs.declared.selectors.MethodSel.{MethodSel}
use Rattle.jn_agree.specs.declared.selectors.FieldSel.{FieldSel}
use Rattle.jn_agree.specs.Naming.{Naming}
use Rattle.jn_agree.specs.Rows.{FieldKind, plain, hanging, HasShape, HasEntry, HasFieldEntry, HasOther, RowIs}
use Rattle.jn_size_laws.specs.Sizes.{total}
use Rattle.jn_size_laws.specs.Files.{entries}
use Rattle.jn_layout.specs.Asked.{RowsAsked}
use Rattle.jn_layout.specs.RowLists.{RowsRight}
use Rattle.jn_layout.proofs.KindLaws.{shape_is}
use Rattle.jn_layout.proofs.PartProof.{at_class, one_number}
use Rattle.jn_layout.proofs.Faultless.{told_own}
use Rattle.jn_link.proofs.Fewer.{IsOnce, EachOnce, each_places, each_joined, each_mapped, from_mapped}

-- ---- entries that ascend by their keys

module _ {E : Type 0} (key : E → ℕ) where
  above : (x : ℕ) (es : List E) → IsBelowFirst x (map key es) → Ascends (map key es) → (e : E) → Contains es e
      → x < key e
  above x [] now rest e c = absurd (in_none e c)
  above x (z ∷ es) now (next, others) e c = by_place (in_cons z es e c) (λ d. above (key z) es next others e d) where
    by_place : (z ≡ e) ⊎ Contains es e → (Contains es e → key z < key e) → x < key e
    by_place (inl s) f = subst (λ (y : E). x < key y) s now
    by_place (inr d) f = let h = f d in omega (arith, now, h)

  pub ascending_once : (es : List E) → Ascends (map key es) → EachOnce es
  ascending_once [] up = tt
  ascending_once (z ∷ es) (next, rest) =
      ((λ c. let h = above (key z) es next rest z c in omega (arith, h)), ascending_once es rest)

-- two entries of one key have one value
pub value_same : {E : Type 0} (key value : E → ℕ) (es : List E) → Ascends (map key es) → (d e : E) → Contains es d
    → Contains es e → key d ≡ key e → value d ≡ value e
value_same {E} key value es up d e a b k =
    let one = told_own key value es up d a in
    let other = told_own key value es up e b in
    same_some (option_map value (find (λ (x : E). nat_eq (key x) (key e)) es)) (value d) (value e)
    (subst (λ (j : ℕ). option_map value (find (λ (x : E). nat_eq (key x) j) es) ≡ Some (value d)) k one) other

one_kind : (t : Ty) (a b : ℕ) → FieldKind t a → FieldKind t b → a ≡ b
one_kind t a b (plain u e) (plain v h) = e ∙ sym h
one_kind t a b (plain u e) (hanging v h) = absurd (u v)
one_kind t a b (hanging u e) (plain v h) = absurd (v u)
one_kind t a b (hanging u e) (hanging v h) = e ∙ sym h

-- ---- what an entry is of

abbrev path_of : Entry → Path
path_of (of_member_name R C) = R
path_of (of_method_name R m) = R
path_of (of_field_name R f) = R
path_of (of_counterpart R S) = R

-- its place among the four lists of a row
abbrev list_of : Entry → ℕ
list_of (of_member_name R C) = 0
list_of (of_method_name R m) = 1
list_of (of_field_name R f) = 2
list_of (of_counterpart R S) = 3

abbrev named : ℕ → Name
named k = record { 0 = k }

-- its name, and its counterpart
abbrev name_in : Entry → Name
name_in (of_member_name R C) = C
name_in (of_method_name R m) = m
name_in (of_field_name R f) = f
name_in (of_counterpart R S) = named 0

abbrev class_in : Entry → Path
class_in (of_member_name R C) = []
class_in (of_method_name R m) = []
class_in (of_field_name R f) = []
class_in (of_counterpart R S) = S

some_same : {A : Type 0} (x y : A) → Some x ≡ Some y → x ≡ y
some_same x y e = cc

abbrev method_named : Option MethodSel → Name
method_named None = named 0
method_named (Some x) = x.name

abbrev field_named : Option FieldSel → Name
field_named None = named 0
field_named (Some x) = x.name

abbrev class_there : Option Path → Path
class_there None = []
class_there (Some R) = R

module _ (n : Naming) (R : Path) where
  abbrev of_members : MemberEntry → Entry
  of_members e = of_member_name R (named e.name)

  abbrev of_methods : MethodEntry → Entry
  of_methods e = of_method_name R (method_named (slice_get n.methods e.selector))

  abbrev of_fields : FieldEntry → Entry
  of_fields e = of_field_name R (field_named (slice_get n.fields e.selector))

  abbrev of_others : OtherEntry → Entry
  of_others e = of_counterpart R (class_there (slice_get n.classes e.class))

  -- the entries of the row, as the program has them
  abbrev row_entries : ClassRow → List Entry
  row_entries r =
      map of_members r.members ++ (map of_methods r.methods ++ (map of_fields r.fields ++ map of_others r.others))

  row_long : (r : ClassRow) → length (row_entries r) ≡ entries r
  row_long r =
      length-append (map of_members r.members) (map of_methods r.methods ++
      (map of_fields r.fields ++ map of_others r.others))
      ∙ both (length-map r.members of_members)
      (length-append (map of_methods r.methods) (map of_fields r.fields ++ map of_others r.others)
      ∙ both (length-map r.methods of_methods)
      (length-append (map of_fields r.fields) (map of_others r.others)
      ∙ both (length-map r.fields of_fields) (length-map r.others of_others))) where
        both : {a b c d : ℕ} → a ≡ b → c ≡ d → a + c ≡ b + d
        both e f = omega (arith, e, f)

-- ---- the rows of a program

module _ (p : Program) (t : Table) (m : Members) (g : Groups) (s : Slots) (names : Selectors) (n : Naming)
    (asked : RowsAsked p t m g s names n)
  where
    -- a row of a class of the universe
    record Good (R : Path) (r : ClassRow) : Type 0 where
      is : RowIs p n R r
      in_form : RowInForm r
      universe : InUniverse p R

    known : (k : ℕ) (R : Path) → slice_get n.classes k ≡ Some R → InUniverse p R
    known k R at = numbered_known p t R (record { 0 = k }) asked.parts.filled (at_class t n asked.naming.classes k R at)

    one_class : (j k : ℕ) (R : Path) → slice_get n.classes j ≡ Some R → slice_get n.classes k ≡ Some R → j ≡ k
    one_class j k R a b =
        one_number p t asked.parts.filled j k R (at_class t n asked.naming.classes j R a)
        (at_class t n asked.naming.classes k R b)

    module _ (R : Path) (r : ClassRow) (good : Good R r) where
      -- what an entry says
      member_at : (e : MemberEntry) → Contains r.members e → slice_get n.classes e.class ≡ Some (named e.name ∷ R)
      member_at e c =
          (good.is.members (named e.name) e.class).0
          (told_own (λ (x : MemberEntry). x.name) (λ (x : MemberEntry). x.class) r.members good.in_form.members e c)

      method_at : (e : MethodEntry) → Contains r.methods e → HasEntry p n R e.selector e.code
      method_at e c =
          good.is.methods e.selector e.code
          (told_own (λ (x : MethodEntry). x.selector) (λ (x : MethodEntry). x.code) r.methods good.in_form.methods e c)

      field_at : (e : FieldEntry) → Contains r.fields e → HasFieldEntry p n R e.selector
      field_at e c =
          good.is.fields e.selector e.slot
          (told_own (λ (x : FieldEntry). x.selector) (λ (x : FieldEntry). x.slot) r.fields good.in_form.fields e c)

      other_at : (e : OtherEntry) → Contains r.others e → HasOther p n R e.family e.class
      other_at e c =
          (good.is.others e.family e.class).0
          (told_own (λ (x : OtherEntry). x.family) (λ (x : OtherEntry). x.class) r.others good.in_form.others e c)

      method_name : (e : MethodEntry) (c : Contains r.methods e)
          → method_named (slice_get n.methods e.selector) ≡ (method_at e c).sel.name
      method_name e c = ap method_named (method_at e c).selector

      field_name : (e : FieldEntry) (c : Contains r.fields e)
          → field_named (slice_get n.fields e.selector) ≡ (field_at e c).sel.name
      field_name e c = ap field_named (field_at e c).selector

      other_class : (e : OtherEntry) (c : Contains r.others e)
          → class_there (slice_get n.classes e.class) ≡ (other_at e c).class
      other_class e c = ap class_there (other_at e c).at

      -- ---- each is an entry of the program

      is_member : (e : MemberEntry) → Contains r.members e → IsEntry p (of_members n R e)
      is_member e c = member R (named e.name) good.universe (known e.class (named e.name ∷ R) (member_at e c)).1

      is_method : (e : MethodEntry) → Contains r.methods e → IsEntry p (of_methods n R e)
      is_method e c =
          let h = method_at e c in
          subst (λ (N : Name). IsEntry p (of_method_name R N)) (sym (method_name e c))
          (method R h.sel.name good.universe (h.body.class, h.least.least.among))

      is_field : (e : FieldEntry) → Contains r.fields e → IsEntry p (of_fields n R e)
      is_field e c =
          let h = field_at e c in
          subst (λ (N : Name). IsEntry p (of_field_name R N)) (sym (field_name e c))
          (field R h.sel.name good.universe (record { at = h.is.class; declares = h.is.is_field.declares }))

      is_other : (e : OtherEntry) → Contains r.others e → IsEntry p (of_others n R e)
      is_other e c =
          let h = other_at e c in
          let family = (sharing_laws p).family h.family R h.class h.counterpart in
          subst (λ (S : Path). IsEntry p (of_counterpart R S)) (sym (other_class e c))
          (counterpart R h.class h.counterpart.related (λ same. h.other (ap family_of same ∙ family)))

      -- ---- each stands once

      member_alone : (d e : MemberEntry) → Contains r.members d → Contains r.members e
          → of_members n R d ≡ of_members n R e → d ≡ e
      member_alone d e a b i =
          let name : d.name ≡ e.name = ap (λ (x : Entry). (name_in x).0) i in
          let class : d.class ≡ e.class =
          value_same (λ (x : MemberEntry). x.name)
          (λ (x : MemberEntry). x.class) r.members good.in_form.members d e a b name in
          ap (λ (k : ℕ). record { name = k; class = d.class }) name
          ∙ ap (λ (k : ℕ). record { name = e.name; class = k }) class

      method_alone : (d e : MethodEntry) → Contains r.methods d → Contains r.methods e
          → of_methods n R d ≡ of_methods n R e → d ≡ e
      method_alone d e a b i =
          let x = method_at d a in
          let y = method_at e b in
          let names_same : method_named (slice_get n.methods d.selector) ≡ method_named
          (slice_get n.methods e.selector) =
          ap name_in i in
          let name : x.sel.name ≡ y.sel.name = sym (method_name d a) ∙ (names_same ∙ method_name e b) in
          let mine : IsBody p R y.sel.name x.body = subst (λ (N : Name). IsBody p R N x.body) name x.least in
          let body : x.body ≡ y.body = asked.typed.once.body R y.sel.name good.universe x.body y.body mine y.least in
          let shape : x.sel.shape ≡ y.sel.shape =
          shape_is p y.body x.sel.shape (subst (λ (z : Body). HasShape p z x.sel.shape) body x.shape)
          ∙ sym (shape_is p y.body y.sel.shape y.shape) in
          let sel : x.sel ≡ y.sel =
          ap (λ (N : Name). record { name = N; shape = x.sel.shape }) name
          ∙ ap (λ (z : Shape). record { name = y.sel.name; shape = z }) shape in
          let selector : d.selector ≡ e.selector =
          asked.selectors.method_once d.selector e.selector y.sel (x.selector ∙ ap Some sel) y.selector in
          let code : d.code ≡ e.code =
          value_same (λ (z : MethodEntry). z.selector)
          (λ (z : MethodEntry). z.code) r.methods good.in_form.methods d e a b selector in
          ap (λ (k : ℕ). record { selector = k; code = d.code }) selector
          ∙ ap (λ (k : ℕ). record { selector = e.selector; code = k }) code

      field_alone : (d e : FieldEntry) → Contains r.fields d → Contains r.fields e
          → of_fields n R d ≡ of_fields n R e → d ≡ e
      field_alone d e a b i =
          let x = field_at d a in
          let y = field_at e b in
          let names_same : field_named (slice_get n.fields d.selector) ≡ field_named (slice_get n.fields e.selector) =
          ap name_in i in
          let name : x.sel.name ≡ y.sel.name = sym (field_name d a) ∙ (names_same ∙ field_name e b) in
          let type : x.type ≡ y.type =
          asked.typed.once.field R y.sel.name x.type y.type
          (subst (λ (N : Name). FieldType p R N x.type) name x.is) y.is in
          let kind : x.sel.kind ≡ y.sel.kind =
          one_kind y.type x.sel.kind y.sel.kind (subst (λ (u : Ty). FieldKind u x.sel.kind) type x.kind) y.kind in
          let sel : x.sel ≡ y.sel =
          ap (λ (N : Name). record { name = N; kind = x.sel.kind }) name
          ∙ ap (λ (k : ℕ). record { name = y.sel.name; kind = k }) kind in
          let selector : d.selector ≡ e.selector =
          asked.selectors.field_once d.selector e.selector y.sel (x.selector ∙ ap Some sel) y.selector in
          let slot : d.slot ≡ e.slot =
          value_same (λ (z : FieldEntry). z.selector)
          (λ (z : FieldEntry). z.slot) r.fields good.in_form.fields d e a b selector in
          ap (λ (k : ℕ). record { selector = k; slot = d.slot }) selector
          ∙ ap (λ (k : ℕ). record { selector = e.selector; slot = k }) slot

      other_alone : (d e : OtherEntry) → Contains r.others d → Contains r.others e
          → of_others n R d ≡ of_others n R e → d ≡ e
      other_alone d e a b i =
          let x = other_at d a in
          let y = other_at e b in
          let there : class_there (slice_get n.classes d.class) ≡ class_there (slice_get n.classes e.class) =
          ap class_in i in
          let its : x.class ≡ y.class = sym (other_class d a) ∙ (there ∙ other_class e b) in
          let laws = sharing_laws p in
          let families : Some x.family ≡ Some y.family =
          sym (laws.family x.family R x.class x.counterpart)
          ∙ (ap family_of its ∙ laws.family y.family R y.class y.counterpart) in
          let family : x.family ≡ y.family = some_same x.family y.family families in
          let number : d.family ≡ e.family =
          one_class d.family e.family (y.family ∷ []) (x.number ∙ ap (λ (Y : Name). Some (Y ∷ [])) family) y.number in
          let class : d.class ≡ e.class =
          value_same (λ (z : OtherEntry). z.family)
          (λ (z : OtherEntry). z.class) r.others good.in_form.others d e a b number in
          ap (λ (k : ℕ). record { family = k; class = d.class }) number
          ∙ ap (λ (k : ℕ). record { family = e.family; class = k }) class

      -- ---- all of a row

      abbrev Of : Entry → Type 0
      Of x = IsEntry p x × (path_of x ≡ R)

      from_members : (x : Entry) → Contains (map (of_members n R) r.members) x → Of x × (list_of x ≡ 0)
      from_members x c =
          let w = from_mapped (of_members n R) r.members x c in
          ((subst (IsEntry p) w.2 (is_member w.0 w.1), sym (ap path_of w.2)), sym (ap list_of w.2))

      from_methods : (x : Entry) → Contains (map (of_methods n R) r.methods) x → Of x × (list_of x ≡ 1)
      from_methods x c =
          let w = from_mapped (of_methods n R) r.methods x c in
          ((subst (IsEntry p) w.2 (is_method w.0 w.1), sym (ap path_of w.2)), sym (ap list_of w.2))

      from_fields : (x : Entry) → Contains (map (of_fields n R) r.fields) x → Of x × (list_of x ≡ 2)
      from_fields x c =
          let w = from_mapped (of_fields n R) r.fields x c in
          ((subst (IsEntry p) w.2 (is_field w.0 w.1), sym (ap path_of w.2)), sym (ap list_of w.2))

      from_others : (x : Entry) → Contains (map (of_others n R) r.others) x → Of x × (list_of x ≡ 3)
      from_others x c =
          let w = from_mapped (of_others n R) r.others x c in
          ((subst (IsEntry p) w.2 (is_other w.0 w.1), sym (ap path_of w.2)), sym (ap list_of w.2))

      from_last : (x : Entry) → Contains (map (of_fields n R) r.fields ++ map (of_others n R) r.others) x
          → Of x × (2 ≤ list_of x)
      from_last x c = by_part (Contains-append_cases (map (of_fields n R) r.fields)
          (map (of_others n R) r.others) x c) where
            by_part : Contains (map (of_fields n R) r.fields) x ⊎ Contains (map (of_others n R) r.others) x
                → Of x × (2 ≤ list_of x)
            by_part (inl h) = let w = from_fields x h in let e = w.1 in (w.0, omega (arith, e))
            by_part (inr h) = let w = from_others x h in let e = w.1 in (w.0, omega (arith, e))

      from_behind : (x : Entry)
          → Contains (map (of_methods n R) r.methods ++
          (map (of_fields n R) r.fields ++ map (of_others n R) r.others)) x
          → Of x × (1 ≤ list_of x)
      from_behind x c =
          by_part (Contains-append_cases (map (of_methods n R) r.methods)
          (map (of_fields n R) r.fields ++ map (of_others n R) r.others) x c) where
            by_part : Contains (map (of_methods n R) r.methods) x
                ⊎ Contains (map (of_fields n R) r.fields ++ map (of_others n R) r.others) x → Of x × (1 ≤ list_of x)
            by_part (inl h) = let w = from_methods x h in let e = w.1 in (w.0, omega (arith, e))
            by_part (inr h) = let w = from_last x h in let e = w.1 in (w.0, omega (arith, e))

      row_are : (x : Entry) → Contains (row_entries n R r) x → Of x
      row_are x c =
          by_part (Contains-append_cases (map (of_members n R) r.members)
          (map (of_methods n R) r.methods ++ (map (of_fields n R) r.fields ++ map (of_others n R) r.others)) x c) where
            by_part : Contains (map (of_members n R) r.members) x
                ⊎ Contains (map (of_methods n R) r.methods ++
                (map (of_fields n R) r.fields ++ map (of_others n R) r.others)) x
                → Of x
            by_part (inl h) = (from_members x h).0
            by_part (inr h) = (from_behind x h).0

      row_once : EachOnce (row_entries n R r)
      row_once =
          each_joined (map (of_members n R) r.members)
          (map (of_methods n R) r.methods ++ (map (of_fields n R) r.fields ++ map (of_others n R) r.others))
          (each_mapped (of_members n R) r.members
          (ascending_once (λ (x : MemberEntry). x.name) r.members good.in_form.members) member_alone)
          (each_joined (map (of_methods n R) r.methods) (map (of_fields n R) r.fields ++ map (of_others n R) r.others)
          (each_mapped (of_methods n R) r.methods
          (ascending_once (λ (x : MethodEntry). x.selector) r.methods good.in_form.methods) method_alone)
          (each_joined (map (of_fields n R) r.fields) (map (of_others n R) r.others)
          (each_mapped (of_fields n R) r.fields
          (ascending_once (λ (x : FieldEntry). x.selector) r.fields good.in_form.fields) field_alone)
          (each_mapped (of_others n R) r.others
          (ascending_once (λ (x : OtherEntry). x.family) r.others good.in_form.others) other_alone)
          (λ x a b. let d = (from_fields x a).1 in let e = (from_others x b).1 in omega (arith, d, e)))
          (λ x a b. let d = (from_methods x a).1 in let e = (from_last x b).1 in omega (arith, d, e)))
          (λ x a b. let d = (from_members x a).1 in let e = (from_behind x b).1 in omega (arith, d, e))

    -- ---- all rows

    abbrev all_in : List Path → List ClassRow → List Entry
    all_in [] rs = []
    all_in (R ∷ cs) [] = []
    all_in (R ∷ cs) (r ∷ rs) = row_entries n R r ++ all_in cs rs

    all_are : (cs : List Path) (rs : List ClassRow) → Each Good cs rs → (x : Entry) → Contains (all_in cs rs) x
        → IsEntry p x × Contains cs (path_of x)
    all_are [] [] none x c = absurd (in_none x c)
    all_are [] (r ∷ rs) each x c = elim each [ ]
    all_are (R ∷ cs) [] each x c = elim each [ ]
    all_are (R ∷ cs) (r ∷ rs) (more good each) x c =
        by_part (Contains-append_cases (row_entries n R r) (all_in cs rs) x c) (λ h. all_are cs rs each x h) where
          by_part : Contains (row_entries n R r) x ⊎ Contains (all_in cs rs) x
              → (Contains (all_in cs rs) x → IsEntry p x × Contains cs (path_of x))
              → IsEntry p x × Contains (R ∷ cs) (path_of x)
          by_part (inl h) again =
              let w = row_are R r good x h in
              (w.0, subst (Contains (R ∷ cs)) (sym w.1) (first R cs))
          by_part (inr h) again = let w = again h in (w.0, later R cs (path_of x) w.1)

    all_once : (cs : List Path) (rs : List ClassRow) → EachOnce cs → Each Good cs rs → EachOnce (all_in cs rs)
    all_once [] [] o none = tt
    all_once [] (r ∷ rs) o each = elim each [ ]
    all_once (R ∷ cs) [] o each = elim each [ ]
    all_once (R ∷ cs) (r ∷ rs) (alone, o) (more good each) =
        each_joined (row_entries n R r) (all_in cs rs) (row_once R r good) (all_once cs rs o each)
        (λ x a b. alone (subst (Contains cs) (row_are R r good x a).1 (all_are cs rs each x b).1))

    all_long : (cs : List Path) (rs : List ClassRow) → Each Good cs rs → length (all_in cs rs) ≡ total (map entries rs)
    all_long [] [] none = refl
    all_long [] (r ∷ rs) each = elim each [ ]
    all_long (R ∷ cs) [] each = elim each [ ]
    all_long (R ∷ cs) (r ∷ rs) (more good each) =
        let here = row_long n R r in
        let rest = all_long cs rs each in
        let sum = length-append (row_entries n R r) (all_in cs rs) in
        omega (arith, here, rest, sum)

    once_each : {A : Type 0} (xs : List A) → IsOnce xs → EachOnce xs
    once_each [] o = tt
    once_each (x ∷ xs) o = (
      (λ c. let e = o zero (suc c.0) x refl
          (slice_get_read xs (length xs) c.0 x refl c.1 (sym c.2)) in omega (arith, e)),
      once_each xs (λ i j y a b. let e : suc i ≡ suc j = o (suc i) (suc j) y a b in omega (arith, e)),
    )

    record Rest (R : Path) (r : ClassRow) : Type 0 where
      in_form : RowInForm r
      universe : InUniverse p R

    good_rows : (rows : List ClassRow) → RowsRight p n s rows → Each Good n.classes rows
    good_rows rows right = from n.classes rows right.rows_are (λ k R r a b. record {
      in_form = All-contains RowInForm rows r right.in_form (in_list rows k r b);
      universe = known k R a;
    }) where
      from : (cs : List Path) (rs : List ClassRow) → Each (RowIs p n) cs rs
          → ((k : ℕ) (R : Path) (r : ClassRow) → slice_get cs k ≡ Some R → slice_get rs k ≡ Some r → Rest R r)
          → Each Good cs rs
      from [] [] none h = none
      from [] (r ∷ rs) each h = elim each [ ]
      from (R ∷ cs) [] each h = elim each [ ]
      from (R ∷ cs) (r ∷ rs) (more is each) h =
          let now = h zero R r refl refl in
          more (record { is = is; in_form = now.in_form; universe = now.universe })
          (from cs rs each (λ k S z a b. h (suc k) S z a b))

    pub few_entries : (rows : List ClassRow) → RowsRight p n s rows → (TooManyEntries p → ⊥)
        → total (map entries rows) ≤ 1048576
    few_entries rows right not_more = by_less (cases_lt 1048576 (length (all_in n.classes rows))) where
      good : Each Good n.classes rows
      good = good_rows rows right

      by_less : (1048576 < length (all_in n.classes rows)) ⊎ (length (all_in n.classes rows) ≤ 1048576)
          → total (map entries rows) ≤ 1048576
      by_less (inr l) = let long = all_long n.classes rows good in omega (arith, l, long)
      by_less (inl l) = absurd (not_more (record {
        list = all_in n.classes rows;
        each = λ x c. (all_are n.classes rows good x c).0;
        once = each_places (all_in n.classes rows)
            (all_once n.classes rows (once_each n.classes one_class) good);
        more = l;
      }))
