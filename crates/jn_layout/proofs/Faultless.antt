-- No row of an image that was laid out has a fault.
use Rattle.std.proofs.Common.{if◌then◌else◌, ◌≡◌, ◌<◌, ◌+◌, ◌⊎◌, ◌&&◌, ◌||◌, cond, reverse, ℕ, zero, suc, List, [], ◌∷◌, Contains, Bool, true, false, not, Option, Some, None, arith, ap, length, map, nat_eq, nat_lt, refl, slice_get, subst, sym, ◌∙◌, inl, inr}
use Rattle.std.specs.declared.cmp.Ordering.{Ordering}
use Rattle.std.specs.declared.cmp.Ordering.TheVariants.{Less}
use Rattle.std.specs.List.{find, list_all}
use Rattle.std.specs.Option.{option_map}
use Rattle.std.specs.Ordering.{ordering_then}
use Rattle.std.specs.Cmp.{nat_cmp_is}
use Rattle.std.specs.Cmp.Lexicographic.{slice_cmp}
use Rattle.std.proofs.lemmas.Bool.{cases_lt}
use Rattle.std.proofs.lemmas.Bool.Decides.{nat_tests}
use Rattle.std.proofs.lemmas.List.Elements.{All-contains}
use Rattle.std.proofs.lemmas.Option.{slice_get_within}
use Rattle.jn_reach.proofs.Eachs.{Each-at, Each-back}
use Rattle.jn_base.specs.declared.tree.Kind.{Kind}
use Rattle.jn_base.specs.declared.tree.Kind.TheVariants as kind
use Rattle.jn_base.specs.declared.tree.Name.{Name}
use Rattle.jn_base.specs.declared.tree.Program.{Program}
use Rattle.jn_base.specs.declared.types.Ty.{Ty}
use Rattle.jn_base.specs.declared.types.Ty.TheVariants as ty
use Rattle.jn_base.specs.Paths.{Path}
use Rattle.jn_base.specs.ClassOrder.{Before, IsFirst, class_cmp, name_cmp}
use Rattle.jn_base.specs.Universe.{InUniverse}
use Rattle.jn_base.proofs.NameTests.{in_cons, in_none, first, later}
use Rattle.jn_table.specs.declared.class.ClassId.{ClassId}
use Rattle.jn_table.specs.declared.class.Row.{Row}
use Rattle.jn_table.specs.declared.table.Table.{Table}
use Rattle.jn_table.specs.Rows.{IsNumber, IsRow}
use Rattle.jn_table.proofs.Maps.{in_list}
use Rattle.jn_table.proofs.Shown.{number_path, numbers_before, place_of_number}
use Rattle.jn_table.proofs.Sorted.{in_order}
use Rattle.jn_names.specs.declared.members.Members.{Members}
use Rattle.jn_sem.specs.Sharing.{HangsOnThis, IsClass, Related, family_of}
use Rattle.jn_sem.proofs.Codes.{contains_of}
use Rattle.jn_sem.proofs.SharedLaws.{sharing_laws}
use Rattle.jn_share.proofs.Numbered.{numbered_known}
use Rattle.jn_share.specs.declared.groups.Groups.{Groups}
use Rattle.jn_share.specs.declared.slots.Slots.{Slots}
use Rattle.jn_code.specs.declared.fault.RowWhy.{RowWhy}
use Rattle.jn_code.specs.declared.fault.RowWhy.TheVariants as why
use Rattle.jn_code.specs.declared.image.ClassRow.{ClassRow}
use Rattle.jn_code.specs.declared.image.FieldEntry.{FieldEntry}
use Rattle.jn_code.specs.declared.image.Group.{Group}
use Rattle.jn_code.specs.declared.image.Image.{Image}
use Rattle.jn_code.specs.declared.image.MemberEntry.{MemberEntry}
use Rattle.jn_code.specs.declared.image.MethodEntry.{MethodEntry}
use Rattle.jn_code.specs.declared.image.OtherEntry.{OtherEntry}
use Rattle.jn_code.specs.declared.image.Shape.{Shape}
use Rattle.jn_code.specs.declared.kind.OperandKind.{OperandKind}
use Rattle.jn_code.specs.declared.kind.OperandKind.TheVariants as operand
use Rattle.jn_code.specs.Form.{Ascends, IsBelowFirst, RowInForm}
use Rattle.jn_code.specs.Kinds.{kind_of}
use Rattle.jn_code.specs.Rows.{field_is_good, group_at, group_is_good, group_of, has_shape, kind_eq, member_is_good, method_is_good, numbered, other_is_good, passes, row_fault, same_numbers, slot_is_good, unless, up_is_good}
use Rattle.jn_code.specs.Valid.{bad_row, codes_fault, rows_fault}
use Rattle.jn_agree.specs.declared.selectors.FieldSel.{FieldSel}
use Rattle.jn_agree.specs.declared.selectors.MethodSel.{MethodSel}
use Rattle.jn_agree.specs.declared.selectors.Selectors.{Selectors}
use Rattle.jn_agree.specs.Naming.{Naming}
use Rattle.jn_agree.specs.Rows.{FieldKind, hanging, kind_of_type, plain, RowIs, UpIs}
use Rattle.jn_layout.specs.Asked.{RowsAsked}
use Rattle.jn_layout.specs.LawsOfRows.{IsLaidOut, RowsAreFaultless}
use Rattle.jn_layout.proofs.PartProof.{at_class, one_number}

-- ---- tests

equal : (a b : ℕ) → a ≡ b → nat_eq a b ≡ true
equal a b e = grind (arith, nat_tests)

apart : (a b : ℕ) → a < b → nat_eq a b ≡ false
apart a b l = grind (arith, nat_tests)

below : (a b : ℕ) → a < b → nat_lt a b ≡ true
below a b l = grind (arith, nat_tests)

both : (a b : Bool) → a ≡ true → b ≡ true → (a && b) ≡ true
both true b e f = f
both false b e f = absurd (cc e)

left : (a b : Bool) → a ≡ true → (a || b) ≡ true
left true b e = refl
left false b e = absurd (cc e)

right : (a b : Bool) → b ≡ true → (a || b) ≡ true
right true b e = refl
right false b e = e

pub all_pass : {A : Type 0} (test : A → Bool) (xs : List A) → ((x : A) → Contains xs x → test x ≡ true)
    → list_all test xs ≡ true
all_pass test [] h = refl
all_pass test (x ∷ xs) h =
    both (test x) (list_all test xs) (h x (first x xs)) (all_pass test xs (λ y c. h y (later x xs y c)))

same_list : (xs ys : List ℕ) → xs ≡ ys → same_numbers xs ys ≡ true
same_list xs ys e = subst (λ (zs : List ℕ). same_numbers xs zs ≡ true) e (itself xs) where
  itself : (zs : List ℕ) → same_numbers zs zs ≡ true
  itself [] = refl
  itself (z ∷ zs) = both (nat_eq z z) (same_numbers zs zs) (equal z z refl) (itself zs)

one_operand : (k : OperandKind) → kind_eq k k ≡ true
one_operand operand.Int = refl
one_operand operand.Bool = refl
one_operand operand.Reference = refl
one_operand operand.Class = refl

mapped : {A B : Type 0} (f : A → B) (xs : List A) (k : ℕ) (x : A) → slice_get xs k ≡ Some x
    → slice_get (map f xs) k ≡ Some (f x)
mapped f [] zero x e = absurd (cc e)
mapped f [] (suc k) x e = absurd (cc e)
mapped {A} f (z ∷ zs) zero x e = let h : z ≡ x = cc e in ap (λ (y : A). Some (f y)) h
mapped f (z ∷ zs) (suc k) x e = mapped f zs k x e

good : {W : Type 0} (b : Bool) (w : W) (later : Option W) → b ≡ true → later ≡ None → unless b w later ≡ None
good true w later e f = f
good false w later e f = absurd (cc e)

-- ---- an entry of a list that ascends is the one of its key

module _ {E : Type 0} (key value : E → ℕ) where
  above : (x : ℕ) (es : List E) → IsBelowFirst x (map key es) → Ascends (map key es) → (e : E) → Contains es e → x < key e
  above x [] now rest e c = absurd (in_none e c)
  above x (z ∷ es) now (next, others) e c = by_place (in_cons z es e c) (λ d. above (key z) es next others e d) where
    by_place : (z ≡ e) ⊎ Contains es e → (Contains es e → key z < key e) → x < key e
    by_place (inl s) f = subst (λ (y : E). x < key y) s now
    by_place (inr d) f = let h = f d in omega (arith, now, h)

  pub told_own : (es : List E) → Ascends (map key es) → (e : E) → Contains es e
      → option_map value (find (λ (x : E). nat_eq (key x) (key e)) es) ≡ Some (value e)
  told_own [] up e c = absurd (in_none e c)
  told_own (z ∷ es) (now, rest) e c = by_place (in_cons z es e c) (λ d. told_own es rest e d) where
    by_test : (b : Bool) → nat_eq (key z) (key e) ≡ b
        → option_map value (cond b (Some z) (find (λ (x : E). nat_eq (key x) (key e)) es)) ≡ Some (value e)
        → option_map value (find (λ (x : E). nat_eq (key x) (key e)) (z ∷ es)) ≡ Some (value e)
    by_test b t h =
        ap (λ (d : Bool). option_map value (cond d (Some z) (find (λ (x : E). nat_eq (key x) (key e)) es))) t ∙ h

    by_place : (z ≡ e) ⊎ Contains es e
        → (Contains es e → option_map value (find (λ (x : E). nat_eq (key x) (key e)) es) ≡ Some (value e))
        → option_map value (find (λ (x : E). nat_eq (key x) (key e)) (z ∷ es)) ≡ Some (value e)
    by_place (inl s) f = by_test true (equal (key z) (key e) (ap key s)) (ap (λ (y : E). Some (value y)) s)
    by_place (inr d) f = by_test false (apart (key z) (key e) (above (key z) es now rest e d)) (f d)

-- a path comes before a longer one
shorter : (p : Program) (P Q : Path) → length P < length Q → Before p P Q
shorter p P Q l =
    ap (λ (o : Ordering). ordering_then o (slice_cmp (name_cmp p) (reverse P) (reverse Q)))
    (sym (nat_cmp_is (length P) (length Q) Less l))

family_some : (D : Name) (P : Path) → (Y : Name) × (family_of (D ∷ P) ≡ Some Y)
family_some D [] = (D, refl)
family_some D (E ∷ P) = family_some E P

module _ (p : Program) (t : Table) (m : Members) (g : Groups) (s : Slots) (names : Selectors) (n : Naming) (i : Image)
    (out : IsLaidOut p t m g s names n i) where
  asked : RowsAsked p t m g s names n
  asked = out.asked

  number : (k : ℕ) (R : Path) → slice_get n.classes k ≡ Some R → IsNumber t.known.items (record { 0 = k }) R
  number k R a = at_class t n asked.naming.classes k R a

  one_class : (j k : ℕ) (R : Path) → slice_get n.classes j ≡ Some R → slice_get n.classes k ≡ Some R → j ≡ k
  one_class j k R a b = one_number p t asked.parts.filled j k R (number j R a) (number k R b)

  one_place : (j k : ℕ) (P Q : Path) → P ≡ Q → slice_get n.classes j ≡ Some P → slice_get n.classes k ≡ Some Q → j ≡ k
  one_place j k P Q e a b = one_class j k Q (a ∙ ap Some e) b

  its_row : (k : ℕ) (R : Path) → slice_get n.classes k ≡ Some R
      → (row : ClassRow) × (slice_get i.classes k ≡ Some row) × RowIs p n R row
  its_row k R a = Each-at (RowIs p n) out.rows.rows_are k R a

  -- ---- one row

  module _ (k : ℕ) (R : Path) (row : ClassRow) (at : slice_get n.classes k ≡ Some R) (there : slice_get i.classes k ≡ Some row)
      (is : RowIs p n R row) where
    known : InUniverse p R
    known = numbered_known p t R (record { 0 = k }) asked.parts.filled (number k R at)

    in_form : RowInForm row
    in_form = All-contains RowInForm i.classes row out.rows.in_form (in_list i.classes k row there)

    table_row : (x : Row) × IsRow p t.known.items R x
    table_row =
        let w = asked.parts.filled.table.rows in
        let r = Each-at (IsRow p t.known.items) w.each k R
        (place_of_number p w.paths t.known.items w.shown_are (in_order (class_cmp p) w.paths w.in_order) (record { 0 = k }) R
        (number k R at)) in
        (r.0, r.2)

    -- up and family
    up_good : up_is_good i k row ≡ true
    up_good = by_path R refl where
      above_it : (C D : Name) (P : Path) → R ≡ C ∷ (D ∷ P) → up_is_good i k row ≡ true
      above_it C D P e =
          let up : slice_get n.classes row.up ≡ Some (D ∷ P) = subst (λ (Q : Path). UpIs n Q row.up) e is.up in
          let r = asked.parts.filled.table.rows in
          let low = (numbers_before p r.paths t.known.items r.shown_are (in_order (class_cmp p) r.paths r.in_order)
          (record { 0 = row.up }) (record { 0 = k }) (D ∷ P) R (number row.up (D ∷ P) up) (number k R at)).1
          (shorter p (D ∷ P) R (subst (λ (Q : Path). length (D ∷ P) < length Q) (sym e) (omega arith))) in
          let u = its_row row.up (D ∷ P) up in
          let fam = family_some D P in
          let mine = is.family fam.0 (ap family_of e ∙ fam.1) in
          let its = u.2.family fam.0 fam.1 in
          right (nat_eq row.up 65535 && nat_eq row.family k)
          (nat_lt row.up k && passes (λ (x : ClassRow). nat_eq x.family row.family) (slice_get i.classes row.up))
          (both (nat_lt row.up k) (passes (λ (x : ClassRow). nat_eq x.family row.family) (slice_get i.classes row.up))
          (below row.up k low)
          (ap (passes (λ (x : ClassRow). nat_eq x.family row.family)) u.1
          ∙ equal u.0.family row.family (one_class u.0.family row.family (fam.0 ∷ []) its mine)))

      by_path : (Q : Path) → R ≡ Q → up_is_good i k row ≡ true
      by_path [] e = absurd (subst (λ (Q : Path). UpIs n Q row.up) e is.up)
      by_path (X ∷ []) e =
          let up : row.up ≡ 65535 = subst (λ (Q : Path). UpIs n Q row.up) e is.up in
          let fam = is.family X (ap family_of e) in
          left (nat_eq row.up 65535 && nat_eq row.family k)
          (nat_lt row.up k && passes (λ (x : ClassRow). nat_eq x.family row.family) (slice_get i.classes row.up))
          (both (nat_eq row.up 65535) (nat_eq row.family k) (equal row.up 65535 up)
          (equal row.family k (one_place row.family k (X ∷ []) R (sym e) fam at)))
      by_path (C ∷ (D ∷ P)) e = above_it C D P e

    -- the group
    class_group : IsClass p R → (x : Group) × (slice_get i.groups row.group ≡ Some x)
    class_group c = out.groups.there R k row c (record { class = at; there = there })

    group_low : IsClass p R → row.group < 65535
    group_low c =
        let w = is.group.of_class c in
        let l = slice_get_within n.groups row.group w.0 w.2 in
        omega (arith, l, asked.few.groups)

    group_good : group_is_good i row ≡ true
    group_good = by_kind table_row.0.kind refl where
      by_kind : (x : Kind) → table_row.0.kind ≡ x → group_is_good i row ≡ true
      by_kind kind.Class e =
          let c = class_group (record { universe = known; kind = (table_row.1.kind kind.Class).1 (sym e) }) in
          right (nat_eq row.group 65535) (passes (λ (x : Group). true) (slice_get i.groups row.group))
          (ap (passes (λ (x : Group). true)) c.1)
      by_kind kind.Package e =
          left (nat_eq row.group 65535) (passes (λ (x : Group). true) (slice_get i.groups row.group))
          (equal row.group 65535 (is.group.of_package ((table_row.1.kind kind.Package).1 (sym e))))

    -- members
    member_good : (e : MemberEntry) → Contains row.members e → member_is_good i k e ≡ true
    member_good e c =
        let told = told_own (λ (x : MemberEntry). x.name) (λ (x : MemberEntry). x.class) row.members in_form.members e c in
        let C : Name = record { 0 = e.name } in
        let here : slice_get n.classes e.class ≡ Some (C ∷ R) = (is.members C e.class).0 told in
        let w = its_row e.class (C ∷ R) here in
        ap (passes (λ (x : ClassRow). nat_eq x.up k)) w.1 ∙ equal w.0.up k (up_is C w.0 w.2 R refl) where
          up_is : (C : Name) (x : ClassRow) → RowIs p n (C ∷ R) x → (Q : Path) → R ≡ Q → x.up ≡ k
          up_is C x r [] e = absurd (subst (λ (Q : Path). UpIs n Q row.up) e is.up)
          up_is C x r (D ∷ P) e =
              let up : slice_get n.classes x.up ≡ Some (D ∷ P) = subst (λ (Q : Path). UpIs n (C ∷ Q) x.up) e r.up in
              one_place x.up k (D ∷ P) R (sym e) up at

    -- methods
    method_good : (e : MethodEntry) → Contains row.methods e → method_is_good i e ≡ true
    method_good e c =
        let told = told_own (λ (x : MethodEntry). x.selector) (λ (x : MethodEntry). x.code) row.methods in_form.methods e c in
        let h = is.methods e.selector e.code told in
        let sel : slice_get i.methods e.selector ≡ Some h.sel.shape =
        subst (λ (xs : List Shape). slice_get xs e.selector ≡ Some h.sel.shape) out.shapes
        (mapped (λ (x : MethodSel). x.shape) n.methods e.selector h.sel h.selector) in
        let w = out.codes.code e.code h.body h.sel.shape h.code h.shape in
        ap (passes (λ (x : Shape). passes (has_shape x) (slice_get i.codes e.code))) sel
        ∙ (ap (passes (has_shape h.sel.shape)) w.1
        ∙ both (same_numbers w.0.params (3 ∷ h.sel.shape.params)) (nat_eq w.0.result h.sel.shape.result)
        (same_list w.0.params (3 ∷ h.sel.shape.params) w.2) (equal w.0.result h.sel.shape.result w.3))

    -- fields
    kinds_agree : (u : Ty) (c : ℕ) → FieldKind u c → kind_eq (kind_of (kind_of_type u)) (kind_of c) ≡ true
    kinds_agree u c (plain none e) =
        subst (λ (j : ℕ). kind_eq (kind_of (kind_of_type u)) (kind_of j) ≡ true) (sym e) (one_operand (kind_of (kind_of_type u)))
    kinds_agree u c (hanging h e) =
        subst (λ (j : ℕ). kind_eq (kind_of (kind_of_type u)) (kind_of j) ≡ true) (sym e) (by_type u h) where
          by_type : (v : Ty) → HangsOnThis v → kind_eq (kind_of (kind_of_type v)) (kind_of 4) ≡ true
          by_type ty.Int h = absurd (in_none h.atom (contains_of [] h.atom h.among))
          by_type ty.Bool h = absurd (in_none h.atom (contains_of [] h.atom h.among))
          by_type ty.Null h = refl
          by_type ty.Void h = refl
          by_type (ty.Class xs ms) h = refl

    field_good : (e : FieldEntry) → Contains row.fields e → field_is_good i row e ≡ true
    field_good e c =
        let told = told_own (λ (x : FieldEntry). x.selector) (λ (x : FieldEntry). x.slot) row.fields in_form.fields e c in
        let h = is.fields e.selector e.slot told in
        let class = asked.typed.of_classes R h.sel.name h.type h.is in
        let w = class_group class in
        let number_is : numbered row.group ≡ Some row.group =
        ap (λ (b : Bool). if b then None else Some row.group) (apart row.group 65535 (group_low class)) in
        let group : group_of i row ≡ Some w.0 = ap (group_at i) number_is ∙ w.1 in
        let field : slice_get i.fields e.selector ≡ Some h.sel.kind =
        subst (λ (xs : List ℕ). slice_get xs e.selector ≡ Some h.sel.kind) out.kinds
        (mapped (λ (x : FieldSel). x.kind) n.fields e.selector h.sel h.selector) in
        let slot : slice_get w.0.slots e.slot ≡ Some (kind_of_type h.type) =
        out.groups.kinds R k e.slot row w.0 h.sel.name h.type (record { class = at; there = there }) w.1
        (record {
          k = k;
          row = row;
          is = record { class = at; there = there };
          s = e.selector;
          sel = h.sel;
          selector = h.selector;
          name = refl;
          slot = told;
        }) h.is in
        ap (passes (slot_is_good i e)) group
        ∙ (ap (passes (λ (f : ℕ). passes (λ (x : ℕ). kind_eq (kind_of x) (kind_of f)) (slice_get w.0.slots e.slot))) field
        ∙ (ap (passes (λ (x : ℕ). kind_eq (kind_of x) (kind_of h.sel.kind))) slot ∙ kinds_agree h.type h.sel.kind h.kind))

    -- counterparts
    first_same : (V W : Path) → Related p V W → (G H : Path) → IsFirst p (Related p V) G → IsFirst p (Related p W) H → G ≡ H
    first_same V W r G H a b =
        let laws = sharing_laws p in
        let back = laws.turned V W r in
        let j = asked.parts.filled.whole.whole G a.holds.other.universe in
        let l = asked.parts.filled.whole.whole H b.holds.other.universe in
        let before = λ (x y : ClassId) (P Q : Path) (u : IsNumber t.known.items x P) (v : IsNumber t.known.items y Q).
        let w = asked.parts.filled.table.rows in
        numbers_before p w.paths t.known.items w.shown_are (in_order (class_cmp p) w.paths w.in_order) x y P Q u v in
        let up = λ (d : j.0.0 < l.0.0). b.first G (laws.joined W V G back a.holds) ((before j.0 l.0 G H j.1 l.1).0 d) in
        let down = λ (d : l.0.0 < j.0.0). a.first H (laws.joined V W H r b.holds) ((before l.0 j.0 H G l.1 j.1).0 d) in
        let same : j.0.0 ≡ l.0.0 = by_place j.0.0 l.0.0 up down in
        number_path t.known.items l.0 G H (subst (λ (x : ClassId). IsNumber t.known.items x G)
        (ap (λ (q : ℕ). record { 0 = q }) same) j.1) l.1 where
          by_place : (a b : ℕ) → (a < b → ⊥) → (b < a → ⊥) → a ≡ b
          by_place a b f h = elim (cases_lt a b) [
            | inl l ↦ absurd (f l)
            | inr l ↦ elim (cases_lt b a) [
              | inl d ↦ absurd (h d)
              | inr d ↦ omega (arith, l, d)
            ]
          ]

    other_good : (e : OtherEntry) → Contains row.others e → other_is_good i row e ≡ true
    other_good e c =
        let told = told_own (λ (x : OtherEntry). x.family) (λ (x : OtherEntry). x.class) row.others in_form.others e c in
        let h = (is.others e.family e.class).0 told in
        let r = h.counterpart.related in
        let w = its_row e.class h.class h.at in
        let mine = is.group.of_class r.one in
        let its = w.2.group.of_class r.other in
        let first : its.0 ≡ mine.0 = sym (first_same R h.class r mine.0 its.0 mine.1 its.1) in
        let group : w.0.group ≡ row.group =
        asked.naming.groups.once w.0.group row.group mine.0 (its.2 ∙ ap Some first) mine.2 in
        let family = w.2.family h.family ((sharing_laws p).family h.family R h.class h.counterpart) in
        let family_is : w.0.family ≡ e.family = one_class w.0.family e.family (h.family ∷ []) family h.number in
        both (not (nat_eq row.group 65535))
        (passes (λ (x : ClassRow). nat_eq x.group row.group && nat_eq x.family e.family) (slice_get i.classes e.class))
        (ap not (apart row.group 65535 (group_low r.one)))
        (ap (passes (λ (x : ClassRow). nat_eq x.group row.group && nat_eq x.family e.family)) w.1
        ∙ both (nat_eq w.0.group row.group) (nat_eq w.0.family e.family) (equal w.0.group row.group group)
        (equal w.0.family e.family family_is))

    pub row_good : row_fault i k row ≡ None
    row_good =
        good (up_is_good i k row) why.Up _ up_good
        (good (group_is_good i row) why.Group _ group_good
        (good (list_all (member_is_good i k) row.members) why.Member _ (all_pass (member_is_good i k) row.members member_good)
        (good (list_all (method_is_good i) row.methods) why.Method _ (all_pass (method_is_good i) row.methods method_good)
        (good (list_all (field_is_good i row) row.fields) why.Field _ (all_pass (field_is_good i row) row.fields field_good)
        (good (list_all (other_is_good i row) row.others) why.Other _ (all_pass (other_is_good i row) row.others other_good)
        refl)))))

  -- ---- all of them

  each_good : (k : ℕ) (row : ClassRow) → slice_get i.classes k ≡ Some row → row_fault i k row ≡ None
  each_good k row there =
      let w = Each-back (RowIs p n) out.rows.rows_are k row there in
      row_good k w.0 row w.1 there w.2

  pub faultless : RowsAreFaultless i
  faultless = record { each = each_good; all = from 0 i.classes (λ j row at q e. here j row at q e) } where
    here : (j : ℕ) (row : ClassRow) → slice_get i.classes j ≡ Some row → (q : ℕ) → q ≡ 0 + j → row_fault i q row ≡ None
    here j row at q e =
        let same : q ≡ j = omega (arith, e) in
        subst (λ (x : ℕ). row_fault i x row ≡ None) (sym same) (each_good j row at)

    from : (k : ℕ) (rows : List ClassRow)
        → ((j : ℕ) (row : ClassRow) → slice_get rows j ≡ Some row → (q : ℕ) → q ≡ k + j → row_fault i q row ≡ None)
        → rows_fault i k rows ≡ codes_fault i 0 i.codes
    from k [] h = refl
    from k (r ∷ rs) h =
        ap (λ (o : Option RowWhy). bad_row k o (rows_fault i (k + 1) rs)) (h 0 r refl k (omega arith))
        ∙ from (k + 1) rs (λ j row at q e. h (suc j) row at q (omega (arith, e)))
