-- Selectors that are gathered, and that those of the declared bodies and fields are those of the program.
use Rattle.std.proofs.Common.{◌≡◌, ◌≤◌, ◌⊎◌, inl, inr, ℕ, List, [], ◌∷◌, ◌++◌, zero, suc, length, take, Contains, Option, Some, None, Bool, true, false, cond, slice_get, refl, sym, subst, ap, ◌∙◌}
use Rattle.std.proofs.lemmas.List.{take_all}
use Rattle.std.proofs.lemmas.List.Elements.{Contains-push, Contains-push_cases, Contains-append_left}
use Rattle.jn_reach.proofs.Eachs.{Each-at, Each-back}
use Rattle.jn_reach.specs.Each.{Each}
use Rattle.jn_base.specs.declared.tree.Name.{Name}
use Rattle.jn_base.specs.declared.tree.Program.{Program}
use Rattle.jn_base.specs.declared.types.Ty.{Ty}
use Rattle.jn_base.specs.Paths.{Path}
use Rattle.jn_base.specs.Supers.{itself}
use Rattle.jn_base.proofs.NameTests.{in_none}
use Rattle.jn_base.proofs.SuperLaws.{sup_joined}
use Rattle.jn_table.specs.declared.class.ClassId.{ClassId}
use Rattle.jn_table.specs.declared.table.Table.{Table}
use Rattle.jn_table.proofs.Maps.{in_list, list_at}
use Rattle.jn_code.specs.declared.image.Shape.{Shape}
use Rattle.jn_names.specs.FieldTypes.{AtField, declared_fields}
use Rattle.jn_sem.specs.Sharing.{IsClass, HangsOnThis}
use Rattle.jn_sem.specs.Slots.{FieldType, FieldHangs}
use Rattle.jn_sem.specs.Terms.{FieldTypeIs}
use Rattle.jn_sem.specs.Does.{Body, IsBody}
use Rattle.jn_share.specs.declared.slots.Slots.{Slots}
use Rattle.jn_share.specs.Slots.{SaysHangs}
use Rattle.jn_share.proofs.Numbered.{none_known}
use Rattle.jn_share_laws.proofs.FieldsFound.{field_found}
use Rattle.jn_agree.specs.declared.selectors.MethodSel.{MethodSel}
use Rattle.jn_agree.specs.declared.selectors.FieldSel.{FieldSel}
use Rattle.jn_agree.specs.Rows.{SelectorsAre, HasShape, FieldKind, plain, hanging, kind_of_type, bodies_of}
use Rattle.jn_layout.specs.declared.declared.BodyAt.{BodyAt}
use Rattle.jn_layout.specs.declared.declared.FieldAt.{FieldAt}
use Rattle.jn_layout.specs.Shapes.{IsBodyAt, IsFieldAt, IsClassOf, shape_of}
use Rattle.jn_layout.specs.Lookups.{FoundAt, NoneTo, SelectsBody}
use Rattle.jn_layout.specs.Selecting.{Selects, OwnKind, AreMethodSels, AreFieldSels, SelectorsAsked, SelectorsOnly}
use Rattle.jn_layout.proofs.BodiesFound.{body_found}
use Rattle.jn_layout.proofs.KindLaws.{shape_is, field_kind}
use Rattle.jn_layout.proofs.LookupProof.{nowhere}

-- ---- gathering

slice_push : {B : Type 0} (xs : List B) (s : B) (j : ℕ) (b : B) → slice_get (xs ++ s ∷ []) j ≡ Some b → (slice_get xs j ≡ Some b) ⊎ ((j ≡ length xs) × (s ≡ b))
slice_push [] s zero b e = inr (refl, cc e)
slice_push [] s (suc j) b e = absurd (cc e)
slice_push (x ∷ xs) s zero b e = inl e
slice_push (x ∷ xs) s (suc j) b e = by_place (slice_push xs s j b e) where
  by_place : (slice_get xs j ≡ Some b) ⊎ ((j ≡ length xs) × (s ≡ b)) → (slice_get (x ∷ xs) (suc j) ≡ Some b) ⊎ ((suc j ≡ suc (length xs)) × (s ≡ b))
  by_place (inl h) = inl h
  by_place (inr (l, h)) = inr (ap suc l, h)

module _ {A B : Type 0} (Q : A → B → Type 0) where
  pub selects_none : (sels : List B) → sels ≡ [] → Selects Q [] sels
  selects_none sels e = record {
    sound = λ s c. absurd (in_none s (subst (λ (xs : List B). Contains xs s) e c));
    has = λ x c. absurd (in_none x c);
    once = λ j k s a b. absurd (in_none s (subst (λ (xs : List B). Contains xs s) e (in_list sels j s a)));
  }

  pub selects_keep : (T : B → Type 0) (seen now : List A) (x : A) (sels : List B) (place : ℕ) → now ≡ seen ++ x ∷ [] → FoundAt T sels place → ((s : B) → T s → Q x s)
      → Selects Q seen sels → Selects Q now sels
  selects_keep T seen now x sels place e found to g = subst (λ (xs : List A). Selects Q xs sels) (sym e) (record {
    sound = λ s c. let r = g.sound s c in (r.0, Contains-append_left seen (x ∷ []) r.0 r.1, r.2);
    has = λ y c. by_place y (Contains-push_cases seen x y c);
    once = g.once;
  }) where
    by_place : (y : A) → Contains seen y ⊎ (x ≡ y) → (s : B) × Contains sels s × Q y s
    by_place y (inl h) = g.has y h
    by_place y (inr h) = (found.thing, in_list sels place found.thing found.at, subst (λ (z : A). Q z found.thing) h (to found.thing found.is))

  pub selects_push : (T : B → Type 0) (seen now : List A) (x : A) (sels after : List B) (s : B) → now ≡ seen ++ x ∷ [] → after ≡ sels ++ s ∷ [] → NoneTo T sels (length sels) → T s → Q x s
      → Selects Q seen sels → Selects Q now after
  selects_push T seen now x sels after s e f none is q g = subst (λ (xs : List A). Selects Q xs after) (sym e) (subst (λ (zs : List B). Selects Q (seen ++ x ∷ []) zs) (sym f) (record {
    sound = λ b c. by_out b (Contains-push_cases sels s b c);
    has = λ y c. by_place y (Contains-push_cases seen x y c);
    once = λ j k b a d. both j k b (slice_push sels s j b a) (slice_push sels s k b d);
  })) where
    by_out : (b : B) → Contains sels b ⊎ (s ≡ b) → (y : A) × Contains (seen ++ x ∷ []) y × Q y b
    by_out b (inl h) = let r = g.sound b h in (r.0, Contains-append_left seen (x ∷ []) r.0 r.1, r.2)
    by_out b (inr h) = (x, Contains-push seen x, subst (Q x) h q)

    by_place : (y : A) → Contains seen y ⊎ (x ≡ y) → (b : B) × Contains (sels ++ s ∷ []) b × Q y b
    by_place y (inl h) = let r = g.has y h in (r.0, Contains-append_left sels (s ∷ []) r.0 r.1, r.2)
    by_place y (inr h) = (s, Contains-push sels s, subst (λ (z : A). Q z s) h q)

    both : (j k : ℕ) (b : B) → (slice_get sels j ≡ Some b) ⊎ ((j ≡ length sels) × (s ≡ b)) → (slice_get sels k ≡ Some b) ⊎ ((k ≡ length sels) × (s ≡ b)) → j ≡ k
    both j k b (inl a) (inl d) = g.once j k b a d
    both j k b (inl a) (inr (l, d)) = absurd (nowhere T sels none j b a (subst T d is))
    both j k b (inr (l, a)) (inl d) = absurd (nowhere T sels none k b d (subst T a is))
    both j k b (inr (l, a)) (inr (m, d)) = l ∙ sym m

  pub selects_all : (xs : List A) (i : ℕ) (sels : List B) → length xs ≤ i → Selects Q (take i xs) sels → Selects Q xs sels
  selects_all xs i sels l g = subst (λ (ys : List A). Selects Q ys sels) (take_all i xs l) g

-- ---- of the program

one_sel : (x : BodyAt) (a : MethodSel) (m : Name) (s : Shape) → SelectsBody x a → x.name ≡ m → s.params ≡ x.params.items → s.result ≡ x.result → a ≡ record { name = m; shape = s }
one_sel x a m s h n ps r =
    ap (λ (N : Name). record { name = N; shape = a.shape }) (h.name ∙ n)
    ∙ (ap (λ (ks : List ℕ). record { name = m; shape = record { params = ks; result = a.shape.result } }) (h.params ∙ sym ps)
    ∙ ap (λ (k : ℕ). record { name = m; shape = record { params = s.params; result = k } }) (h.result ∙ sym r))

module _ (p : Program) (t : Table) (s : Slots) (asked : SelectorsAsked p t s) where
  pub methods_selected : (bodies : List BodyAt) (methods : List MethodSel) → Each (IsBodyAt t) (bodies_of p) bodies → AreMethodSels bodies methods
      → (R : Path) (m : Name) (b : Body) (shape : Shape) → IsBody p R m b → HasShape p b shape → Contains methods (record { name = m; shape = shape })
  methods_selected bodies methods are sels R m b shape is has =
      let k = list_at (bodies_of p) b (body_found p b.class m b.method is.at) in
      let x = Each-at (IsBodyAt t) are k.0 b k.1 in
      let sel = sels.has x.0 (in_list bodies k.0 x.0 x.1) in
      let said = shape_is p b shape has in
      subst (Contains methods)
      (one_sel x.0 sel.0 m shape sel.2 (x.2.name ∙ is.at.name) (ap (λ (y : Shape). y.params) said ∙ sym x.2.params) (ap (λ (y : Shape). y.result) said ∙ sym x.2.result)) sel.1

  module _ (R : Path) (f : Name) (type : Ty) (is : FieldType p R f type) where
    -- the class that declares it has it with that type
    own : FieldType p is.class f type
    own = record {
      class = is.class;
      is_field = record {
        declares = record { super = itself; field = is.field; at = is.at };
        only = λ S d. is.is_field.only S (record { super = sup_joined is.is_field.declares.super d.super; field = d.field; at = d.at });
      };
      field = is.field;
      at = is.at;
      type = is.type;
    }

    own_class : IsClass p is.class
    own_class = asked.of_classes is.class f type own

    module _ (x : FieldAt) (at : IsFieldAt t (record { class = is.class; field = is.field }) x) (k kind : ℕ) (of : FieldKind type k) (own_kind : OwnKind s x kind) where
      written : kind_of_type type ≡ x.kind
      written = field_kind p is.class f is.field.ty type is.type ∙ sym at.kind

      named : x.name ≡ f
      named = at.name ∙ is.at.name

      by_hangs : (id : ClassId) → IsClassOf t is.class (Some id) → (told : Bool) → SaysHangs s id x.name told → kind ≡ cond told 4 x.kind → FieldKind type k → kind ≡ k
      by_hangs id number true says e (hanging h l) = e ∙ sym l
      by_hangs id number false says e (plain h l) = e ∙ (sym written ∙ sym l)
      by_hangs id number true says e (plain none l) =
          let h = (says p t.known.items is.class asked.slots number own_class).0 refl in
          absurd (none (subst HangsOnThis (asked.once.field is.class f h.ty type (subst (λ (N : Name). FieldType p is.class N h.ty) named h.type) own) h.hangs))
      by_hangs id number false says e (hanging h l) =
          let w : FieldHangs p is.class f = record { ty = type; type = own; hangs = h } in
          absurd (cc ((says p t.known.items is.class asked.slots number own_class).1 (subst (λ (N : Name). FieldHangs p is.class N) (sym named) w)))

      same_kind : kind ≡ k
      same_kind = by_class x.class refl at.class where
        by_class : (o : Option ClassId) → x.class ≡ o → IsClassOf t is.class o → kind ≡ k
        by_class None e none = absurd (none_known p t is.class asked.filled none own_class.universe)
        by_class (Some id) e number = let w = own_kind id e in by_hangs id number w.0 w.1 w.2 of

    pub field_selected : (fields : List FieldAt) (sels : List FieldSel) → Each (IsFieldAt t) (declared_fields p) fields → AreFieldSels s fields sels → (k : ℕ) → FieldKind type k
        → Contains sels (record { name = f; kind = k })
    field_selected fields sels are g k of =
        let a : AtField = record { class = is.class; field = is.field } in
        let i = list_at (declared_fields p) a (field_found p is.class f is.field is.at) in
        let x = Each-at (IsFieldAt t) are i.0 a i.1 in
        let sel = g.has x.0 (in_list fields i.0 x.0 x.1) in
        subst (Contains sels)
        (ap (λ (N : Name). record { name = N; kind = sel.0.kind }) (sel.2.name_is ∙ named x.0 x.2 k sel.0.kind of sel.2.kind_is)
        ∙ ap (λ (n : ℕ). record { name = f; kind = n }) (same_kind x.0 x.2 k sel.0.kind of sel.2.kind_is)) sel.1

  pub selectors_are : (bodies : List BodyAt) (fields : List FieldAt) (methods : List MethodSel) (sels : List FieldSel) → Each (IsBodyAt t) (bodies_of p) bodies
      → Each (IsFieldAt t) (declared_fields p) fields → AreMethodSels bodies methods → AreFieldSels s fields sels → SelectorsAre p methods sels
  selectors_are bodies fields methods sels b f ms fs = record {
    has_method = methods_selected bodies methods b ms;
    has_field = λ R n type k is of. field_selected R n type is fields sels f fs k of;
    method_once = ms.once;
    field_once = fs.once;
  }

  pub bodies_only : (bodies : List BodyAt) (methods : List MethodSel) → Each (IsBodyAt t) (bodies_of p) bodies → AreMethodSels bodies methods
      → (x : MethodSel) → Contains methods x → (b : Body) × Contains (bodies_of p) b × (x ≡ record { name = b.method.name.name; shape = shape_of b.method })
  bodies_only bodies methods are sels x c =
      let y = sels.sound x c in
      let i = list_at bodies y.0 y.1 in
      let w = Each-back (IsBodyAt t) are i.0 y.0 i.1 in
      (w.0, in_list (bodies_of p) i.0 w.0 w.1, one_sel y.0 x w.0.method.name.name (shape_of w.0.method) y.2 w.2.name (sym w.2.params) (sym w.2.result))

  kind_only : (g : AtField) (y : FieldAt) → IsFieldAt t g y → (f : Name) → y.name ≡ f → (kind : ℕ) → OwnKind s y kind → (type : Ty) → FieldTypeIs p g.class f g.field.ty type
      → FieldType p g.class f type → FieldKind type kind
  kind_only g y at f named kind own_kind type of is = by_class y.class refl at.class where
    class : IsClass p g.class
    class = asked.of_classes g.class f type is

    by_hangs : (id : ClassId) → IsClassOf t g.class (Some id) → (told : Bool) → SaysHangs s id y.name told → kind ≡ cond told 4 y.kind → FieldKind type kind
    by_hangs id number true says e =
        let h = (says p t.known.items g.class asked.slots number class).0 refl in
        hanging (subst HangsOnThis (asked.once.field g.class f h.ty type (subst (λ (N : Name). FieldType p g.class N h.ty) named h.type) is) h.hangs) e
    by_hangs id number false says e =
        plain (λ h.
        let w : FieldHangs p g.class f = record { ty = type; type = is; hangs = h } in
        cc ((says p t.known.items g.class asked.slots number class).1 (subst (λ (N : Name). FieldHangs p g.class N) (sym named) w)))
        (e ∙ (at.kind ∙ sym (field_kind p g.class f g.field.ty type of)))

    by_class : (o : Option ClassId) → y.class ≡ o → IsClassOf t g.class o → FieldKind type kind
    by_class None e none = absurd (none_known p t g.class asked.filled none class.universe)
    by_class (Some id) e number = let w = own_kind id e in by_hangs id number w.0 w.1 w.2

  pub selectors_only : (bodies : List BodyAt) (fields : List FieldAt) (methods : List MethodSel) (sels : List FieldSel) → Each (IsBodyAt t) (bodies_of p) bodies
      → Each (IsFieldAt t) (declared_fields p) fields → AreMethodSels bodies methods → AreFieldSels s fields sels → SelectorsOnly p methods sels
  selectors_only bodies fields methods sels b f ms fs = record {
    of_body = bodies_only bodies methods b ms;
    of_field = λ x c.
        let y = fs.sound x c in
        let i = list_at fields y.0 y.1 in
        let w = Each-back (IsFieldAt t) f i.0 y.0 i.1 in
        (w.0, in_list (declared_fields p) i.0 w.0 w.1, y.2.name_is ∙ w.2.name, λ type of is. kind_only w.0 y.0 w.2 x.name (sym y.2.name_is) x.kind y.2.kind_is type of is);
  }
