-- What is found by name is right.
use Rattle.std.proofs.Common.{◌≡◌, ◌<◌, ℕ, List, length, map, cond, Option, Some, None, IfNone, slice_get, Bool, true, false, refl, sym, subst, ap, ◌∙◌, arith}
use Rattle.std.proofs.lemmas.Option.{slice_get_within}
use Rattle.jn_reach.proofs.Eachs.{Each-at, Each-back}
use Rattle.jn_base.specs.declared.tree.Name.{Name}
use Rattle.jn_base.specs.declared.tree.Program.{Program}
use Rattle.jn_base.specs.declared.types.Ty.{Ty}
use Rattle.jn_base.specs.Paths.{Path}
use Rattle.jn_base.specs.Members.{MethodAt, Decls, Least as IsLeast, FieldAt as DeclaredAt, FieldDecls, IsField}
use Rattle.jn_table.specs.declared.class.ClassId.{ClassId}
use Rattle.jn_table.specs.declared.table.Table.{Table}
use Rattle.jn_table.specs.Rows.{IsNumber}
use Rattle.jn_table.proofs.Maps.{in_list, list_at}
use Rattle.jn_table.proofs.Shown.{number_path, same_id}
use Rattle.jn_code.specs.declared.image.Shape.{Shape}
use Rattle.jn_names.specs.declared.members.Members.{Members}
use Rattle.jn_names.specs.declared.members.Least.{Least}
use Rattle.jn_names.specs.declared.members.Least.TheVariants as least
use Rattle.jn_names.specs.Members.{LeastIs}
use Rattle.jn_names.specs.FieldTypes.{AtField, declared_fields}
use Rattle.jn_sem.specs.Sharing.{IsClass, HangsOnThis}
use Rattle.jn_sem.specs.Slots.{FieldType, FieldHangs}
use Rattle.jn_sem.specs.Does.{Body, IsBody}
use Rattle.jn_share.proofs.Numbered.{numbered_known}
use Rattle.jn_share.specs.declared.slots.Slots.{Slots}
use Rattle.jn_share.specs.Slots.{HasSlot, SaysHangs, SlotTold}
use Rattle.jn_share_laws.proofs.FieldsFound.{field_found, found_field}
use Rattle.jn_agree.specs.declared.selectors.MethodSel.{MethodSel}
use Rattle.jn_agree.specs.declared.selectors.FieldSel.{FieldSel}
use Rattle.jn_agree.specs.Naming.{Naming}
use Rattle.jn_agree.specs.Rows.{HasShape, FieldKind, plain, hanging, kind_of_type, bodies_of}
use Rattle.jn_layout.specs.declared.pairs.Pair.{Pair}
use Rattle.jn_layout.specs.declared.declared.BodyAt.{BodyAt}
use Rattle.jn_layout.specs.declared.declared.FieldAt.{FieldAt}
use Rattle.jn_layout.specs.Pairs.{OnlyIs}
use Rattle.jn_layout.specs.Shapes.{IsBodyAt, IsFieldAt, IsClassOf, shape_of, param_kind}
use Rattle.jn_layout.specs.Lookups.{FoundAt, NoneTo, IsBodyOf, IsFieldOf, SelectsBody, SelectsField, MethodsAsked, MethodPair, FieldsAsked, FieldPair, SelectorPair, MethodPairOf, SlotPair, FieldPairOf}
use Rattle.jn_layout.proofs.BodiesFound.{body_found, found_body}
use Rattle.jn_layout.proofs.KindLaws.{shape_is, field_kind}
use Rattle.jn_layout.proofs.PartProof.{one_number}

-- ---- places

pub nowhere : {A : Type 0} (T : A → Type 0) (xs : List A) → NoneTo T xs (length xs) → (k : ℕ) (x : A) → slice_get xs k ≡ Some x → T x → ⊥
nowhere T xs none k x at h = none k x (slice_get_within xs k x at) at h

-- ---- methods

module _ (p : Program) (t : Table) (m : Members) (names : List MethodSel) (bodies : List BodyAt) (n : Naming) (asked : MethodsAsked p t m names bodies n)
    (id : ClassId) (R : Path) (number : IsNumber t.known.items id R) (name : Name) where
  -- the number of a body's class
  class_of : (b : Body) (x : BodyAt) (q : ClassId) (Q : Path) → IsBodyAt t b x → x.class ≡ Some q → IsNumber t.known.items q Q → b.class ≡ Q
  class_of b x q Q is e a =
      let c : IsClassOf t b.class (Some q) = subst (IsClassOf t b.class) e is.class in
      number_path t.known.items q b.class Q c a

  of_class : (b : Body) (x : BodyAt) (q : ClassId) → IsBodyAt t b x → IsNumber t.known.items q b.class → x.class ≡ Some q
  of_class b x q is a = by_class x.class is.class where
    by_class : (o : Option ClassId) → IsClassOf t b.class o → o ≡ Some q
    by_class None h = absurd (h q a)
    by_class (Some r) h = ap Some (same_id r q (one_number p t asked.filled r.0 q.0 b.class h a))

  pub no_method : ((Q : Path) → Decls p R name Q → ⊥) → OnlyIs (MethodPair p n R name) None
  no_method none x w = none w.entry.body.class (subst (λ (N : Name). Decls p R N w.entry.body.class) w.named w.entry.least.least.among)

  pub no_least : ((Q : Path) → IsLeast p R name Q → ⊥) → OnlyIs (MethodPair p n R name) None
  no_least none x w = none w.entry.body.class (subst (λ (N : Name). IsLeast p R N w.entry.body.class) w.named w.entry.least.least)

  module _ (q : ClassId) (Q : Path) (at : IsNumber t.known.items q Q) (is_least : IsLeast p R name Q) where
    abbrev given : Body
    given = record { class = Q; method = is_least.among.method }

    given_is : IsBody p R name given
    given_is = record { least = is_least; at = is_least.among.at }

    its_body : (b : Body) → IsBody p R name b → b ≡ given
    its_body b h = asked.typed.once.body R name (numbered_known p t R id asked.filled number) b given h given_is

    pub body_there : NoneTo (IsBodyOf q name) bodies (length bodies) → ⊥
    body_there none =
        let c = body_found p Q name is_least.among.method is_least.among.at in
        let k = list_at (bodies_of p) given c in
        let x = Each-at (IsBodyAt t) asked.bodies_are k.0 given k.1 in
        nowhere (IsBodyOf q name) bodies none k.0 x.0 x.1 (record { class_is = of_class given x.0 q x.2 at; name_is = x.2.name ∙ is_least.among.at.name })

    module _ (place : ℕ) (found : FoundAt (IsBodyOf q name) bodies place) where
      record Its : Type 0 where
        body : Body
        there : slice_get (bodies_of p) place ≡ Some body
        is_at : IsBodyAt t body found.thing
        is_body : IsBody p R name body

      its : Its
      its =
          let w = Each-back (IsBodyAt t) asked.bodies_are place found.thing found.at in
          let class = class_of w.0 found.thing q Q w.2 found.is.class_is at in
          let named : w.0.method.name.name ≡ name = sym w.2.name ∙ found.is.name_is in
          let declared = found_body p w.0 (in_list (bodies_of p) place w.0 w.1) in
          record {
            body = w.0;
            there = w.1;
            is_at = w.2;
            is_body = record {
              least = subst (IsLeast p R name) (sym class) is_least;
              at = subst (λ (N : Name). MethodAt p w.0.class N w.0.method) named declared;
            };
          }

      shape : (s : Shape) × HasShape p its.body s
      shape = asked.typed.shaped R name its.body its.is_body

      sel_shape : (sel : MethodSel) → SelectsBody found.thing sel → sel.shape ≡ shape_of its.body.method
      sel_shape sel h =
          ap (λ (ks : List ℕ). record { params = ks; result = sel.shape.result }) (h.params ∙ its.is_at.params)
          ∙ ap (λ (k : ℕ). record { params = map param_kind its.body.method.params; result = k }) (h.result ∙ its.is_at.result)

      pub selector_there : NoneTo (SelectsBody found.thing) names (length names) → ⊥
      selector_there none =
          let c = asked.selectors.has_method R name its.body shape.0 its.is_body shape.1 in
          let k = list_at n.methods (record { name = name; shape = shape.0 }) c in
          let s = shape_is p its.body shape.0 shape.1 in
          nowhere (SelectsBody found.thing) names none k.0 (record { name = name; shape = shape.0 })
          (subst (λ (xs : List MethodSel). slice_get xs k.0 ≡ Some (record { name = name; shape = shape.0 })) asked.methods k.1)
          (record {
            name = sym found.is.name_is;
            params = ap (λ (y : Shape). y.params) s ∙ sym its.is_at.params;
            result = ap (λ (y : Shape). y.result) s ∙ sym its.is_at.result;
          })

      module _ (sel : ℕ) (w : FoundAt (SelectsBody found.thing) names sel) (e : Pair) (key : sel < 4294967296 → e.key ≡ sel) (value : place < 4294967296 → e.value ≡ place) where
        selector : slice_get n.methods sel ≡ Some w.thing
        selector = subst (λ (xs : List MethodSel). slice_get xs sel ≡ Some w.thing) (sym asked.methods) w.at

        code : slice_get n.bodies place ≡ Some its.body
        code = subst (λ (xs : List Body). slice_get xs place ≡ Some its.body) (sym asked.numbered) its.there

        key_is : e.key ≡ sel
        key_is = key (let l = slice_get_within n.methods sel w.thing selector in omega (arith, l, asked.few.methods))

        value_is : e.value ≡ place
        value_is = value (let l = slice_get_within n.bodies place its.body code in omega (arith, l, asked.few.bodies))

        named : w.thing.name ≡ name
        named = w.is.name ∙ found.is.name_is

        has_shape : HasShape p its.body w.thing.shape
        has_shape = subst (HasShape p its.body) (shape_is p its.body shape.0 shape.1 ∙ sym (sel_shape w.thing w.is)) shape.1

        pub method_is : OnlyIs (MethodPair p n R name) (Some e)
        method_is = (
          record {
            entry = record {
              sel = w.thing;
              selector = subst (λ (i : ℕ). slice_get n.methods i ≡ Some w.thing) (sym key_is) selector;
              body = its.body;
              least = subst (λ (N : Name). IsBody p R N its.body) (sym named) its.is_body;
              shape = has_shape;
              code = subst (λ (i : ℕ). slice_get n.bodies i ≡ Some its.body) (sym value_is) code;
            };
            named = named;
          },
          λ d h. only d h,
        ) where
          only : (d : Pair) → MethodPair p n R name d → d ≡ e
          only d h =
              let b = h.entry in
              let least = subst (λ (N : Name). IsBody p R N b.body) h.named b.least in
              let body : b.body ≡ its.body = its_body b.body least ∙ sym (its_body its.body its.is_body) in
              let value_same : d.value ≡ place = asked.typed.one_place d.value place its.body
              (subst (λ (xs : List Body). slice_get xs d.value ≡ Some its.body) asked.numbered (b.code ∙ ap Some body)) its.there in
              let shapes : b.sel.shape ≡ w.thing.shape =
              shape_is p its.body b.sel.shape (subst (λ (y : Body). HasShape p y b.sel.shape) body b.shape) ∙ sym (shape_is p its.body w.thing.shape has_shape) in
              let same : b.sel ≡ w.thing =
              ap (λ (N : Name). record { name = N; shape = b.sel.shape }) (h.named ∙ sym named) ∙ ap (λ (s : Shape). record { name = w.thing.name; shape = s }) shapes in
              let key_same : d.key ≡ sel = asked.selectors.method_once d.key sel w.thing (b.selector ∙ ap Some same) selector in
              ap (λ (i : ℕ). record { key = i; value = d.value }) (key_same ∙ sym key_is) ∙ ap (λ (i : ℕ). record { key = e.key; value = i }) (value_same ∙ sym value_is)

  pub method_told : (o : Least) → LeastIs p t.known.items R name o → (q : ClassId) → o ≡ least.One q → (Q : Path) × IsNumber t.known.items q Q × IsLeast p R name Q
  method_told o h q e = subst (LeastIs p t.known.items R name) e h

  pub method_none : (q : ClassId) → ((Q : Path) × IsNumber t.known.items q Q × IsLeast p R name Q) → NoneTo (IsBodyOf q name) bodies (length bodies) → OnlyIs (MethodPair p n R name) None
  method_none q w none x h = body_there q w.0 w.1 w.2 none

  pub method_found : (q : ClassId) → ((Q : Path) × IsNumber t.known.items q Q × IsLeast p R name Q) → (place : ℕ) → FoundAt (IsBodyOf q name) bodies place → (o : Option Pair)
      → MethodPairOf bodies names place o → OnlyIs (MethodPair p n R name) o
  method_found q w place found o h = by_answer o (h found.thing found.at) where
    by_answer : (o : Option Pair) → SelectorPair names found.thing place o → OnlyIs (MethodPair p n R name) o
    by_answer None none = absurd (selector_there q w.0 w.1 w.2 place found none)
    by_answer (Some e) (sel, s, key, value) = method_is q w.0 w.1 w.2 place found sel s e key value

-- ---- fields

module _ (p : Program) (t : Table) (m : Members) (s : Slots) (names : List FieldSel) (fields : List FieldAt) (n : Naming) (asked : FieldsAsked p t m s names fields n)
    (id : ClassId) (R : Path) (number : IsNumber t.known.items id R) (name : Name) where
  its_type : (x : Pair) → (w : FieldPair p n s id R name x) → FieldType p R name w.place.entry.type
  its_type x w = subst (λ (N : Name). FieldType p R N w.place.entry.type) w.named w.place.entry.is

  pub no_field : ((Q : Path) → FieldDecls p R name Q → ⊥) → OnlyIs (FieldPair p n s id R name) None
  no_field none x w = let y = its_type x w in none y.class y.is_field.declares

  pub two_fields : (A B : Path) → FieldDecls p R name A → FieldDecls p R name B → (B ≡ A → ⊥) → OnlyIs (FieldPair p n s id R name) None
  two_fields A B a b apart x w = let y = its_type x w in apart (y.is_field.only B b ∙ sym (y.is_field.only A a))

  module _ (q : ClassId) (Q : Path) (at : IsNumber t.known.items q Q) (is_field : IsField p R name Q) where
    field_class : (g : AtField) (x : FieldAt) → IsFieldAt t g x → x.class ≡ Some q → g.class ≡ Q
    field_class g x is e =
        let c : IsClassOf t g.class (Some q) = subst (IsClassOf t g.class) e is.class in
        number_path t.known.items q g.class Q c at

    class_field : (g : AtField) (x : FieldAt) → IsFieldAt t g x → IsNumber t.known.items q g.class → x.class ≡ Some q
    class_field g x is a = by_class x.class is.class where
      by_class : (o : Option ClassId) → IsClassOf t g.class o → o ≡ Some q
      by_class None h = absurd (h q a)
      by_class (Some r) h = ap Some (same_id r q (one_number p t asked.filled r.0 q.0 g.class h a))

    pub field_there : NoneTo (IsFieldOf q name) fields (length fields) → ⊥
    field_there none =
        let d = is_field.declares in
        let c = field_found p Q name d.field d.at in
        let k = list_at (declared_fields p) (record { class = Q; field = d.field }) c in
        let x = Each-at (IsFieldAt t) asked.fields_are k.0 (record { class = Q; field = d.field }) k.1 in
        nowhere (IsFieldOf q name) fields none k.0 x.0 x.1 (record { class_is = class_field (record { class = Q; field = d.field }) x.0 x.2 at; name_is = x.2.name ∙ d.at.name })

    module _ (place : ℕ) (found : FoundAt (IsFieldOf q name) fields place) where
      record Mine : Type 0 where
        type : Ty
        is : FieldType p R name type
        kind : kind_of_type type ≡ found.thing.kind

      mine : Mine
      mine =
          let w = Each-back (IsFieldAt t) asked.fields_are place found.thing found.at in
          let class = field_class w.0 found.thing w.2 found.is.class_is in
          let named : w.0.field.name.name ≡ name = sym w.2.name ∙ found.is.name_is in
          let declared = found_field p w.0 (in_list (declared_fields p) place w.0 w.1) in
          let here : DeclaredAt p Q name w.0.field =
          subst (λ (P : Path). DeclaredAt p P name w.0.field) class (subst (λ (N : Name). DeclaredAt p w.0.class N w.0.field) named declared) in
          let ty = asked.typed.typed Q name w.0.field here in
          record {
            type = ty.0;
            is = record { class = Q; is_field = is_field; field = w.0.field; at = here; type = ty.1 };
            kind = field_kind p Q name w.0.field.ty ty.0 ty.1 ∙ sym w.2.kind;
          }

      is_class : IsClass p R
      is_class = asked.typed.of_classes R name mine.type mine.is

      one_type : (u : Ty) → FieldType p R name u → u ≡ mine.type
      one_type u h = asked.typed.once.field R name u mine.type h mine.is

      hangs_is : (b : Bool) → SaysHangs s id name b → FieldKind mine.type (cond b 4 found.thing.kind)
      hangs_is true says =
          let h = (says p t.known.items R asked.slots number is_class).0 refl in
          hanging (subst HangsOnThis (one_type h.ty h.type) h.hangs) refl
      hangs_is false says =
          plain (λ h. let f : FieldHangs p R name = record { ty = mine.type; type = mine.is; hangs = h } in
          cc ((says p t.known.items R asked.slots number is_class).1 f)) (sym mine.kind)

      one_kind : (a b : ℕ) → FieldKind mine.type a → FieldKind mine.type b → a ≡ b
      one_kind a b (plain n e) (plain m h) = e ∙ sym h
      one_kind a b (plain n e) (hanging m h) = absurd (n m)
      one_kind a b (hanging n e) (plain m h) = absurd (m n)
      one_kind a b (hanging n e) (hanging m h) = e ∙ sym h

      module _ (kind : ℕ) (of : FieldKind mine.type kind) where
        field_selector : NoneTo (SelectsField name kind) names (length names) → ⊥
        field_selector none =
            let c = asked.selectors.has_field R name mine.type kind mine.is of in
            let k = list_at n.fields (record { name = name; kind = kind }) c in
            nowhere (SelectsField name kind) names none k.0 (record { name = name; kind = kind })
            (subst (λ (xs : List FieldSel). slice_get xs k.0 ≡ Some (record { name = name; kind = kind })) asked.selectors_are k.1) (record { name_is = refl; kind_is = refl })

        field_one : (slot : ℕ) → HasSlot s id name slot → (sel : ℕ) → (w : FoundAt (SelectsField name kind) names sel) → (e : Pair) → (sel < 4294967296 → e.key ≡ sel)
            → e.value ≡ slot → OnlyIs (FieldPair p n s id R name) (Some e)
        field_one slot has sel w e key value = (it, λ d h. only d h) where
          selector : slice_get n.fields sel ≡ Some w.thing
          selector = subst (λ (xs : List FieldSel). slice_get xs sel ≡ Some w.thing) (sym asked.selectors_are) w.at

          key_is : e.key ≡ sel
          key_is = key (let l = slice_get_within n.fields sel w.thing selector in omega (arith, l, asked.few.fields))

          it : FieldPair p n s id R name e
          it = record {
            place = record {
              entry = record {
                sel = w.thing;
                selector = subst (λ (i : ℕ). slice_get n.fields i ≡ Some w.thing) (sym key_is) selector;
                type = mine.type;
                is = subst (λ (N : Name). FieldType p R N mine.type) (sym w.is.name_is) mine.is;
                kind = subst (FieldKind mine.type) (sym w.is.kind_is) of;
              };
              slot = subst (HasSlot s id w.thing.name) (sym value) (subst (λ (N : Name). HasSlot s id N slot) (sym w.is.name_is) has);
            };
            named = w.is.name_is;
          }

          only : (d : Pair) → FieldPair p n s id R name d → d ≡ e
          only d h =
              let b = h.place.entry in
              let type : b.type ≡ mine.type = one_type b.type (its_type d h) in
              let kinds : b.sel.kind ≡ w.thing.kind = one_kind b.sel.kind kind (subst (λ (u : Ty). FieldKind u b.sel.kind) type b.kind) of ∙ sym w.is.kind_is in
              let same : b.sel ≡ w.thing =
              ap (λ (N : Name). record { name = N; kind = b.sel.kind }) (h.named ∙ sym w.is.name_is) ∙ ap (λ (k : ℕ). record { name = w.thing.name; kind = k }) kinds in
              let key_same : d.key ≡ sel = asked.selectors.field_once d.key sel w.thing (b.selector ∙ ap Some same) selector in
              let slots = asked.slots.classes id R number is_class in
              let value_same : d.value ≡ slot = slots.once name d.value slot (subst (λ (N : Name). HasSlot s id N d.value) h.named h.place.slot) has in
              ap (λ (i : ℕ). record { key = i; value = d.value }) (key_same ∙ sym key_is) ∙ ap (λ (i : ℕ). record { key = e.key; value = i }) (value_same ∙ sym value)

      pub field_is : (b : Bool) → SaysHangs s id name b → (kind : ℕ) → kind ≡ cond b 4 found.thing.kind → (slot : Option ℕ) → SlotTold s id name slot → (o : Option Pair)
          → FieldPairOf names name kind slot o → OnlyIs (FieldPair p n s id R name) o
      field_is b says kind kind_is None told o e = subst (OnlyIs (FieldPair p n s id R name)) (sym e)
          (λ x w. told x.value (subst (λ (N : Name). HasSlot s id N x.value) w.named w.place.slot))
      field_is b says kind kind_is (Some slot) told o e = by_answer o e where
        of : FieldKind mine.type kind
        of = subst (FieldKind mine.type) (sym kind_is) (hangs_is b says)

        by_answer : (o : Option Pair) → SlotPair names name kind slot o → OnlyIs (FieldPair p n s id R name) o
        by_answer None none = absurd (field_selector kind of none)
        by_answer (Some e) (sel, w, key, value) = field_one kind of slot told sel w e key value

pub none_given : {A B : Type 0} (o : Option ℕ) → IfNone o A → (A → B) → IfNone o B
none_given None a f = f a
none_given (Some k) a f = a
