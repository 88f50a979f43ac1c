-- The lists of an image are no longer than those of the program.
use Rattle.std.proofs.Common.{◌≡◌, ◌≤◌, ◌<◌, ◌+◌, ℕ, List, [], ◌∷◌, length, map, All, Contains, Option, Some, None, ◌⊎◌, inl, inr, slice_get, get_or, refl, sym, ap, ◌∙◌, subst, arith}
use Rattle.std.proofs.lemmas.List.{length-map, get_or_default}
use Rattle.std.proofs.lemmas.List.Elements.{All-map}
use Rattle.std.proofs.lemmas.Option.{slice_get_read}
use Rattle.jn_reach.specs.Each.{Each, none, more}
use Rattle.jn_base.specs.declared.tree.Name.{Name}
use Rattle.jn_base.specs.declared.tree.Param.{Param}
use Rattle.jn_base.specs.declared.tree.Text.{Text}
use Rattle.jn_base.specs.declared.tree.TypeTerm.{TypeTerm}
use Rattle.jn_base.specs.declared.tree.TypeTerm.TheVariants as term
use Rattle.jn_base.specs.declared.tree.Program.{Program}
use Rattle.jn_base.proofs.NameTests.{in_cons, in_none}
use Rattle.jn_base.specs.declared.types.Ty.{Ty}
use Rattle.jn_base.specs.declared.types.Ty.TheVariants as ty
use Rattle.jn_base.specs.Parts.{Part}
use Rattle.jn_base.specs.Spelling.{SourceSpells, greatest_source}
use Rattle.jn_table.proofs.Maps.{in_list}
use Rattle.jn_names.specs.FieldTypes.{AtField, declared_fields}
use Rattle.jn_sem.specs.Does.{Body}
use Rattle.jn_sem.specs.Slots.{FieldType}
use Rattle.jn_sem.specs.Terms.{FieldTypeIs}
use Rattle.jn_sem.specs.LawsOfFinding.{FoundOnceIn}
use Rattle.jn_code.specs.Form.{IsKind, IsFieldKind, ShapeInForm}
use Rattle.jn_agree.specs.declared.selectors.MethodSel.{MethodSel}
use Rattle.jn_agree.specs.declared.selectors.FieldSel.{FieldSel}
use Rattle.jn_agree.specs.Rows.{FieldKind, plain, hanging, kind_of_type, bodies_of}
use Rattle.jn_size_laws.specs.Sizes.{total}
use Rattle.jn_size_laws.specs.Files.{shape_bytes, head_bytes, fields_of}
use Rattle.jn_size_laws.specs.LawsOfFiles.{HasWords}
use Rattle.jn_size_laws.proofs.Apart.{methods_apart}
use Rattle.jn_size_laws.proofs.Bytes.{head_short}
use Rattle.jn_size_laws.proofs.Sources.{takes, counted}
use Rattle.jn_layout.specs.Selecting.{SelectorsOnly}
use Rattle.jn_layout.specs.Shapes.{shape_of, param_kind, term_kind, given_kind}
use Rattle.jn_link.specs.Start.{sel_shape, sel_kind}
use Rattle.jn_link.proofs.Fewer.{IsOnce, IsFound, sums_to_less, no_more}
use Rattle.jn_link.proofs.FieldCounts.{fields_counted}

found : {A B : Type 0} (R : A → B → Type 0) (ys : List B) (x : A) (y : B) → Contains ys y → R x y → IsFound R ys x
found R ys x y c r = record {
  place = c.0;
  thing = y;
  at = slice_get_read ys (length ys) c.0 y refl c.1 (sym c.2);
  is = r;
}

mapped_total : {A B : Type 0} (f : A → B) (g : B → ℕ) (xs : List A)
    → total (map g (map f xs)) ≡ total (map (λ (x : A). g (f x)) xs)
mapped_total f g [] = refl
mapped_total f g (x ∷ xs) = let h = mapped_total f g xs in omega (arith, h)

-- ---- methods

-- the selector is the name and the shape of the body
abbrev OfBody : MethodSel → Body → Type 0
OfBody x b = x ≡ record { name = b.method.name.name; shape = shape_of b.method }

module _ (p : Program) (methods : List MethodSel) (fields : List FieldSel) (only : SelectorsOnly p methods fields) where
  of_body : (j : ℕ) (x : MethodSel) → slice_get methods j ≡ Some x → IsFound OfBody (bodies_of p) x
  of_body j x at =
      let w = only.of_body x (in_list methods j x at) in
      found OfBody (bodies_of p) x w.0 w.1 w.2

  same_body : (x y : MethodSel) (b : Body) → OfBody x b → OfBody y b → x ≡ y
  same_body x y b e f = e ∙ sym f

  sel_bytes : (x : MethodSel) (b : Body) → OfBody x b → shape_bytes x.shape ≤ head_bytes b
  sel_bytes x b e =
      let params : length x.shape.params ≡ length (map param_kind b.method.params) =
      ap (λ (z : MethodSel). length z.shape.params) e in
      let long = length-map b.method.params param_kind in
      omega (arith, params, long)

  -- they take no more than one for each body
  pub methods_short : IsOnce methods → total (map shape_bytes (map sel_shape methods)) ≤ total (map head_bytes
      (bodies_of p))
  methods_short once =
      let sum = mapped_total sel_shape shape_bytes methods in
      let less = sums_to_less OfBody (λ (x : MethodSel). shape_bytes x.shape) head_bytes same_body sel_bytes methods
      (bodies_of p) once of_body in
      omega (arith, sum, less)

  pub few_methods : IsOnce methods → length methods ≤ length (bodies_of p)
  few_methods once = no_more OfBody same_body methods (bodies_of p) once of_body

  -- their form
  kind_given : (x : TypeTerm) → IsKind (term_kind x)
  kind_given term.Int = (omega arith, omega arith)
  kind_given term.Bool = (omega arith, omega arith)
  kind_given (term.Class ts ms) = (omega arith, omega arith)

  kinds_given : (xs : List Param) → All IsKind (map param_kind xs)
  kinds_given xs = All-map IsKind param_kind xs (λ k d l. kind_given (get_or xs k d).ty)

  result_given : (o : Option TypeTerm) → given_kind o ≤ 3
  result_given None = omega arith
  result_given (Some x) = let h = kind_given x in let l = h.1 in l

  pub shapes_in_form : ((b : Body) → Contains (bodies_of p) b → length b.method.params ≤ 15)
      → All ShapeInForm (map sel_shape methods)
  shapes_in_form few = All-map ShapeInForm sel_shape methods (λ k d l. in_form (get_or methods k d)
      (only.of_body (get_or methods k d) (k, l, get_or_default methods k (get_or methods k d) d l))) where
        in_form : (x : MethodSel) → (b : Body) × Contains (bodies_of p) b × OfBody x b → ShapeInForm x.shape
        in_form x (b, c, e) =
            let most = few b c in
            let long = length-map b.method.params param_kind in
            let good : ShapeInForm (shape_of b.method) =
            record {
              count = omega (arith, most, long);
              params = kinds_given b.method.params;
              result =
                  result_given b.method.result;
            } in
            subst (λ (z : MethodSel). ShapeInForm z.shape) (sym e) good

-- ---- fields

module _ (p : Program) (methods : List MethodSel) (fields : List FieldSel) (only : SelectorsOnly p methods fields)
    (type_of : (g : AtField) → Contains (declared_fields p) g
    → (t : Ty) × FieldTypeIs p g.class g.field.name.name g.field.ty t × FieldType p g.class g.field.name.name t)
  where
    -- the selector is the name and the kind of the field
    record OfField (x : FieldSel) (g : AtField) : Type 0 where
      named : x.name ≡ g.field.name.name
      among : Contains (declared_fields p) g
      kind : FieldKind (type_of g among).0 x.kind

    kinds_one : (t : Ty) (a b : ℕ) → FieldKind t a → FieldKind t b → a ≡ b
    kinds_one t a b (plain u e) (plain v h) = e ∙ sym h
    kinds_one t a b (plain u e) (hanging v h) = absurd (u v)
    kinds_one t a b (hanging u e) (plain v h) = absurd (v u)
    kinds_one t a b (hanging u e) (hanging v h) = e ∙ sym h

    of_field : (x : FieldSel) → Contains fields x → (g : AtField) × OfField x g
    of_field x c =
        let w = only.of_field x c in
        let t = type_of w.0 w.1 in (
          w.0,
          record {
            named = w.2;
            among = w.1;
            kind = w.3 t.0 (subst (λ (N : Name). FieldTypeIs p w.0.class N w.0.field.ty t.0) (sym w.2) t.1)
                (subst (λ (N : Name). FieldType p w.0.class N t.0) (sym w.2) t.2);
          },
        )

    one_field : FoundOnceIn p → (x y : FieldSel) (g : AtField) → OfField x g → OfField y g → x ≡ y
    one_field once x y g a b =
        let t = type_of g a.among in
        let u = type_of g b.among in
        let same : t.0 ≡ u.0 = once.field g.class g.field.name.name t.0 u.0 t.2 u.2 in
        let kind : x.kind ≡ y.kind = kinds_one u.0 x.kind y.kind
        (subst (λ (v : Ty). FieldKind v x.kind) same a.kind) b.kind in
        ap (λ (N : Name). record { name = N; kind = x.kind }) (a.named ∙ sym b.named)
        ∙ ap (λ (k : ℕ). record { name = y.name; kind = k }) kind

    pub few_fields : FoundOnceIn p → IsOnce fields → length fields ≤ fields_of p
    few_fields once apart =
        let less = no_more OfField (one_field once) fields (declared_fields p) apart
        (λ j x at. let w = of_field x (in_list fields j x at) in
        found OfField (declared_fields p) x w.0 w.1.among w.1) in
        let same = fields_counted p in
        omega (arith, less, same)

    pub kinds_in_form : All IsFieldKind (map sel_kind fields)
    kinds_in_form = All-map IsFieldKind sel_kind fields (λ k d l. in_form (get_or fields k d)
        (of_field (get_or fields k d) (k, l, get_or_default fields k (get_or fields k d) d l))) where
          plainly : (t : Ty) → IsFieldKind (kind_of_type t)
          plainly ty.Int = (omega arith, omega arith)
          plainly ty.Bool = (omega arith, omega arith)
          plainly ty.Null = (omega arith, omega arith)
          plainly ty.Void = (omega arith, omega arith)
          plainly (ty.Class xs m) = (omega arith, omega arith)

          by_kind : (t : Ty) (k : ℕ) → FieldKind t k → IsFieldKind k
          by_kind t k (plain u e) = subst IsFieldKind (sym e) (plainly t)
          by_kind t k (hanging h e) = (omega (arith, e), omega (arith, e))

          in_form : (x : FieldSel) → (g : AtField) × OfField x g → IsFieldKind x.kind
          in_form x (g, w) = by_kind (type_of g w.among).0 x.kind w.kind

-- ---- bodies and texts

bodies_apart : (bs : List Body) (ws : List (List Part)) → Each HasWords bs ws
    → length bs ≤ total (map (λ (v : List Part). length v) ws)
bodies_apart _ _ none = omega arith
bodies_apart _ _ (more {x = b} {y = w} {xs = bs} {ys = ws} h e) =
    let one = head_short b h.0 h.1 h.2 w h.3 in
    let rest = bodies_apart bs ws e in
    omega (arith, one, rest)

module _ (p : Program) (bytes : List ℕ) (spells : SourceSpells p bytes) (short : length bytes ≤ greatest_source) where
  pub few_bodies : length (bodies_of p) + fields_of p ≤ 1048576
  few_bodies =
      let count = counted p bytes spells in
      let few = count.few in
      let are = count.are in
      let apart = methods_apart p spells.parts spells.is_program in
      let whole = apart.2 in
      let less = bodies_apart (bodies_of p) apart.0 apart.1 in
      omega (arith, short, few, are, whole, less)

  -- a text of the program is short, and there are few of them
  text_below : (ts : List Text) (t : Text) → Contains ts t → 4 + length t.bytes ≤ total (map takes ts)
  text_below [] t c = absurd (in_none t c)
  text_below (x ∷ ts) t c = by_place (in_cons x ts t c) (λ d. text_below ts t d) where
    by_place : (x ≡ t) ⊎ Contains ts t → (Contains ts t → 4 + length t.bytes ≤ total (map takes ts))
        → 4 + length t.bytes ≤ takes x + total (map takes ts)
    by_place (inl e) again = let h : length x.bytes ≡ length t.bytes = ap (λ (y : Text). length y.bytes) e in
        omega (arith, h)
    by_place (inr d) again = let h = again d in omega (arith, h)

  texts_below : (ts : List Text) → length ts ≤ total (map takes ts)
  texts_below [] = omega arith
  texts_below (t ∷ ts) = let h = texts_below ts in omega (arith, h)

  pub few_texts : length p.texts < 4294967296
  few_texts =
      let all = (counted p bytes spells).texts in
      let h = texts_below p.texts in
      omega (arith, short, all, h)

  pub short_texts : (t : Text) → Contains p.texts t → length t.bytes < 4294967296
  short_texts t c =
      let all = (counted p bytes spells).texts in
      let h = text_below p.texts t c in
      omega (arith, short, all, h)
