-- The declared fields have one answer at most.
use Rattle.std.proofs.Common.{◌≡◌, List, [], ◌∷◌, sym, ap, ◌∙◌, Result, Ok, Err}
use Rattle.jn_base.specs.declared.path.Path.{Path as ShownPath}
use Rattle.jn_base.specs.declared.tree.Program.{Program}
use Rattle.jn_base.specs.declared.refusal.Refusal.{Refusal}
use Rattle.jn_base.specs.declared.types.Ty.{Ty}
use Rattle.jn_base.specs.ClassOrder.{class_cmp}
use Rattle.jn_base.specs.Paths.{Path}
use Rattle.jn_base.specs.ResolveTypes.{mask_names}
use Rattle.jn_base.proofs.ResolveOnce.{type_once}
use Rattle.jn_table.specs.declared.class.ClassId.{ClassId}
use Rattle.jn_table.specs.declared.field_types.FieldTy.{FieldTy}
use Rattle.jn_table.specs.declared.field_types.FieldTypes.{FieldTypes}
use Rattle.jn_table.specs.declared.table.Table.{Table}
use Rattle.jn_table.specs.Rows.{IsNumber}
use Rattle.jn_table.specs.Tables.{IsFilled}
use Rattle.jn_table.proofs.Shown.{path_number}
use Rattle.jn_table.proofs.Sorted.{in_order}
use Rattle.jn_names.specs.declared.fault.NameFault.{NameFault}
use Rattle.jn_names.specs.declared.fault.NameFault.TheVariants.{Refused, Memory}
use Rattle.jn_names.specs.FieldTypes.{AtField, AllFieldsGive, FieldsTold, declared_fields, spot_of, no_vars, FieldGives}
use Rattle.jn_names.specs.FieldTypes.{before_fields, typed, FieldsGive, none, refused, first}

module _ (p : Program) (known : List ShownPath)
    (one : (a b : ClassId) (P : Path) → IsNumber known a P → IsNumber known b P → a ≡ b) where
  field_once : (x : AtField) (a b : Result Ty Refusal) → FieldGives p x a → FieldGives p x b → a ≡ b
  field_once x = type_once p (mask_names p) (spot_of x) no_vars x.field.ty

  pub fields_once : (xs : List AtField) (a b : Result (List FieldTy) Refusal) → FieldsGive p known xs a
      → FieldsGive p known xs b → a ≡ b
  fields_once [] a b (none e) (none h) = e ∙ sym h
  fields_once (x ∷ xs) a b (refused r g e) (refused s h i) =
      let k : ◌≡◌ {A = Result Ty Refusal} (Err r) (Err s) = field_once x (Err r) (Err s) g h in
      let l : r ≡ s = cc k in
      e ∙ (ap (λ (z : Refusal). Err z) l ∙ sym i)
  fields_once (x ∷ xs) a b (refused r g e) (first ty id others h n rest i) = absurd (cc (field_once x (Err r) (Ok ty) g h))
  fields_once (x ∷ xs) a b (first ty id others h n rest i) (refused r g e) = absurd (cc (field_once x (Ok ty) (Err r) h g))
  fields_once (x ∷ xs) a b (first ty id others g n rest e) (first ty' id' others' h n' rest' i) =
      let k : ◌≡◌ {A = Result Ty Refusal} (Ok ty) (Ok ty') = field_once x (Ok ty) (Ok ty') g h in
      let t : ty ≡ ty' = cc k in
      let c : id ≡ id' = one id id' x.class n n' in
      let o : others ≡ others' = fields_once xs others others' rest rest' in
      e ∙ (ap (λ (z : Ty). before_fields (typed id x z) others) t
      ∙ (ap (λ (z : ClassId). before_fields (typed z x ty') others) c ∙ (ap (before_fields (typed id' x ty')) o ∙ sym i)))

-- where T holds of one answer at most, that one is told
pub only_fields : (T : Result (List FieldTy) Refusal → Type 0)
    → ((a b : Result (List FieldTy) Refusal) → T a → T b → a ≡ b) → (res : Result FieldTypes NameFault)
    → FieldsTold T res → (o : Result (List FieldTy) Refusal) → T o → FieldsTold (λ a. a ≡ o) res
only_fields T once (Ok all) h o k = once (Ok all.list.items) o h k
only_fields T once (Err (Refused r)) h o k = once (Err r) o h k
only_fields T once (Err Memory) h o k = tt

one_number : (p : Program) (t : Table) → IsFilled p t → (a b : ClassId) (P : Path) → IsNumber t.known.items a P
    → IsNumber t.known.items b P → a ≡ b
one_number p t f a b P x y =
    let r = f.table.rows in
    path_number p r.paths t.known.items r.shown_are (in_order (class_cmp p) r.paths r.in_order) a b P x y

pub all_once : (p : Program) (t : Table) → IsFilled p t → (a b : Result (List FieldTy) Refusal) → AllFieldsGive p t a
    → AllFieldsGive p t b → a ≡ b
all_once p t f = fields_once p t.known.items (one_number p t f) (declared_fields p)
