-- Where the headers pass, no type of a declared field is refused.
use Rattle.std.proofs.Common.{◌≡◌, List, [], ◌∷◌, Contains}
use Rattle.std.specs.Prelude.{Result, Ok, Err}
use Rattle.jn_base.specs.declared.tree.Program.{Program}
use Rattle.jn_base.specs.declared.path.Path.{Path as ShownPath}
use Rattle.jn_base.specs.declared.refusal.Refusal.{Refusal}
use Rattle.jn_base.specs.declared.types.Ty.{Ty}
use Rattle.jn_base.specs.ResolveTypes.{mask_names}
use Rattle.jn_base.proofs.NameTests.{first, later}
use Rattle.jn_base.proofs.ResolveOnce.{type_once}
use Rattle.jn_table.specs.declared.field_types.FieldTy.{FieldTy}
use Rattle.jn_names.specs.FieldTypes.{AtField, declared_fields, spot_of, no_vars, FieldGives, before_fields, typed, FieldsGive}
use Rattle.jn_names.specs.FieldTypes as given
use Rattle.jn_rule_laws.specs.LawsOfHeaders.{HeadersOf}
use Rattle.jn_share_laws.proofs.FieldsFound.{found_field}

module _ (p : Program) (known : List ShownPath) where
  none_refused : (xs : List AtField) → ((x : AtField) → Contains xs x → (t : Ty) × FieldGives p x (Ok t)) → (r : Refusal) → FieldsGive p known xs (Err r) → ⊥
  none_refused [] all r (given.none e) = clash e where
    clash : (let o : Result (List FieldTy) Refusal = Err r in o ≡ Ok []) → ⊥
    clash f = cc f
  none_refused (x ∷ xs) all r (given.refused q g e) =
      let t = all x (first x xs) in
      clash t.0 (type_once p (mask_names p) (spot_of x) no_vars x.field.ty (Err q) (Ok t.0) g t.1) where
        clash : (t : Ty) → (let o : Result Ty Refusal = Err q in o ≡ Ok t) → ⊥
        clash t f = cc f
  none_refused (x ∷ xs) all r (given.first ty id o g n rest e) = of o rest e (λ q h. none_refused xs (λ z c. all z (later x xs z c)) q h) where
    of : (o : Result (List FieldTy) Refusal) → FieldsGive p known xs o → (let r : Result (List FieldTy) Refusal = Err r in r ≡ before_fields (typed id x ty) o)
        → ((q : Refusal) → FieldsGive p known xs (Err q) → ⊥) → ⊥
    of (Ok zs) rest e k = clash e where
      clash : (let o : Result (List FieldTy) Refusal = Err r in o ≡ Ok (typed id x ty ∷ zs)) → ⊥
      clash f = cc f
    of (Err q) rest e k = k q rest

  pub no_type_refused : HeadersOf p → (r : Refusal) → FieldsGive p known (declared_fields p) (Err r) → ⊥
  no_type_refused h r g = none_refused (declared_fields p) (λ x c. h.fields x.class x.field.name.name x.field (found_field p x c)) r g
