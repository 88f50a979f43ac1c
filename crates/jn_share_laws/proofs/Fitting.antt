-- The types that the declared fields give are those of the declared fields.
use Rattle.std.proofs.Common.{◌≡◌, List, [], ◌∷◌, refl, sym, ◌∙◌, subst, ◌⊎◌, inl, inr, Contains, Result, Ok, Err}
use Rattle.jn_base.specs.declared.tree.Name.{Name}
use Rattle.jn_base.specs.declared.tree.Program.{Program}
use Rattle.jn_base.specs.declared.path.Path.{Path as ShownPath}
use Rattle.jn_base.specs.declared.refusal.Refusal.{Refusal}
use Rattle.jn_base.specs.Members.{FieldAt}
use Rattle.jn_base.proofs.NameTests.{in_cons, in_none, first as first_in, later}
use Rattle.jn_table.specs.declared.field_types.FieldTy.{FieldTy}
use Rattle.jn_table.specs.declared.table.Table.{Table}
use Rattle.jn_table.specs.Rows.{IsNumber}
use Rattle.jn_names.specs.FieldTypes.{AtField, FieldGives, before_fields, typed, declared_fields, FieldsGive, AllFieldsGive, none, refused, first}
use Rattle.jn_sem.specs.Terms.{FieldTypeIs}
use Rattle.jn_share.specs.Slots.{AreFieldTypes}
use Rattle.jn_share_laws.proofs.FieldsFound.{field_found, found_field}

module _ (p : Program) (known : List ShownPath) where
  -- the entry is that of one of the fields
  record FromField (xs : List AtField) (x : FieldTy) : Type 0 where
    at : AtField
    among : Contains xs at
    gives : FieldGives p at (Ok x.ty)
    class : IsNumber known x.class at.class
    field : x.field ≡ at.field.name.name

  from_later : (y : AtField) (xs : List AtField) (x : FieldTy) → FromField xs x → FromField (y ∷ xs) x
  from_later y xs x w = record { at = w.at; among = later y xs w.at w.among; gives = w.gives; class = w.class; field = w.field }

  -- the field has one of the entries
  record HasEntry (types : List FieldTy) (a : AtField) : Type 0 where
    entry : FieldTy
    among : Contains types entry
    class : IsNumber known entry.class a.class
    field : entry.field ≡ a.field.name.name

  entry_later : (y : FieldTy) (types : List FieldTy) (a : AtField) → HasEntry types a → HasEntry (y ∷ types) a
  entry_later y types a w = record { entry = w.entry; among = later y types w.entry w.among; class = w.class; field = w.field }

  from_fields : (xs : List AtField) (o : Result (List FieldTy) Refusal) (types : List FieldTy) → FieldsGive p known xs o → o ≡ Ok types
      → (x : FieldTy) → Contains types x → FromField xs x
  from_fields [] o types (none e) h x c =
      let k : ◌≡◌ {A = Result (List FieldTy) Refusal} (Ok []) (Ok types) = sym e ∙ h in
      let l : [] ≡ types = cc k in
      absurd (in_none x (subst (λ (ts : List FieldTy). Contains ts x) (sym l) c))
  from_fields (y ∷ xs) o types (refused r k e) h x c = absurd (let l : ◌≡◌ {A = Result (List FieldTy) Refusal} (Err r) (Ok types) = sym e ∙ h in cc l)
  from_fields (y ∷ xs) o types (first ty id others k n rest e) h x c =
      by_others others (λ b i d. from_fields xs others b rest i x d) (sym e ∙ h) where
        by_place : (b : List FieldTy) → (Contains b x → FromField xs x) → (typed id y ty ≡ x) ⊎ Contains b x → FromField (y ∷ xs) x
        by_place b f (inl q) = subst (FromField (y ∷ xs)) q (record { at = y; among = first_in y xs; gives = k; class = n; field = refl })
        by_place b f (inr d) = from_later y xs x (f d)

        by_others : (v : Result (List FieldTy) Refusal) → ((b : List FieldTy) → v ≡ Ok b → Contains b x → FromField xs x) → before_fields (typed id y ty) v ≡ Ok types
            → FromField (y ∷ xs) x
        by_others (Err r) f i = absurd (cc i)
        by_others (Ok b) f i =
            let j : (typed id y ty ∷ b) ≡ types = cc i in
            by_place b (f b refl) (in_cons (typed id y ty) b x (subst (λ (ts : List FieldTy). Contains ts x) (sym j) c))

  to_entries : (xs : List AtField) (o : Result (List FieldTy) Refusal) (types : List FieldTy) → FieldsGive p known xs o → o ≡ Ok types
      → (a : AtField) → Contains xs a → HasEntry types a
  to_entries [] o types (none e) h a c = absurd (in_none a c)
  to_entries (y ∷ xs) o types (refused r k e) h a c = absurd (let l : ◌≡◌ {A = Result (List FieldTy) Refusal} (Err r) (Ok types) = sym e ∙ h in cc l)
  to_entries (y ∷ xs) o types (first ty id others k n rest e) h a c =
      by_others others (λ b i d. to_entries xs others b rest i a d) (sym e ∙ h) where
        by_place : (b : List FieldTy) → (Contains xs a → HasEntry b a) → (y ≡ a) ⊎ Contains xs a → HasEntry (typed id y ty ∷ b) a
        by_place b f (inl q) = subst (HasEntry (typed id y ty ∷ b)) q (record { entry = typed id y ty; among = first_in (typed id y ty) b; class = n; field = refl })
        by_place b f (inr d) = entry_later (typed id y ty) b a (f d)

        by_others : (v : Result (List FieldTy) Refusal) → ((b : List FieldTy) → v ≡ Ok b → Contains xs a → HasEntry b a) → before_fields (typed id y ty) v ≡ Ok types
            → HasEntry types a
        by_others (Err r) f i = absurd (cc i)
        by_others (Ok b) f i =
            let j : (typed id y ty ∷ b) ≡ types = cc i in
            subst (λ (ts : List FieldTy). HasEntry ts a) j (by_place b (f b refl) (in_cons y xs a c))

  pub types_fit : (types : List FieldTy) → FieldsGive p known (declared_fields p) (Ok types) → AreFieldTypes p known types
  types_fit types g = record {
    sound = λ x c.
        let w = from_fields (declared_fields p) (Ok types) types g refl x c in
        let y : AtField = w.at in
        let stands : FieldAt p y.class y.field.name.name y.field = found_field p y w.among in (
          y.class,
          w.class,
          record {
            field = y.field;
            at = subst (λ (f : Name). FieldAt p y.class f y.field) (sym w.field) stands;
            type = subst (λ (f : Name). FieldTypeIs p y.class f y.field.ty x.ty) (sym w.field) w.gives;
          },
        );
    complete = λ Q f x stands.
        let y : AtField = record { class = Q; field = x } in
        let w = to_entries (declared_fields p) (Ok types) types g refl y (field_found p Q f x stands) in
        (w.entry, w.among, record { class = w.class; field = w.field ∙ stands.name });
  }

pub fit : (p : Program) (t : Table) (types : List FieldTy) → AllFieldsGive p t (Ok types) → AreFieldTypes p t.known.items types
fit p t types g = types_fit p t.known.items types g
