-- A method or a field of a name, found member by member.
use Rattle.std.proofs.Common.{◌≡◌, ◌<◌, ◌+◌, ℕ, zero, suc, List, [], ◌∷◌, ◌++◌, length, drop, get_or, Contains, Option, Some, None, refl, sym, ap, ◌∙◌, subst, inl, inr}
use Rattle.std.proofs.lemmas.List.Elements.{Contains-append_left, Contains-append_right, Contains-append_cases}
use Rattle.jn_base.specs.declared.tree.Name.{Name}
use Rattle.jn_base.specs.declared.tree.Decl.{Decl}
use Rattle.jn_base.specs.declared.tree.Field.{Field}
use Rattle.jn_base.specs.declared.tree.Method.{Method}
use Rattle.jn_base.specs.declared.tree.Program.{Program}
use Rattle.jn_base.specs.declared.tree.Member.{Member, out-Member}
use Rattle.jn_base.specs.declared.tree.Member.TheOpen.{Member-F}
use Rattle.jn_base.specs.Paths.{Path, StandsAt, Declared, methods, and_method, fields, and_field}
use Rattle.jn_base.specs.Members.{MethodAt, FieldAt}
use Rattle.jn_base.specs.Duplicates.{duplicates}
use Rattle.jn_base.proofs.NameTests.{in_none}
use Rattle.jn_base.proofs.Unique.{one_decl}
use Rattle.jn_homes.proofs.Places.{at_index}
use Rattle.jn_lower.specs.Told.{Tells, IsMethodNamed, IsFieldNamed}

module _ {X : Type 0} (parts : List Member → List X) (behind : (m : Member) (ms : List Member) → parts (m ∷ ms) ≡ parts (m ∷ []) ++ parts ms) (nothing : parts [] ≡ []) where
  -- each such that is there is among those left
  pub record Left (Is : X → Type 0) (all left : List Member) : Type 0 where
    pub each : (x : X) → Is x → Contains (parts all) x → Contains (parts left) x

  pub left_all : (Is : X → Type 0) (all : List Member) → Left Is all all
  left_all Is all = record { each = λ x is c. c }

  pub left_next : (Is : X → Type 0) (all : List Member) (i : ℕ) (m : Member) → Left Is all (drop i all) → i < length all → m ≡ get_or all i m
      → ((x : X) → Contains (parts (m ∷ [])) x × Is x → ⊥) → Left Is all (drop (i + 1) all)
  left_next Is all i m l h e n = record {
    each = λ x is c.
        let d : Contains (parts (m ∷ []) ++ parts (drop (i + 1) all)) x = subst (λ (xs : List X). Contains xs x) (ap parts (at_index all i m h e) ∙ behind m (drop (i + 1) all)) (l.each x is c) in
        elim (Contains-append_cases (parts (m ∷ [])) (parts (drop (i + 1) all)) x d) [ inl a ↦ absurd (n x (a, is)) | inr a ↦ a ];
  }

  pub left_none : (Is : X → Type 0) (all left : List Member) → Left Is all left → left ≡ [] → (x : X) → Contains (parts all) x × Is x → ⊥
  left_none Is all left l e x h = in_none x (subst (λ (xs : List X). Contains xs x) (ap parts e ∙ nothing) (l.each x h.1 h.0))

  behind_there : (all : List Member) (i : ℕ) (x : X) → Contains (parts (drop i all)) x → Contains (parts all) x
  behind_there all zero x c = c
  behind_there [] (suc i) x c = c
  behind_there (m ∷ all) (suc i) x c =
      subst (λ (xs : List X). Contains xs x) (sym (behind m all)) (Contains-append_right (parts (m ∷ [])) (parts all) x (behind_there all i x c))

  pub left_hit : (all : List Member) (i : ℕ) (m : Member) (x : X) → i < length all → m ≡ get_or all i m → Contains (parts (m ∷ [])) x → Contains (parts all) x
  left_hit all i m x h e c =
      behind_there all i x (subst (λ (xs : List X). Contains xs x) (sym (ap parts (at_index all i m h e) ∙ behind m (drop (i + 1) all)))
      (Contains-append_left (parts (m ∷ [])) (parts (drop (i + 1) all)) x c))

and_methods : (d : Member-F Member Decl) (ms : List Method) → and_method d ms ≡ and_method d [] ++ ms
and_methods (Member-F.Inner d) ms = refl
and_methods (Member-F.Slot f) ms = refl
and_methods (Member-F.Body m) ms = refl

pub methods_behind : (m : Member) (ms : List Member) → methods (m ∷ ms) ≡ methods (m ∷ []) ++ methods ms
methods_behind m ms = and_methods (out-Member m) (methods ms)

and_fields : (d : Member-F Member Decl) (fs : List Field) → and_field d fs ≡ and_field d [] ++ fs
and_fields (Member-F.Inner d) fs = refl
and_fields (Member-F.Slot f) fs = refl
and_fields (Member-F.Body m) fs = refl

pub fields_behind : (m : Member) (ms : List Member) → fields (m ∷ ms) ≡ fields (m ∷ []) ++ fields ms
fields_behind m ms = and_fields (out-Member m) (fields ms)

-- ---- in the declaration at a path

module _ (p : Program) (once : duplicates p ≡ []) (Q : Path) where
  pub no_method : (m : Name) → (Declared p Q → ⊥) → (x : Method) → MethodAt p Q m x → ⊥
  no_method m n x h = n (record { decl = h.decl; stands = h.stands })

  pub in_decl : (d : Decl) (m : Name) (o : Option Method) → StandsAt p Q d → Tells (IsMethodNamed (methods d.members) m) o → Tells (MethodAt p Q m) o
  in_decl d m None s t = λ x h.
      let e : h.decl ≡ d = one_decl p once Q h.decl d h.stands s in
      t x (subst (λ (c : Decl). Contains (methods c.members) x) e h.has, h.name)
  in_decl d m (Some x) s t = record { decl = d; stands = s; has = t.0; name = t.1 }

  pub no_field : (f : Name) → (Declared p Q → ⊥) → (x : Field) → FieldAt p Q f x → ⊥
  no_field f n x h = n (record { decl = h.decl; stands = h.stands })

  pub field_in_decl : (d : Decl) (f : Name) (o : Option Field) → StandsAt p Q d → Tells (IsFieldNamed (fields d.members) f) o → Tells (FieldAt p Q f) o
  field_in_decl d f None s t = λ x h.
      let e : h.decl ≡ d = one_decl p once Q h.decl d h.stands s in
      t x (subst (λ (c : Decl). Contains (fields c.members) x) e h.has, h.name)
  field_in_decl d f (Some x) s t = record { decl = d; stands = s; has = t.0; name = t.1 }

pub nothing_declared : (p : Program) → Declared p [] → ⊥
nothing_declared p d = d.stands
