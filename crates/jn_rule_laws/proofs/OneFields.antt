-- Fields: one declaration, one type, and a slot with a value in each new object.
use Rattle.std.proofs.Common.{subst, ◌≡◌, ◌<◌, ℕ, List, [], ◌∷◌, length, refl, sym, ap, ◌∙◌}
use Rattle.std.specs.declared.cmp.Ordering.TheVariants.{Equal}
use Rattle.std.proofs.lemmas.Map.Lookups.{exact_bytes}
use Rattle.std.proofs.lemmas.Option.{slice_get-get_or}
use Rattle.jn_reach.specs.Each.{Each, none, more}
use Rattle.jn_base.specs.declared.tree.Name.{Name}
use Rattle.jn_base.specs.declared.tree.Text.{Text}
use Rattle.jn_base.specs.declared.tree.Program.{Program}
use Rattle.jn_base.specs.declared.types.Ty.{Ty}
use Rattle.jn_base.specs.NameTexts.{bytes_of}
use Rattle.jn_base.specs.ClassOrder.{name_bytes, name_cmp, name_total, HasDistinctNames}
use Rattle.jn_base.specs.ProgramNames.{IsNamed}
use Rattle.jn_base.specs.Paths.{Path}
use Rattle.jn_base.specs.Supers.{Sup}
use Rattle.jn_base.specs.Members.{FieldDecls}
use Rattle.jn_base.specs.Atoms.{Among, first, later}
use Rattle.jn_base.proofs.SuperLaws.{sup_joined}
use Rattle.jn_sem.specs.Values.{HasField}
use Rattle.jn_sem.specs.Sharing.{IsClass}
use Rattle.jn_sem.specs.Slots.{FieldType}
use Rattle.jn_sem.specs.LawsOfSlots.{OnePlaceEach, FieldsPass}
use Rattle.jn_sem.specs.Terms.{FieldTypeIs}
use Rattle.jn_sem.specs.State.{Stored}
use Rattle.jn_sem.specs.Does.{IsFresh, AreFresh, zero_of}
use Rattle.jn_sem.proofs.FieldAnchors.{fields_pass}
use Rattle.jn_sem.proofs.FindingLaws.{among_of, contains_of}
use Rattle.jn_laws.specs.Surely.{Surely, ListOf}
use Rattle.jn_laws.specs.LawsOfSources.{WellFormed}
use Rattle.jn_laws.proofs.Sures.{surely, and_so, map_surely}
use Rattle.jn_laws.proofs.StoredValues.{same_path}
use Rattle.jn_laws.proofs.Universes.{universe_listed, slots_there}
use Rattle.jn_laws.proofs.SpelledForms.{type_named}
use Rattle.jn_rules.specs.Members.{bad_field}
use Rattle.jn_rules.specs.Verdict.{MembersPass}
use Rattle.jn_rule_laws.specs.LawsOfMembers.{FieldsAreOne}
use Rattle.jn_rule_laws.proofs.Declared.{headers_that_pass}
use Rattle.jn_rule_laws.proofs.Sorting.{InOrder, in_order}

-- ---- lists made of what surely is

each_surely : {A B : Type 0} {R : A → B → Type 0} (xs : List A) → ((x : A) → Among xs x → Surely ((y : B) × R x y)) → Surely ((ys : List B) × Each R xs ys)
each_surely [] h = surely ([], none)
each_surely {A} {B} {R} (x ∷ xs) h = and_so (h x first) (λ r. map_surely (each_surely {R = R} xs (λ z m. h z (later m))) (λ rs. (r.0 ∷ rs.0, more r.1 rs.1)))

-- ---- names of equal bytes are the same

nameless : Text
nameless = record { bytes = [] }

names_equal : (p : Program) → HasDistinctNames p → (a b : Name) → a.0 < length p.names → b.0 < length p.names → name_cmp p a b ≡ Equal → a ≡ b
names_equal p u a b la lb e =
    let ga = slice_get-get_or p.names a.0 nameless la in
    let gb = slice_get-get_or p.names b.0 nameless lb in
    let t = exact_bytes (name_bytes p a) (name_bytes p b) e in
    ap (λ (n : ℕ). record { 0 = n }) (u a.0 b.0 _ _ ga gb (sym (ap bytes_of ga) ∙ t ∙ ap bytes_of gb))

module _ (p : Program) (ok : MembersPass p) where
  one_place : OnePlaceEach p
  one_place V Q R f c d e = same_path Q R (λ apart. ok.members V (record {
    class = c;
    bad = bad_field f (record { one = Q; other = R; at_one = d; at_other = e; apart = apart });
  }))

  inherited : (V B : Path) (f : Name) (t : Ty) → IsClass p V → Sup p V B → FieldType p B f t → FieldType p V f t
  inherited V B f t c s a =
      let d : FieldDecls p V f a.class = record {
        super = sup_joined s a.is_field.declares.super;
        field = a.is_field.declares.field;
        at = a.is_field.declares.at;
      } in record {
        class = a.class;
        is_field = record { declares = d; only = λ R e. one_place V R a.class f c e d };
        field = a.field;
        at = a.at;
        type = a.type;
      }

  there : (V : Path) (f : Name) → IsClass p V → HasField p V f → (t : Ty) × FieldType p V f t
  there V f c h =
      let t = (headers_that_pass p ok.types.headers).fields h.at f h.declares.field h.declares.at in (
        t.0,
        record {
          class = h.at;
          is_field = record { declares = h.declares; only = λ R e. one_place V R h.at f c e h.declares };
          field = h.declares.field;
          at = h.declares.at;
          type = subst (λ (n : Name). FieldTypeIs p h.at n h.declares.field.ty t.0) h.declares.at.name t.1;
        },
      )

  pass : WellFormed p → FieldsPass p
  pass w = fields_pass p one_place (λ Q f x at. type_named x.ty (w.fields Q f x at))

  one_fresh : WellFormed p → (V : Path) (f : Name) → IsClass p V → HasField p V f → Surely ((x : Stored) × IsFresh p V f x)
  one_fresh w V f c h =
      let t = there V f c h in
      map_surely (slots_there p (pass w) V f c h)
      (λ s. (record { slot = s.0; value = zero_of t.0 }, record { ty = t.0; type = t.1; slot = s.1; value = refl }))

  fresh : WellFormed p → IsNamed p → (V : Path) → IsClass p V → Surely ((xs : List Stored) × AreFresh p V xs)
  fresh w named V c = and_so ((universe_listed p).fields V) from_list where
    from_list : ListOf (HasField p V) → Surely ((xs : List Stored) × AreFresh p V xs)
    from_list l = map_surely (each_surely {R = IsFresh p V} o.items (λ f m. one_fresh w V f c (has f m))) (λ r. (
      r.0,
      record {
        names = o.items;
        exact = λ f. (λ m. has f (among_of o.items f m), λ h. contains_of o.items f (o.to f (among_of l.items f ((l.exact f).1 h))));
        in_order = o.sorted;
        each = r.1;
      },
    )) where
      known : (f : Name) → Among l.items f → f.0 < length p.names
      known f m = let h = (l.exact f).0 (contains_of l.items f m) in named.fields h.at f h.declares.field h.declares.at

      o : InOrder (name_cmp p) l.items
      o = in_order (name_cmp p) (name_total p) (λ (n : Name). n.0 < length p.names) (names_equal p named.distinct) l.items known

      has : (f : Name) → Among o.items f → HasField p V f
      has f m = (l.exact f).0 (contains_of l.items f (o.from f m))

pub fields_are_one : FieldsAreOne
fields_are_one p ok = record { one_place = one_place p ok; inherited = inherited p ok; there = there p ok; fresh = fresh p ok }
