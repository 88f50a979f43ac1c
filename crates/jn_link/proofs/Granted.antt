-- What the verdict grants of the rows of a program: shapes, types, and that each thing looked for is found once.
use Rattle.std.proofs.Common.{◌≡◌, ℕ, List, map, Contains, Option, Some, None, refl, subst}
use Rattle.jn_base.specs.declared.tree.Name.{Name}
use Rattle.jn_base.specs.declared.tree.Field.{Field}
use Rattle.jn_base.specs.declared.tree.TypeTerm.{TypeTerm}
use Rattle.jn_base.specs.declared.tree.Program.{Program}
use Rattle.jn_base.specs.declared.types.Ty.{Ty}
use Rattle.jn_base.specs.declared.names.Var.{Var}
use Rattle.jn_base.specs.Paths.{Path}
use Rattle.jn_base.specs.Supers.{itself}
use Rattle.jn_base.specs.Members.{FieldAt, FieldDecls}
use Rattle.jn_base.specs.Spelling.{IsTextOf}
use Rattle.jn_base.specs.TableRules.{DeclarationsPass}
use Rattle.jn_base.proofs.Unique.{one_field_at}
use Rattle.jn_names.specs.FieldTypes.{AtField, declared_fields}
use Rattle.jn_sem.specs.Sharing.{IsClass}
use Rattle.jn_sem.specs.Slots.{FieldType}
use Rattle.jn_sem.specs.Terms.{FieldTypeIs}
use Rattle.jn_sem.specs.Does.{Body, IsBody}
use Rattle.jn_sem.specs.LawsOfFinding.{FoundOnceIn}
use Rattle.jn_sem.specs.LawsOfSlots.{FieldsPass}
use Rattle.jn_sem.proofs.FieldAnchors.{fields_pass}
use Rattle.jn_sem.proofs.FindingLaws.{finds_one_in}
use Rattle.jn_laws.specs.LawsOfPlaces.{WithinOf}
use Rattle.jn_laws.proofs.PlacesAside.{programs_within_limits}
use Rattle.jn_rules.specs.Questions.{HasMethod}
use Rattle.jn_rules.specs.Members.{BadMethod, no_least, bad_method}
use Rattle.jn_rules.specs.LawsOfPlans.{RepliesAreOne}
use Rattle.jn_rules.specs.Verdict.{TreePasses, MembersPass}
use Rattle.jn_rule_laws.specs.LawsOfHeaders.{IsHeader, ResultIs, HeadersOf}
use Rattle.jn_rule_laws.specs.LawsOfMembers.{FieldsOf}
use Rattle.jn_rule_laws.proofs.Declared.{headers_that_pass}
use Rattle.jn_rule_laws.proofs.HeaderLaws.{header_back}
use Rattle.jn_rule_laws.proofs.OneFields.{fields_are_one}
use Rattle.jn_rule_laws.proofs.RepliesOne.{replies_one}
use Rattle.jn_share_laws.proofs.FieldsFound.{found_field}
use Rattle.jn_code.specs.declared.image.Shape.{Shape}
use Rattle.jn_agree.specs.Rows.{kind_of_type, HasShape, ResultKind}
use Rattle.jn_layout.specs.Asked.{Typed}
use Rattle.jn_layout.proofs.OnePlace.{one_place}
use Rattle.jn_link.proofs.FieldClasses.{classes_have_fields, class_at}

-- the kind of a result is that of its type
kind_given : (p : Program) (b : Body) (vars : List Var) (r : Option TypeTerm) (t : Ty) → ResultIs p b vars r t
    → (k : ℕ) × ResultKind p b vars r k
kind_given p b vars None t is = (0, refl)
kind_given p b vars (Some r) t is = (kind_of_type t, (t, is, refl))

module _ (p : Program) (bytes : List ℕ) (text : IsTextOf p bytes) (ok : TreePasses p) where
  pub within : WithinOf p
  within = programs_within_limits p (record { source = bytes; spelled = p; same = refl; is_text = text })

  members : MembersPass p
  members = ok.bodies.headers.limits.members

  pub declarations : DeclarationsPass p
  declarations = record { once = ok.bodies.once; table = members.types.table }

  fields : FieldsOf p
  fields = fields_are_one p members

  pub once : FoundOnceIn p
  once = finds_one_in p declarations within.named.distinct within.named.paths

  pub fit : FieldsPass p
  fit = fields_pass p fields.one_place within.brackets

  pub of_classes : (R : Path) (f : Name) (t : Ty) → FieldType p R f t → IsClass p R
  of_classes = classes_have_fields p text.spelled.parts text.spelled.is_program

  pub one_reply : RepliesAreOne p
  one_reply = replies_one p declarations within.named

  -- a method that a class has, has a least body there
  pub least_body : (V : Path) (m : Name) → IsClass p V → HasMethod p m V → ((b : Body) → IsBody p V m b → ⊥) → ⊥
  least_body V m class has none =
      let bad : BadMethod p V m =
      no_least has (λ Q l. none (record { class = Q; method = l.among.method })
      (record { least = l; at = l.among.at })) in
      members.members V (record { class = class; bad = bad_method m bad })

  headers : HeadersOf p
  headers = headers_that_pass p members.types.headers

  shaped : (R : Path) (m : Name) (b : Body) → IsBody p R m b → (s : Shape) × HasShape p b s
  shaped R m b i =
      let h = headers.methods b.class m b.method i.at in
      let x : IsHeader p b h.0 = header_back p b h.0 h.1 in
      let k = kind_given p b h.0.vars b.method.result h.0.result x.result in (
        record { params = map (λ (v : Var). kind_of_type v.ty) h.0.vars; result = k.0 },
        record { vars = h.0.vars; params = x.params; kinds = refl; result = k.1 },
      )

  typed : (Q : Path) (f : Name) (x : Field) → FieldAt p Q f x → (t : Ty) × FieldTypeIs p Q f x.ty t
  typed Q f x at =
      let h = headers.fields Q f x at in
      (h.0, subst (λ (N : Name). FieldTypeIs p Q N x.ty h.0) at.name h.1)

  pub granted : Typed p
  granted = record {
    shaped = shaped;
    typed = typed;
    once = once;
    of_classes = of_classes;
    one_place = one_place p ok.bodies.once;
    named = within.named.paths;
  }

  -- each declared field has its type in its own class
  pub own_type : (g : AtField) → Contains (declared_fields p) g
      → (t : Ty) × FieldTypeIs p g.class g.field.name.name g.field.ty t × FieldType p g.class g.field.name.name t
  own_type g c = (there.0, type, there.1) where
    f : Name
    f = g.field.name.name

    at : FieldAt p g.class f g.field
    at = found_field p g c

    class : IsClass p g.class
    class = class_at p text.spelled.parts text.spelled.is_program g.class f g.field at

    declares : FieldDecls p g.class f g.class
    declares = record { super = itself; field = g.field; at = at }

    there : (t : Ty) × FieldType p g.class f t
    there = fields.there g.class f class (record { at = g.class; declares = declares })

    same : there.1.class ≡ g.class
    same = fields.one_place g.class there.1.class g.class f class there.1.is_field.declares declares

    field_same : there.1.field ≡ g.field
    field_same =
        one_field_at p ok.bodies.once g.class f there.1.field g.field
        (subst (λ (Q : Path). FieldAt p Q f there.1.field) same there.1.at) at

    type : FieldTypeIs p g.class f g.field.ty there.0
    type =
        subst (λ (x : Field). FieldTypeIs p g.class f x.ty there.0) field_same
        (subst (λ (Q : Path). FieldTypeIs p Q f there.1.field.ty there.0) same there.1.type)
