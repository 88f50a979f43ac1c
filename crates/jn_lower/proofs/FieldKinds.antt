-- The kind of a field, by what its slots tell.
use Rattle.std.proofs.Common.{◌≡◌, [], Bool, true, false, Option, Some, reverse, refl, sym, ap, subst, ◌∙◌}
use Rattle.std.proofs.lemmas.List.{append-nil, reverse-reverse}
use Rattle.std.specs.Prelude.{cond, slice_get}
use Rattle.jn_base.specs.declared.tree.Name.{Name}
use Rattle.jn_base.specs.declared.tree.Field.{Field}
use Rattle.jn_base.specs.declared.tree.Program.{Program}
use Rattle.jn_base.specs.declared.path.Path.{Path as ShownPath}
use Rattle.jn_base.specs.declared.types.Ty.{Ty}
use Rattle.jn_base.specs.declared.names.Role.TheVariants as role
use Rattle.jn_base.specs.Paths.{Path, shown}
use Rattle.jn_base.specs.Atoms.{atom_of, shown_atom}
use Rattle.jn_base.specs.Scopes.{Scope, bound, this_atom, this_type}
use Rattle.jn_base.specs.Members.{FieldAt}
use Rattle.jn_base.specs.ResolveTypes.{mask_names}
use Rattle.jn_base.specs.Supers.{itself}
use Rattle.jn_base.proofs.SuperLaws.{sup_joined}
use Rattle.jn_sem.specs.Sharing.{HangsOnThis}
use Rattle.jn_sem.specs.Slots.{FieldType, FieldHangs}
use Rattle.jn_sem.specs.Terms.{spot}
use Rattle.jn_rules.specs.Plans.{FoundField, OfField}
use Rattle.jn_rules.specs.Questions.{IsFoundField, first}
use Rattle.jn_rules.specs.LawsOfPlans.{RepliesAreOne}
use Rattle.jn_agree.specs.Naming.{Naming}
use Rattle.jn_agree.specs.Rows.{FieldKind, plain, hanging}
use Rattle.jn_agree.specs.Places.{FieldOf}
use Rattle.jn_lower.specs.declared.members.Getter.{Getter}
use Rattle.jn_lower.specs.declared.walk.Parts.{Parts}
use Rattle.jn_lower.specs.Lowering.{PartsAre}
use Rattle.jn_lower.specs.Written.{written_kind}
use Rattle.jn_lower.specs.Told.{KindsOfFields, IsGetter}
use Rattle.jn_lower.proofs.Written.{told}

-- a field has its type at the class that declares it too
pub where_declared : (p : Program) (V : Path) (f : Name) (u : Ty) → (h : FieldType p V f u) → FieldType p h.class f u
where_declared p V f u h =
    let d = h.is_field.declares in
    record {
      class = h.class;
      is_field = record {
        declares = record { super = itself; field = d.field; at = d.at };
        only = λ S e. h.is_field.only S (record { super = sup_joined d.super e.super; field = e.field; at = e.at });
      };
      field = h.field;
      at = h.at;
      type = h.type;
    }

-- ---- one type

found_same : {x y : FoundField} → ◌≡◌ {A = Option FoundField} (Some x) (Some y) → x ≡ y
found_same e = cc

this_bound : (V : Path) → V ≡ bound [] (atom_of (shown_atom (this_atom V)))
this_bound V = sym (append-nil (reverse (reverse V)) ∙ reverse-reverse V)

pub one_type : (p : Program) → RepliesAreOne p → (V : Path) (f : Name) (t u : Ty) → FieldType p V f t → FieldType p V f u
    → t ≡ u
one_type p one V f t u a b =
    ap (λ (x : FoundField). x.ty)
    (found_same (one (OfField [] (this_type V) f) (Some (found t a)) (Some (found u b)) (is_found t a) (is_found u b)))
  where
    found : (v : Ty) → FieldType p V f v → FoundField
    found v h = record { class = h.class; ty = v }

    is_found : (v : Ty) → (h : FieldType p V f v) → IsFoundField p [] (this_type V) f (found v h)
    is_found v h = record {
      bound = V;
      at = first (this_bound V) (record { at = h.class; declares = h.is_field.declares });
      type = h;
      class = refl;
    }

-- ---- the kind

pub kinds_of_fields : KindsOfFields
kinds_of_fields p t s R f field kind u slots one class of written own = by_told own.told refl
  where
    by_told : (b : Bool) → own.told ≡ b → FieldKind u kind
    by_told true e =
        let h = (own.says p t.known.items R slots own.number class).0 e in
        hanging (subst HangsOnThis (one_type p one R f h.ty u h.type of) h.hangs)
        (subst (λ (b : Bool). kind ≡ cond b 4 (written_kind field.ty)) e own.is)
    by_told false e =
        plain (λ h.
        let w : FieldHangs p R f = record { ty = u; type = of; hangs = h } in
        let told = (own.says p t.known.items R slots own.number class).1 w in
        absurd cc) (subst (λ (b : Bool). kind ≡ cond b 4 (written_kind field.ty)) e own.is ∙ sym written)

-- ---- what a field that was found is read and written by

-- the selector stands for the name and the kind, which each field that is found there has
pub record IsRead (g : Parts) (n : Naming) (s : Scope) (t : Ty) (f : Name) (x : Getter) : Type 0 where
  pub sel : FieldOf n f x.selector x.kind
  pub kinds : (k : FoundField) → IsFoundField g.p.now s t f k → FieldKind k.ty x.kind

pub read_by : (g : Parts) (n : Naming) → PartsAre g.p.now g.t.now g.slots.now g.names.now n → (s : Scope) (t : Ty) (f : Name)
    (c : FoundField) (path : ShownPath) (x : Getter) → IsFoundField g.p.now s t f c → path ≡ shown c.class
    → ((field : Field) → FieldAt g.p.now (reverse path.names) f field
    → IsGetter g.t.now g.slots.now g.names.now.fields (reverse path.names) f field x)
    → IsRead g n s t f x
read_by g n parts s t f c path x found same getter = record {
  sel = record { at = ap (λ (l : _). slice_get l x.selector) parts.fields ∙ is.at };
  kinds = λ k h. subst (λ (y : FoundField). FieldKind y.ty x.kind)
      (found_same (parts.one (OfField s t f) (Some c) (Some k) found h)) kind;
}
  where
    R : Path
    R = found.type.class

    there : reverse path.names ≡ R
    there = ap (λ (q : ShownPath). reverse q.names) same ∙ reverse-reverse c.class ∙ found.class

    is : IsGetter g.t.now g.slots.now g.names.now.fields R f found.type.field x
    is =
        subst (λ (Q : Path). IsGetter g.t.now g.slots.now g.names.now.fields Q f found.type.field x) there
        (getter found.type.field (subst (λ (Q : Path). FieldAt g.p.now Q f found.type.field) (sym there) found.type.at))

    kind : FieldKind c.ty x.kind
    kind =
        let of = where_declared g.p.now found.bound f c.ty found.type in
        let w = told g.p.now (mask_names g.p.now) (spot R f role.Field) (record { list = [] }) found.type.field.ty c.ty found.type.type in
        kinds_of_fields g.p.now g.t.now g.slots.now R f found.type.field x.kind c.ty parts.numbered parts.one
        (parts.of_classes R f c.ty of) of w.kind is.kind
