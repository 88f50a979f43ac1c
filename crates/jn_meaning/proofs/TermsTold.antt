-- What the terms and types of a body stand for.
use Rattle.std.proofs.Common.{◌≡◌, List, [], ◌∷◌, map, reverse, Option, Some, None, Result, Ok, Err, sym, ap, ◌∙◌, subst}
use Rattle.std.proofs.lemmas.List.{reverse-reverse}
use Rattle.jn_base.specs.declared.tree.Name.{Name}
use Rattle.jn_base.specs.declared.tree.Field.{Field}
use Rattle.jn_base.specs.declared.tree.Term.{Term}
use Rattle.jn_base.specs.declared.tree.TypeTerm.{TypeTerm}
use Rattle.jn_base.specs.declared.tree.Program.{Program}
use Rattle.jn_base.specs.declared.types.Ty.{Ty}
use Rattle.jn_base.specs.declared.types.Atom.{Atom as ShownAtom}
use Rattle.jn_base.specs.declared.refusal.Refusal.{Refusal}
use Rattle.jn_base.specs.declared.names.Role.{Role}
use Rattle.jn_base.specs.declared.names.Role.TheVariants as role
use Rattle.jn_base.specs.declared.names.Spot.{Spot}
use Rattle.jn_base.specs.declared.names.Vars.{Vars}
use Rattle.jn_base.specs.declared.path.Path.{Path as ShownPath}
use Rattle.jn_base.specs.Paths.{Path}
use Rattle.jn_base.specs.Members.{FieldAt, IsField}
use Rattle.jn_base.specs.Scopes.{Scope, this_bind}
use Rattle.jn_base.specs.Resolve.{var_bind, scope_at, Resolve}
use Rattle.jn_base.specs.ResolveTypes.{mask_names, ResolveType}
use Rattle.jn_base.specs.Duplicates.{duplicates}
use Rattle.jn_base.proofs.Unique.{one_field_at}
use Rattle.jn_names.specs.declared.members.Least.TheVariants as least
use Rattle.jn_names.specs.declared.fault.NameFault.{NameFault}
use Rattle.jn_names.specs.declared.fault.NameFault.TheVariants as fault
use Rattle.jn_names.specs.Answers.{Told}
use Rattle.jn_names.specs.Members.{FieldIs}
use Rattle.jn_sem.specs.Normal.{NormalType}
use Rattle.jn_sem.specs.Slots.{FieldType}
use Rattle.jn_sem.specs.Terms.{Site, spot, spot_at, vars_at, TypeIs, FieldTypeIs}
use Rattle.jn_table.specs.declared.class.ClassId.{ClassId}
use Rattle.jn_meaning.specs.Values.{path_at}
use Rattle.jn_meaning.specs.Tells.{Tells}
use Rattle.jn_meaning.specs.Sites.{site_with, TermTold}
use Rattle.jn_meaning.proofs.ClassNumbers.{path_of_number}

pub spot_is : (Q : Path) (names : List Name) (m : Name) (r : Role) → reverse names ≡ Q → record { class = record { names = names }; owner = m; role = r } ≡ spot Q m r
spot_is Q names m r e i = record { class = record { names = (sym (reverse-reverse names) ∙ ap reverse e) i }; owner = m; role = r }

-- what is told of a fault that is a refusal
pub refused_now : {A : Type 0} (x : NameFault) (r : Refusal) → x ≡ fault.Refused r → (o : Result A Refusal) → Told (λ a. a ≡ o) (Err x) → Err r ≡ o
refused_now {A} x r e o t = subst (λ (y : NameFault). Told {A = A} (λ a. a ≡ o) (Err y)) e t

-- an answer and a refusal are two
two : {A : Type 0} (r : Refusal) (a : A) → ◌≡◌ {A = Result A Refusal} (Err r) (Ok a) → ⊥
two r a e = cc

module _ (p : Program) (Q : Path) (m : Name) (vars : Vars) (names : List Name) (is : names ≡ mask_names p) (s : Spot) where
  abbrev at : Site
  at = site_with Q m vars

  scope_is : (class : List Name) → reverse class ≡ Q → reverse (this_bind (reverse class) ∷ map var_bind vars.list) ≡ scope_at (spot_at at role.Value) (vars_at at)
  scope_is class e = ap (λ (R : Path). reverse (this_bind R ∷ map var_bind vars.list)) (e ∙ sym (reverse-reverse Q))

  as_resolved : (ty : TypeTerm) (o : Result Ty Refusal) → s ≡ spot Q m role.Value → ResolveType p names s vars ty o → ResolveType p (mask_names p) (spot_at at role.Value) (vars_at at) ty o
  as_resolved ty o e r =
      subst (λ (ns : List Name). ResolveType p ns (spot_at at role.Value) vars ty o) is (subst (λ (x : Spot). ResolveType p names x vars ty o) e r)

  as_asked : (ty : TypeTerm) (o : Result Ty Refusal) → s ≡ spot Q m role.Value → ResolveType p (mask_names p) (spot_at at role.Value) (vars_at at) ty o → ResolveType p names s vars ty o
  as_asked ty o e r =
      subst (λ (x : Spot). ResolveType p names x vars ty o) (sym e) (subst (λ (ns : List Name). ResolveType p ns (spot_at at role.Value) vars ty o) (sym is) r)

  pub type_told : (ty : TypeTerm) (given form : Ty) (class : List Name) → s ≡ spot Q m role.Value → reverse class ≡ Q → ResolveType p names s vars ty (Ok given)
      → NormalType (reverse (this_bind (reverse class) ∷ map var_bind vars.list)) given form → Tells (TypeIs p at ty) (Some form)
  type_told ty given form class e c r n = record {
    given = given;
    resolved = as_resolved ty (Ok given) e r;
    normal = subst (λ (z : Scope). NormalType z given form) (scope_is class c) n;
  }

  pub type_refused : (ty : TypeTerm) (r : Refusal) → s ≡ spot Q m role.Value → ((o : Result Ty Refusal) → ResolveType p names s vars ty o → Err r ≡ o) → Tells (TypeIs p at ty) None
  type_refused ty r e only = λ u k. two r k.given (only (Ok k.given) (as_asked ty (Ok k.given) e k.resolved))

  pub term_told : (rl : Role) (t : Term) (x : ShownAtom) → s ≡ spot Q m rl → Resolve p s vars t (Ok x) → TermTold p rl at t (Some x)
  term_told rl t x e r = subst (λ (z : Spot). Resolve p z vars t (Ok x)) e r

  pub term_refused : (rl : Role) (t : Term) (r : Refusal) → s ≡ spot Q m rl → ((o : Result ShownAtom Refusal) → Resolve p s vars t o → Err r ≡ o) → TermTold p rl at t None
  term_refused rl t r e only = λ x k. two r x (only (Ok x) (subst (λ (z : Spot). Resolve p z vars t (Ok x)) (sym e) k))

  pub declared_told : (ty : TypeTerm) (given : Ty) → s ≡ spot Q m role.Field → vars ≡ record { list = [] } → ResolveType p names s vars ty (Ok given) → Tells (FieldTypeIs p Q m ty) (Some given)
  declared_told ty given e v r =
      subst (λ (z : Vars). ResolveType p (mask_names p) (spot Q m role.Field) z ty (Ok given)) v
      (subst (λ (ns : List Name). ResolveType p ns (spot Q m role.Field) vars ty (Ok given)) is (subst (λ (z : Spot). ResolveType p names z vars ty (Ok given)) e r))

  pub declared_refused : (ty : TypeTerm) (r : Refusal) → s ≡ spot Q m role.Field → vars ≡ record { list = [] } → ((o : Result Ty Refusal) → ResolveType p names s vars ty o → Err r ≡ o)
      → Tells (FieldTypeIs p Q m ty) None
  declared_refused ty r e v only = λ u k.
      two r u (only (Ok u) (subst (λ (z : Spot). ResolveType p names z vars ty (Ok u)) (sym e) (subst (λ (ns : List Name). ResolveType p ns (spot Q m role.Field) vars ty (Ok u)) (sym is)
      (subst (λ (z : Vars). ResolveType p (mask_names p) (spot Q m role.Field) z ty (Ok u)) (sym v) k))))

-- ---- fields

module _ (p : Program) (once : duplicates p ≡ []) (known : List ShownPath) (id : ClassId) (f : Name) where
  abbrev V : Path
  V = path_at known id

  pub no_field_type : FieldIs p known V f least.None → Tells (FieldType p V f) None
  no_field_type h = λ t k. h k.class k.is_field.declares

  pub many_field_type : (a c : ClassId) → FieldIs p known V f (least.Many a c) → Tells (FieldType p V f) None
  many_field_type a c h = λ t k.
      let one = k.is_field.only h.one h.one_first.holds in
      let other = k.is_field.only h.two h.two_first.holds.0 in
      h.two_first.holds.1 (other ∙ sym one)

  module _ (a : ClassId) (h : FieldIs p known V f (least.One a)) where
    there : path_at known a ≡ h.0
    there = path_of_number known a h.0 h.1

    pub undeclared_type : Tells (FieldAt p (path_at known a) f) None → Tells (FieldType p V f) None
    undeclared_type n = λ t k.
        let d = h.2.declares in n d.field (subst (λ (Q : Path). FieldAt p Q f d.field) (sym there) d.at)

    pub field_type_told : (x : Field) (o : Option Ty) → FieldAt p (path_at known a) f x → Tells (FieldTypeIs p (path_at known a) f x.ty) o → Tells (FieldType p V f) o
    field_type_told x None at n = λ t k.
        let same : k.class ≡ path_at known a = h.2.only k.class k.is_field.declares ∙ sym there in
        let one : k.field ≡ x = one_field_at p once (path_at known a) f k.field x (subst (λ (Q : Path). FieldAt p Q f k.field) same k.at) at in
        n t (subst (λ (y : Field). FieldTypeIs p (path_at known a) f y.ty t) one (subst (λ (Q : Path). FieldTypeIs p Q f k.field.ty t) same k.type))
    field_type_told x (Some t) at n = record {
      class = path_at known a;
      is_field = subst (IsField p V f) (sym there) h.2;
      field = x;
      at = at;
      type = n;
    }
