-- The laws of an accepted program within the limits.
use Rattle.std.proofs.Common.{◌≡◌, ◌<◌, ◌≤◌, ℕ, List, [], ◌∷◌, length, Option, Some, None, false, refl, sym, ap, ◌∙◌, subst, arith}
use Rattle.jn_base.specs.declared.tree.Name.{Name}
use Rattle.jn_base.specs.declared.tree.TypeTerm.{TypeTerm}
use Rattle.jn_base.specs.declared.tree.Program.{Program}
use Rattle.jn_base.specs.declared.types.Anchor.TheVariants.{Root, Up}
use Rattle.jn_base.specs.declared.tree.ViewTerm.{ViewTerm}
use Rattle.jn_sem.specs.Holds.{target_family}
use Rattle.jn_base.specs.declared.types.Ty.{Ty}
use Rattle.jn_base.specs.declared.names.Var.{Var}
use Rattle.jn_base.specs.Paths.{Path}
use Rattle.jn_base.specs.Supers.{Sup}
use Rattle.jn_base.specs.Atoms.{Atom, Among}
use Rattle.jn_base.specs.Fits.{BindsFit}
use Rattle.jn_sem.specs.Values.{HasField}
use Rattle.jn_sem.specs.Sharing.{IsClass}
use Rattle.jn_sem.specs.Terms.{Site, ViewIs}
use Rattle.jn_sem.specs.Does.{Body, IsBody}
use Rattle.jn_rules.specs.Stmts.{is_void}
use Rattle.jn_sem.specs.Sets.{no_views}
use Rattle.jn_sem.specs.Values.{Value, Reference}
use Rattle.jn_sem.specs.State.{Heap, Frame, HasValue, with_values, has_null_path}
use Rattle.jn_sem.specs.Run.{frame_of, AreIn}
use Rattle.jn_rules.specs.Stmts.{at_start}
use Rattle.jn_base.specs.declared.types.Ty.TheVariants as ty
use Rattle.jn_sound.specs.Sound.{InScope}
use Rattle.jn_rules.specs.Headers.{Header}
use Rattle.jn_rule_laws.specs.LawsOfHeaders.{IsHeader}
use Rattle.jn_laws.specs.LawsOfWritten.{HeaderPaths}
use Rattle.jn_laws.specs.Reading.{RefersTo, IsReal}
use Rattle.jn_base.specs.Atoms.{first, later}
use Rattle.jn_rules.specs.Verdict.{TreePasses, MembersPass}
use Rattle.jn_sem.specs.LawsOfSlots.{FieldsPass}
use Rattle.jn_sem.specs.LawsOfFinding.{FoundOnceIn}
use Rattle.jn_sem.proofs.FindingLaws.{finds_one_in}
use Rattle.jn_sem.proofs.FieldAnchors.{fields_pass}
use Rattle.jn_laws.specs.LawsOfViews.{OfThis}
use Rattle.jn_base.specs.declared.types.Anchor.{Anchor}
use Rattle.jn_base.specs.Atoms.{atom_of}
use Rattle.jn_rule_laws.specs.LawsOfMembers.{FieldsOf}
use Rattle.jn_laws.specs.LawsOfWritten.{IsWritten}
use Rattle.jn_laws.specs.LawsOfPlaces.{WithinOf}
use Rattle.jn_laws.proofs.WrittenTypes.{written_kinds, this_is_alone, targets_have_families}
use Rattle.jn_laws.proofs.Universes.{slots_there}
use Rattle.jn_rule_laws.proofs.OneHeaders.{headers_are_one}
use Rattle.jn_rule_laws.proofs.OneFields.{fields_are_one}
use Rattle.jn_rule_laws.proofs.SameSignatures.{signatures}
use Rattle.jn_rule_laws.proofs.FoundMembers.{members_under_bounds}
use Rattle.jn_rule_laws.specs.LawsOfHeaders.{ResultIs}
use Rattle.jn_sound.specs.Callees.{header_of}
use Rattle.jn_sound.specs.Needs.{Needs}
use Rattle.jn_laws.proofs.StoredValues.{slots_take_values}
use Rattle.jn_sound.proofs.Laws.{Laws, ParamsSo, header_params}
use Rattle.jn_sound.proofs.Entered.{Arguments, grow, alone}
use Rattle.jn_sound.proofs.Known.{declared_among}
use Rattle.jn_sound.specs.Sound.{ThisFits, sides_of}
use Rattle.jn_base.proofs.Reaching.{sup_in_universe}
use Rattle.jn_base.proofs.SuperLaws.{sup_level, sup_joined}
use Rattle.jn_base.specs.Members.{MethodAt}
use Rattle.jn_base.specs.declared.tree.Constraint.{Constraint}
use Rattle.jn_rules.specs.Plans.{Pledge}
use Rattle.jn_rules.specs.Questions.{ConstraintGives, header_site}
use Rattle.jn_sem.specs.Holds.{HoldsAt}
use Rattle.jn_laws.specs.Surely.{Surely}
use Rattle.std.specs.Prelude.{Contains, Ok}
use Rattle.jn_sem.specs.State.{Variable, declared_vars}
use Rattle.jn_rule_laws.specs.LawsOfOneHeader.{HeaderFits}
use Rattle.jn_rule_laws.proofs.OneHeaders.{headers_fit}
use Rattle.std.specs.Prelude.{drop}
use Rattle.std.proofs.lemmas.List.{drop_all}
use Rattle.jn_laws.specs.LawsOfWritten.{scope_of}
use Rattle.jn_rules.specs.Headers.{site_in}
use Rattle.jn_base.specs.Fits.{BindsFit}

-- ---- a body that begins

declared_values : (vs : List Var) (args : List Value) → length args ≡ length vs
    → declared_vars (with_values vs args) ≡ vs
declared_values [] args e = refl
declared_values (v ∷ vs) [] e = absurd (omega (arith, e))
declared_values (v ∷ vs) (x ∷ xs) e = ap (λ (l : List Var). v ∷ l) (declared_values vs xs (omega (arith, e)))

value_among : (vs : List Var) (args : List Value) (y : Variable) → Among (with_values vs args) y → Among args y.value
value_among [] args y m = elim m [ ]
value_among (v ∷ vs) [] y m = elim m [ ]
value_among (v ∷ vs) (x ∷ xs) _ first = first
value_among (v ∷ vs) (x ∷ xs) y (later m) = later (value_among vs xs y m)

entry_at : (p : Program) → WithinOf p → TreePasses p
    → (h : Heap) (V : Path) (m : Name) (b : Body) (x : Header) (o : ℕ) (args : List Value) → Sup p V b.class
    → MethodAt p b.class m b.method
    → ((c : Constraint) (k : Pledge) → Contains b.method.sharing c
    → ConstraintGives p (header_site b.class b.method.name.name) c (Ok k) → Surely (HoldsAt p V (sides_of p k)))
    → IsHeader p b x → RefersTo p h o V
    → ((g : Name) → HasField p V g → HasValue p h o V g) → length args ≡ length x.vars
    → has_null_path (with_values x.vars args) ≡ false → ((y : Value) → Among args y → IsReal p h y)
    → AreIn p (frame_of (record { class = b.class; method = b.method; vars = x.vars }) (Reference o V) args) h
    → InScope p h (frame_of (record { class = b.class; method = b.method; vars = x.vars })
    (Reference o V) args) no_views x.vars (at_start b x).scope
entry_at p w ok h V m b x o args super at constraints ih r filled e nn real ai =
    subst (λ (l : List Var). InScope p h g no_views l (scope_of (site_in b l))) named
    (grow all given [] all refl (alone all given this class.universe long)) where
      g : Frame
      g = frame_of (record { class = b.class; method = b.method; vars = x.vars }) (Reference o V) args

      all : List Variable
      all = with_values x.vars args

      named : declared_vars (with_values x.vars args) ≡ x.vars
      named = declared_values x.vars args e

      class : IsClass p V
      class = r.related.other

      fits : HeaderFits p b x
      fits = headers_fit p b.class m b.method x w.shallow w.formed (sup_in_universe super class.universe) at ih

      params : ParamsSo x.vars
      params = (header_params p b x ih).0

      few : length x.vars ≤ 15
      few =
          let l = w.limits.params b.class m b.method at in let c = (header_params p b x ih).1 in omega (arith, l, c)

      of_var : (T : Var → Type 0) → ((y : Var) → Among x.vars y → T y) → (y : Variable)
          → Among (with_values x.vars args) y → T y.var
      of_var T each y n =
          each y.var (subst (λ (l : List Var). Among l y.var) named (declared_among (with_values x.vars args) y n))

      long : drop (length b.class) V ≡ []
      long = drop_all (length b.class) V (let l = sup_level super in omega (arith, l))

      given : Arguments p h g all
      given = record {
        binds = subst (λ (l : List Var). BindsFit (scope_of (site_in b l))) (sym named) fits.params.fit.binds;
        small = of_var (λ y. y.path < 256) (λ y n. let l = params.older y n in omega (arith, l, few));
        positive = of_var (λ y. y.path ≡ 0 → ⊥) (λ y n. (params.each y n).path);
        no_null = nn;
        real = λ y n. real y.value (value_among x.vars args y n);
        typed = λ y n. ai y n;
      }

      this : ThisFits p h (record g { vars = [] })
      this = record {
        object = o;
        view = V;
        is = refl;
        real = r;
        super = super;
        filled = filled;
        constraints = constraints;
      }

entry : (p : Program) → WithinOf p → TreePasses p
    → (h : Heap) (V : Path) (m : Name) (b : Body) (x : Header) (o : ℕ) (args : List Value) → IsBody p V m b →
    IsHeader p b x → RefersTo p h o V
    → ((g : Name) → HasField p V g → HasValue p h o V g) → length args ≡ length x.vars
    → has_null_path (with_values x.vars args) ≡ false → ((y : Value) → Among args y → IsReal p h y)
    → AreIn p (frame_of (record { class = b.class; method = b.method; vars = x.vars }) (Reference o V) args) h
    → InScope p h (frame_of (record { class = b.class; method = b.method; vars = x.vars })
    (Reference o V) args) no_views x.vars (at_start b x).scope
entry p w ok h V m b x o args ib ih r filled e nn real ai =
    entry_at p w ok h V m b x o args ib.least.among.super ib.at
    (λ c k n i no. ok.bodies.headers.constraints V (
      m,
      (
        b,
        record {
          class = r.related.other;
          body = ib;
          constraint = c;
          among = n;
          pledge = k;
          is = i;
          fails = no;
        },
      ),
    )) ih r filled e nn real ai

-- the body of a class above
entry_above : (p : Program) → WithinOf p → TreePasses p
    → (h : Heap) (V B : Path) (m : Name) (b : Body) (x : Header) (o : ℕ) (args : List Value) → IsBody p B m b
    → Sup p V B
    → ((c : Constraint) (k : Pledge) → Contains b.method.sharing c
    → ConstraintGives p (header_site b.class b.method.name.name) c (Ok k) → Surely (HoldsAt p V (sides_of p k)))
    → IsHeader p b x → RefersTo p h o V
    → ((g : Name) → HasField p V g → HasValue p h o V g) → length args ≡ length x.vars
    → has_null_path (with_values x.vars args) ≡ false → ((y : Value) → Among args y → IsReal p h y)
    → AreIn p (frame_of (record { class = b.class; method = b.method; vars = x.vars }) (Reference o V) args) h
    → InScope p h (frame_of (record { class = b.class; method = b.method; vars = x.vars })
    (Reference o V) args) no_views x.vars (at_start b x).scope
entry_above p w ok h V B m b x o args ib higher constraints ih r filled e nn real ai =
    entry_at p w ok h V m b x o args (sup_joined higher ib.least.among.super) ib.at constraints ih r filled e nn real ai

-- ---- all of them

not_void_written : (t : Ty) → IsWritten t → is_void t ≡ false
not_void_written ty.Int w = refl
not_void_written ty.Bool w = refl
not_void_written ty.Null w = refl
not_void_written (ty.Class xs m) w = refl
not_void_written ty.Void w = absurd w

result_paths_at : (p : Program) (b : Body) (x : Header) → IsHeader p b x → (r : Option TypeTerm)
    → ResultIs p b x.vars r x.result → HeaderPaths x.vars x.result
result_paths_at p b x i None e = subst (HeaderPaths x.vars) (sym e) (λ y q k m g. elim m [ ])
result_paths_at p b x i (Some t) e =
    (written_kinds p).paths (record { class = b.class; method = b.method.name.name; vars = x.vars }) t x.result
    (λ z m. ((header_params p b x i).0.each z m).paths) e

this_only : (a : Anchor) (q k : ℕ) → a ≡ Up q k → OfThis a → q ≡ 0
this_only a q k e o = subst OfThis e o

target : (p : Program) (at : Site) (t : ViewTerm) (x : Atom) → ViewIs p at t x → x.anchor ≡ Root
    → (Y : Name) × (target_family x ≡ Some Y)
target p at t x v r =
    let y =
    (targets_have_families p at t (ty.Class (v.given ∷ []) v.masks) (atom_of v.given)).of_view v.resolved first
    (ap (λ (z : Atom). z.anchor) (sym v.is) ∙ r) in
    (y.0, ap (λ (z : Atom). target_family z) v.is ∙ y.1)

pub laws : (p : Program) → WithinOf p → TreePasses p → Needs p → Laws p
laws p w ok n = record {
  within = w;
  passes = ok;
  once = once;
  fields = fields;
  stores = slots_take_values p (record { once = ok.bodies.once; table = members.types.table }) pass;
  header_one = headers_are_one p;
  not_void = λ at t u i. not_void_written u ((written_kinds p).of_value at t u i);
  field_class = λ s v t f c V b r i it. (members_under_bounds p s v t V b r it).field f c i;
  method_class =
      λ s v t m c V b r i it. (members_under_bounds p s v t V b r it).method m c.body
      (record { bound = c.bound; at = i.at; body = i.callee.body });
  field_at = fields.inherited;
  field_has = λ V f t i. record { at = i.class; declares = i.is_field.declares };
  field_one = once.field;
  slot_at = slots_there p pass;
  slot_one = once.slot;
  field_paths =
      λ V f t x q k i m e. this_only x.anchor q k e ((this_is_alone p).in_field i.class f i.field.ty t x i.type m);
  signatures =
      λ V B m c class sup e i. (signatures p ok.bodies.once members).method V B m c.body (header_of c) class sup
      (subst (λ (Z : Path). IsBody p Z m c.body) e i.body) i.header;
  body_one = λ V m b c class i j. once.body V m class.universe b c i j;
  param_count = λ b x i. (header_params p b x i).1;
  param_paths = λ b x i y m. ((header_params p b x i).0.each y m).paths;
  result_paths = λ b x i. result_paths_at p b x i b.method.result i.result;
  param_path = λ b x i y m e. ((header_params p b x i).0.each y m).path e;
  param_once = λ b x i. (header_params p b x i).0.once;
  target_family = target p;
  loop_fits = n.loop_fits;
  entry_above = λ h V B m b x o args ib higher constraints ih r filled e nn real ai.
      entry_above p w ok h V B m b x o args ib higher constraints ih r filled e nn real ai;
  entry = λ h V m b x o args ib ih r filled e nn real ai. entry p w ok h V m b x o args ib ih r filled e nn real ai;
  body_fits = n.body_fits;
} where
  fields : FieldsOf p
  fields = fields_are_one p ok.bodies.headers.limits.members

  members : MembersPass p
  members = ok.bodies.headers.limits.members

  once : FoundOnceIn p
  once = finds_one_in p (record { once = ok.bodies.once; table = members.types.table }) w.named.distinct w.named.paths

  pass : FieldsPass p
  pass = fields_pass p fields.one_place w.brackets
