-- What each program whose headers pass has, declaration by declaration.
use Rattle.std.proofs.Common.{List, [], ◌∷◌, map, Contains, subst, inl, inr}
use Rattle.std.specs.Prelude.{Result, Ok, Err}
use Rattle.jn_base.specs.declared.tree.Name.{Name}
use Rattle.jn_base.specs.declared.tree.Field.{Field}
use Rattle.jn_base.specs.declared.tree.Method.{Method}
use Rattle.jn_base.specs.declared.tree.Constraint.{Constraint}
use Rattle.jn_base.specs.declared.tree.Member.{Member, out-Member}
use Rattle.jn_base.specs.declared.tree.Member.TheOpen.{Member-F}
use Rattle.jn_base.specs.declared.tree.Decl.{Decl}
use Rattle.jn_base.specs.declared.tree.Program.{Program}
use Rattle.jn_base.specs.declared.types.Ty.{Ty}
use Rattle.jn_base.specs.declared.refusal.Refusal.{Refusal}
use Rattle.jn_base.specs.Paths.{Path, nested, fields, methods, and_nested, and_field, and_method, StandsIn, StandsAt}
use Rattle.jn_base.specs.Members.{MethodAt, FieldAt}
use Rattle.jn_base.specs.Atoms.{Among, first, later}
use Rattle.jn_base.proofs.NameTests.{in_cons, in_none}
use Rattle.jn_sem.specs.NotFamily.{own_listed}
use Rattle.jn_sem.specs.Terms.{FieldTypeIs}
use Rattle.jn_sem.proofs.FindingLaws.{among_of}
use Rattle.jn_rules.specs.Plans.{Pledge, OfConstraint, OfFieldType, Plan, done, taken, Nothing, in_turn}
use Rattle.jn_rules.specs.Questions.{header_site, ConstraintGives, Gives, Means}
use Rattle.jn_rules.specs.Headers.{Header, header_typed, constraint_asked, method_asked, field_asked, listed_asked, decl_headers, asked_at, header_plan}
use Rattle.jn_rules.specs.Forms.{member_headers, headers_in}
use Rattle.jn_rules.proofs.PlanLaws.{then_came}
use Rattle.jn_rules.proofs.FormLaws.{decl_forms}
use Rattle.jn_laws.proofs.Lists.{among_map}
use Rattle.jn_rule_laws.specs.LawsOfHeaders.{HeadersOf, HeadersThatPass}

-- plans in turn pass where each of them does
pub turn_each : (p : Program) (xs : List (Plan Nothing)) (x : Plan Nothing) → Gives p (in_turn xs) (Ok tt) → Among xs x → Gives p x (Ok tt)
turn_each p (y ∷ xs) _ g first = (then_came y (λ u. in_turn xs) tt g).gave
turn_each p (y ∷ xs) x g (later m) = turn_each p xs x (then_came y (λ u. in_turn xs) tt g).then m
turn_each p [] x g m = elim m [ ]

-- ---- the members of a declaration

module _ (R : Path) where
  nested_at : (f : Member-F Member Decl) (ds : List Decl) (d : Decl) (ps : List (Plan Nothing)) → Contains (and_nested f ds) d
      → (Contains ds d → Among ps (decl_headers d R)) → Among (member_headers R f ∷ ps) (decl_headers d R)
  nested_at (Member-F.Inner e) ds d ps c more = elim (in_cons e ds d c) [
    | inl q ↦ subst (λ (x : Decl). Among (decl_headers e R ∷ ps) (decl_headers x R)) q first
    | inr n ↦ later (more n)
  ]
  nested_at (Member-F.Slot f) ds d ps c more = later (more c)
  nested_at (Member-F.Body m) ds d ps c more = later (more c)

  nested_there : (ms : List Member) (d : Decl) → Contains (nested ms) d → Among (headers_in R ms) (decl_headers d R)
  nested_there [] d c = absurd (in_none d c)
  nested_there (m ∷ ms) d c = nested_at (out-Member m) (nested ms) d (headers_in R ms) c (nested_there ms d)

  method_at : (f : Member-F Member Decl) (xs : List Method) (x : Method) (ps : List (Plan Nothing)) → Contains (and_method f xs) x
      → (Contains xs x → Among ps (method_asked R x)) → Among (member_headers R f ∷ ps) (method_asked R x)
  method_at (Member-F.Inner e) xs x ps c more = later (more c)
  method_at (Member-F.Slot f) xs x ps c more = later (more c)
  method_at (Member-F.Body m) xs x ps c more = elim (in_cons m xs x c) [
    | inl q ↦ subst (λ (y : Method). Among (method_asked R m ∷ ps) (method_asked R y)) q first
    | inr n ↦ later (more n)
  ]

  method_there : (ms : List Member) (x : Method) → Contains (methods ms) x → Among (headers_in R ms) (method_asked R x)
  method_there [] x c = absurd (in_none x c)
  method_there (m ∷ ms) x c = method_at (out-Member m) (methods ms) x (headers_in R ms) c (method_there ms x)

  field_at : (f : Member-F Member Decl) (xs : List Field) (x : Field) (ps : List (Plan Nothing)) → Contains (and_field f xs) x
      → (Contains xs x → Among ps (field_asked R x)) → Among (member_headers R f ∷ ps) (field_asked R x)
  field_at (Member-F.Inner e) xs x ps c more = later (more c)
  field_at (Member-F.Slot f) xs x ps c more = elim (in_cons f xs x c) [
    | inl q ↦ subst (λ (y : Field). Among (field_asked R f ∷ ps) (field_asked R y)) q first
    | inr n ↦ later (more n)
  ]
  field_at (Member-F.Body m) xs x ps c more = later (more c)

  field_there : (ms : List Member) (x : Field) → Contains (fields ms) x → Among (headers_in R ms) (field_asked R x)
  field_there [] x c = absurd (in_none x c)
  field_there (m ∷ ms) x c = field_at (out-Member m) (fields ms) x (headers_in R ms) c (field_there ms x)

-- ---- all declarations

module _ (p : Program) (ok : Gives p (header_plan p) (Ok tt)) where
  members_pass : (P : Path) (d : Decl) → Gives p (decl_headers d P) (Ok tt) → Gives p (in_turn (headers_in (d.name.name ∷ P) d.members)) (Ok tt)
  members_pass P d g =
      (then_came (in_turn (map listed_asked (own_listed d.name.name d.shares d.adapts P))) (λ u. in_turn (headers_in (d.name.name ∷ P) d.members)) tt
      (subst (λ (x : Plan Nothing). Gives p x (Ok tt)) (decl_forms d P).headers g)).then

  decl_passes : (P : Path) (d : Decl) → StandsIn p P d → Gives p (decl_headers d P) (Ok tt)
  decl_passes [] d s =
      turn_each p (map (asked_at []) (map decl_headers p.decls)) (decl_headers d []) ok
      (among_map (asked_at []) (map decl_headers p.decls) (decl_headers d) (among_map decl_headers p.decls d (among_of p.decls d s)))
  decl_passes (C ∷ P) d s =
      subst (λ (N : Name). Gives p (decl_headers d (N ∷ P)) (Ok tt)) s.2
      (turn_each p (headers_in (s.0.name.name ∷ P) s.0.members) (decl_headers d (s.0.name.name ∷ P))
      (members_pass P s.0 (decl_passes P s.0 s.1)) (nested_there (s.0.name.name ∷ P) s.0.members d s.3))

  at_decl : (R : Path) (d : Decl) → StandsAt p R d → Gives p (in_turn (headers_in R d.members)) (Ok tt)
  at_decl [] d s = absurd s
  at_decl (C ∷ P) d s = subst (λ (N : Name). Gives p (in_turn (headers_in (N ∷ P) d.members)) (Ok tt)) s.1 (members_pass P d (decl_passes P d s.0))

  pub method_passes : (R : Path) (m : Name) (x : Method) → MethodAt p R m x → Gives p (method_asked R x) (Ok tt)
  method_passes R m x h =
      turn_each p (headers_in R h.decl.members) (method_asked R x) (at_decl R h.decl h.stands) (method_there R h.decl.members x h.has)

  pub field_passes : (R : Path) (f : Name) (x : Field) → FieldAt p R f x → Gives p (field_asked R x) (Ok tt)
  field_passes R f x h =
      turn_each p (headers_in R h.decl.members) (field_asked R x) (at_decl R h.decl h.stands) (field_there R h.decl.members x h.has)

  abbrev constraints_of : Path → Method → Header → Plan Nothing
  constraints_of R x c = in_turn (map (constraint_asked R x) x.sharing)

  constraint_given : (R : Path) (x : Method) (c : Constraint) → Gives p (constraint_asked R x c) (Ok tt)
      → (k : Pledge) × ConstraintGives p (header_site R x.name.name) c (Ok k)
  constraint_given R x c g = at g.0 g.1 g.2 where
    at : (o : Result Pledge Refusal) → Means p (OfConstraint R x.name.name c) o → Gives p (taken (λ k. let d : Plan Nothing = done tt in d) o) (Ok tt)
        → (k : Pledge) × ConstraintGives p (header_site R x.name.name) c (Ok k)
    at (Ok k) m h = (k, m)
    at (Err r) m h = absurd (cc h)

  field_given : (R : Path) (x : Field) → Gives p (field_asked R x) (Ok tt) → (t : Ty) × FieldTypeIs p R x.name.name x.ty t
  field_given R x g = at g.0 g.1 g.2 where
    at : (o : Result Ty Refusal) → Means p (OfFieldType R x.name.name x.ty) o → Gives p (taken (λ t. let d : Plan Nothing = done tt in d) o) (Ok tt)
        → (t : Ty) × FieldTypeIs p R x.name.name x.ty t
    at (Ok t) m h = (t, m)
    at (Err r) m h = absurd (cc h)

  pub headers_of : HeadersOf p
  headers_of = record {
    methods = λ R m x h. let b = then_came (header_typed (record { class = R; method = x })) (constraints_of R x) tt (method_passes R m x h) in (b.first, b.gave);
    constraints = λ R m x c h i.
        let b = then_came (header_typed (record { class = R; method = x })) (constraints_of R x) tt (method_passes R m x h) in
        constraint_given R x c (turn_each p (map (constraint_asked R x) x.sharing) (constraint_asked R x c) b.then
        (among_map (constraint_asked R x) x.sharing c (among_of x.sharing c i)));
    fields = λ R f x h. field_given R x (field_passes R f x h);
  }

pub headers_that_pass : HeadersThatPass
headers_that_pass p ok = headers_of p ok
