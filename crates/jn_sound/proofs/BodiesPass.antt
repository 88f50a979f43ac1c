-- Each body of a program whose bodies pass, declaration by declaration.
use Rattle.std.proofs.Common.{List, [], ◌∷◌, map, Contains, subst, inl, inr}
use Rattle.std.specs.Prelude.{Ok}
use Rattle.jn_base.specs.declared.tree.Name.{Name}
use Rattle.jn_base.specs.declared.tree.Method.{Method}
use Rattle.jn_base.specs.declared.tree.Member.{Member, out-Member}
use Rattle.jn_base.specs.declared.tree.Member.TheOpen.{Member-F}
use Rattle.jn_base.specs.declared.tree.Decl.{Decl}
use Rattle.jn_base.specs.declared.tree.Program.{Program}
use Rattle.jn_base.specs.Paths.{Path, nested, methods, and_nested, and_method, StandsIn, StandsAt}
use Rattle.jn_base.specs.Members.{MethodAt}
use Rattle.jn_base.specs.Atoms.{Among, first, later}
use Rattle.jn_base.proofs.NameTests.{in_cons, in_none}
use Rattle.jn_sem.specs.Does.{Body}
use Rattle.jn_sem.proofs.FindingLaws.{among_of}
use Rattle.jn_rules.specs.Plans.{Plan, Nothing, in_turn}
use Rattle.jn_rules.specs.Questions.{Gives}
use Rattle.jn_rules.specs.Headers.{Header, header_typed, asked_at}
use Rattle.jn_rules.specs.Stmts.{decl_bodies, body_types, body_with, body_plan}
use Rattle.jn_rules.specs.Forms.{member_body, bodies_in}
use Rattle.jn_rules.proofs.PlanLaws.{then_came}
use Rattle.jn_rules.proofs.FormLaws.{decl_forms}
use Rattle.jn_laws.proofs.Lists.{among_map}
use Rattle.jn_rule_laws.specs.LawsOfHeaders.{IsHeader}
use Rattle.jn_rule_laws.proofs.Declared.{turn_each}
use Rattle.jn_rule_laws.proofs.HeaderLaws.{header_back}
use Rattle.jn_rule_laws.proofs.OneHeaders.{headers_are_one}

abbrev body_at : Path → Method → Body
body_at R x = record { class = R; method = x }

-- ---- the members of a declaration

module _ (R : Path) where
  nested_at : (f : Member-F Member Decl) (ds : List Decl) (d : Decl) (ps : List (Plan Nothing))
      → Contains (and_nested f ds) d → (Contains ds d → Among ps (decl_bodies d R))
      → Among (member_body R f ∷ ps) (decl_bodies d R)
  nested_at (Member-F.Inner e) ds d ps c more = elim (in_cons e ds d c) [
    | inl q ↦ subst (λ (x : Decl). Among (decl_bodies e R ∷ ps) (decl_bodies x R)) q first
    | inr n ↦ later (more n)
  ]
  nested_at (Member-F.Slot f) ds d ps c more = later (more c)
  nested_at (Member-F.Body m) ds d ps c more = later (more c)

  nested_there : (ms : List Member) (d : Decl) → Contains (nested ms) d → Among (bodies_in R ms) (decl_bodies d R)
  nested_there [] d c = absurd (in_none d c)
  nested_there (m ∷ ms) d c = nested_at (out-Member m) (nested ms) d (bodies_in R ms) c (nested_there ms d)

  method_at : (f : Member-F Member Decl) (xs : List Method) (x : Method) (ps : List (Plan Nothing))
      → Contains (and_method f xs) x → (Contains xs x → Among ps (body_types (body_at R x)))
      → Among (member_body R f ∷ ps) (body_types (body_at R x))
  method_at (Member-F.Inner e) xs x ps c more = later (more c)
  method_at (Member-F.Slot f) xs x ps c more = later (more c)
  method_at (Member-F.Body m) xs x ps c more = elim (in_cons m xs x c) [
    | inl q ↦ subst (λ (y : Method). Among (body_types (body_at R m) ∷ ps) (body_types (body_at R y))) q first
    | inr n ↦ later (more n)
  ]

  method_there : (ms : List Member) (x : Method) → Contains (methods ms) x
      → Among (bodies_in R ms) (body_types (body_at R x))
  method_there [] x c = absurd (in_none x c)
  method_there (m ∷ ms) x c = method_at (out-Member m) (methods ms) x (bodies_in R ms) c (method_there ms x)

-- ---- all declarations

module _ (p : Program) (ok : Gives p (body_plan p) (Ok tt)) where
  members_pass : (P : Path) (d : Decl) → Gives p (decl_bodies d P) (Ok tt)
      → Gives p (in_turn (bodies_in (d.name.name ∷ P) d.members)) (Ok tt)
  members_pass P d g = subst (λ (x : Plan Nothing). Gives p x (Ok tt)) (decl_forms d P).bodies g

  decl_passes : (P : Path) (d : Decl) → StandsIn p P d → Gives p (decl_bodies d P) (Ok tt)
  decl_passes [] d s =
      turn_each p (map (asked_at []) (map decl_bodies p.decls)) (decl_bodies d []) ok
      (among_map (asked_at []) (map decl_bodies p.decls) (decl_bodies d)
      (among_map decl_bodies p.decls d (among_of p.decls d s)))
  decl_passes (C ∷ P) d s =
      subst (λ (N : Name). Gives p (decl_bodies d (N ∷ P)) (Ok tt)) s.2
      (turn_each p (bodies_in (s.0.name.name ∷ P) s.0.members) (decl_bodies d (s.0.name.name ∷ P))
      (members_pass P s.0 (decl_passes P s.0 s.1)) (nested_there (s.0.name.name ∷ P) s.0.members d s.3))

  at_decl : (R : Path) (d : Decl) → StandsAt p R d → Gives p (in_turn (bodies_in R d.members)) (Ok tt)
  at_decl [] d s = absurd s
  at_decl (C ∷ P) d s =
      subst (λ (N : Name). Gives p (in_turn (bodies_in (N ∷ P) d.members)) (Ok tt)) s.1
      (members_pass P d (decl_passes P d s.0))

  -- the body of each declared method passes
  pub bodies_pass : (R : Path) (m : Name) (x : Method) → MethodAt p R m x
      → Gives p (body_types (record { class = R; method = x })) (Ok tt)
  bodies_pass R m x h =
      turn_each p (bodies_in R h.decl.members) (body_types (body_at R x)) (at_decl R h.decl h.stands)
      (method_there R h.decl.members x h.has)

  -- with its header
  pub body_passes : (b : Body) (m : Name) (x : Header) → MethodAt p b.class m b.method → IsHeader p b x
      → Gives p (body_with b x) (Ok tt)
  body_passes b m x h i =
      let c = then_came (header_typed b) (body_with b) tt (bodies_pass b.class m b.method h) in
      subst (λ (z : Header). Gives p (body_with b z) (Ok tt))
      (headers_are_one p b c.first x (header_back p b c.first c.gave) i) c.then
