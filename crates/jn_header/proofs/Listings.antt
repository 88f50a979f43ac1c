-- Where the headers pass, no listed name is refused.
use Rattle.std.proofs.Common.{◌≡◌, List, [], ◌∷◌, map, Contains, Bool, true, false, not, sym, subst, inl, inr}
use Rattle.std.specs.Prelude.{Result, Ok, Err}
use Rattle.std.proofs.lemmas.List.Elements.{Contains-append_right}
use Rattle.jn_base.specs.declared.tree.Name.{Name}
use Rattle.jn_base.specs.declared.tree.Member.{Member, out-Member}
use Rattle.jn_base.specs.declared.tree.Member.TheOpen.{Member-F}
use Rattle.jn_base.specs.declared.tree.Decl.{Decl}
use Rattle.jn_base.specs.declared.tree.Program.{Program}
use Rattle.jn_base.specs.declared.refusal.Refusal.{Refusal}
use Rattle.jn_base.specs.Paths.{Path, nested, and_nested, StandsIn}
use Rattle.jn_base.specs.Atoms.{Among, first, later}
use Rattle.jn_base.proofs.NameTests.{in_cons, in_none}
use Rattle.jn_base.proofs.NameTests as names
use Rattle.jn_sem.specs.NotFamily.{Listed, own_listed, listed_names, Lacks, IsFirstNotFamily, not_family}
use Rattle.jn_sem.proofs.FindingLaws.{among_of}
use Rattle.jn_rules.specs.Plans.{Plan, Nothing, in_turn, done, ask, wants, LacksFamily}
use Rattle.jn_rules.specs.Questions.{Gives, Answers}
use Rattle.jn_rules.specs.Headers.{listed_asked, unknown_listed, decl_headers, asked_at, header_plan}
use Rattle.jn_rules.specs.Forms.{member_headers, headers_in}
use Rattle.jn_rules.proofs.PlanLaws.{then_came}
use Rattle.jn_rules.proofs.FormLaws.{decl_forms}
use Rattle.jn_laws.proofs.Lists.{among_map}
use Rattle.jn_rule_laws.proofs.Declared.{turn_each}
use Rattle.jn_share.proofs.Exact.{ListedAt, found_listed}

-- ---- what is asked of a declaration passes

module _ (R : Path) where
  nested_at : (f : Member-F Member Decl) (ds : List Decl) (d : Decl) (ps : List (Plan Nothing)) → Contains (and_nested f ds) d
      → (Contains ds d → Among ps (decl_headers d R)) → Among (member_headers R f ∷ ps) (decl_headers d R)
  nested_at (Member-F.Inner e) ds d ps c more = elim (in_cons e ds d c) [
    | inl q ↦ subst (λ (x : Decl). Among (decl_headers e R ∷ ps) (decl_headers x R)) q first
    | inr n ↦ later (more n)
  ]
  nested_at (Member-F.Slot f) ds d ps c more = later (more c)
  nested_at (Member-F.Body m) ds d ps c more = later (more c)

  nested_there : (ms : List Member) (d : Decl) → Contains (nested ms) d → Among (headers_in R ms) (decl_headers d R)
  nested_there [] d c = absurd (in_none d c)
  nested_there (m ∷ ms) d c = nested_at (out-Member m) (nested ms) d (headers_in R ms) c (nested_there ms d)

module _ (p : Program) (ok : Gives p (header_plan p) (Ok tt)) where
  abbrev lists_of : Path → Decl → Plan Nothing
  lists_of P d = in_turn (map listed_asked (own_listed d.name.name d.shares d.adapts P))

  abbrev members_of : Path → Decl → Plan Nothing
  members_of P d = in_turn (headers_in (d.name.name ∷ P) d.members)

  forms : (P : Path) (d : Decl) → Gives p (decl_headers d P) (Ok tt) → Gives p (lists_of P d) (Ok tt) × Gives p (members_of P d) (Ok tt)
  forms P d g =
      let w = then_came (lists_of P d) (λ u. members_of P d) tt (subst (λ (x : Plan Nothing). Gives p x (Ok tt)) (decl_forms d P).headers g) in
      (passed (lists_of P d) w.first w.gave, w.then) where
        passed : (x : Plan Nothing) (u : Nothing) → Gives p x (Ok u) → Gives p x (Ok tt)
        passed x u h = h

  decl_passes : (P : Path) (d : Decl) → StandsIn p P d → Gives p (decl_headers d P) (Ok tt)
  decl_passes [] d s =
      turn_each p (map (asked_at []) (map decl_headers p.decls)) (decl_headers d []) ok
      (among_map (asked_at []) (map decl_headers p.decls) (decl_headers d) (among_map decl_headers p.decls d (among_of p.decls d s)))
  decl_passes (C ∷ P) d s =
      subst (λ (N : Name). Gives p (decl_headers d (N ∷ P)) (Ok tt)) s.2
      (turn_each p (headers_in (s.0.name.name ∷ P) s.0.members) (decl_headers d (s.0.name.name ∷ P))
      (forms P s.0 (decl_passes P s.0 s.1)).1 (nested_there (s.0.name.name ∷ P) s.0.members d s.3))

  listed_passes : (x : Listed) → ListedAt p x → Gives p (listed_asked x) (Ok tt)
  listed_passes x w =
      let d : Decl = w.decl in
      turn_each p (map listed_asked (own_listed d.name.name d.shares d.adapts w.P)) (listed_asked x) (forms w.P d (decl_passes w.P d w.stands)).0
      (among_map listed_asked (own_listed d.name.name d.shares d.adapts w.P) x (among_of (own_listed d.name.name d.shares d.adapts w.P) x w.among))

  abbrev next : Listed → Plan Nothing
  next x = ask (LacksFamily x) (λ lacks. wants (not lacks) (not_family x) (done tt))

  not_lacking : (x : Listed) → Gives p (listed_asked x) (Ok tt) → Lacks p x → ⊥
  not_lacking x g lacks = by_top g.0 g.2 where
    by_lacks : (b : Bool) → Answers (Lacks p x) b → Gives p (wants (not b) (not_family x) (let d : Plan Nothing = done tt in d)) (Ok tt) → ⊥
    by_lacks true h k = clash k where
      clash : (let o : Result Nothing Refusal = Ok tt in o ≡ Err (not_family x)) → ⊥
      clash e = cc e
    by_lacks false h k = h lacks

    by_top : (top : Bool) → Gives p (wants top (unknown_listed x) (next x)) (Ok tt) → ⊥
    by_top true k = by_lacks k.0 k.1 k.2
    by_top false k = clash k where
      clash : (let o : Result Nothing Refusal = Ok tt in o ≡ Err (unknown_listed x)) → ⊥
      clash e = cc e

  pub no_refusal : (r : Refusal) → IsFirstNotFamily p r → ⊥
  no_refusal r f =
      let c : Contains (listed_names p) f.at = subst (λ (xs : List Listed). Contains xs f.at) (sym f.split) (Contains-append_right f.before (f.at ∷ f.after) f.at (names.first f.at f.after)) in
      not_lacking f.at (listed_passes f.at (found_listed p f.at c)) f.is.lacks
