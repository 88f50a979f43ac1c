-- The rows of the class table, of members, and of forms in any program.
use Rattle.std.proofs.Common.{◌≡◌, ℕ, List, [], ◌∷◌, length, Contains, Bool, true, false, refl, sym, ap, subst, inl, arith}
use Rattle.std.specs.Prelude.{Ok, Err, cond}
use Rattle.jn_base.specs.declared.tree.Name.{Name}
use Rattle.jn_base.specs.declared.tree.Named.{Named}
use Rattle.jn_base.specs.declared.tree.Place.{Place}
use Rattle.jn_base.specs.declared.tree.Constraint.{Constraint}
use Rattle.jn_base.specs.declared.tree.Head.TheVariants as head
use Rattle.jn_base.specs.declared.tree.Ref.TheVariants as ref
use Rattle.jn_base.specs.declared.tree.TypeTerm.TheVariants as type
use Rattle.jn_base.specs.declared.tree.Term.{Term}
use Rattle.jn_base.specs.declared.tree.Node.TheVariants as node
use Rattle.jn_base.specs.declared.tree.Member.TheVariants.{outs-Inner, outs-Body}
use Rattle.jn_base.specs.declared.tree.Program.{Program}
use Rattle.jn_base.specs.declared.types.Anchor.{Anchor}
use Rattle.jn_base.specs.declared.types.Anchor.TheVariants.{Root, Up}
use Rattle.jn_base.specs.declared.types.Ty.TheVariants as ty
use Rattle.jn_base.specs.declared.names.Role.TheVariants as role
use Rattle.jn_base.specs.declared.refusal.Rule.{Rule}
use Rattle.jn_base.specs.declared.refusal.Rule.TheVariants as rule
use Rattle.jn_base.specs.Paths.{Path, StandsIn, StandsAt}
use Rattle.jn_base.specs.Parts.{expr}
use Rattle.jn_base.specs.Scopes.{Scope}
use Rattle.jn_base.specs.Supers.{itself, above}
use Rattle.jn_base.specs.Universe.{InUniverse}
use Rattle.jn_base.specs.Duplicates.{duplicates}
use Rattle.jn_base.specs.ResolveTypes.{refused}
use Rattle.jn_base.specs.ExampleTrees.{line, word}
use Rattle.jn_base.specs.FamiliesExample.{families, base, Lit, shower}
use Rattle.jn_base.specs.ResolveExamples.{term, p as p_name, q as q_name}
use Rattle.jn_base.specs.SmallExamples.{conflicting, b, c, d, E, n}
use Rattle.jn_base.specs.VerdictExamples.{C, circular, mixed, missing}
use Rattle.jn_base.proofs.NameTests.{in_none, first as at_first}
use Rattle.jn_base.proofs.ResolveShown.{resolve_shown}
use Rattle.jn_base.proofs.Unique.{decl_opened, member_opened}
use Rattle.jn_base.proofs.VerdictProofs.{circular_refused, mixed_refused, missing_refused}
use Rattle.jn_base.proofs.ConflictProof.{conflict as none_least, joins_inside}
use Rattle.jn_base.proofs.ExampleTools.{inner_method, outer_home, none_inside}
use Rattle.jn_rules.specs.Verdict.{headers, table, main}
use Rattle.jn_base.specs.declared.tree.Decl.{Decl}
use Rattle.jn_base.specs.declared.tree.Stmt.TheVariants as stmt
use Rattle.jn_base.specs.Supers.{Member}
use Rattle.jn_base.specs.TableRules.{TablePasses}
use Rattle.jn_base.specs.Resolve.{at_term, Resolve}
use Rattle.jn_base.specs.ResolveExamples.{spot, vars}
use Rattle.jn_sem.specs.Does.{Body}
use Rattle.jn_sem.specs.NormalFunction.{normal_type}
use Rattle.jn_rules.specs.Plans.{Target, target_type, Pledge, OfConstraint, Plan, ask, then_do, wants, taken}
use Rattle.jn_rules.specs.Questions.{header_site, ConstraintGives, HasMethod, Gives}
use Rattle.jn_rules.specs.Exprs.{Here, Typed, of_name, gives, no_view, viewed_as, one_grants, by_sharing, constraints_granted, is_null_type}
use Rattle.jn_rules.specs.Stmts.{Before}
use Rattle.jn_rules.specs.Members.{conflict, Entry, IsEntry, member, method, field, counterpart, TooManyEntries}
use Rattle.jn_rules.specs.Verdict.{HeadersPass}
use Rattle.jn_rules.proofs.FormLaws.{stmt_forms}
use Rattle.jn_rule_rows.specs.OneMain.{x}
use Rattle.jn_rule_rows.specs.Rows.{nothing, TableRows, MemberRows, in_show, with_p_q, TypeRefused, TypeRows, FormRows}

once_circular : duplicates circular ≡ []
once_circular = simp (decl_opened, member_opened, outs-Inner)

once_mixed : duplicates mixed ≡ []
once_mixed = simp (decl_opened, member_opened, outs-Inner)

once_missing : duplicates missing ≡ []
once_missing = simp (decl_opened, member_opened, outs-Inner)

-- ---- the empty file

not_declared : (R : Path) (x : Decl) → StandsAt nothing R x → ⊥
not_declared [] x s = s
not_declared (C ∷ P) x s = no_inside P x s.0 where
  no_inside : (P : Path) (x : Decl) → StandsIn nothing P x → ⊥
  no_inside [] x c = in_none x c
  no_inside (C ∷ P) x t = no_inside P t.0 t.1

no_member : (P : Path) (C : Name) → Member nothing P C → ⊥
no_member P C m = not_declared (C ∷ m.at) m.declared.decl m.declared.stands

no_path : (R : Path) → InUniverse nothing R → ⊥
no_path [] u = u
no_path (C ∷ P) u = no_member P C u.1

table_passes : TablePasses nothing
table_passes = record {
  within = λ R o. no_path R o.universe;
  no_cycle = λ R c. no_path R c.0;
  one_kind = λ R m. no_path R m.0;
  all_known = λ R u. not_declared R u.1.decl u.1.stands;
}

no_entry : (e : Entry) → IsEntry nothing e → ⊥
no_entry _ (member R C u m) = no_path R u
no_entry _ (method R m u h) = no_path R u
no_entry _ (field R f u h) = no_path R u
no_entry _ (counterpart R S r n) = no_path R r.one.universe

no_entries : TooManyEntries nothing → ⊥
no_entries m = at m.list refl where
  at : (xs : List Entry) → m.list ≡ xs → ⊥
  at [] e = omega (arith, m.more, ap length e)
  at (a ∷ xs) e = no_entry a (m.each a (subst (λ (ys : List Entry). Contains ys a) (sym e) (at_first a xs)))

headers_pass : HeadersPass nothing
headers_pass = record {
  limits = record {
    members = record { types = record { table = table_passes; headers = refl }; members = λ R x. no_path R x.class.universe };
    entries = no_entries;
    slots = λ R x. no_path R x.class.universe;
  };
  constraints = λ R x. no_path R x.1.1.class.universe;
}

pub table_rows : TableRows
table_rows = record {
  no_main = main (record { once = refl; headers = headers_pass; bodies = refl }) (λ m. no_path (m.main_class ∷ []) m.class.universe) refl;
  cycle = headers once_circular (table circular_refused);
  kinds = headers once_mixed (table mixed_refused);
  parent = headers once_missing (table missing_refused);
}

-- ---- members

has_n : HasMethod conflicting n (E ∷ d ∷ [])
has_n =
    let m = inner_method conflicting b E n (simp (outs-Inner, outs-Body)) in
    (E ∷ b ∷ [], record { super = above ((joins_inside (E ∷ b ∷ [])).1 (inl refl)) itself; method = m.0; at = m.1 })

pub member_rows : MemberRows
member_rows = record {
  conflict = conflict (line 4) has_n none_least (outer_home conflicting d E 4 refl (none_inside conflicting d E (simp outs-Inner))) refl;
}

-- ---- types

type_refused : (s : Scope) (t : Term) (r : Rule) → Resolve families (spot role.Value) vars t (Err (at_term r (spot role.Value) t)) → TypeRefused s t r
type_refused s t r h =
    let l = stmt.Local false (type.Class (t ∷ []) []) (word x) (expr (line 1) node.Null) in
    subst (λ (z : Plan Before). Gives families z (Err (at_term r (spot role.Value) t)))
    (sym ((stmt_forms in_show (with_p_q s)).local false (type.Class (t ∷ []) []) (word x) (expr (line 1) node.Null)))
    (Err (at_term r (spot role.Value) t), record { atoms = Err (at_term r (spot role.Value) t); all = refused _ h refl; gives = refl }, refl)

pub type_rows : (s : Scope) → TypeRows s
type_rows s = record {
  no_path = type_refused s (term (head.Own (ref.Var q_name)) [] []) rule.E14 resolve_shown.not_final;
  not_above = type_refused s (term (head.Prefix (shower ∷ []) (ref.Var p_name)) [] (Lit ∷ [])) rule.E15 resolve_shown.not_above;
  package_type = type_refused s (term head.Plain [] (base ∷ [])) rule.E22 resolve_shown.package_term;
}

-- ---- forms

not_granted : (p : Program) (h : Here) (at : Place) (u : Target) (t : Typed) (cs : List Constraint) (null : Bool) (a : Anchor) (q k : ℕ) → cs ≡ [] → null ≡ false
    → a ≡ Up q k
    → Gives p (cond null (gives (viewed_as u t.scope)) (then_do (one_grants h cs t.scope t.ty u) (λ ok. cond ok (gives (viewed_as u t.scope))
    (by_sharing at t.scope t.ty u (viewed_as u t.scope) a)))) (Err (no_view at))
not_granted p h at u t [] false (Up i j) q k e f g = refl
not_granted p h at u t [] false Root q k e f g = absurd (cc g)
not_granted p h at u t [] true a q k e f g = absurd (cc f)
not_granted p h at u t (c ∷ cs) null a q k e f g = absurd (cc e)

not_pledged : (p : Program) (h : Here) (b : Body) (m : Named) (s : Scope) (c : Constraint) (cs hs : List Constraint) (k : Pledge) (go : Plan Typed) → hs ≡ []
    → ConstraintGives p (header_site b.class b.method.name.name) c (Ok k)
    → Gives p (ask (OfConstraint b.class b.method.name.name c) (taken (λ x.
    then_do (one_grants h hs s (normal_type s (target_type x.from)) x.to) (λ ok. wants ok (of_name rule.E25 h m.at m.name)
    (constraints_granted h b m s cs go))))) (Err (of_name rule.E25 h m.at m.name))
not_pledged p h b m s c cs [] k go e g = (Ok k, g, refl)
not_pledged p h b m s c cs (x ∷ hs) k go e g = absurd (cc e)

pub form_rows : (p : Program) → FormRows p
form_rows p = record {
  empty_body = λ Q m. (Ok ty.Int, refl, refl);
  masked = λ g t c h. (true, h, refl);
  masked_call = λ t m g go. refl;
  no_grant = λ h at u t q k e f g. not_granted p h at u t h.method.sharing (is_null_type t.ty) u.atom.anchor q k e f g;
  no_pledge = λ h b m s c cs k go e g. not_pledged p h b m s c cs h.method.sharing k go e g;
  no_family = λ n u l. (true, u, (true, l, refl));
}
