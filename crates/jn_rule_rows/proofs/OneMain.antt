-- What the program class Main { void main() { .. } } has.
use Rattle.std.proofs.Common.{◌≡◌, List, [], ◌∷◌, ◌++◌, length, Contains, refl, sym, ap, ◌∙◌, subst, inl, inr, arith}
use Rattle.jn_base.specs.declared.tree.Name.{Name}
use Rattle.jn_base.specs.declared.tree.Named.{Named}
use Rattle.jn_base.specs.declared.tree.Kind.{Kind}
use Rattle.jn_base.specs.declared.tree.Kind.TheVariants as kind
use Rattle.jn_base.specs.declared.tree.Field.{Field}
use Rattle.jn_base.specs.declared.tree.Method.{Method}
use Rattle.jn_base.specs.declared.tree.Member.TheVariants.{outs-Body}
use Rattle.jn_base.specs.declared.tree.Decl.{Decl}
use Rattle.jn_base.specs.declared.tree.Stmt.{Stmt}
use Rattle.jn_base.specs.declared.tree.Program.{Program}
use Rattle.jn_base.specs.Paths.{Path, nested, fields, methods, StandsIn, StandsAt, Extends}
use Rattle.jn_base.specs.Supers.{Direct, inherited, written, Sup, itself, above}
use Rattle.jn_base.specs.Universe.{InUniverse}
use Rattle.jn_base.specs.ClassOrder.{Before}
use Rattle.jn_base.specs.Members.{MethodAt, FieldAt}
use Rattle.jn_base.specs.TableRules.{IsMixed, HasUnknown, TablePasses}
use Rattle.jn_base.proofs.NameTests.{in_cons, in_none, first as at_first, later as behind}
use Rattle.jn_base.proofs.ClassOrders.{before_irreflexive}
use Rattle.jn_rule_rows.specs.OneMain.{Main, main, main_method, main_class, main_with}

module _ (body : List Stmt) where
  abbrev pub p : Program
  p = main_with body

  none_nested : nested (main_class body).members ≡ []
  none_nested = simp (outs-Body)

  none_fields : fields (main_class body).members ≡ []
  none_fields = simp (outs-Body)

  one_method : methods (main_class body).members ≡ main_method body ∷ []
  one_method = simp (outs-Body)

  the_decl : (d : Decl) → Contains p.decls d → d ≡ main_class body
  the_decl d c = elim (in_cons (main_class body) [] d c) [ inl e ↦ sym e | inr n ↦ absurd (in_none d n) ]

  -- no declaration stands inside
  none_inside : (C : Name) (P : Path) (d : Decl) → StandsIn p (C ∷ P) d → ⊥
  none_inside C [] d s = in_none d (subst (λ (es : List Decl). Contains es d) (ap (λ (e : Decl). nested e.members) (the_decl s.0 s.1) ∙ none_nested) s.3)
  none_inside C (D ∷ P) d s = none_inside D P s.0 s.1

  pub stands_at : (R : Path) (d : Decl) → StandsAt p R d → (R ≡ Main ∷ []) × (d ≡ main_class body)
  stands_at [] d s = absurd s
  stands_at (C ∷ []) d s = let e = the_decl d s.0 in (ap (λ (N : Name). N ∷ []) (sym s.1 ∙ ap (λ (k : Decl). k.name.name) e), e)
  stands_at (C ∷ D ∷ P) d s = absurd (none_inside D P d s.0)

  pub declared : StandsAt p (Main ∷ []) (main_class body)
  declared = (at_first (main_class body) [], refl)

  no_extends : (R : Path) (D : Name) → Extends p R D → ⊥
  no_extends R D x = in_none x.named (subst (λ (k : Decl). Contains k.extends x.named) (stands_at R x.decl x.stands).1 x.extends)

  pub no_direct : {R S : Path} → Direct p R S → ⊥
  no_direct (inherited d s x) = no_direct d
  no_direct (written {S = T} {C = C} {D = D} s e t x) = no_extends (C ∷ T) D e

  pub sup_same : {R S : Path} → Sup p R S → S ≡ R
  sup_same itself = refl
  sup_same (above d s) = absurd (no_direct d)

  pub in_universe : (R : Path) → InUniverse p R → R ≡ Main ∷ []
  in_universe [] u = absurd u
  in_universe (C ∷ P) u =
      let m = u.1 in
      ap (λ (Q : Path). C ∷ Q) (sym (sup_same m.super)) ∙ (stands_at (C ∷ m.at) m.declared.decl m.declared.stands).0

  pub main_there : InUniverse p (Main ∷ [])
  main_there = (tt, record { at = []; super = itself; declared = record { decl = main_class body; stands = declared } })

  -- ---- its method, and no field

  pub method_at : (Q : Path) (m : Name) (x : Method) → MethodAt p Q m x → (Q ≡ Main ∷ []) × (m ≡ main) × (x ≡ main_method body)
  method_at Q m x h =
      let s = stands_at Q h.decl h.stands in
      let c : Contains (main_method body ∷ []) x = subst (λ (ms : List Method). Contains ms x) (ap (λ (k : Decl). methods k.members) s.1 ∙ one_method) h.has in
      let e : x ≡ main_method body = elim (in_cons (main_method body) [] x c) [ inl q ↦ sym q | inr n ↦ absurd (in_none x n) ] in
      (s.0, sym h.name ∙ ap (λ (k : Method). k.name.name) e, e)

  pub its_method : MethodAt p (Main ∷ []) main (main_method body)
  its_method = record { decl = main_class body; stands = declared; has = subst (λ (ms : List Method). Contains ms (main_method body)) (sym one_method) (at_first (main_method body) []); name = refl }

  pub no_field : (Q : Path) (f : Name) (x : Field) → FieldAt p Q f x → ⊥
  no_field Q f x h =
      in_none x (subst (λ (xs : List Field). Contains xs x) (ap (λ (k : Decl). fields k.members) (stands_at Q h.decl h.stands).1 ∙ none_fields) h.has)

  -- ---- the class table

  no_mixed : (R : Path) → IsMixed p R → ⊥
  no_mixed R m = let k = m.1.1 in
      not_package (ap (λ (d : Decl). d.kind) (stands_at k.at k.decl k.stands).1) k.is where
        not_package : {a : Kind} → a ≡ kind.Class → a ≡ kind.Package → ⊥
        not_package e f = cc

  not_longer : (R : Path) (Qs : List Path) → ((Q : Path) → Contains Qs Q → InUniverse p Q × Before p Q R) → InUniverse p R → length Qs ≡ 0
  not_longer R [] each u = refl
  not_longer R (Q ∷ Qs) each u =
      let e = each Q (at_first Q Qs) in
      absurd (before_irreflexive p R (subst (λ (S : Path). Before p S R) (in_universe Q e.0 ∙ sym (in_universe R u)) e.1))

  no_unknown : (R : Path) → HasUnknown p R → ⊥
  no_unknown R h =
      let x = h.1 in
      in_none h.0 (subst (λ (ns : List Named). Contains ns h.0) (sym x.is ∙ ap (λ (d : Decl). d.extends) (stands_at R x.decl x.stands).1) (amid x.before h.0 x.after)) where
        amid : (ns : List Named) (n : Named) (ms : List Named) → Contains (ns ++ n ∷ ms) n
        amid [] n ms = at_first n ms
        amid (k ∷ ns) n ms = behind k (ns ++ n ∷ ms) n (amid ns n ms)

  pub table_passes : TablePasses p
  table_passes = record {
    within = λ R o. absurd (omega (arith, o.count, not_longer R o.earlier (λ Q c. (o.exact Q).0 c) o.universe));
    no_cycle = λ R c. no_direct c.1.direct;
    one_kind = no_mixed;
    all_known = no_unknown;
  }
