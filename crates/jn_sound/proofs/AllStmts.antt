-- Statements one after the other.
use Rattle.std.proofs.Common.{◌≡◌, ◌≤◌, arith, List, [], ◌∷◌, length, Bool, true, false, ◌⊎◌, inl, inr, refl, sym, subst}
use Rattle.jn_base.specs.declared.tree.Stmt.{Stmt}
use Rattle.std.specs.Prelude.{◌||◌, Ok}
use Rattle.jn_base.specs.declared.tree.Program.{Program}
use Rattle.jn_base.specs.Atoms.{first, later}
use Rattle.jn_sem.specs.Acts.{Todo, stmts_acts}
use Rattle.jn_sem.proofs.ActLaws.{acts_are}
use Rattle.jn_rules.specs.Plans.{Plan}
use Rattle.jn_rules.specs.Questions.{Gives}
use Rattle.jn_rules.specs.Stmts.{In, Before, stmt_types, stmts_type, stops, all_stop}
use Rattle.jn_rules.proofs.FormLaws.{forms_are}
use Rattle.jn_rules.proofs.PlanLaws.{then_came}
use Rattle.jn_sound.specs.Fit.{Fits}
use Rattle.jn_sound.specs.KnownScopes.{StmtKnown}
use Rattle.jn_sound.specs.Stmts.{StmtGoes, EachFits, InOrder}
use Rattle.jn_rule_laws.proofs.Behind.{same_before}
use Rattle.jn_rule_laws.proofs.Behind.{all_move}

-- the first one stops, or those behind it do
pub either_stops : (a c : Bool) → (a || c) ≡ true → (a ≡ true) ⊎ (c ≡ true)
either_stops true c e = inl refl
either_stops false c e = inr e

pub in_order : (p : Program) (b : In) (ss : List Stmt) → EachFits p b ss → InOrder p b ss
in_order p b [] fit inside x y known few g = (
  subst (StmtKnown p b) (sym is) known,
  λ k f. subst (λ (z : List Todo). Fits p b z x.vars x.scope [])
      (sym (acts_are.stmts (length x.vars) x.next [] k).none) (at k f),
) where
  is : y ≡ x
  is = same_before x y (subst (λ (z : Plan Before). Gives p z (Ok y)) (forms_are.stmts b x).none g)

  at : (k : List Todo) → (all_stop [] ≡ true) ⊎ Fits p b k y.vars y.scope [] → Fits p b k x.vars x.scope []
  at k (inl e) = absurd (no e) where
    no : false ≡ true → ⊥
    no e = cc
  at k (inr f) = subst (λ (z : Before). Fits p b k z.vars z.scope []) is f
in_order p b (s ∷ ss) fit inside x y known few g =
    let c = then_came (stmt_types b s x) (stmts_type b ss) y
    (subst (λ (z : Plan Before). Gives p z (Ok y)) ((forms_are.stmts b x).more s ss) g) in
    let small : c.first.next ≤ 256 =
    (let l = (all_move p b ss c.first y c.then).grows in omega (arith, few, l)) in
    let one = fit s first x c.first known small (inside s first) c.gave in
    let rest = in_order p b ss (λ z m. fit z (later m)) (λ z m. inside z (later m)) c.first y one.known few c.then in
    (rest.0, λ k f. joined k c.first one (rest.1 k) f) where
      joined : (k : List Todo) (m : Before) → StmtGoes p b s x m →
          ((all_stop ss ≡ true) ⊎ Fits p b k y.vars y.scope [] → Fits p b
          (stmts_acts (length m.vars) m.next ss k) m.vars m.scope [])
          → (all_stop (s ∷ ss) ≡ true) ⊎ Fits p b k y.vars y.scope [] → Fits p b
          (stmts_acts (length x.vars) x.next (s ∷ ss) k) x.vars x.scope []
      joined k m one rest (inr f) = one.fits ss k (inr (rest (inr f)))
      joined k m one rest (inl e) = at (either_stops (stops s) (all_stop ss) e) where
        at : (stops s ≡ true) ⊎ (all_stop ss ≡ true) → Fits p b
            (stmts_acts (length x.vars) x.next (s ∷ ss) k) x.vars x.scope []
        at (inl w) = one.fits ss k (inl w)
        at (inr w) = one.fits ss k (inr (rest (inl w)))
