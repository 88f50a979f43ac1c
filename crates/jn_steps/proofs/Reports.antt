-- Runs of steps that are said by a relation.
use Rattle.std.proofs.Common.{◌≡◌, ℕ, zero, suc, List, Option, Some, None, refl, sym, ap, ◌∙◌, subst, arith}
use Rattle.std.specs.Prelude.{IsSome}
use Rattle.jn_steps.specs.Runs.{Report, Next, On, End, and_then, after, report}
use Rattle.jn_steps.specs.Laws.{IsPrefix, GoesOn, KeepsOutput}
use Rattle.jn_steps.specs.Reports.{Reports, StepsKeep, StopsEarlier, ReportsTheRun}
use Rattle.jn_steps.proofs.Runs.{prefix_refl, prefix_trans, goes_on_refl}

module _ {S O : Type 0} (Step : S → Next S O → Type 0) (shown : S → List ℕ) where
  -- of an end there is one report
  pub ended_is : (n : ℕ) (o : O) (bytes : List ℕ) (r : Report O) → Reports Step shown n (End o bytes) r → r ≡ record { outcome = Some o; output = bytes }
  ended_is zero o bytes r f = f
  ended_is (suc n) o bytes r f = f

  pub end_reports : (n : ℕ) (o : O) (bytes : List ℕ) → Reports Step shown n (End o bytes) (record { outcome = Some o; output = bytes })
  end_reports zero o bytes = refl
  end_reports (suc n) o bytes = refl

  module _ (keeps : StepsKeep Step shown) where
    -- what was put stands in the report
    pub has_put : (n : ℕ) (out : List ℕ) (x : Next S O) (r : Report O) → KeepsOutput shown out x → Reports Step shown n x r → IsPrefix out r.output
    has_put zero out (On s) r k f = subst (λ (t : Report O). IsPrefix out t.output) (sym f) k
    has_put zero out (End o bytes) r k f = subst (λ (t : Report O). IsPrefix out t.output) (sym f) k
    has_put (suc n) out (On s) r k f =
        prefix_trans out (shown s) r.output k (has_put n (shown s) f.0 r (keeps s f.0 f.1) f.2)
    has_put (suc n) out (End o bytes) r k f = subst (λ (t : Report O). IsPrefix out t.output) (sym f) k

    not_ended : {o : Option O} → o ≡ None → IsSome o → ⊥
    not_ended {o = None} e h = cc
    not_ended {o = Some q} e h = cc

    pub cut : StopsEarlier Step shown
    cut k n (End o bytes) r le f =
        (record { outcome = Some o; output = bytes }, end_reports k o bytes, subst (λ (t : Report O). GoesOn (record { outcome = Some o; output = bytes }) t) (sym (ended_is n o bytes r f)) (goes_on_refl (record { outcome = Some o; output = bytes })))
    cut zero n (On s) r le f = (
      report shown (On s),
      refl,
      record {
        output = has_put n (shown s) (On s) r (prefix_refl (shown s)) f;
        ended = λ h. absurd (not_ended {o = None} refl h);
      },
    )
    cut (suc k) zero (On s) r le f = absurd (omega arith)
    cut (suc k) (suc n) (On s) r le f =
        let d = cut k n f.0 r (omega arith) f.2 in (d.0, (f.0, f.1, d.1), d.2)

module _ {S O : Type 0} (step : S → Next S O) (shown : S → List ℕ) where
  abbrev Is : S → Next S O → Type 0
  Is s y = step s ≡ y

  run_of : (n : ℕ) (x : Next S O) (r : Report O) → Reports Is shown n x r → r ≡ report shown (and_then x (after step n))
  run_of zero (On s) r f = f
  run_of (suc n) (On s) r f =
      run_of n f.0 r f.2 ∙ ap (λ (x : Next S O). report shown (and_then x (after step n))) (sym f.1)
  run_of n (End o bytes) r f = ended_is Is shown n o bytes r f

  reports_of : (n : ℕ) (x : Next S O) → Reports Is shown n x (report shown (and_then x (after step n)))
  reports_of zero (On s) = refl
  reports_of (suc n) (On s) = (step s, refl, reports_of n (step s))
  reports_of n (End o bytes) = end_reports Is shown n o bytes

  pub reports_run : ReportsTheRun step shown
  reports_run n s r =
      (run_of n (On s) r, λ e. subst (λ (r : Report O). Reports Is shown n (On s) r) (sym e) (reports_of n (On s)))
