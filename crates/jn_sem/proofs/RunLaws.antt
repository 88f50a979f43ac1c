-- A program has one run, it is there, and with more charges it goes on from where it was.
use Rattle.std.proofs.Common.{◌≡◌, ◌≢◌, ℕ, zero, suc, List, Option, Some, None, refl, sym, ap, ◌∙◌, subst}
use Rattle.std.specs.Prelude.{IsSome}
use Rattle.jn_steps.specs.Runs.{Report, Next, On, End, report}
use Rattle.jn_steps.specs.Laws.{GoesOn}
use Rattle.jn_steps.specs.Reports.{Reports}
use Rattle.jn_steps.proofs.Reports.{cut}
use Rattle.jn_sem.specs.declared.outcome.Outcome.{Outcome}
use Rattle.jn_sem.specs.declared.outcome.Outcome.TheVariants as outcome
use Rattle.jn_sem.specs.Does.{Ending}
use Rattle.jn_sem.specs.Run.{Charge, shown, start, outcome_of}
use Rattle.jn_sem.specs.LawsOfRuns.{SameRun, RunIsOne, RunIsThere, RunGoesOn}
use Rattle.jn_sem.proofs.Sure.{Sure}
use Rattle.jn_sem.proofs.SureCharges.{sure_charge, charge_keeps}

-- ---- steps of any kind

module _ {S O : Type 0} (Step : S → Next S O → Type 0) (shown : S → List ℕ) (sure : (s : S) → Sure (Step s)) where
  pub one_report : (n : ℕ) (x : Next S O) (q r : Report O) → Reports Step shown n x q → Reports Step shown n x r → q ≡ r
  one_report zero x q r f g = f ∙ sym g
  one_report (suc n) (On s) q r f g =
      one_report n f.0 q r f.2 (subst (λ y. Reports Step shown n y r) ((sure s).one g.0 f.0 g.1 f.1) g.2)
  one_report (suc n) (End o bytes) q r f g = f ∙ sym g

  pub report_there : (n : ℕ) (x : Next S O) → ((r : Report O) → Reports Step shown n x r → ⊥) → ⊥
  report_there zero x none = none (report shown x) refl
  report_there (suc n) (On s) none = (sure s).there (λ y g. report_there n y (λ r h. none r (y, g, h)))
  report_there (suc n) (End o bytes) none = none (record { outcome = Some o; output = bytes }) refl

-- ---- the meaning

abbrev report_of : Option Ending → List ℕ → Report Ending
report_of e out = record { outcome = e; output = out }

of_reports : (e : Option Ending) (f : Option Ending) (o q : Outcome) (out put : List ℕ) → o ≡ outcome_of e → q ≡ outcome_of f
    → report_of e out ≡ report_of f put → SameRun o q out put
of_reports e f o q out put a b i = record {
  outcome = a ∙ ap (λ (t : Report Ending). outcome_of t.outcome) i ∙ sym b;
  output = ap (λ (t : Report Ending). t.output) i;
}

pub run_is_one : RunIsOne
run_is_one p b a d o q out put f g =
    of_reports f.ending g.ending o q out put f.outcome g.outcome (one_report (Charge p a d) shown (sure_charge p a d) b (On start) _ _ f.reports g.reports)

pub run_is_there : RunIsThere
run_is_there p b a d none =
    report_there (Charge p a d) shown (sure_charge p a d) b (On start) (λ r f. none (outcome_of r.outcome) r.output (record { ending = r.outcome; outcome = refl; reports = f }))

has_ended : (e : Option Ending) (o : Outcome) → o ≡ outcome_of e → o ≢ outcome.More → IsSome e
has_ended None o h more = absurd (more h)
has_ended (Some x) o h more = refl

pub run_goes_on : RunGoesOn
run_goes_on p m n a d o q out put le f g =
    let earlier = cut (Charge p a d) shown (charge_keeps p a d) m n (On start) (report_of g.ending put) le g.reports in
    let same : earlier.0 ≡ report_of f.ending out = one_report (Charge p a d) shown (sure_charge p a d) m (On start) _ _ earlier.1 f.reports in
    let followed : GoesOn (report_of f.ending out) (report_of g.ending put) = subst (λ (t : Report Ending). GoesOn t (report_of g.ending put)) same earlier.2 in
    record {
      output = followed.output;
      ended = λ more. of_reports g.ending f.ending q o put out g.outcome f.outcome (followed.ended (has_ended f.ending o f.outcome more));
    }
