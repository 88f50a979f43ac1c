-- Where the second goes on together with the first for b charges: k steps are no more than k charges, and c k + w are
-- enough for them.
use Rattle.std.proofs.Common.{◌≡◌, ℕ, zero, suc, ◌+◌, ◌-◌, ◌*◌, ◌<◌, ◌≤◌, List, Option, Some, None, refl, sym, ap, ◌∙◌, subst, arith, mul-suc, inl, inr, ◌⊎◌}
use Rattle.std.specs.Prelude.{IsSome}
use Rattle.std.specs.Option.{option_map}
use Rattle.std.proofs.lemmas.Bool.{cases_lt}
use Rattle.jn_steps.specs.Runs.{Report, Next, On, End, after, report, run}
use Rattle.jn_steps.specs.Laws.{IsPrefix, GoesOn, KeepsOutput, OutputGrows}
use Rattle.jn_steps.proofs.Runs.{prefix_refl, goes_on_refl, goes_on_trans, after_on, after_end, output_grows, go_on}
use Rattle.jn_steps.proofs.Reports as earlier
use Rattle.jn_steps.specs.Reports.{Reports, StepsKeep}
use Rattle.jn_lockstep.specs.Together.{Leads, Together, end_as, RunIs}

not_some : {Q : Type 0} (o : Option Q) → o ≡ None → IsSome o → ⊥
not_some None e h = cc
not_some (Some q) e h = cc

module _ {S M O Q : Type 0} (c : ℕ) (Step : S → Next S O → Type 0) (shown : S → List ℕ) (move : M → Next M Q)
    (mshown : M → List ℕ) (halts : O → Option Q) where
  abbrev Lead : (S → M → ℕ → Type 0) → ℕ → Next S O → M → ℕ → Type 0
  Lead = Leads c Step shown move mshown halts

  abbrev Both : ℕ → S → M → ℕ → Type 0
  Both = Together c Step shown move mshown halts

  abbrev Is : ℕ → Next S O → Report Q → Type 0
  Is = RunIs c Step shown move mshown halts

  both_shown : (b : ℕ) (s : S) (m : M) (w : ℕ) → Both b s m w → shown s ≡ mshown m
  both_shown zero s m w t = t
  both_shown (suc b) s m w t = t.0

  abbrev report_of : Option O → List ℕ → Report O
  report_of e out = record { outcome = e; output = out }

  abbrev made : ℕ → M → Report Q
  made k m = run move mshown k m

  some_is : (o p : Option Q) → Some o ≡ Some p → o ≡ p
  some_is o p e = cc

  -- an end that is one of the second
  ended_as : (o : O) (r : Option Q) → end_as c Step shown move mshown halts (Some o) ≡ Some r →
      (q : Q) × (halts o ≡ Some q) × (r ≡ Some q)
  ended_as o r e = at_end (halts o) refl e
    where
      at_end : (x : Option Q) → halts o ≡ x → option_map Some x ≡ Some r →
          (q : Q) × (halts o ≡ Some q) × (r ≡ Some q)
      at_end None i e = cc
      at_end (Some q) i e = (q, i, sym (some_is (Some q) r e))

  end_of : (e : Option O) (o : O) (out bytes : List ℕ) → report_of e out ≡ report_of (Some o) bytes →
      (e ≡ Some o) × (out ≡ bytes)
  end_of e o out bytes i = (ap (λ (t : Report O). t.outcome) i, ap (λ (t : Report O). t.output) i)

  said : (k : ℕ) (o : O) (bytes : List ℕ) (r : Report O) → Reports Step shown k (End o bytes) r →
      r ≡ report_of (Some o) bytes
  said zero o bytes r g = g
  said (suc k) o bytes r g = g

  still : (e : Option O) (o : Option Q) → end_as c Step shown move mshown halts e ≡ Some o → e ≡ None → o ≡ None
  still None o i n = sym (some_is None o i)
  still (Some x) o i n = cc

  -- the end of the first, as one of the second
  record Ending (o : O) (bytes : List ℕ) (r : Report Q) : Type 0 where
    pub halt : Q
    pub is_halt : halts o ≡ Some halt
    pub same : report mshown (End halt bytes) ≡ r

  ending : (k : ℕ) (o : O) (bytes : List ℕ) (r : Report Q) → Is k (End o bytes) r → Ending o bytes r
  ending k o bytes r f =
      let e = said k o bytes (report_of f.end r.output) f.reports in
      let p = end_of f.end o r.output bytes e in
      let q = ended_as o r.outcome (subst (λ (x : Option O). end_as c Step shown move mshown halts x ≡ Some r.outcome)
      p.0 f.is) in
      record {
        halt = q.0;
        is_halt = q.1;
        same = sym (ap (λ (x : Option Q). let y : Report Q = record { outcome = x; output = r.output } in y) q.2
            ∙ ap (λ (x : List ℕ). let y : Report Q = record { outcome = Some q.0; output = x } in y) p.1);
      }

  module _ (grows : StepsKeep Step shown) (mgrows : OutputGrows move mshown) where
    has_put : (n : ℕ) (out : List ℕ) (x : Next S O) (r : Report O) → KeepsOutput shown out x →
        Reports Step shown n x r → IsPrefix out r.output
    has_put = earlier.has_put Step shown grows

    -- the second is still on its way
    on_the_way : (n : ℕ) (m : M) (y : Next M Q) (r : Report Q) (j : ℕ) → after move j m ≡ y → n ≤ j →
        GoesOn (report mshown y) r → GoesOn (made n m) r
    on_the_way n m y r j e le g =
        goes_on_trans (made n m) (report mshown y) r
        (subst (λ (x : Next M Q). GoesOn (made n m) (report mshown x)) e (go_on move mshown mgrows n j m le)) g

    -- where the second is, with what the first has shown
    shown_there : (k : ℕ) (u : S) (o : M) (r : Report Q) → shown u ≡ mshown o → Is k (On u) r →
        GoesOn (report mshown (On o)) r
    shown_there k u o r same f = record {
      output = subst (λ (x : List ℕ). IsPrefix x r.output) same
          (has_put k (shown u) (On u) (report_of f.end r.output) (prefix_refl (shown u)) f.reports);
      ended = λ h. absurd (not_some {Q = Q} None refl h);
    }

    -- q steps are no more than k charges, where lo steps were made already
    pub no_more : (k b lo q : ℕ) (y : Next S O) (m : M) (w : ℕ) (r : Report Q) → k ≤ b → q ≤ lo + k →
        Lead (Both b) lo y m w → Is k y r → GoesOn (made q m) r
    no_more k b lo q (End o bytes) m w r kb qk l f = at_end (ending k o bytes r f)
      where
        at_end : Ending o bytes r → GoesOn (made q m) r
        at_end h = reached (l h.halt h.is_halt) (cases_lt q (l h.halt h.is_halt).0)
          where
            reached : (e : (j : ℕ) × (after move j m ≡ End h.halt bytes) × (j ≤ w)) → (q < e.0) ⊎ (e.0 ≤ q) →
                GoesOn (made q m) r
            reached e (inl lt) = on_the_way q m (End h.halt bytes) r e.0 e.1 (omega (arith, lt))
                (subst (λ (x : Report Q). GoesOn (report mshown (End h.halt bytes)) x) h.same
                (goes_on_refl (report mshown (End h.halt bytes))))
            reached e (inr ge) =
                let all : e.0 + (q - e.0) ≡ q = omega (arith, ge) in
                let there : after move q m ≡ End h.halt bytes = subst (λ i. after move i m ≡ End h.halt bytes) all
                (after_end move e.0 (q - e.0) m h.halt bytes e.1) in
                subst (λ (x : Report Q). GoesOn x r) (sym (ap (report mshown) there ∙ h.same)) (goes_on_refl r)
    no_more zero b lo q (On u) m w r kb qk l f =
        on_the_way q m (On l.2) r l.0 l.3 (let lo_le = l.4 in omega (arith, qk, lo_le))
        (shown_there zero u l.2 r (both_shown b u l.2 l.1 l.6) f)
    no_more (suc k) zero lo q (On u) m w r kb qk l f = absurd (omega (arith, kb))
    no_more (suc k) (suc b) lo q (On u) m w r kb qk l f =
        at_case (cases_lt q l.0)
        (λ i le. no_more k b 1 i f.reports.0 l.2 (c + l.1) r (omega (arith, kb)) le
        (l.6.1 f.reports.0 f.reports.1) (record { end = f.end; is = f.is; reports = f.reports.2 }))
      where
        at_case : (q < l.0) ⊎ (l.0 ≤ q) → ((i : ℕ) → i ≤ 1 + k → GoesOn (made i l.2) r) → GoesOn (made q m) r
        at_case (inl lt) ih = on_the_way q m (On l.2) r l.0 l.3 (omega (arith, lt))
            (shown_there (suc k) u l.2 r (both_shown (suc b) u l.2 l.1 l.6) f)
        at_case (inr ge) ih =
            let all : l.0 + (q - l.0) ≡ q = omega (arith, ge) in
            let there : after move q m ≡ after move (q - l.0) l.2 = subst
            (λ i. after move i m ≡ after move (q - l.0) l.2) all (after_on move l.0 (q - l.0) m l.2 l.3) in
            let lo_le = l.4 in
            subst (λ (x : Next M Q). GoesOn (report mshown x) r) (sym there)
            (ih (q - l.0) (omega (arith, lo_le, qk, ge)))

    -- enough steps for k charges
    pub enough : (k b lo N : ℕ) (y : Next S O) (m : M) (w : ℕ) (r : Report Q) → k ≤ b → c * k + w ≤ N →
        Lead (Both b) lo y m w → Is k y r → GoesOn r (made N m)
    enough k b lo N (End o bytes) m w r kb le l f = at_end (ending k o bytes r f)
      where
        at_end : Ending o bytes r → GoesOn r (made N m)
        at_end h =
            let e = l h.halt h.is_halt in
            let short = e.2 in
            let all : e.0 + (N - e.0) ≡ N = omega (arith, short, le) in
            let there : after move N m ≡ End h.halt bytes = subst (λ i. after move i m ≡ End h.halt bytes) all
            (after_end move e.0 (N - e.0) m h.halt bytes e.1) in
            subst (λ (x : Report Q). GoesOn r x) (sym (ap (report mshown) there ∙ h.same)) (goes_on_refl r)
    enough zero b lo N (On u) m w r kb le l f =
        let same : r.outcome ≡ None = still f.end r.outcome f.is (ap (λ (x : Report O). x.outcome) f.reports) in
        let put : r.output ≡ mshown l.2 = ap (λ (x : Report O). x.output) f.reports ∙ both_shown b u l.2 l.1 l.6 in
        let short = l.5 in
        let all : l.0 + (N - l.0) ≡ N = omega (arith, short, le) in
        let there : after move N m ≡ after move (N - l.0) l.2 = subst
        (λ i. after move i m ≡ after move (N - l.0) l.2) all (after_on move l.0 (N - l.0) m l.2 l.3) in
        subst (λ (x : Next M Q). GoesOn r (report mshown x)) (sym there)
        (record {
          output = subst (λ (x : List ℕ). IsPrefix x (made (N - l.0) l.2).output) (sym put)
              (output_grows move mshown mgrows (N - l.0) l.2);
          ended = λ h. absurd (not_some r.outcome same h);
        })
    enough (suc k) zero lo N (On u) m w r kb le l f = absurd (omega (arith, kb))
    enough (suc k) (suc b) lo N (On u) m w r kb le l f =
        let short = l.5 in
        let all : l.0 + (N - l.0) ≡ N = omega (arith, short, le) in
        let there : after move N m ≡ after move (N - l.0) l.2 = subst
        (λ i. after move i m ≡ after move (N - l.0) l.2) all (after_on move l.0 (N - l.0) m l.2 l.3) in
        let room : c * k + (c + l.1) ≤ N - l.0 = omega (arith, short, le, mul-suc c k) in
        subst (λ (x : Next M Q). GoesOn r (report mshown x)) (sym there)
        (enough k b 1 (N - l.0) f.reports.0 l.2 (c + l.1) r (omega (arith, kb)) room
        (l.6.1 f.reports.0 f.reports.1) (record { end = f.end; is = f.is; reports = f.reports.2 }))
