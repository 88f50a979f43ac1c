-- Two machines that go on together have the four clauses.
use Rattle.std.proofs.Common.{◌≡◌, ℕ, zero, suc, ◌+◌, ◌-◌, ◌*◌, ◌<◌, ◌≤◌, List, Option, Some, None, refl, sym, ap, ◌∙◌, subst, arith, mul-suc, inl, inr, ◌⊎◌}
use Rattle.std.specs.Prelude.{IsSome}
use Rattle.std.specs.Option.{option_map}
use Rattle.std.proofs.lemmas.Bool.{cases_lt}
use Rattle.jn_steps.specs.Runs.{Report, Next, On, End, after, report, run}
use Rattle.jn_steps.specs.Laws.{IsPrefix, GoesOn, KeepsOutput, OutputGrows}
use Rattle.jn_steps.proofs.Runs.{prefix_refl, goes_on_refl, goes_on_trans, after_on, after_end, output_grows, go_on}
use Rattle.jn_steps.proofs.Reports as earlier
use Rattle.jn_steps.specs.Reports.{Reports, StepsKeep}
use Rattle.jn_lockstep.specs.Together.{Leads, Together, end_as, RunIs, Agree}

not_some : {Q : Type 0} (o : Option Q) → o ≡ None → IsSome o → ⊥
not_some None e h = cc
not_some (Some q) e h = cc

module _ {S M O Q : Type 0} (c : ℕ) (Step : S → Next S O → Type 0) (shown : S → List ℕ) (move : M → Next M Q) (mshown : M → List ℕ) (halts : O → Option Q) where
  abbrev Lead : (S → M → ℕ → Type 0) → ℕ → Next S O → M → ℕ → Type 0
  Lead = Leads c Step shown move mshown halts

  abbrev Both : ℕ → S → M → ℕ → Type 0
  Both = Together c Step shown move mshown halts

  abbrev Is : ℕ → Next S O → Report Q → Type 0
  Is = RunIs c Step shown move mshown halts

  both_shown : (b : ℕ) (s : S) (m : M) (w : ℕ) → Both b s m w → shown s ≡ mshown m
  both_shown zero s m w t = t
  both_shown (suc b) s m w t = t.0

  fewer_leads : (R P : S → M → ℕ → Type 0) → ((s : S) (m : M) (w : ℕ) → R s m w → P s m w) → (x : Next S O) (m : M) (lo w : ℕ) → Lead R lo x m w → Lead P lo x m w
  fewer_leads R P f (On s) m lo w l = (l.0, l.1, l.2, l.3, l.4, l.5, f s l.2 l.1 l.6)
  fewer_leads R P f (End o bytes) m lo w l = l

  pub fewer : (a b : ℕ) → a ≤ b → (s : S) (m : M) (w : ℕ) → Both b s m w → Both a s m w
  fewer zero b le s m w t = both_shown b s m w t
  fewer (suc a) zero le s m w t = absurd (omega arith)
  fewer (suc a) (suc b) le s m w t =
      (t.0, λ x g. fewer_leads (Both b) (Both a) (fewer a b (omega arith)) x m 1 (c + w) (t.1 x g))

  -- ---- of the first, cut off earlier

  -- a run of k charges, which the one of n goes on from
  pub record Cut (k : ℕ) (x : Next S O) (r : Report Q) : Type 0 where
    pub before : Report Q
    pub is : Is k x before
    pub on : GoesOn before r

  module _ (grows : StepsKeep Step shown) where
    has_put : (n : ℕ) (out : List ℕ) (x : Next S O) (r : Report O) → KeepsOutput shown out x → Reports Step shown n x r → IsPrefix out r.output
    has_put = earlier.has_put Step shown grows

    abbrev report_of : Option O → List ℕ → Report O
    report_of e out = record { outcome = e; output = out }

    paused : (s : S) (k : ℕ) (r : Report Q) → IsPrefix (shown s) r.output → Cut zero (On s) r
    paused s k r p = record {
      before = record { outcome = None; output = shown s };
      is = record { end = None; is = refl; reports = refl };
      on = record { output = p; ended = λ h. absurd (not_some {Q = Q} None refl h) };
    }

    whole : (k : ℕ) (x : Next S O) (r : Report Q) → Is k x r → Cut k x r
    whole k x r f = record { before = r; is = f; on = goes_on_refl r }

    cut : (k n : ℕ) (x : Next S O) (r : Report Q) → k ≤ n → Is n x r → Cut k x r
    cut zero n (On s) r le f =
        paused s zero r (has_put n (shown s) (On s) (report_of f.end r.output) (prefix_refl (shown s)) f.reports)
    cut zero zero (End o bytes) r le f = whole zero (End o bytes) r f
    cut zero (suc n) (End o bytes) r le f = whole zero (End o bytes) r (record { end = f.end; is = f.is; reports = f.reports })
    cut (suc k) zero x r le f = absurd (omega arith)
    cut (suc k) (suc n) (End o bytes) r le f = whole (suc k) (End o bytes) r (record { end = f.end; is = f.is; reports = f.reports })
    cut (suc k) (suc n) (On s) r le f =
        let g = f.reports in
        let d = cut k n g.0 r (omega arith) (record { end = f.end; is = f.is; reports = g.2 }) in
        record { before = d.before; is = record { end = d.is.end; is = d.is.is; reports = (g.0, g.1, d.is.reports) }; on = d.on }

    module _ (mgrows : OutputGrows move mshown) where
      abbrev made : ℕ → M → Report Q
      made n m = run move mshown n m

      some_is : (o p : Option Q) → Some o ≡ Some p → o ≡ p
      some_is o p e = cc

      -- an end that is one of the second
      ended_as : (o : O) (r : Option Q) → end_as c Step shown move mshown halts (Some o) ≡ Some r → (q : Q) × (halts o ≡ Some q) × (r ≡ Some q)
      ended_as o r e = at_end (halts o) refl e
        where
          at_end : (x : Option Q) → halts o ≡ x → option_map Some x ≡ Some r → (q : Q) × (halts o ≡ Some q) × (r ≡ Some q)
          at_end None i e = cc
          at_end (Some q) i e = (q, i, sym (some_is (Some q) r e))

      end_of : (e : Option O) (o : O) (out bytes : List ℕ) → report_of e out ≡ report_of (Some o) bytes → (e ≡ Some o) × (out ≡ bytes)
      end_of e o out bytes i = (ap (λ (t : Report O). t.outcome) i, ap (λ (t : Report O). t.output) i)

      -- enough steps for b charges
      abbrev Upper : ℕ → Type 0
      Upper b = (N : ℕ) (s : S) (m : M) (w : ℕ) (r : Report Q) → Both b s m w → c * b + w ≤ N → Is b (On s) r → GoesOn r (made N m)

      -- an end, with which the second has ended too
      upper_end : (b N j : ℕ) (o : O) (bytes : List ℕ) (m : M) (v : ℕ) (r : Report Q) → Lead (Both b) 1 (End o bytes) m v → v ≤ N → Is b (End o bytes) r → GoesOn r (made N m)
      upper_end b N j o bytes m v r l le f = at_report (said b f.reports)
        where
          said : (b : ℕ) → Reports Step shown b (End o bytes) (report_of f.end r.output) → report_of f.end r.output ≡ report_of (Some o) bytes
          said zero g = g
          said (suc b) g = g

          at_report : report_of f.end r.output ≡ report_of (Some o) bytes → GoesOn r (made N m)
          at_report e =
              let p = end_of f.end o r.output bytes e in
              let q = ended_as o r.outcome (subst (λ (x : Option O). end_as c Step shown move mshown halts x ≡ Some r.outcome) p.0 f.is) in
              let k = l q.0 q.1 in
              let all : k.0 + (N - k.0) ≡ N = omega (arith, k.2) in
              let there : after move N m ≡ End q.0 bytes = subst (λ i. after move i m ≡ End q.0 bytes) all (after_end move k.0 (N - k.0) m q.0 bytes k.1) in
              let same : r ≡ made N m = ap (λ (x : Option Q). let y : Report Q = record { outcome = x; output = r.output } in y) q.2 ∙ ap (λ (x : List ℕ). let y : Report Q = record { outcome = Some q.0; output = x } in y) p.1 ∙ ap (report mshown) (sym there) in
              subst (λ (x : Report Q). GoesOn r x) same (goes_on_refl r)

      pub upper : (b : ℕ) → Upper b
      upper zero N s m w r t le f =
          let same : r.outcome ≡ None = still f.end r.outcome f.is (ap (λ (x : Report O). x.outcome) f.reports) in
          let put : r.output ≡ mshown m = ap (λ (x : Report O). x.output) f.reports ∙ t in
          record {
            output = subst (λ (x : List ℕ). IsPrefix x (made N m).output) (sym put) (output_grows move mshown mgrows N m);
            ended = λ h. absurd (not_some r.outcome same h);
          }
        where
          still : (e : Option O) (o : Option Q) → end_as c Step shown move mshown halts e ≡ Some o → e ≡ None → o ≡ None
          still None o i n = sym (some_is None o i)
          still (Some x) o i n = cc
      upper (suc b) N s m w r t le f = at_next (upper b) f.reports.0 (t.1 f.reports.0 f.reports.1) (record { end = f.end; is = f.is; reports = f.reports.2 })
        where
          at_next : Upper b → (x : Next S O) → Lead (Both b) 1 x m (c + w) → Is b x r → GoesOn r (made N m)
          at_next ih (On u) l g =
              let all : l.0 + (N - l.0) ≡ N = omega (arith, l.5, mul-suc c b) in
              let there : after move N m ≡ after move (N - l.0) l.2 = subst (λ k. after move k m ≡ after move (N - l.0) l.2) all (after_on move l.0 (N - l.0) m l.2 l.3) in
              let le' : c * b + l.1 ≤ N - l.0 = omega (arith, l.5, mul-suc c b) in
              subst (λ (x : Next M Q). GoesOn r (report mshown x)) (sym there) (ih (N - l.0) u l.2 l.1 r l.6 le' g)
          at_next ih (End o bytes) l g = upper_end b N zero o bytes m (c + w) r l (omega (arith, mul-suc c b)) g

      -- n steps are made for n + 1 charges at most
      abbrev Lower : ℕ → Type 0
      Lower n = (s : S) (m : M) (w : ℕ) (r : Report Q) → Both (suc n) s m w → Is (suc n) (On s) r → GoesOn (made n m) r

      -- the second is still on its way
      on_the_way : (n : ℕ) (m : M) (y : Next M Q) (r : Report Q) (j : ℕ) → after move j m ≡ y → n ≤ j → GoesOn (report mshown y) r → GoesOn (made n m) r
      on_the_way n m y r j e le g =
          goes_on_trans (made n m) (report mshown y) r (subst (λ (x : Next M Q). GoesOn (made n m) (report mshown x)) e (go_on move mshown mgrows n j m le)) g

      lower_at : (n : ℕ) → ((i : ℕ) → i < n → Lower i) → Lower n
      lower_at n ih s m w r t f = at_next f.reports.0 (t.1 f.reports.0 f.reports.1) (record { end = f.end; is = f.is; reports = f.reports.2 })
        where
          later : (u : S) (j v : ℕ) (o : M) → after move j m ≡ On o → 1 ≤ j → Both n u o v → Is n (On u) r → (n < j) ⊎ (j ≤ n) → GoesOn (made n m) r
          later u j v o e lo t g (inl lt) =
              let p = has_put n (shown u) (On u) (report_of g.end r.output) (prefix_refl (shown u)) g.reports in
              on_the_way n m (On o) r j e (omega arith) (record { output = subst (λ (x : List ℕ). IsPrefix x r.output) (both_shown n u o v t) p; ended = λ h. absurd (not_some {Q = Q} None refl h) })
          later u j v o e lo t g (inr ge) =
              let i = n - j in
              let less : suc i ≤ n = omega arith in
              let all : j + i ≡ n = omega arith in
              let there : after move n m ≡ after move i o = subst (λ k. after move k m ≡ after move i o) all (after_on move j i m o e) in
              let d = cut (suc i) n (On u) r less g in
              subst (λ (x : Next M Q). GoesOn (report mshown x) r) (sym there)
              (goes_on_trans (made i o) d.before r (ih i less u o v d.before (fewer (suc i) n less u o v t) d.is) d.on)

          at_end : (o : O) (bytes : List ℕ) → Lead (Both n) 1 (End o bytes) m (c + w) → Is n (End o bytes) r → GoesOn (made n m) r
          at_end o bytes l g = at_report (said n g.reports)
            where
              said : (b : ℕ) → Reports Step shown b (End o bytes) (report_of g.end r.output) → report_of g.end r.output ≡ report_of (Some o) bytes
              said zero g = g
              said (suc b) g = g

              reached : (q : Q) (j : ℕ) → after move j m ≡ End q bytes → report mshown (End q bytes) ≡ r → (n < j) ⊎ (j ≤ n) → GoesOn (made n m) r
              reached q j e same (inl lt) = on_the_way n m (End q bytes) r j e (omega arith) (subst (λ (x : Report Q). GoesOn (report mshown (End q bytes)) x) same (goes_on_refl (report mshown (End q bytes))))
              reached q j e same (inr ge) =
                  let all : j + (n - j) ≡ n = omega arith in
                  let there : after move n m ≡ End q bytes = subst (λ k. after move k m ≡ End q bytes) all (after_end move j (n - j) m q bytes e) in
                  subst (λ (x : Report Q). GoesOn x r) (sym (ap (report mshown) there ∙ same)) (goes_on_refl r)

              at_report : report_of g.end r.output ≡ report_of (Some o) bytes → GoesOn (made n m) r
              at_report e =
                  let p = end_of g.end o r.output bytes e in
                  let q = ended_as o r.outcome (subst (λ (x : Option O). end_as c Step shown move mshown halts x ≡ Some r.outcome) p.0 g.is) in
                  let k = l q.0 q.1 in
                  let same : report mshown (End q.0 bytes) ≡ r = sym (ap (λ (x : Option Q). let y : Report Q = record { outcome = x; output = r.output } in y) q.2 ∙ ap (λ (x : List ℕ). let y : Report Q = record { outcome = Some q.0; output = x } in y) p.1) in
                  reached q.0 k.0 k.1 same (cases_lt n k.0)

          at_next : (x : Next S O) → Lead (Both n) 1 x m (c + w) → Is n x r → GoesOn (made n m) r
          at_next (On u) l g = later u l.0 l.1 l.2 l.3 l.4 l.6 g (cases_lt n l.0)
          at_next (End o bytes) l g = at_end o bytes l g

      lower_below : (k n : ℕ) → n < k → Lower n
      lower_below zero n lt = absurd (omega arith)
      lower_below (suc k) n lt = lower_at n (λ i less. lower_below k i (omega arith))

      pub agree : (s : S) (m : M) → ((b : ℕ) → Both b s m c) → Agree c Step shown move mshown halts s m
      agree s m t = record {
        within = λ n r f. lower_below (suc n) n (omega arith) s m c r (t (suc n)) f;
        reaches = λ b r f. upper b (c * b + c) s m c r (t b) (omega arith) f;
      }
