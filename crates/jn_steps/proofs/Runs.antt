-- Runs with more steps.
use Rattle.std.proofs.Common.{◌≡◌, ℕ, zero, suc, ◌+◌, ◌-◌, List, [], ◌++◌, refl, sym, ap, ◌∙◌, subst, arith, append_assoc, zero-add, suc-add}
use Rattle.std.specs.Prelude.{IsSome}
use Rattle.std.proofs.lemmas.List.{append-nil}
use Rattle.jn_steps.specs.Runs.{Report, Next, On, End, and_then, after, report, run}
use Rattle.jn_steps.specs.Laws.{IsPrefix, GoesOn, KeepsOutput, OutputGrows, RunsGoOn, RunsInParts}

pub prefix_refl : (a : List ℕ) → IsPrefix a a
prefix_refl a = ([], append-nil a)

pub prefix_trans : (a b c : List ℕ) → IsPrefix a b → IsPrefix b c → IsPrefix a c
prefix_trans a b c p q = (p.0 ++ q.0, sym (append_assoc a p.0 q.0) ∙ ap (λ (x : List ℕ). x ++ q.0) p.1 ∙ q.1)

pub goes_on_refl : {O : Type 0} (r : Report O) → GoesOn r r
goes_on_refl r = record { output = prefix_refl r.output; ended = λ e. refl }

pub goes_on_trans : {O : Type 0} (q r s : Report O) → GoesOn q r → GoesOn r s → GoesOn q s
goes_on_trans {O} q r s a b = record {
  output = prefix_trans q.output r.output s.output a.output b.output;
  ended = λ h. b.ended (subst (λ (x : Report O). IsSome x.outcome) (sym (a.ended h)) h) ∙ a.ended h;
}

module _ {S O : Type 0} (step : S → Next S O) where
  pub in_parts : RunsInParts step
  in_parts zero n s = ap (λ k. after step k s) (zero-add n)
  in_parts (suc m) n s = ap (λ k. after step k s) (suc-add m n) ∙ at_next (in_parts m n) (step s)
    where
      at_next : ((t : S) → after step (m + n) t ≡ and_then (after step m t) (after step n)) → (x : Next S O) → and_then x (after step (m + n)) ≡ and_then (and_then x (after step m)) (after step n)
      at_next ih (On t) = ih t
      at_next ih (End o bytes) = refl

  -- the steps after those that led to a state, or to an end
  pub after_on : (m n : ℕ) (s t : S) → after step m s ≡ On t → after step (m + n) s ≡ after step n t
  after_on m n s t e = in_parts m n s ∙ ap (λ x. and_then x (after step n)) e

  pub after_end : (m n : ℕ) (s : S) (o : O) (bytes : List ℕ) → after step m s ≡ End o bytes → after step (m + n) s ≡ End o bytes
  after_end m n s o bytes e = in_parts m n s ∙ ap (λ x. and_then x (after step n)) e

  module _ (shown : S → List ℕ) (grows : OutputGrows step shown) where
    pub output_grows : (n : ℕ) (s : S) → IsPrefix (shown s) (run step shown n s).output
    output_grows zero s = prefix_refl (shown s)
    output_grows (suc n) s = at_next (output_grows n) (step s) (grows s)
      where
        at_next : ((t : S) → IsPrefix (shown t) (run step shown n t).output) → (x : Next S O) → KeepsOutput shown (shown s) x → IsPrefix (shown s) (report shown (and_then x (after step n))).output
        at_next ih (On t) k = prefix_trans (shown s) (shown t) _ k (ih t)
        at_next ih (End o bytes) k = k

    goes_on_by : (m n : ℕ) (s : S) → GoesOn (run step shown m s) (run step shown (m + n) s)
    goes_on_by m n s = subst (λ (x : Next S O). GoesOn (run step shown m s) (report shown x)) (sym (in_parts m n s)) (at_next (after step m s))
      where
        at_next : (x : Next S O) → GoesOn (report shown x) (report shown (and_then x (after step n)))
        at_next (On t) = record { output = output_grows n t; ended = λ e. absurd cc }
        at_next (End o bytes) = goes_on_refl (report shown (End o bytes))

    pub go_on : RunsGoOn step shown
    go_on m n s le =
        let e : m + (n - m) ≡ n = omega arith in
        subst (λ (k : ℕ). GoesOn (run step shown m s) (run step shown k s)) e (goes_on_by m (n - m) s)
