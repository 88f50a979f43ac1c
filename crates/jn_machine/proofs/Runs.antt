-- A run, a turn at a time.
use Rattle.std.proofs.Common.{◌≡◌, sym, ap, ◌∙◌, ℕ, suc, ◌-◌, ◌<◌, List, [], ◌++◌, map, ℤ, Option, Some, None, arith, subst}
use Rattle.std.specs.Prelude.{All}
use Rattle.std.proofs.lemmas.List.{append-nil}
use Rattle.jn_steps.specs.Runs.{Report, Next, On, End, and_then, after, report, run}
use Rattle.jn_steps.specs.Laws.{IsPrefix}
use Rattle.jn_steps.proofs.Runs.{output_grows}
use Rattle.jn_steps.proofs.Machines.{machine_grows}
use Rattle.jn_code.specs.declared.image.Image.{Image}
use Rattle.jn_code.specs.Known.{IsSound}
use Rattle.jn_code.specs.Machine as code
use Rattle.jn_code.specs.Going.{Going, GoingOn}
use Rattle.jn_code.proofs.Safe.{NextOk, stepped, booted}
use Rattle.jn_machine.specs.declared.frame.Frame.{Frame}
use Rattle.jn_machine.specs.Acts.{frame_of}
use Rattle.jn_machine.specs.Sizes.{Sizes, Sized}
use Rattle.jn_machine.specs.Calls.{IsWide, IsHigh, Roomy, SameSizes}
use Rattle.jn_machine.specs.Does.{machine_of}
use Rattle.jn_machine.specs.Writes.{Wrote, Cut}
use Rattle.jn_machine.proofs.Writing.{waits, both, later_cut, cut_before}

abbrev shown : code.Machine → List ℕ
shown m = m.output

module _ (i : Image) (m d steps : ℕ) where
  abbrev step : code.Machine → Next code.Machine code.Halt
  step = code.instruct i m d

  abbrev whole : Report code.Halt
  whole = code.mach i m d steps

  -- So many steps are left of a run. What it put so far was written.
  pub record Underway (left : ℕ) (f : Frame) (s : Sizes) (h : List ℤ) (before now : Option (List ℕ)) (buffer : List ℕ) : Type 0 where
    pub out : List ℕ
    pub run : after step left (machine_of f s h out) ≡ after step steps (code.boot i)
    pub going : Going i m (frame_of f) (map frame_of s.waiting) h
    pub wrote : Wrote before now [] buffer out

  pub begins : (f : Frame) (s : Sizes) (h : List ℤ) (t : Option (List ℕ)) (b : List ℕ) → IsSound i → m < 4294967296 → machine_of f s h [] ≡ code.boot i → b ≡ [] → Underway steps f s h t t b
  begins f s h t b ok le e q = record {
    out = [];
    run = ap (after step steps) e;
    going = subst (λ (x : code.Machine). GoingOn i m x.frames x.heap) (sym e) (booted i m le ok);
    wrote = waits t [] b [] q;
  }

  module _ (left k : ℕ) (n : left ≡ suc k) (f : Frame) (s : Sizes) (h : List ℤ) (t u : Option (List ℕ)) (b : List ℕ) (p : Underway left f s h t u b) where
    -- what is left of the run after this step
    rest : (x : Next code.Machine code.Halt) → step (machine_of f s h p.out) ≡ x → and_then x (after step k) ≡ after step steps (code.boot i)
    rest x e =
        sym (ap (λ (x : Next code.Machine code.Halt). and_then x (after step k)) e) ∙ subst (λ (left : ℕ). after step left (machine_of f s h p.out) ≡ after step steps (code.boot i)) n p.run

    -- where a turn leads on
    goes_on : (g : Frame) (r : Sizes) (j : List ℤ) (w : Option (List ℕ)) (c more : List ℕ) → IsSound i → step (machine_of f s h p.out) ≡ On (machine_of g r j (p.out ++ more)) → Wrote u w b c more → Underway k g r j t w c
    goes_on g r j w c more ok e a = record {
      out = p.out ++ more;
      run = rest (On (machine_of g r j (p.out ++ more))) e;
      going = subst (NextOk i m) e (stepped i m d (machine_of f s h p.out) ok p.going);
      wrote = both t u w [] b c p.out more p.wrote a;
    }

    -- where the sink failed
    cut_off : (g : Frame) (r : Sizes) (j : List ℤ) (w : Option (List ℕ)) (more : List ℕ) → step (machine_of f s h p.out) ≡ On (machine_of g r j (p.out ++ more)) → Cut u w (b ++ more) → Cut t w whole.output
    cut_off g r j w more e a =
        let q = rest (On (machine_of g r j (p.out ++ more))) e in
        let o : (run step shown k (machine_of g r j (p.out ++ more))).output ≡ whole.output = ap (λ (x : Next code.Machine code.Halt). (report shown x).output) q in
        let grown : IsPrefix (p.out ++ more) (run step shown k (machine_of g r j (p.out ++ more))).output = output_grows step shown (machine_grows (code.rules i m) d) k (machine_of g r j (p.out ++ more)) in
        let first : Cut t w (p.out ++ more) = later_cut t u w [] b p.out more p.wrote a in
        subst (Cut t w) (grown.1 ∙ o) (cut_before t w (p.out ++ more) grown.0 first)

    -- where it halts
    halts : (o : code.Halt) → step (machine_of f s h p.out) ≡ End o p.out → (whole.outcome ≡ Some o) × Wrote t u [] b whole.output
    halts o e =
        let q = ap (report shown) (rest (End o p.out) e) in
        (sym (ap (λ (r : Report code.Halt). r.outcome) q), subst (λ (out : List ℕ). Wrote t u [] b out) (ap (λ (r : Report code.Halt). r.output) q) p.wrote)

  -- where no step is left
  pub spent : (left : ℕ) (f : Frame) (s : Sizes) (h : List ℤ) (t u : Option (List ℕ)) (b : List ℕ) → left ≡ 0 → (p : Underway left f s h t u b) → (whole.outcome ≡ None) × Wrote t u [] b whole.output
  spent left f s h t u b z p =
      let q : On (machine_of f s h p.out) ≡ after step steps (code.boot i) = subst (λ (left : ℕ). after step left (machine_of f s h p.out) ≡ after step steps (code.boot i)) z p.run in
      let r = ap (report shown) q in
      (sym (ap (λ (r : Report code.Halt). r.outcome) r), subst (λ (out : List ℕ). Wrote t u [] b out) (ap (λ (r : Report code.Halt). r.output) r) p.wrote)

-- The same with what the program knows: the bounds are those of its parts, which stay as they were.
module _ (i : Image) (m d steps left : ℕ) (l e : ℕ) (same_m : l ≡ m) (same_d : e ≡ d) (some : 0 < left) (f : Frame) (s : Sizes) (h : List ℤ) (t u : Option (List ℕ)) (b : List ℕ) (p : Underway i m d steps left f s h t u b) where
  one_less : left ≡ suc (left - 1)
  one_less = omega arith

  abbrev Leads : Next code.Machine code.Halt → Type 0
  Leads x = code.instruct i m d (machine_of f s h p.out) ≡ x

  as_is : (x : Next code.Machine code.Halt) → code.instruct i l e (machine_of f s h p.out) ≡ x → Leads x
  as_is x q =
      subst (λ (d : ℕ). code.instruct i m d (machine_of f s h p.out) ≡ x) same_d (subst (λ (m : ℕ). code.instruct i m e (machine_of f s h p.out) ≡ x) same_m q)

  pub turned_on : (g : Frame) (r : Sizes) (j : List ℤ) → IsSound i → ((out : List ℕ) → code.instruct i l e (machine_of f s h out) ≡ On (machine_of g r j out)) → Underway i m d steps (left - 1) g r j t u b
  turned_on g r j ok q =
      let x : Leads (On (machine_of g r j (p.out ++ []))) = subst (λ (w : List ℕ). Leads (On (machine_of g r j w))) (sym (append-nil p.out)) (as_is (On (machine_of g r j p.out)) (q p.out)) in
      goes_on i m d steps left (left - 1) one_less f s h t u b p g r j u b [] ok x (waits u b b [] (sym (append-nil b)))

  pub turned_print : (g : Frame) (r : Sizes) (j : List ℤ) (w : Option (List ℕ)) (c more : List ℕ) → IsSound i → ((out : List ℕ) → code.instruct i l e (machine_of f s h out) ≡ On (machine_of g r j (out ++ more))) → Wrote u w b c more → Underway i m d steps (left - 1) g r j t w c
  turned_print g r j w c more ok q a =
      goes_on i m d steps left (left - 1) one_less f s h t u b p g r j w c more ok (as_is (On (machine_of g r j (p.out ++ more))) (q p.out)) a

  pub turned_cut : (g : Frame) (r : Sizes) (j : List ℤ) (w : Option (List ℕ)) (more : List ℕ) → ((out : List ℕ) → code.instruct i l e (machine_of f s h out) ≡ On (machine_of g r j (out ++ more))) → Cut u w (b ++ more) → Cut t w (code.mach i m d steps).output
  turned_cut g r j w more q a =
      cut_off i m d steps left (left - 1) one_less f s h t u b p g r j w more (as_is (On (machine_of g r j (p.out ++ more))) (q p.out)) a

  pub turned_halt : (o : code.Halt) → ((out : List ℕ) → code.instruct i l e (machine_of f s h out) ≡ End o out) → ((code.mach i m d steps).outcome ≡ Some o) × Wrote t u [] b (code.mach i m d steps).output
  turned_halt o q = halts i m d steps left (left - 1) one_less f s h t u b p o (as_is (End o p.out) (q p.out))

pub roomy_same : (i : Image) (s t : Sizes) → SameSizes t s → Roomy i s → Roomy i t
roomy_same i s t e room = record {
  wide = subst (λ (w : ℕ). All (IsWide w) i.codes) (sym e.wide) room.wide;
  high = subst (λ (h : ℕ). All (IsHigh h) i.codes) (sym e.high) room.high;
  short = let a = e.wide in let b = room.short in omega arith;
}

pub sized_same : (s t : Sizes) (f : Frame) → SameSizes t s → Sized s.wide s.high f → Sized t.wide t.high f
sized_same s t f e z = record { vars = z.vars ∙ sym e.wide; vals = z.vals ∙ sym e.high }
