-- A run, a charge at a time.
use Rattle.std.proofs.Common.{◌≡◌, ◌<◌, ◌≤◌, ◌+◌, ◌-◌, ℕ, zero, suc, List, [], ◌∷◌, ◌++◌, Option, Some, None, refl, sym, ap, ◌∙◌, subst, arith}
use Rattle.std.specs.Option.{option_map}
use Rattle.std.specs.Io.KnownBytes.{append_known}
use Rattle.std.proofs.lemmas.List.{append-nil}
use Rattle.jn_steps.specs.Runs.{Report, On, End}
use Rattle.jn_steps.specs.Laws.{IsPrefix}
use Rattle.jn_steps.specs.Reports.{Reports}
use Rattle.jn_steps.proofs.Reports.{end_reports}
use Rattle.jn_output.specs.Writes.{Wrote, Cut}
use Rattle.jn_output.proofs.Writing.{append_twice, waits, both, later_cut, cut_before}
use Rattle.jn_base.specs.declared.path.Path.{Path as ShownPath}
use Rattle.jn_base.specs.declared.tree.Program.{Program}
use Rattle.jn_sem.specs.declared.outcome.Outcome.{Outcome}
use Rattle.jn_sem.specs.declared.outcome.Outcome.TheVariants as outcome
use Rattle.jn_sem.specs.State as state
use Rattle.jn_sem.specs.Does as does
use Rattle.jn_sem.specs.Run as run
use Rattle.jn_sem.specs.Run.{Running, Then, Run, Charge, running, over, shown, outcome_of}
use Rattle.jn_sem.proofs.RunLaws.{run_goes_on}
use Rattle.jn_meaning.specs.declared.did.Ending.{Ending}
use Rattle.jn_meaning.specs.declared.did.Line.{Line}
use Rattle.jn_meaning.specs.declared.frame.Frame.{Frame}
use Rattle.jn_meaning.specs.declared.heap.Heap.{Heap}
use Rattle.jn_meaning.specs.Heaps.{heap_of}
use Rattle.jn_meaning.specs.Frames.{ending_of, bytes_of}
use Rattle.jn_meaning.specs.Running.{frames_of, then_of, put, running_of, Charges, Starts, IsOutcome}
use Rattle.jn_meaning.specs.Ran.{Ran, WroteRun, CutShort}

put_behind : (out : List ℕ) (l : Option Line) → put out l ≡ out ++ put [] l
put_behind out None = sym (append-nil out)
put_behind out (Some l) = refl

-- what was put, less what waits, was taken
pub cut_of : (before now : Option (List ℕ)) (buffer out : List ℕ) → Wrote before now [] buffer out → Cut before now out
cut_of before now buffer out w = record { gone = w.gone; took = w.took; first = (buffer, w.same) }

module _ (p : Program) (a d : ℕ) where
  -- After k charges the run comes to x: what is reported of x is reported of the whole.
  pub record ComesTo (k : ℕ) (x : Then) : Type 0 where
    pub goes : (n : ℕ) (r : Report does.Ending) → Reports (Charge p a d) shown n x r → Reports (Charge p a d) shown (k + n) (On run.start) r

  abbrev Whole : Report does.Ending → ℕ → Type 0
  Whole r n = Reports (Charge p a d) shown n (On run.start) r

  comes_first : (s : Running) → s ≡ run.start → ComesTo 0 (On s)
  comes_first s e = record {
    goes = λ n r f. subst (Whole r) (let l : n ≡ 0 + n = omega arith in l) (subst (λ (z : Running). Reports (Charge p a d) shown n (On z) r) e f);
  }

  comes_on : (k : ℕ) (s : Running) (x : Then) → ComesTo k (On s) → Charge p a d s x → ComesTo (k + 1) x
  comes_on k s x c step = record {
    goes = λ n r f. subst (Whole r) (let l : k + suc n ≡ (k + 1) + n = omega arith in l) (c.goes (suc n) r (x, step, f));
  }

  run_at : (k : ℕ) (fs : List state.Frame) (H : state.Heap) (out : List ℕ) → ComesTo k (On (running fs H out)) → Run p k a d outcome.More out
  run_at k fs H out c = record {
    ending = None;
    outcome = refl;
    reports = subst (Whole (record { outcome = None; output = out })) (let l : k + 0 ≡ k = omega arith in l) (c.goes 0 _ refl);
  }

  run_over : (k b : ℕ) → k ≤ b → (o : does.Ending) (out : List ℕ) → ComesTo k (over o out) → Run p b a d (outcome_of (Some o)) out
  run_over k b le o out c = record {
    ending = Some o;
    outcome = refl;
    reports = subst (Whole (record { outcome = Some o; output = out })) (let l : k + (b - k) ≡ b = omega (arith, le) in l) (c.goes (b - k) _ (end_reports (Charge p a d) shown (b - k) o out));
  }

  run_to : (k : ℕ) (o : Option Ending) (fs : List state.Frame) (H : state.Heap) (out : List ℕ) → ComesTo k (then_of o fs H out)
      → Run p k a d (outcome_of (option_map ending_of o)) out
  run_to k None fs H out c = run_at k fs H out c
  run_to k (Some o) fs H out c = run_over k k (omega arith) (ending_of o) out c

  -- what a shorter run put is a prefix of what the run puts
  cut_earlier : (k b : ℕ) → k ≤ b → (q : Outcome) (out : List ℕ) → Run p k a d q out → (before now : Option (List ℕ)) → Cut before now out → CutShort p b a d before now
  cut_earlier k b le q out early before now cut o whole r =
      let more : IsPrefix out whole = (run_goes_on p k b a d q o out whole le early r).output in
      subst (Cut before now) more.1 (cut_before before now out more.0 cut)

  module _ (known : List ShownPath) (b : ℕ) where
    -- After k charges the run has come to these frames and this heap, and what it put so far was written.
    pub record Underway (k : ℕ) (f : Frame) (fs : List Frame) (h : Heap) (before now : Option (List ℕ)) (buffer : List ℕ) : Type 0 where
      pub out : List ℕ
      pub comes : ComesTo k (On (running_of known f fs h out))
      pub wrote : Wrote before now [] buffer out

    pub begins : (f : Frame) (fs : List Frame) (h : Heap) (t : Option (List ℕ)) (buffer : List ℕ) → Starts f fs h → buffer ≡ [] → Underway 0 f fs h t t buffer
    begins f fs h t buffer is e = record {
      out = [];
      comes = comes_first (running_of known f fs h []) (is known);
      wrote = waits t [] buffer [] e;
    }

    module _ (k : ℕ) (f : Frame) (fs : List Frame) (h : Heap) (before now : Option (List ℕ)) (buffer : List ℕ) (so : Underway k f fs h before now buffer) where
      pub broken_off : k ≤ b → CutShort p b a d before now
      broken_off le =
          cut_earlier k b le outcome.More so.out (run_at k (frames_of known f fs) (heap_of known h) so.out so.comes) before now (cut_of before now buffer so.out so.wrote)

      pub used_up : b ≤ k → k ≤ b → WroteRun p b a d outcome.More before now buffer
      used_up past le = record {
        output = so.out;
        run = subst (λ (n : ℕ). Run p n a d outcome.More so.out) (let l : k ≡ b = omega (arith, past, le) in l) (run_at k (frames_of known f fs) (heap_of known h) so.out so.comes);
        wrote = so.wrote;
      }

      module _ (l : Option Line) (o : Option Ending) (g : Frame) (gs : List Frame) (i : Heap) (charged : Charges p known a d f fs h l o g gs i) where
        next : ComesTo (k + 1) (then_of o (frames_of known g gs) (heap_of known i) (put so.out l))
        next = comes_on k (running_of known f fs h so.out) _ so.comes (charged so.out)

        pub cut_off : k < b → (later : Option (List ℕ)) → Cut now later (buffer ++ put [] l) → CutShort p b a d before later
        cut_off le later cut =
            cut_earlier (k + 1) b (omega (arith, le)) _ (put so.out l) (run_to (k + 1) o (frames_of known g gs) (heap_of known i) (put so.out l) next) before later
            (subst (Cut before later) (sym (put_behind so.out l)) (later_cut before now later [] buffer so.out (put [] l) so.wrote cut))

        module _ (later : Option (List ℕ)) (rest : List ℕ) (wrote : Wrote now later buffer rest (put [] l)) where
          both_wrote : Wrote before later [] rest (put so.out l)
          both_wrote = subst (Wrote before later [] rest) (sym (put_behind so.out l)) (both before now later [] buffer rest so.out (put [] l) so.wrote wrote)

          pub goes_on : o ≡ None → Underway (k + 1) g gs i before later rest
          goes_on e = record {
            out = put so.out l;
            comes = subst (λ (z : Option Ending). ComesTo (k + 1) (then_of z (frames_of known g gs) (heap_of known i) (put so.out l))) e next;
            wrote = both_wrote;
          }

          pub ends : k < b → (e : Ending) → o ≡ Some e → (r : Outcome) → IsOutcome e r → WroteRun p b a d r before later rest
          ends le e is r same = record {
            output = put so.out l;
            run = subst (λ (z : Outcome). Run p b a d z (put so.out l)) (sym same)
                (run_over (k + 1) b (omega (arith, le)) (ending_of e) (put so.out l)
                (subst (λ (z : Option Ending). ComesTo (k + 1) (then_of z (frames_of known g gs) (heap_of known i) (put so.out l))) is next));
            wrote = both_wrote;
          }

  -- nothing was taken yet
  pub cut_at_start : (b : ℕ) (t : Option (List ℕ)) → CutShort p b a d t t
  cut_at_start b t o whole r = cut_before t t [] whole (cut_of t t [] [] (waits t [] [] [] refl))

  -- the rest was put
  pub ran_all : (b : ℕ) (o : Outcome) (before now later : Option (List ℕ)) (buffer : List ℕ) → WroteRun p b a d o before now buffer → later ≡ append_known now buffer
      → Ran p b a d o before later
  ran_all b o before now later buffer w e = record {
    output = w.output;
    run = w.run;
    took =
        e ∙ ap (λ (z : Option (List ℕ)). append_known z buffer) w.wrote.took ∙ append_twice before w.wrote.gone buffer
        ∙ ap (append_known before) w.wrote.same;
  }

  pub cut_last : (b : ℕ) (o : Outcome) (before now later : Option (List ℕ)) (buffer : List ℕ) → WroteRun p b a d o before now buffer → Cut now later buffer
      → CutShort p b a d before later
  cut_last b o before now later buffer w cut =
      cut_earlier b b (omega arith) o w.output w.run before later
      (subst (Cut before later) (append-nil w.output)
      (later_cut before now later [] buffer w.output [] w.wrote (subst (Cut now later) (sym (append-nil buffer)) cut)))
