-- How the end of a run is told.
use Rattle.std.proofs.Common.{◌≡◌, ◌∙◌, ◌≢◌, ℕ, ◌≤◌, inl, inr, List, [], take, length, sym, ap, subst, refl, Some, None, append-nil, codes}
use Rattle.std.proofs.lemmas.List.{take_at}
use Rattle.std.specs.declared.option.Option.{Option}
use Rattle.std.specs.Io.KnownBytes.{append_known}
use Rattle.jn_steps.specs.Runs.{Report}
use Rattle.jn_code.specs.Machine as code
use Rattle.jn_machine.specs.declared.run.Halt.{Halt as RunHalt}
use Rattle.jn_machine.specs.declared.run.Halt.TheVariants as ends
use Rattle.jn_machine.specs.Ends.{Ended, CameTo, Failed}
use Rattle.jn_drive.specs.declared.status.Status.{Status}
use Rattle.jn_drive.specs.declared.status.Status.TheVariants as statuses
use Rattle.jn_drive.specs.Reply.{Reply, RunReply, IsToldAs}
use Rattle.jn_drive.specs.Seen.{SinkSeen, TookAll, TookSome, IsPut, IsCut}
use Rattle.jn_drive.specs.Exec.{EndTold, Tells}

append_nothing : (k : Option (List ℕ)) → k ≡ append_known k []
append_nothing None = refl
append_nothing (Some xs) = ap (λ (ys : List ℕ). Some ys) (sym (append-nil xs))

abbrev ended_reply : Report code.Halt → Status → List ℕ → Reply
ended_reply r s line = record { output = r.output; line = line; status = s }

run_reply : (r : Report code.Halt) (outcome : Option code.Halt) (s : Status) (line : List ℕ) → r.outcome ≡ outcome → IsToldAs outcome s line → RunReply r (ended_reply r s line)
run_reply r outcome s line is t = record { output = refl; ended = subst (λ (o : Option code.Halt). IsToldAs o s line) (sym is) t }

took_all : (r : Report code.Halt) (outcome : Option code.Halt) (out out' : SinkSeen) → CameTo r outcome out.taken out'.taken out.faults out'.faults → TookAll out out' r.output
took_all r outcome out out' c = record { taken = c.took; faults = c.kept }

-- Its line was put, or `err` failed.
line_told : (r : Report code.Halt) (outcome : Option code.Halt) (wanted : Status) (line : List ℕ) (out out' err err' : SinkSeen) (s : Status) → CameTo r outcome out.taken out'.taken out.faults out'.faults → IsToldAs outcome wanted line
    → IsPut wanted line err err' s → Tells r out out' err err' s
line_told r outcome wanted line out out' err err' s c t (IsPut.whole is all) =
    (ended_reply r wanted line, run_reply r outcome wanted line c.came t, inl (record { status = is; output = took_all r outcome out out' c; line = all }))
line_told r outcome wanted line out out' err err' s c t (IsPut.cut is rose some) =
    (ended_reply r wanted line, run_reply r outcome wanted line c.came t, inr (IsCut.at_line is (took_all r outcome out out' c) rose some))

done_told : (r : Report code.Halt) (out out' err err' : SinkSeen) (s : Status) → CameTo r (Some code.Done) out.taken out'.taken out.faults out'.faults → s ≡ statuses.Done → err' ≡ err → Tells r out out' err err' s
done_told r out out' err err' s c is same = (
  ended_reply r statuses.Done [],
  run_reply r (Some code.Done) statuses.Done [] c.came (refl, refl),
  inl (record {
    status = is;
    output = took_all r (Some code.Done) out out' c;
    line = record { taken = ap (λ (k : SinkSeen). k.taken) same ∙ append_nothing err.taken; faults = ap (λ (k : SinkSeen). k.faults) same };
  }),
)

-- each run but a stuck one has a reply
reply_for : (r : Report code.Halt) (outcome : Option code.Halt) → r.outcome ≡ outcome → outcome ≢ Some code.Stuck → (reply : Reply) × RunReply r reply
reply_for r (Some code.Done) is free = (ended_reply r statuses.Done [], run_reply r _ _ _ is (refl, refl))
reply_for r (Some code.Null) is free = (ended_reply r statuses.Null (codes "fault: null\n"), run_reply r _ _ _ is (refl, refl))
reply_for r (Some code.Zero) is free = (ended_reply r statuses.Zero (codes "fault: zero divisor\n"), run_reply r _ _ _ is (refl, refl))
reply_for r (Some code.Arena) is free = (ended_reply r statuses.Arena (codes "fault: arena full\n"), run_reply r _ _ _ is (refl, refl))
reply_for r (Some code.Depth) is free = (ended_reply r statuses.Depth (codes "fault: call depth\n"), run_reply r _ _ _ is (refl, refl))
reply_for r (Some code.Stuck) is free = absurd (free refl)
reply_for r None is free = (ended_reply r statuses.Steps (codes "fault: steps\n"), run_reply r _ _ _ is (refl, refl))

-- `out` failed, and took the front of what the run prints
cut_front : (r : Report code.Halt) (out out' : SinkSeen) (reply : Reply) → RunReply r reply → Failed r out.taken out'.taken out.faults out'.faults → out.faults ≤ out'.faults → TookSome out out' reply.output
cut_front r out out' reply of f later = record {
  count = length f.cut.gone;
  taken = f.cut.took ∙ ap (append_known out.taken) (sym (ap (take (length f.cut.gone)) (of.output ∙ sym f.cut.first.1) ∙ take_at f.cut.gone f.cut.first.0 (length f.cut.gone) refl));
  later = later;
}

cut_told : (r : Report code.Halt) (out out' err err' : SinkSeen) (s : Status) → r.outcome ≢ Some code.Stuck → Failed r out.taken out'.taken out.faults out'.faults → out.faults ≤ out'.faults → s ≡ statuses.WriteFault → err' ≡ err → Tells r out out' err err' s
cut_told r out out' err err' s free f later is same =
    let of = reply_for r r.outcome refl free in (of.0, of.1, inr (IsCut.at_output is f.rose (cut_front r out out' of.0 of.1 f later) same))

pub end_told : (r : Report code.Halt) (end : RunHalt) (out out' err err' : SinkSeen) (s : Status) → r.outcome ≢ Some code.Stuck → Ended r end out.taken out'.taken out.faults out'.faults → out.faults ≤ out'.faults → EndTold end err err' s → Tells r out out' err err' s
end_told r ends.Done out out' err err' s free e later t = done_told r out out' err err' s e t.0 t.1
end_told r ends.Null out out' err err' s free e later t = line_told r _ _ _ out out' err err' s e (refl, refl) t
end_told r ends.Zero out out' err err' s free e later t = line_told r _ _ _ out out' err err' s e (refl, refl) t
end_told r ends.Arena out out' err err' s free e later t = line_told r _ _ _ out out' err err' s e (refl, refl) t
end_told r ends.Depth out out' err err' s free e later t = line_told r _ _ _ out out' err err' s e (refl, refl) t
end_told r ends.Steps out out' err err' s free e later t = line_told r _ _ _ out out' err err' s e (refl, refl) t
end_told r ends.WriteFault out out' err err' s free e later t = cut_told r out out' err err' s free e later t.0 t.1
