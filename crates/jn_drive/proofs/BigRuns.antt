-- What `big` replies, and what it does by that.
use Rattle.std.proofs.Common.{◌≡◌, ◌≢◌, ◌∙◌, ℕ, ◌⊎◌, inl, inr, suc, List, [], ◌++◌, append-nil, sym, ap, subst, refl, Result, Ok, Err, Some, None}
use Rattle.std.specs.declared.option.Option.{Option}
use Rattle.std.proofs.lemmas.Option.{same_Some}
use Rattle.std.specs.Io.KnownBytes.{append_known}
use Rattle.jn_reach.proofs.Eachs.{Each-length}
use Rattle.jn_steps.specs.Runs.{Report}
use Rattle.jn_big.specs.Summary.{summary}
use Rattle.jn_code.specs.Machine as code
use Rattle.jn_code.specs.Machine.{mach}
use Rattle.jn_agree.specs.Agrees.{InRange}
use Rattle.jn_machine.specs.Machines.{MachineState}
use Rattle.jn_machine.specs.Ends.{CameTo}
use Rattle.jn_drive.specs.declared.halt.Halt.{Halt}
use Rattle.jn_drive.specs.declared.halt.Halt.TheVariants as halt
use Rattle.jn_drive.specs.declared.status.Status.{Status}
use Rattle.jn_drive.specs.declared.status.Status.TheVariants as statuses
use Rattle.jn_drive.specs.Words.{BigJob}
use Rattle.jn_drive.specs.Reply.{Reply, RunReply, IsToldAs, BigReply, summed, told, refused_reply, output_reply, memory_reply}
use Rattle.jn_drive.specs.Seen.{Seen, SinkSeen, IsPut, IsCut, IsDelivered}
use Rattle.jn_drive.specs.Answer.{reply_of}
use Rattle.jn_drive.specs.Job.{DoesBig, IsOfReply, Gives}
use Rattle.jn_drive.specs.Bigs.{MakesBig, IsSummed, SumTold, BigTold}
use Rattle.jn_drive.proofs.Agreeing.{tells_run, right_image}
use Rattle.jn_drive.proofs.Running.{status_is, end_status, given_as, not_cut, cut_is, not_of, out_later, err_later}

-- ---- what is done by a reply

big_status : (job : BigJob) (a : Reply) → BigReply job a → IsOfReply a.status
big_status job a (BigReply.refused line by e) = status_is a.status statuses.Refused (ap (λ (x : Reply). x.status) e) tt
big_status job a (BigReply.ran p is passes classes all run tells e) =
    status_is a.status run.status (ap (λ (x : Reply). x.status) e) (end_status _ run.status run.line tells.steps.ended)

module _ (job : BigJob) (before after : Seen) (s : Status) where
  abbrev Comes : Reply → Type 0
  Comes a = BigReply job a ⊎ (a ≡ memory_reply)

  no_other : {P : Type 0} (a : Reply) → Comes a → Gives a before after s → (IsOfReply s → ⊥) → s ≢ statuses.Memory → P
  no_other a (inl is) g not memory = not_of s a g.status (big_status job a is) not
  no_other a (inr e) g not memory = absurd (memory (g.status ∙ ap (λ (x : Reply). x.status) e))

  given_reply : (a : Reply) → Comes a → Gives a before after s → IsOfReply s → (reply : Reply) × BigReply job reply × Gives reply before after s
  given_reply a (inl is) g of = (a, is, g)
  given_reply a (inr e) g of = absurd (subst IsOfReply (g.status ∙ ap (λ (x : Reply). x.status) e) of)

  given_memory : (a : Reply) → Comes a → Gives a before after s → s ≡ statuses.Memory → Gives memory_reply before after s
  given_memory a (inl is) g e = not_of s a g.status (big_status job a is) (λ of. absurd (subst IsOfReply e of))
  given_memory a (inr is) g e = given_as before after a memory_reply s is g

  given_exactly : (a : Reply) → Comes a → Gives a before after s → ((reply : Reply) × BigReply job reply × Gives reply before after s) ⊎ Gives memory_reply before after s
  given_exactly a (inl is) g = inl (a, is, g)
  given_exactly a (inr e) g = inr (given_as before after a memory_reply s e g)

  pub big_does : (a : Reply) → BigReply job a ⊎ (a ≡ memory_reply) → IsDelivered a before.out after.out before.err after.err s → after.store ≡ before.store → DoesBig job before after s
  big_does a comes (inl g) same = record {
    replied = given_reply a comes g;
    write_fault = λ e. no_other a comes g (λ of. absurd (subst IsOfReply e of)) (λ m. absurd (cc));
    memory = given_memory a comes g;
    usage = λ e. no_other a comes g (λ of. absurd (subst IsOfReply e of)) (λ m. absurd (cc));
    read_fault = λ e. no_other a comes g (λ of. absurd (subst IsOfReply e of)) (λ m. absurd (cc));
    exactly = λ quiet. given_exactly a comes g;
    store = same;
    out_later = out_later before after a s (inl g);
    err_later = err_later before after a s (inl g);
  }
  big_does a comes (inr cut) same =
      let is : s ≡ statuses.WriteFault = cut_is before after a s cut in
      record {
        replied = λ of. absurd (subst IsOfReply is of);
        write_fault = λ e. (a, comes, cut);
        memory = λ e. absurd (cc);
        usage = λ e. absurd (cc);
        read_fault = λ e. absurd (cc);
        exactly = λ quiet. not_cut before after a s cut quiet;
        store = same;
        out_later = out_later before after a s (inr cut);
        err_later = err_later before after a s (inr cut);
      }

-- ---- how a run is told

append_nothing : (k : Option (List ℕ)) → k ≡ append_known k []
append_nothing None = refl
append_nothing (Some xs) = ap (λ (ys : List ℕ). Some ys) (sym (append-nil xs))

line_delivered : (wanted : Status) (line : List ℕ) (out err err' : SinkSeen) (s : Status) → IsPut wanted line err err' s → IsDelivered (told wanted line) out out err err' s
line_delivered wanted line out err err' s (IsPut.whole is all) = inl (record { status = is; output = record { taken = append_nothing out.taken; faults = refl }; line = all })
line_delivered wanted line out err err' s (IsPut.cut is rose some) = inr (IsCut.at_line is (record { taken = append_nothing out.taken; faults = refl }) rose some)

module _ (r : Report code.Halt) (n classes : ℕ) (out err err' : SinkSeen) (s : Status) where
  -- a run that wasn't done
  pub line_summed : (outcome : Option code.Halt) (wanted : Status) (line : List ℕ) → r.outcome ≡ outcome → IsToldAs outcome wanted line
      → summed n classes (record { output = r.output; line = line; status = wanted }) ≡ told wanted line → IsPut wanted line err err' s
      → SumTold r n classes out out err err' s
  line_summed outcome wanted line is t same put = inl (
    record { output = r.output; line = line; status = wanted },
    record { output = refl; ended = subst (λ (o : Option code.Halt). IsToldAs o wanted line) (sym is) t },
    subst (λ (a : Reply). IsDelivered a out out err err' s) (sym same) (line_delivered wanted line out err err' s put),
  )

  pub memory_summed : IsPut statuses.Memory memory_reply.line err err' s → SumTold r n classes out out err err' s
  memory_summed put = inr (line_delivered statuses.Memory memory_reply.line out err err' s put)

-- a run that was done
pub done_summed : (r : Report code.Halt) (n classes : ℕ) (kept : List ℕ) (out out' err err' : SinkSeen) (s : Status) (a : Result (List ℕ) Halt) → r.outcome ≡ Some code.Done → kept ≡ r.output → IsSummed n classes kept a
    → IsDelivered (reply_of a) out out' err err' s → SumTold r n classes out out' err err' s
done_summed r n classes kept out out' err err' s (Ok text) is all sum del = inl (
  record { output = r.output; line = []; status = statuses.Done },
  record { output = refl; ended = subst (λ (o : Option code.Halt). IsToldAs o statuses.Done []) (sym is) (refl, refl) },
  subst (λ (t : List ℕ). IsDelivered (output_reply t) out out' err err' s) (sum ∙ ap (summary (suc n) classes) all) del,
)
done_summed r n classes kept out out' err err' s (Err h) is all sum del =
    inr (subst (λ (x : Halt). IsDelivered (reply_of (Err x)) out out' err err' s) sum del)

-- what was kept is what the run put
pub kept_all : (r : Report code.Halt) (o : Option code.Halt) (before kept : List ℕ) (f g : ℕ) → before ≡ [] → CameTo r o (Some before) (Some kept) f g → kept ≡ r.output
kept_all r o before kept f g e c = same_Some kept r.output (c.took ∙ ap (λ (b : List ℕ). Some (b ++ r.output)) e)

-- ---- the reply

module _ (job : BigJob) (range : InRange job.arena job.depth) (m : MachineState) (classes : ℕ) (makes : MakesBig job (Ok (m, classes)))
    (out out' err err' : SinkSeen) (s : Status) where
  run_summed : (run : Reply) → RunReply (mach m.image m.arena m.depth job.steps) run → BigReply job (summed job.count classes run)
  run_summed run steps =
      let of = makes.0 in
      let bounds : RunReply (mach m.image job.arena job.depth job.steps) run
      = subst (λ (k : ℕ). RunReply (mach m.image k job.depth job.steps) run) of.arena_is (subst (λ (d : ℕ). RunReply (mach m.image m.arena d job.steps) run) of.depth_is steps) in
      let rows = of.image.rows.are in
      BigReply.ran of.program of.text of.passes of.image.rows.naming.classes rows.classes run
      (tells_run of.program m.image (right_image of.program m.image of.image) job.arena job.depth job.steps range run bounds)
      (ap (λ (k : ℕ). summed job.count k run) (makes.1 ∙ Each-length _ rows.rows))

  pub sum_told : SumTold (mach m.image m.arena m.depth job.steps) job.count classes out out' err err' s → BigTold job out out' err err' s
  sum_told (inl (run, steps, del)) = (summed job.count classes run, inl (run_summed run steps), del)
  sum_told (inr del) = (memory_reply, inr refl, del)

pub halt_told : (job : BigJob) (h : Halt) (out out' err err' : SinkSeen) (s : Status) → MakesBig job (Err h) → IsDelivered (reply_of (Err h)) out out' err err' s → BigTold job out out' err err' s
halt_told job (halt.Refused line) out out' err err' s by del = (refused_reply line, inl (BigReply.refused line by refl), del)
halt_told job (halt.BadImage line) out out' err err' s by del = absurd by
halt_told job halt.Unread out out' err err' s by del = absurd by
halt_told job halt.Memory out out' err err' s by del = (memory_reply, inr refl, del)
