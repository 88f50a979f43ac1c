use Rattle.std.proofs.Common.{◌∙◌, ap, refl}
use Rattle.jn_big.specs.Kept.{KeptState}
use Rattle.jn_drive.specs.declared.status.Status.TheVariants as statuses
use Rattle.jn_drive.proofs.BigRuns.{done_summed, memory_summed, line_summed, kept_all}
use Rattle.jn_drive.proofs.big.tell_sum.Goals as goal

pub returns-in-Done : goal.returns-in-Done
returns-in-Done g c =
    let all = c.bytes.ensures ∙ kept_all _ _ _ _ _ _ (ap (λ (k : KeptState). k.taken) c.new-kept.ensures) c.in-Done.ensures.ended in
    done_summed _ _ _ c.bytes.result.now _ _ _ _ _ c.summed.result c.in-Done.ensures.ended.came all c.summed.ensures c.deliver.ensures

pub returns-in-WriteFault : goal.returns-in-WriteFault
returns-in-WriteFault g c = memory_summed _ _ _ _ _ _ _ c.no_memory.ensures

pub returns-in-Null : goal.returns-in-Null
returns-in-Null g c = line_summed _ _ _ _ _ _ _ _ statuses.Null _ c.in-Null.ensures.ended.came (refl, refl) refl c.tell_end.ensures

pub returns-in-Zero : goal.returns-in-Zero
returns-in-Zero g c = line_summed _ _ _ _ _ _ _ _ statuses.Zero _ c.in-Zero.ensures.ended.came (refl, refl) refl c.tell_end-in-Zero.ensures

pub returns-in-Arena : goal.returns-in-Arena
returns-in-Arena g c = line_summed _ _ _ _ _ _ _ _ statuses.Arena _ c.in-Arena.ensures.ended.came (refl, refl) refl c.tell_end-in-Arena.ensures

pub returns-in-Depth : goal.returns-in-Depth
returns-in-Depth g c = line_summed _ _ _ _ _ _ _ _ statuses.Depth _ c.in-Depth.ensures.ended.came (refl, refl) refl c.tell_end-in-Depth.ensures

pub returns : goal.returns
returns g c = line_summed _ _ _ _ _ _ _ _ statuses.Steps _ c.in-Steps.ensures.ended.came (refl, refl) refl c.tell_end-in-Steps.ensures
