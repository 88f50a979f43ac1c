use Rattle.std.proofs.Common.{subst, sym}
use Rattle.jn_sem.specs.Acts as acts
use Rattle.jn_meaning.specs.declared.did.Did.{Did}
use Rattle.jn_meaning.specs.Frames.{Plainly}
use Rattle.jn_meaning.proofs.Steps.{reads_none, reads}
use Rattle.jn_meaning.proofs.plain.read.Goals as goal

pub returns-in-None : goal.returns-in-None
returns-in-None c =
    let f = c.args.f.now in
    subst (λ (d : Did). Plainly (acts.Read c.args.x) f d f) (sym c.missing.ensures) (reads_none f c.args.x c.in-None.ensures)

pub returns-in_ok-push-in-Some-value : goal.returns-in_ok-push-in-Some-value
returns-in_ok-push-in-Some-value c =
    reads c.args.f.now c.args.x c.in-Some.i c.in-Some-value.v c.push.new.self c.in-Some.ensures (sym c.in-Some-value.ensures) c.in_ok-push-in-Some-value.ensures
