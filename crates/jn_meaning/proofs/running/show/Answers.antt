use Rattle.std.proofs.Common.{Option, [], sym, subst}
use Rattle.std.proofs.lemmas.List.{append-nil}
use Rattle.jn_output.specs.Writes.{Wrote}
use Rattle.jn_output.proofs.Writing.{waits}
use Rattle.jn_meaning.specs.declared.did.Line.{Line}
use Rattle.jn_meaning.specs.Running.{put}
use Rattle.jn_meaning.proofs.running.show.Goals as goal

pub returns-in-None-clause-wrote : goal.returns-in-None-clause-wrote
returns-in-None-clause-wrote g c =
    let t = g.O.Sink.taken c.args.out.now in
    let b = c.args.output.now in
    subst (λ (l : Option Line). Wrote t t b b (put [] l)) (sym c.in-None.is) (waits t b b [] (sym (append-nil b)))
