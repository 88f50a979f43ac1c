use Rattle.std.proofs.Common.{[], ◌∷◌, ◌++◌}
use Rattle.jn_output.specs.Writes.{Cut}
use Rattle.jn_output.proofs.Writing.{both, later_cut, then_ok, then_err}
use Rattle.jn_output.proofs.output.Output.line.Goals as goal

pub returns-clause-wrote : goal.returns-clause-wrote
returns-clause-wrote g c =
    then_ok _ _ _ (λ w. both _ _ _ _ _ _ _ _ c.in_ok-put_all.ensures.wrote w) c.put_byte.ensures.wrote

pub returns-clause-cut : goal.returns-clause-cut
returns-clause-cut g c =
    let now = g.K.Sink.taken c.put_byte.new.sink in
    then_err c.put_byte.result (Cut (g.K.Sink.taken c.put_all.new.sink) now (c.put_all.new.self ++ 10 ∷ [])) (Cut (g.K.Sink.taken c.args.sink.now) now (c.args.self.now ++ (c.args.text.now ++ 10 ∷ []))) (λ q. later_cut _ _ _ _ _ _ _ c.in_ok-put_all.ensures.wrote q) c.put_byte.ensures.cut
