use Rattle.std.proofs.Common.{◌≡◌}
use Rattle.jn_output.proofs.Writing.{broken}
use Rattle.jn_output.proofs.output.Output.flush.Goals as goal

pub returns-clause-cut : goal.returns-clause-cut
returns-clause-cut g c =
    let e : c.deref.result.now ≡ c.args.self.now = cc (c.deref.ensures.value, c.self.view_is) in
    broken _ _ _ _ _ e c.put-done.ensures.taken
