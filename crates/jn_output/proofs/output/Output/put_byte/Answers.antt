use Rattle.std.proofs.Common.{arith, ◌≡◌, ◌∷◌, [], ◌++◌, length}
use Rattle.jn_output.proofs.Writing.{waits, sent, broken}
use Rattle.jn_output.proofs.output.Output.put_byte.Goals as goal

pub returns-then-len-eq8192-clause-wrote : goal.returns-then-len-eq8192-clause-wrote
returns-then-len-eq8192-clause-wrote g c =
    let d : c.deref.result.now ≡ c.push.new.self.items = c.deref.ensures.value in
    let e : c.deref.result.now ≡ c.args.self.now ++ c.args.b ∷ [] = cc (d, c.in-Ok.ensures.items, c.self.view_is) in
    let n : length c.push.new.self.items ≡ 8192 = omega arith in
    let m : length c.deref.result.now ≡ 8192 = cc (d, n) in sent _ _ _ _ _ _ _ e m c.clear.ensures.items c.put-done.ensures.taken

pub returns-then-len-eq8192-clause-cut : goal.returns-then-len-eq8192-clause-cut
returns-then-len-eq8192-clause-cut g c =
    let e : c.deref.result.now ≡ c.args.self.now ++ c.args.b ∷ [] = cc (c.deref.ensures.value, c.in-Ok.ensures.items, c.self.view_is) in
    broken _ _ _ _ _ e c.put-done.ensures.taken

pub returns-clause-wrote : goal.returns-clause-wrote
returns-clause-wrote g c =
    let e : c.push.new.self.items ≡ c.args.self.now ++ c.args.b ∷ [] = cc (c.in-Ok.ensures.items, c.self.view_is) in
    waits _ _ _ _ e
