use Rattle.std.proofs.Common.{rules, ◌<◌, length, ◌≡◌, ◌∷◌}
use Rattle.jn_meaning.proofs.Lists.{if_ok}
use Rattle.jn_meaning.proofs.CalledFrames.{first_taken, enters_body}
use Rattle.jn_meaning.proofs.entering.enter.Goals as goal

pub returns : goal.returns
returns c =
    let all = c.args.called.args.items in
    let some : 0 < length all = search rules in
    let is : all ≡ c.remove-this.result ∷ c.remove-this.new.self.items = first_taken all c.remove-this.new.self.items c.remove-this.result some c.remove-this.ensures.value c.remove-this.ensures.by_index.2 in
    if_ok c.begin_body.result
    (λ o k. enters_body c.args.w.now.program.now c.args.t.now.known.items c.args.depth c.args.called c.args.now.now c.args.waiting.now.items c.args.h.now (search rules) c.remove-this.result c.remove-this.new.self.items is c.in_ok-f.f c.in_ok-f.ensures o c.begin_body.new.now c.begin_body.new.waiting.items k)
    c.begin_body.ensures
