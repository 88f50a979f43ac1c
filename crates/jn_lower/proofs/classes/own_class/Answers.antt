use Rattle.jn_lower.proofs.Seams.{on_ok}
use Rattle.jn_lower.proofs.ClassCodes.{own_added}
use Rattle.jn_lower.proofs.classes.own_class.Goals as goal

pub returns : goal.returns
returns c =
    on_ok c.push.result
    (λ adds n classes. own_added c.args.t.now n c.args.x.now c.in_ok-path.path c.in-Some.id.0 c.args.out.now
    c.push.new.self classes c.requires c.in_ok-path.ensures c.in-Some.ensures.path adds) c.push.ensures.ok
