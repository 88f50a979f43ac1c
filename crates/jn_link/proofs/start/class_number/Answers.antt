use Rattle.jn_link.proofs.Starting.{top_number}
use Rattle.jn_link.proofs.start.class_number.Goals as goal

pub returns : goal.returns
returns c = λ n classes.
    top_number c.args.t.now n c.in_ok-path.path c.args.class c.in-Some.id.0 classes c.in_ok-path.ensures
    c.in-Some.ensures.path
