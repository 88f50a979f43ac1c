use Rattle.std.proofs.Common.{◌∙◌, ◌||◌, Bool, nat_eq, ap}
use Rattle.std.proofs.lemmas.Cmp.{nat_eq_equiv}
use Rattle.jn_header.specs.First.{has_number}
use Rattle.jn_header.proofs.TwiceSteps.{or_cond}
use Rattle.jn_header.proofs.twice.add_number.Goals as goal

pub returns : goal.returns
returns c = λ n.
    c.in_ok-insert_full.ensures.updates.0 n.0
    ∙ (or_cond (nat_eq c.args.name.0 n.0) (has_number c.args.names.now.keys n)
    ∙ ap (λ (b : Bool). b || has_number c.args.names.now.keys n) (nat_eq_equiv.symm c.args.name.0 n.0))
