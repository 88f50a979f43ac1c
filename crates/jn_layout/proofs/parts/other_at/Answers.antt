use Rattle.jn_layout.proofs.KinProof.{path_there}
use Rattle.jn_layout.proofs.PartProof.{other_none}
use Rattle.jn_layout.proofs.parts.other_at.Goals as goal

pub returns-then-not-is_class : goal.returns-then-not-is_class
returns-then-not-is_class c = λ p n f e all R a r. other_none p c.args.t.now n f e c.args.families.now all c.args.k c.args.j R c.is_class.result c.if-not-is_class.true c.is_class.ensures.is

pub returns : goal.returns
returns c = λ p n f e all R a r.
    let S = path_there p c.args.t.now f c.args.j (c.is_class.ensures.within c.if-not-is_class.false) in
    let class = (c.is_class.ensures.is p S.0 f S.1).0 c.if-not-is_class.false in
    c.other_pair.ensures c.args.t.now p n f e all R S.0 a S.1 (r S.0 S.1 class)
