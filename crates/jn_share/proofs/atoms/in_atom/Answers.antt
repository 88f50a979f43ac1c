use Rattle.jn_share.proofs.Inside.{in_front}
use Rattle.jn_share.proofs.atoms.in_atom.Goals as goal

pub returns-in-Some : goal.returns-in-Some
returns-in-Some c = λ p v U f w n. in_front p v U c.args.x.now c.in-Some.front.now c.is_inside.result (c.in-Some.ensures v w) (c.is_inside.ensures p U f n)
