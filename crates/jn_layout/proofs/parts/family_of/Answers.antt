use Rattle.jn_layout.proofs.PartProof.{family_told, no_family}
use Rattle.jn_layout.proofs.parts.family_of.Goals as goal

pub returns-in-None : goal.returns-in-None
returns-in-None c = λ t p n f e all R Y a y. absurd (no_family t c.args.families.now all c.args.k c.in-None.ensures R Y a y)

pub returns-in-Some : goal.returns-in-Some
returns-in-Some c = λ t p n f e all R Y a y.
    family_told t c.args.families.now n e all c.args.k c.in-Some.family.now c.two_bytes.result (c.in-Some.ensures) c.two_bytes.ensures R Y a y
