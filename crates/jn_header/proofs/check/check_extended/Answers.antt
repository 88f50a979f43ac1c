use Rattle.jn_header.proofs.Checking.{refused_unknown, all_passed}
use Rattle.jn_header.proofs.check.check_extended.Goals as goal

pub returns-in-Some : goal.returns-in-Some
returns-in-Some c = refused_unknown c.args.p.now c.requires.universe _ _ c.in-Some.is c.in_ok-refusal.ensures

pub returns-in-None : goal.returns-in-None
returns-in-None c = all_passed c.args.p.now c.requires.universe _ c.in-None.is c.in_ok-refusal.ensures
