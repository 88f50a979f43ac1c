use Rattle.jn_reach.proofs.Searches.{iff_true, iff_false}
use Rattle.jn_names.proofs.Numbered.{numbered_known, none_known}
use Rattle.jn_names.proofs.bound.Bound.is_known.Goals as goal

pub returns-in-Some : goal.returns-in-Some
returns-in-Some c = λ p f. iff_true (numbered_known p c.args.t.now c.args.self.now _ f c.in-Some.ensures.some)

pub returns-in-None : goal.returns-in-None
returns-in-None c = λ p f. iff_false (none_known p c.args.t.now c.args.self.now f c.in-None.ensures.none)
