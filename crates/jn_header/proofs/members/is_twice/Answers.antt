use Rattle.jn_header.proofs.BadMembers.{many_bad, one_good, none_good}
use Rattle.jn_header.proofs.members.is_twice.Goals as goal

pub returns-in-None : goal.returns-in-None
returns-in-None c = λ p t R m n. none_good p t.known.items R c.args.f.now (c.in-None.ensures p t R m n)

pub returns-in-One : goal.returns-in-One
returns-in-One c = λ p t R m n. one_good p t.known.items R c.args.f.now c.in-One.field-0 (c.in-One.ensures p t R m n)

pub returns-in-Many : goal.returns-in-Many
returns-in-Many c = λ p t R m n. many_bad p t.known.items R c.args.f.now c.in-Many.field-0 c.in-Many.field-1 (c.in-Many.ensures p t R m n)
