use Rattle.jn_table.proofs.groups.first_of.Goals as goal

pub returns-in-Some : goal.returns-in-Some
returns-in-Some c = λ keys are at. c.in-Some.ensures.some keys are

pub returns-in-None : goal.returns-in-None
returns-in-None c = λ keys are at. absurd (c.in-None.ensures.none keys are c.args.place at)
