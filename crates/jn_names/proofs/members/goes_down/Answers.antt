use Rattle.jn_names.proofs.members.goes_down.Goals as goal

pub returns-then-is_among : goal.returns-then-is_among
returns-then-is_among c = λ h. c.is_among.ensures.0 c.if-is_among.true
