use Rattle.jn_share.proofs.rows.row_of.Goals as goal

pub returns : goal.returns
returns c = λ p R f all a. record { group = c.group_of-group.ensures p R f a; own = c.own_of-own.ensures p R f all a }
