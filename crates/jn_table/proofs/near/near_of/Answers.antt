use Rattle.jn_table.proofs.Nears.{near_is}
use Rattle.jn_table.proofs.near.near_of.Goals as goal

pub returns : goal.returns
returns c =
    near_is c.args.paths.now (record { ups = c.in_ok-ups.ups; members = c.in_ok-members.members })
    (rw (c.deref.ensures.value, c.in_ok-above.ensures) at c.in_ok-ups.ensures)
    (rw (c.deref-2.ensures.value, c.in_ok-above.ensures) at c.in_ok-members.ensures)
