use Rattle.std.proofs.Common.{sym}
use Rattle.jn_meaning.proofs.Stored.{no_value, value_told}
use Rattle.jn_meaning.proofs.heap.value_in.Goals as goal

pub returns-in-None : goal.returns-in-None
returns-in-None c = sym (no_value c.args.t.now.known.items c.args.s c.args.stored.now c.in-None.ensures)

pub returns-in-Some-at : goal.returns-in-Some-at
returns-in-Some-at c =
    value_told c.args.t.now.known.items c.args.s c.args.stored.now c.in-Some.i c.in-Some-at.kept.now c.in-Some.ensures (sym c.in-Some-at.ensures)
