use Rattle.std.proofs.Common.{refl}
use Rattle.jn_meaning.specs.Values.{path_at}
use Rattle.jn_meaning.proofs.ClassNumbers.{class_number}
use Rattle.jn_meaning.proofs.finding.slot_at.Goals as goal

pub returns-in-None : goal.returns-in-None
returns-in-None c = λ s h.
    let p = c.args.w.now.program.now in
    let known = c.args.t.now.known.items in
    let V = path_at known c.args.id in
    let none = (c.in-None.ensures.none p known V c.requires.stands.slots (class_number p known c.args.id c.requires.class) c.requires.class).0 refl in
    none h.first.holds.both.in_other
