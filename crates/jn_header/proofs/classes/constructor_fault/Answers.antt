use Rattle.std.proofs.Common.{subst}
use Rattle.jn_base.specs.Paths.{Path}
use Rattle.jn_table.specs.Rows.{IsNumber}
use Rattle.jn_header.proofs.ClassFaults.{constructor_bad}
use Rattle.jn_header.proofs.Finding.{not_so}
use Rattle.jn_header.proofs.classes.constructor_fault.Goals as goal

pub returns-else-constructor_passes : goal.returns-else-constructor_passes
returns-else-constructor_passes c = λ R n.
    constructor_bad c.args.p.now R c.in-Some.name c.last_at.result c.place_of.result c.in-Some.is (c.last_at.ensures R n)
    (λ P e. not_so c.if-constructor_passes.false (c.constructor_passes.ensures c.args.p.now P c.requires.bodies (subst (λ (S : Path). IsNumber c.args.t.now.known.items c.args.id S) e n)))
    (c.place_of.ensures R n)
