use Rattle.std.proofs.Common.{Result}
use Rattle.jn_base.specs.declared.tree.Program.{Program}
use Rattle.jn_base.specs.declared.types.Atom.{Atom}
use Rattle.jn_base.specs.declared.refusal.Refusal.{Refusal}
use Rattle.jn_base.specs.Resolve.{Resolve}
use Rattle.jn_base.proofs.ResolveOnce.{term_once}
use Rattle.jn_names.proofs.Answering.{of_one, only_one}
use Rattle.jn_names.proofs.resolving.resolve.Goals as goal

pub returns-clause-told : goal.returns-clause-told
returns-clause-told c = λ filled.
    let T : Program → Result Atom Refusal → Type 0 = λ p o. Resolve p c.args.spot.now c.args.vars.now c.args.term.now o in
    of_one c.args.t.now T c.args.p.now filled c.atom_of.result c.atom_of.ensures

pub returns-clause-only : goal.returns-clause-only
returns-clause-only c = λ filled o.
    let T : Program → Result Atom Refusal → Type 0 = λ p o. Resolve p c.args.spot.now c.args.vars.now c.args.term.now o in
    only_one (T c.args.p.now) (term_once c.args.p.now c.args.spot.now c.args.vars.now c.args.term.now) c.atom_of.result
    (of_one c.args.t.now T c.args.p.now filled c.atom_of.result c.atom_of.ensures) o
