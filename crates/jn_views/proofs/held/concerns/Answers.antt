use Rattle.std.proofs.Common.{map, refl}
use Rattle.jn_base.specs.Atoms.{atom_of, atoms_in}
use Rattle.jn_sem.specs.Sets.{no_views}
use Rattle.jn_views.proofs.Holding.{class_in, no_class, concerns_class}
use Rattle.jn_views.proofs.held.concerns.Goals as goal

pub returns-in-Class : goal.returns-in-Class
returns-in-Class c = λ p U f at.
    concerns_class p U (map atom_of c.atoms.result.now) (atoms_in c.args.from.now) c.atoms.ensures c.in_atoms.result
    (class_in p c.args.t.now f c.args.u U at c.row.result.now c.row.ensures c.in-Class.is) (c.in_atoms.ensures p no_views U f refl at)

pub returns-in-Package : goal.returns-in-Package
returns-in-Package c = λ p U f at. (
  λ t. absurd (cc t),
  λ h. absurd (no_class p c.args.t.now f c.args.u U at c.row.result.now c.row.ensures c.in-Package.is h.0),
)
