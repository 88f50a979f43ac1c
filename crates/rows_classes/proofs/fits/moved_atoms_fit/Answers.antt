use Rattle.std.proofs.Common.{◌∙◌, List, ap, map, subst}
use Rattle.std.proofs.lemmas.Result.{IfOk-weaker}
use Rattle.jn_base.specs.declared.types.Atom.{Atom as ShownAtom}
use Rattle.jn_base.specs.Atoms.{Atom, atom_of}
use Rattle.jn_base.specs.Fits.{AtomsFit}
use Rattle.jn_subtype.specs.Binds.{binds_in}
use Rattle.rows_classes.proofs.fits.moved_atoms_fit.Goals as goal

pub returns : goal.returns
returns c =
    IfOk-weaker c.atoms_fit.result _ _
    (λ r h t. subst (λ (l : List Atom). AtomsFit (binds_in c.args.pool.now c.args.binds.now) l)
    (ap (λ (l : List ShownAtom). map atom_of l) c.as_slice.ensures ∙ c.in_ok-moved.ensures) (h t))
    c.atoms_fit.ensures
