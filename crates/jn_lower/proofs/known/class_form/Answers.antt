use Rattle.std.proofs.Common.{List, subst}
use Rattle.jn_base.specs.declared.tree.Name.{Name}
use Rattle.jn_base.specs.declared.types.Ty.TheVariants as ty
use Rattle.jn_base.specs.Atoms.{no_masks}
use Rattle.jn_sem.specs.Normal.{same_path, NormalType}
use Rattle.jn_sem.proofs.NormalTypes.{type_subst_is}
use Rattle.jn_lower.specs.Known.{scope_in}
use Rattle.jn_names.specs.Scoped.{scope_from}
use Rattle.std.specs.Prelude.{reverse}
use Rattle.jn_lower.proofs.known.class_form.Goals as goal

pub returns : goal.returns
returns c =
    let xs = c.args.xs.now in
    let vs = c.args.vars.now in
    let atoms = c.in_ok-atoms.atoms in
    let normal : NormalType (scope_in c.args.class.now vs) (ty.Class xs no_masks) (ty.Class atoms no_masks) =
    subst (λ (ns : List Name). NormalType (scope_from (reverse ns) vs) (ty.Class xs no_masks) (ty.Class atoms no_masks))
    c.as_slice.ensures (c.in_ok-atoms.ensures no_masks) in
    (type_subst_is (scope_in c.args.class.now vs) same_path (ty.Class xs no_masks) (ty.Class atoms no_masks)).0 normal
