use Rattle.std.proofs.Common.{◌∙◌, ◌∷◌, ap, map, reverse}
use Rattle.jn_base.specs.declared.types.Ty.{Ty}
use Rattle.jn_base.specs.Atoms.{atom_of}
use Rattle.jn_base.specs.Scopes.{Scope, this_bind}
use Rattle.jn_base.specs.Resolve.{var_bind}
use Rattle.jn_sem.specs.Normal.{normal}
use Rattle.jn_sem.specs.NormalFunction.{in_order}
use Rattle.jn_forms.proofs.NormalForms.{class_normal, if_ok}
use Rattle.jn_forms.proofs.normal.normal_atoms.Goals as goal

pub returns : goal.returns
returns c =
    let by : Ty → Scope = λ t. reverse (record { path = 0; ty = t } ∷ map var_bind c.args.vars.now) in
    let s : Scope = reverse (this_bind (reverse c.args.class.now) ∷ map var_bind c.args.vars.now) in
    let xs = c.args.xs.now in
    if_ok c.forms.result (λ ys e m. class_normal s xs ys m
    (e ∙ ap (λ (t : Ty). in_order (map (normal (by t)) (map atom_of xs))) c.in_ok-this.ensures)) c.forms.ensures
