use Rattle.std.proofs.Common.{◌∷◌, sym, subst, map, reverse, List}
use Rattle.jn_base.specs.declared.types.Ty.{Ty}
use Rattle.jn_base.specs.declared.types.Ty.TheVariants as ty
use Rattle.jn_base.specs.declared.types.Atom.{Atom as ShownAtom}
use Rattle.jn_base.specs.Scopes.{Scope, this_bind}
use Rattle.jn_base.specs.Resolve.{var_bind}
use Rattle.jn_sem.specs.Normal.{NormalType}
use Rattle.jn_meaning.proofs.normal.normal_type.Goals as goal

pub returns-in_ok-forms-in-Class : goal.returns-in_ok-forms-in-Class
returns-in_ok-forms-in-Class c =
    let s : Scope = reverse (this_bind (reverse c.args.class.now) ∷ map var_bind c.args.vars.now) in
    let u : Ty = ty.Class c.in_ok-forms-in-Class.forms c.in-Class.masks in
    let form : NormalType s (ty.Class c.in-Class.atoms c.in-Class.masks) u =
    subst (λ (xs : List ShownAtom). NormalType s (ty.Class xs c.in-Class.masks) u) c.as_slice.ensures
    (c.in_ok-forms-in-Class.ensures c.in-Class.masks) in
    subst (λ (t : Ty). NormalType s t u) (sym c.in-Class.is) form
