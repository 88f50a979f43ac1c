use Rattle.std.proofs.Common.{◌∙◌, ap, sym, subst, List, All, map}
use Rattle.jn_base.specs.declared.types.Atom.{Atom as ShownAtom}
use Rattle.jn_base.specs.Atoms.{Atom, atom_of}
use Rattle.jn_base.specs.Fits.{Anchored}
use Rattle.jn_sem.specs.Normal.{moved_anchor, swapped, MovedFits}
use Rattle.jn_sem.specs.NormalFunction.{in_order, moved_normal, subst_type}
use Rattle.jn_intern.specs.Pools.{scope_in}
use Rattle.jn_normal.proofs.Replacing.{moved_anchored, shown_type}
use Rattle.jn_normal.proofs.substitution.substituted.Goals as goal

pub normals-requires-clause-anchored : goal.normals-requires-clause-anchored
normals-requires-clause-anchored c =
    let s = scope_in c.args.pool.now c.args.scope.now in
    let f = swapped c.args.from.now c.args.to.now in
    subst (All (λ (x : ShownAtom). Anchored s (moved_anchor f x.anchor))) (sym c.as_slice.ensures)
    (moved_anchored s f c.in-Class.atoms c.in-Class.masks (subst (MovedFits s f) c.in-Class.is c.requires.type_fits))

pub returns-in_ok-shown-in-Class : goal.returns-in_ok-shown-in-Class
returns-in_ok-shown-in-Class c =
    let s = scope_in c.args.pool.now c.args.scope.now in
    let f = swapped c.args.from.now c.args.to.now in
    let form : List ShownAtom → List Atom = λ xs. map (moved_normal s f) (map atom_of xs) in
    shown_type s f c.in-Class.atoms c.in_ok-shown-in-Class.shown c.in-Class.masks
    (c.in_ok-shown-in-Class.ensures ∙ c.in_ok-sorted-in-Class.ensures ∙ ap in_order c.in_ok-forms-in-Class.ensures ∙ ap (λ (xs : List ShownAtom). in_order (form xs)) c.as_slice.ensures)
    ∙ ap (subst_type s f) (sym c.in-Class.is)
