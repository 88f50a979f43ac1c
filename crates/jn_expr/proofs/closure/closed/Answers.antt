use Rattle.std.proofs.Common.{◌≡◌, ◌↔◌, ◌∙◌, ap, sym, subst, List, All, Contains, map}
use Rattle.std.proofs.lemmas.Result.{IfOk-weaker}
use Rattle.jn_base.specs.declared.types.Atom.{Atom as ShownAtom}
use Rattle.jn_base.specs.Atoms.{Atom, atom_of, atoms_in}
use Rattle.jn_base.specs.Fits.{Anchored, TypeFits}
use Rattle.jn_intern.specs.Pools.{scope_in}
use Rattle.jn_sem.specs.RootClosure.{InClosure}
use Rattle.jn_expr.proofs.Fitting.{class_anchored}
use Rattle.jn_expr.proofs.Closing.{is_closure}
use Rattle.jn_expr.proofs.closure.closed.Goals as goal

pub close_atoms-requires-clause-anchored : goal.close_atoms-requires-clause-anchored
close_atoms-requires-clause-anchored c =
    let s = scope_in c.args.pool.now c.args.scope.now in
    subst (All (λ (x : ShownAtom). Anchored s x.anchor)) (sym c.as_slice.ensures)
    (class_anchored s c.in-Class.xs _ (subst (TypeFits s) c.in-Class.is c.requires.ty))

pub returns-in-Class : goal.returns-in-Class
returns-in-Class c =
    let s = scope_in c.args.pool.now c.args.scope.now in
    let same : map atom_of c.as_slice.result.now ≡ atoms_in c.args.ty.now = ap (map atom_of) c.as_slice.ensures ∙ sym (ap atoms_in c.in-Class.is) in
    IfOk-weaker c.close_atoms.result _ _
    (λ ts h p f. is_closure p s c.args.ty.now ts (λ z. subst (λ (zs : List Atom). Contains (map atom_of ts) z ↔ InClosure p s zs z) same (h p f z)))
    c.close_atoms.ensures
