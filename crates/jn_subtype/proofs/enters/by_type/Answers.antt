use Rattle.std.proofs.Common.{◌≡◌, ◌↔◌, ◌∙◌, List, map, Contains, ap, sym, subst}
use Rattle.std.proofs.lemmas.Result.{IfOk-weaker}
use Rattle.jn_base.specs.Atoms.{Atom, atom_of, atoms_in}
use Rattle.jn_intern.specs.Pools.{scope_in}
use Rattle.jn_subtype.specs.Turns.{Replaces}
use Rattle.jn_subtype.proofs.enters.by_type.Goals as goal

pub returns-in-Class-clause-exact : goal.returns-in-Class-clause-exact
returns-in-Class-clause-exact c =
    let s = scope_in c.args.pool.now c.args.scope.now in
    let same : map atom_of c.as_slice.result.now ≡ atoms_in c.args.ty.now = ap (map atom_of) c.as_slice.ensures ∙ sym (ap atoms_in c.in-Class.is) in
    IfOk-weaker c.by_atoms.result _ _
    (λ ts h p f t. subst (λ (zs : List Atom). Contains ts.items t ↔ Replaces p s zs c.args.k c.args.w.now t) same (h p f t))
    c.by_atoms.ensures.exact
