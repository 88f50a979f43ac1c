use Rattle.std.proofs.Common.{◌∙◌, ap, refl, sym, subst}
use Rattle.std.proofs.lemmas.Result.{IfOk-weaker}
use Rattle.jn_expr.proofs.Scopes.{scope_stays}
use Rattle.jn_expr.proofs.Granting.{formed}
use Rattle.jn_intern.specs.Pools.{scope_in}
use Rattle.jn_intern.proofs.Pools.{scope_kept}
use Rattle.jn_base.specs.declared.types.Ty.{Ty}
use Rattle.jn_base.specs.Atoms.{Among, first, atom_of, atoms_in}
use Rattle.jn_base.specs.Scopes.{Scope as TypeScope, bound}
use Rattle.jn_expr.proofs.CallDepths.{deep_moved, made_atom, made_among, made_bound}
use Rattle.jn_expr.proofs.makes.made_type.Goals as goal

pub normal_of-requires-clause-scope : goal.normal_of-requires-clause-scope
normal_of-requires-clause-scope c = scope_stays c.requires c.in_ok-id.ensures.keeps

pub returns-clause-is : goal.returns-clause-is
returns-clause-is c =
    IfOk-weaker c.normal_of.result _ _
    (λ u h. formed c.args.pool.now c.intern.new.self c.normal_of.new.pool c.args.scope.now c.in_ok-id.id u _ c.requires c.in_ok-id.ensures.keeps
    (c.in_ok-id.ensures.shows.1 ∙ c.in_ok-ty.ensures) h)
    c.normal_of.ensures.is

pub returns-clause-deep : goal.returns-clause-deep
returns-clause-deep c =
    IfOk-weaker c.normal_of.result _ _
    (λ u h.
    deep_moved refl refl
    (ap (λ (q : TypeScope). bound q (made_atom (atom_of c.args.x.now))) (scope_kept c.args.scope.now c.requires.known c.in_ok-id.ensures.keeps) ∙ made_bound (scope_in c.args.pool.now c.args.scope.now) (atom_of c.args.x.now))
    (h (made_atom (atom_of c.args.x.now)) (subst (λ (t : Ty). Among (atoms_in t) (made_atom (atom_of c.args.x.now))) (sym (c.in_ok-id.ensures.shows.1 ∙ c.in_ok-ty.ensures)) (made_among (atom_of c.args.x.now)))))
    c.normal_of.ensures.deep
