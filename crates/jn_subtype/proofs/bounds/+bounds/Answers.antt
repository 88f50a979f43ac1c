use Rattle.std.proofs.Common.{◌∙◌, List, take, get_or, arith, sym, ap}
use Rattle.std.proofs.lemmas.List.{length-take-le}
use Rattle.std.proofs.lemmas.List.Elements.{All-take}
use Rattle.std.proofs.lemmas.Result.{IfOk-weaker}
use Rattle.jn_base.specs.declared.types.Ty.{Ty}
use Rattle.jn_base.specs.Atoms.{atoms_in, first_at}
use Rattle.jn_base.specs.Scopes.{Scope as TypeScope, bound_of}
use Rattle.jn_intern.specs.declared.scope.Bind.{Bind}
use Rattle.jn_intern.specs.Pools.{InPool}
use Rattle.jn_normal.proofs.Turning.{front_fits}
use Rattle.jn_subtype.specs.Binds.{binds_in}
use Rattle.jn_subtype.proofs.Newest.{read_at, whole_is}
use Rattle.jn_subtype.proofs.bounds.+bounds.Goals as goal

-- what is read where there is no bind
abbrev nothing : Bind
nothing = record { path = 0; ty = record { 0 = 0 } }

pub bound_of_path-bound_of_first-requires : goal.bound_of_path-bound_of_first-requires
bound_of_path-bound_of_first-requires t c =
    let bs : List Bind = c.args.binds.now in
    let within = c.in-Some.ensures.within in (
      omega (arith, c.decreases, within, length-take-le c.in-Some.i bs (omega (arith, within))),
      (All-take (λ (b : Bind). InPool c.args.pool.now b.ty) c.in-Some.i bs c.requires.known, λ e. front_fits c.args.pool.now bs c.in-Some.i (c.requires.fits e)),
    )

pub bound_of_path-returns-in-Some : goal.bound_of_path-returns-in-Some
bound_of_path-returns-in-Some t c =
    let pool : List Ty = c.args.pool.now in
    let bs : List Bind = c.args.binds.now in
    let i = c.in-Some.i in
    let newest = c.in-Some.ensures.newest pool (get_or bs i nothing) (read_at bs i nothing c.in-Some.ensures.within) in
    IfOk-weaker c.bound_of_first.result _ _
    (λ b h. h ∙ (ap (λ (u : Ty). first_at (bound_of (binds_in pool (take i bs))) (atoms_in u)) c.show.ensures
    ∙ (sym newest ∙ ap (λ (s : TypeScope). bound_of s c.args.path) (whole_is pool bs))))
    c.bound_of_first.ensures
