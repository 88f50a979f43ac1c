use Rattle.std.proofs.Common.{Option, subst, rules}
use Rattle.jn_base.specs.declared.types.Atom.{Atom as ShownAtom}
use Rattle.jn_base.specs.declared.names.Role.TheVariants as role
use Rattle.jn_meaning.specs.Values.{path_at}
use Rattle.jn_meaning.specs.Sites.{site_with, TermTold}
use Rattle.jn_meaning.proofs.Supers.{no_bound, bound_told}
use Rattle.jn_meaning.proofs.calling.super_bound.Goals as goal

pub returns-in-None-found-clause-told : goal.returns-in-None-found-clause-told
returns-in-None-found-clause-told c =
    let p = c.args.w.now.program.now in
    let known = c.args.t.now.known.items in
    let f = c.args.f.now in
    no_bound p known f c.args.term.now c.in-Some.class f.locals.paired c.in-Some.is
    (subst (λ (o : Option ShownAtom). TermTold p role.Super (site_with (path_at known c.in-Some.class) f.method.now.name.name f.locals.vars) c.args.term.now o) c.in-None-found.is c.in_ok-found-in-Some.ensures.told)

pub returns-in_ok-b-in-Some-found-clause-told : goal.returns-in_ok-b-in-Some-found-clause-told
returns-in_ok-b-in-Some-found-clause-told c =
    let p = c.args.w.now.program.now in
    let known = c.args.t.now.known.items in
    let f = c.args.f.now in
    bound_told p known f c.args.term.now c.in-Some.class f.locals.paired c.in-Some.is c.in-Some-found.x
    (subst (λ (o : Option ShownAtom). TermTold p role.Super (site_with (path_at known c.in-Some.class) f.method.now.name.name f.locals.vars) c.args.term.now o) c.in-Some-found.is c.in_ok-found-in-Some.ensures.told)
    c.in_ok-outer-in-Some-found.outer c.in_ok-b-in-Some-found.b (search rules) (search rules)
