use Rattle.std.proofs.Common.{Option, subst}
use Rattle.std.specs.Prelude.{IfOk}
use Rattle.jn_base.specs.declared.types.Ty.{Ty}
use Rattle.jn_table.specs.declared.table.Table.{Table}
use Rattle.jn_sem.specs.Does.{var}
use Rattle.jn_sem.specs.Terms.{TypeIs}
use Rattle.jn_meaning.specs.Values.{path_at}
use Rattle.jn_meaning.specs.Tells.{Tells}
use Rattle.jn_meaning.specs.Sites.{site_with}
use Rattle.jn_meaning.specs.Binding.{BindsAs}
use Rattle.jn_meaning.proofs.Lists.{if_ok}
use Rattle.jn_meaning.proofs.LocalsBound.{binds_untyped, binds_typed}
use Rattle.jn_meaning.proofs.binding.bind.Goals as goal

pub returns-in-None-found-clause-did : goal.returns-in-None-found-clause-did
returns-in-None-found-clause-did c =
    let p = c.args.w.now.program.now in
    let known = c.args.t.now.known.items in
    let f = c.args.f.now in
    binds_untyped p known c.args.h.now f c.in-Some.v c.pop.new.self c.args.fixed c.args.ty.now c.args.x c.args.path c.in-Some-class.class f.locals.paired c.in-Some.ensures c.in-Some-class.is
    (subst (λ (o : Option Ty). Tells (TypeIs p (site_with (path_at known c.in-Some-class.class) f.method.now.name.name f.locals.vars) c.args.ty.now) o) c.in-None-found.is c.in_ok-found-in-Some-class.ensures.told)

pub returns-in-Some-found-clause-did : goal.returns-in-Some-found-clause-did
returns-in-Some-found-clause-did c =
    let p = c.args.w.now.program.now in
    let known = c.args.t.now.known.items in
    let f = c.args.f.now in
    if_ok c.bind_as.result
    (λ d k. binds_typed p known c.args.h.now f c.in-Some.v c.pop.new.self c.args.fixed c.args.ty.now c.args.x c.args.path c.in-Some-class.class f.locals.paired c.in-Some.ensures c.in-Some-class.is
    c.bind_as.new.f d c.in-Some-found.given
    (subst (λ (o : Option Ty). Tells (TypeIs p (site_with (path_at known c.in-Some-class.class) f.method.now.name.name f.locals.vars) c.args.ty.now) o) c.in-Some-found.is c.in_ok-found-in-Some-class.ensures.told) k)
    (subst (λ (u : Table). IfOk c.bind_as.result (λ d. BindsAs p u.known.items c.args.h.now (record f { vals = c.pop.new.self }) (var c.args.x c.args.path c.args.fixed c.in-Some-found.given) c.in-Some.v d c.bind_as.new.f))
    c.in_ok-found-in-Some-class.ensures.kept c.bind_as.ensures)
