use Rattle.std.proofs.Common.{Option, subst, take, length, ◌≡◌, ◌∙◌, ap, ℕ}
use Rattle.std.specs.Prelude.{IfOk}
use Rattle.jn_base.specs.declared.types.Ty.{Ty}
use Rattle.jn_table.specs.declared.table.Table.{Table}
use Rattle.jn_sem.specs.Terms.{TypeIs}
use Rattle.jn_meaning.specs.Values.{path_at}
use Rattle.jn_meaning.specs.Tells.{Tells}
use Rattle.jn_meaning.specs.Sites.{site_with}
use Rattle.jn_meaning.specs.Leaving.{LeavesAs}
use Rattle.jn_meaning.proofs.Lists.{if_ok}
use Rattle.jn_meaning.proofs.Results.{returns_untyped, returns_typed}
use Rattle.jn_meaning.proofs.leaving.return_typed.Goals as goal

pub returns-in-None-found-clause-did : goal.returns-in-None-found-clause-did
returns-in-None-found-clause-did c =
    let p = c.args.w.now.program.now in
    let known = c.args.t.now.known.items in
    let f = c.args.f.now in
    let vars = c.truncate.new.self.vars in
    let is : vars.list ≡ take (length f.method.now.params) f.locals.vars.list = c.truncate.ensures.vars ∙ ap (λ (n : ℕ). take n f.locals.vars.list) c.len.ensures in
    returns_untyped p known c.args.h.now f c.args.ty.now c.args.v c.in-Some.class vars f.locals.paired c.in-Some.is is
    (subst (λ (o : Option Ty). Tells (TypeIs p (site_with (path_at known c.in-Some.class) f.method.now.name.name vars) c.args.ty.now) o) c.in-None-found.is c.in_ok-found-in-Some.ensures.told)

pub returns-clause-did : goal.returns-clause-did
returns-clause-did c =
    let p = c.args.w.now.program.now in
    let known = c.args.t.now.known.items in
    let f = c.args.f.now in
    let vars = c.truncate.new.self.vars in
    let is : vars.list ≡ take (length f.method.now.params) f.locals.vars.list = c.truncate.ensures.vars ∙ ap (λ (n : ℕ). take n f.locals.vars.list) c.len.ensures in
    if_ok c.leave_with.result
    (λ d k. returns_typed p known c.args.h.now f c.args.ty.now c.args.v c.in-Some.class vars f.locals.paired c.in-Some.is is c.in-Some-found.given c.in_ok-all-in-Some.all d
    (subst (λ (o : Option Ty). Tells (TypeIs p (site_with (path_at known c.in-Some.class) f.method.now.name.name vars) c.args.ty.now) o) c.in-Some-found.is c.in_ok-found-in-Some.ensures.told)
    c.in_ok-all-in-Some.ensures k)
    (subst (λ (u : Table). IfOk c.leave_with.result (λ d. LeavesAs p u.known.items c.args.h.now f.this c.in_ok-all-in-Some.all c.in-Some-found.given c.args.v d))
    c.in_ok-found-in-Some.ensures.kept c.leave_with.ensures)
