use Rattle.std.proofs.Common.{◌≡◌, ◌∙◌, ap, sym, subst, Option, Some}
use Rattle.jn_base.specs.declared.types.Anchor.{Anchor}
use Rattle.jn_base.specs.declared.types.Atom.{Atom}
use Rattle.jn_intern.specs.Pools.{scope_in, shown}
use Rattle.jn_rules.specs.Exprs.{by_sharing, viewed_as}
use Rattle.jn_expr.specs.Told.{PlanTold}
use Rattle.jn_expr.specs.Values.{typed_in}
use Rattle.jn_expr.proofs.views.unless_path.Goals as goal

inner : {x y : Atom} → (let o : Option Atom = Some x in o ≡ Some y) → x ≡ y
inner e = cc e

pub returns-in-Root-clause-told : goal.returns-in-Root-clause-told
returns-in-Root-clause-told c = λ u e.
    let s = scope_in c.args.env.now.pool c.args.scope.now in
    let t = shown c.args.env.now.pool c.args.from in
    let same : c.in-Some.atom.now ≡ u.atom = inner (c.in-Some.ensures u e) in
    subst (λ (a : Anchor). PlanTold c.args.p.now (by_sharing c.args.at s t u (viewed_as u s) a) (typed_in c.by_sharing.new.env.pool c.args.scope.now) c.args.env.now.marks
    c.by_sharing.new.env.marks c.by_sharing.result)
    (sym (sym (ap (λ (x : Atom). x.anchor) same) ∙ c.in-Root.is)) (c.by_sharing.ensures.told u e same)
