use Rattle.jn_intern.proofs.Pools.{keeps_more, scope_kept}
use Rattle.jn_expr.specs.Values.{typed_in}
use Rattle.jn_expr.proofs.Granting.{formed}
use Rattle.jn_expr.proofs.Viewing.{retyped}
use Rattle.jn_expr.proofs.Scopes.{scope_stays}
use Rattle.jn_expr.proofs.views.viewed.Goals as goal

pub normal_of-requires-clause-scope : goal.normal_of-requires-clause-scope
normal_of-requires-clause-scope c = scope_stays c.requires c.in_ok-id.ensures.keeps

pub plain_of-requires-clause-scope : goal.plain_of-requires-clause-scope
plain_of-requires-clause-scope c = scope_stays c.requires (keeps_more c.in_ok-id.ensures.keeps c.in_ok-form.ensures.keeps)

pub returns-clause-told : goal.returns-clause-told
returns-clause-told c = λ p.
    let k = keeps_more c.in_ok-id.ensures.keeps c.in_ok-form.ensures.keeps in
    retyped p (typed_in c.plain_of.new.env.pool c.args.scope.now) c.args.env.now.marks c.plain_of.new.env.marks c.plain_of.result _ _ _ _
    (formed c.args.env.now.pool c.intern.new.self c.normal_of.new.pool c.args.scope.now c.in_ok-id.id c.in_ok-form.form c.args.target.now c.requires c.in_ok-id.ensures.keeps
    c.in_ok-id.ensures.shows.1 c.in_ok-form.ensures.is).shows
    (scope_kept c.args.scope.now c.requires.known k) (c.plain_of.ensures.told p)

pub returns-clause-stays : goal.returns-clause-stays
returns-clause-stays c =
    record { same = c.plain_of.ensures.stays.same; pool = keeps_more c.in_ok-id.ensures.keeps (keeps_more c.in_ok-form.ensures.keeps c.plain_of.ensures.stays.pool) }
