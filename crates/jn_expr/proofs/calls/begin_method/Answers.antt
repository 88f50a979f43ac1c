use Rattle.std.proofs.Common.{◌∙◌, ap, subst, reverse, Some}
use Rattle.std.proofs.lemmas.List.{reverse-reverse}
use Rattle.jn_base.specs.declared.path.Path.{Path as ShownPath}
use Rattle.jn_base.specs.Paths.{Path}
use Rattle.jn_base.specs.Members.{MethodAt}
use Rattle.jn_expr.specs.Envs.{here_at}
use Rattle.jn_expr.specs.Values.{typed_in}
use Rattle.jn_expr.specs.Calling.{body_of, receiver_left, called}
use Rattle.jn_expr.proofs.CallSteps.{method_told, owner_fault_leads}
use Rattle.jn_expr.proofs.CallDepths.{own_name}
use Rattle.jn_expr.specs.declared.env.Call.{Call}
use Rattle.jn_heads.specs.Params.{header_in}
use Rattle.jn_intern.specs.Pools.{scope_in}
use Rattle.jn_rules.specs.Exprs.{suffix_typed}
use Rattle.jn_expr.proofs.calls.begin_method.Goals as goal

pub returns-clause-told : goal.returns-clause-told
returns-clause-told c = λ es e.
    method_told c.args.p.now _ (here_at c.args.class.now c.args.m.now c.args.env.now.vars.list) c.args.name.now (body_of c.in-Ok.owner c.in-Some.method.now) es c.args.count
    (typed_in c.args.env.now.pool c.args.scope.now c.args.x) c.args.env.now.marks c.args.env.now.marks c.enter_with.new.env.marks
    c.enter_with.new.env.pool c.args.scope.now c.enter_with.new.scope
    (c.in-Ok.ensures.told es c.in-Some.method.now
    (subst (λ (Q : Path). MethodAt c.args.p.now Q c.args.name.now.name c.in-Some.method.now)
    (ap (λ (q : ShownPath). reverse q.names) c.in_ok-path-in-Ok.ensures ∙ reverse-reverse c.in-Ok.owner) c.in-Some.ensures)) c.enter_with.result e c.enter_with.ensures.told c.enter_with.ensures.call

pub enter_with-requires-clause-at : goal.enter_with-requires-clause-at
enter_with-requires-clause-at c =
    own_name
    (subst (λ (Q : Path). MethodAt c.args.p.now Q c.args.name.now.name c.in-Some.method.now)
    (ap (λ (q : ShownPath). reverse q.names) c.in_ok-path-in-Ok.ensures ∙ reverse-reverse c.in-Ok.owner) c.in-Some.ensures)

pub returns-in-Err-clause-told : goal.returns-in-Err-clause-told
returns-in-Err-clause-told c = λ es e.
    let h = here_at c.args.class.now c.args.m.now c.args.env.now.vars.list in
    let x = typed_in c.args.env.now.pool c.args.scope.now c.args.x in
    owner_fault_leads c.args.p.now c.args.name.now.name (suffix_typed h c.args.name.now (Some es) c.args.at x) (receiver_left h c.args.name.now es x)
    (λ (call : Call). called h (header_in c.args.env.now.pool call.header) es call.paths.items (scope_in c.args.env.now.pool c.args.scope.now)) c.args.env.now.marks
    c.args.env.now.marks c.args.env.now.marks c.in-Err.fault (c.in-Err.ensures.told es)
