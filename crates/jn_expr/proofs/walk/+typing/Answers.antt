use Rattle.std.proofs.Common.{◌≡◌, ◌<◌, ◌≤◌, ◌∙◌, ◌+◌, ◌-◌, ℕ, List, length, drop, get_or, reverse, Option, Some, None, Ok, Err, refl, sym, ap, subst, arith, rules}
use Rattle.std.proofs.lemmas.List.{reverse-reverse}
use Rattle.jn_base.specs.declared.path.Path.{Path as ShownPath}
use Rattle.jn_base.specs.declared.tree.Expr.{Expr}
use Rattle.jn_base.specs.declared.tree.Suffix.{Suffix, out-Suffix}
use Rattle.jn_base.specs.declared.tree.Link.{Link}
use Rattle.jn_base.specs.declared.names.Role.TheVariants as role
use Rattle.jn_base.specs.declared.names.Var.{Var}
use Rattle.jn_base.specs.declared.types.Ty.TheVariants as ty
use Rattle.jn_base.specs.Members.{MethodAt}
use Rattle.jn_base.specs.Paths.{Path}
use Rattle.jn_base.specs.Resolve.{var_named}
use Rattle.jn_base.specs.Scopes.{Scope as TypeScope, Binds, bound_of}
use Rattle.jn_heads.specs.declared.params.Header.{Header as CodeHeader}
use Rattle.jn_heads.specs.Params.{header_in}
use Rattle.jn_intern.specs.Pools.{scope_in, shown}
use Rattle.jn_intern.proofs.Pools.{keeps_more, scope_kept}
use Rattle.jn_rules.specs.Plans.{Target, OfTerm, OfView, ask, then_do, taken}
use Rattle.jn_rules.specs.Headers.{Header as TypedHeader}
use Rattle.jn_rules.specs.Exprs.{Typed, Passed, site_here, expr_types, links_typed, suffix_typed, suffixes_typed, args_typed, new_typed, super_typed, super_gives, view_typed, constraints_granted, result_gives, gives, plain, of_path, var_gives, takes}
use Rattle.jn_rules.specs.Forms.{typed_expr, typed_args, typed_links, typed_parts, part_types, given_args}
use Rattle.jn_expr.specs.declared.env.Call.{Call}
use Rattle.jn_expr.specs.Envs.{here_at}
use Rattle.jn_expr.specs.Told.{PlanTold}
use Rattle.jn_expr.specs.Values.{typed_in}
use Rattle.jn_expr.specs.Steps.{inverted, negated, link_typed, passed_in}
use Rattle.jn_expr.specs.Calling.{body_of, called}
use Rattle.jn_expr.specs.Making.{made_call, made_left}
use Rattle.jn_expr.specs.Supering.{super_left}
use Rattle.jn_expr.specs.Viewing.{changed}
use Rattle.jn_expr.proofs.Leading.{leads_here, leads_told}
use Rattle.jn_expr.proofs.Scopes.{scope_stays, stays_same, stays_more, parts_stay, vars_stay, grows_none, grows_more}
use Rattle.jn_expr.proofs.Walking.{then_told, then_fault, same_plan, values_behind}
use Rattle.jn_expr.proofs.WalkForms.{number_form, truth_form, null_form, this_form, var_form, new_form, super_form, post_form, not_form, negative_form, view_form, chain_form}
use Rattle.jn_expr.proofs.WalkSteps.{view_fault, view_value_fault, view_told, link_refused, link_fault, link_told, links_more, links_fault, links_end, parts_more, parts_fault, parts_end, arg_fault, arg_leads, IsAt, is_at, args_more, args_fault, args_end}
use Rattle.jn_expr.proofs.WalkCalls.{args_count, passed_none, passed_more, passed_behind, call_stays, header_stays, args_refused, args_went, result_at, begun_fault, begun_told, made_none, made_some, made_at, one_arg_at, got_at}
use Rattle.jn_expr.proofs.WalkSupers.{owner_fault, owner_told}
use Rattle.jn_expr.proofs.CallDepths.{own_name, call_later, all_passed}
use Rattle.jn_expr.proofs.Typeds.{truth_fits, number_fits, no_object_fits, typed_later, this_there, vars_there, stays_there}
use Rattle.jn_expr.proofs.Sizes.{post_below, chain_below}
use Rattle.jn_expr.proofs.walk.+typing.Goals as goal

pub type_not-invert-requires-clause-scope : goal.type_not-invert-requires-clause-scope
type_not-invert-requires-clause-scope t c =
    c.in-Ok.ensures.value.scope

pub type_not-invert-requires-clause-number : goal.type_not-invert-requires-clause-number
type_not-invert-requires-clause-number t c =
    c.in-Ok.ensures.value.number

pub type_not-returns-in-Err-clause-told : goal.type_not-returns-in-Err-clause-told
type_not-returns-in-Err-clause-told t c =
    then_fault c.args.p.now (expr_types (here_at c.args.class.now c.args.m.now c.args.env.now.vars.list) c.args.e.now (scope_in c.args.env.now.pool c.args.scope.now)) c.args.env.now.marks c.value_of.new.env.marks c.value_of.new.env.marks (typed_in c.value_of.new.env.pool c.value_of.new.scope) (typed_in c.value_of.new.env.pool c.value_of.new.scope) (inverted (here_at c.args.class.now c.args.m.now c.args.env.now.vars.list) c.args.e.now.at) c.in-Err.fault c.in-Err.ensures.told

pub type_not-returns-in-Ok-clause-told : goal.type_not-returns-in-Ok-clause-told
type_not-returns-in-Ok-clause-told t c =
    then_told c.args.p.now (expr_types (here_at c.args.class.now c.args.m.now c.args.env.now.vars.list) c.args.e.now (scope_in c.args.env.now.pool c.args.scope.now)) c.args.env.now.marks c.value_of.new.env.marks c.invert.new.env.marks (typed_in c.invert.new.env.pool c.value_of.new.scope) c.value_of.new.env.vars.list c.args.env.now.vars.list
    (λ (vs : List Var). inverted (here_at c.args.class.now c.args.m.now vs) c.args.e.now.at) (typed_in c.value_of.new.env.pool c.value_of.new.scope c.in-Ok.x) c.invert.result
    (vars_stay c.in-Ok.ensures.stays) c.in-Ok.ensures.told (c.invert.ensures.told c.args.p.now)

pub type_not-returns-in-Ok-clause-value : goal.type_not-returns-in-Ok-clause-value
type_not-returns-in-Ok-clause-value t c =
    values_behind c.invert.new.env.pool c.args.scope.now c.value_of.new.scope c.value_of.new.scope c.invert.result c.in-Ok.ensures.value.grows c.invert.ensures.value

pub type_not-returns-in-Ok-clause-stays : goal.type_not-returns-in-Ok-clause-stays
type_not-returns-in-Ok-clause-stays t c =
    stays_more c.in-Ok.ensures.stays c.invert.ensures.stays

pub type_negative-negate-requires-clause-scope : goal.type_negative-negate-requires-clause-scope
type_negative-negate-requires-clause-scope t c =
    c.in-Ok.ensures.value.scope

pub type_negative-negate-requires-clause-number : goal.type_negative-negate-requires-clause-number
type_negative-negate-requires-clause-number t c =
    c.in-Ok.ensures.value.number

pub type_negative-returns-in-Err-clause-told : goal.type_negative-returns-in-Err-clause-told
type_negative-returns-in-Err-clause-told t c =
    then_fault c.args.p.now (expr_types (here_at c.args.class.now c.args.m.now c.args.env.now.vars.list) c.args.e.now (scope_in c.args.env.now.pool c.args.scope.now)) c.args.env.now.marks c.value_of.new.env.marks c.value_of.new.env.marks (typed_in c.value_of.new.env.pool c.value_of.new.scope) (typed_in c.value_of.new.env.pool c.value_of.new.scope) (negated (here_at c.args.class.now c.args.m.now c.args.env.now.vars.list) c.args.e.now.at) c.in-Err.fault c.in-Err.ensures.told

pub type_negative-returns-in-Ok-clause-told : goal.type_negative-returns-in-Ok-clause-told
type_negative-returns-in-Ok-clause-told t c =
    then_told c.args.p.now (expr_types (here_at c.args.class.now c.args.m.now c.args.env.now.vars.list) c.args.e.now (scope_in c.args.env.now.pool c.args.scope.now)) c.args.env.now.marks c.value_of.new.env.marks c.negate.new.env.marks (typed_in c.negate.new.env.pool c.value_of.new.scope) c.value_of.new.env.vars.list c.args.env.now.vars.list
    (λ (vs : List Var). negated (here_at c.args.class.now c.args.m.now vs) c.args.e.now.at) (typed_in c.value_of.new.env.pool c.value_of.new.scope c.in-Ok.x) c.negate.result
    (vars_stay c.in-Ok.ensures.stays) c.in-Ok.ensures.told (c.negate.ensures.told c.args.p.now)

pub type_negative-returns-in-Ok-clause-value : goal.type_negative-returns-in-Ok-clause-value
type_negative-returns-in-Ok-clause-value t c =
    values_behind c.negate.new.env.pool c.args.scope.now c.value_of.new.scope c.value_of.new.scope c.negate.result c.in-Ok.ensures.value.grows c.negate.ensures.value

pub type_negative-returns-in-Ok-clause-stays : goal.type_negative-returns-in-Ok-clause-stays
type_negative-returns-in-Ok-clause-stays t c =
    stays_more c.in-Ok.ensures.stays c.negate.ensures.stays

pub type_view-value_of-requires : goal.type_view-value_of-requires
type_view-value_of-requires t c =
    let SCOPE = scope_stays c.requires.scope c.in-Ok.ensures.stays.pool in
    (search rules, (parts_stay c.requires.parts c.in-Ok.ensures.stays, (SCOPE, stays_there c.args.p.now c.args.class.now c.args.m.now c.requires.there c.in-Ok.ensures.stays c.requires.scope (grows_none c.args.scope.now) SCOPE)))

pub type_view-change_view-requires-clause-parts : goal.type_view-change_view-requires-clause-parts
type_view-change_view-requires-clause-parts t c =
    parts_stay c.requires.parts (stays_more c.in-Ok.ensures.stays c.in-Ok-value_of.ensures.stays)

pub type_view-change_view-requires-clause-scope : goal.type_view-change_view-requires-clause-scope
type_view-change_view-requires-clause-scope t c =
    c.in-Ok-value_of.ensures.value.scope

pub type_view-change_view-requires-clause-number : goal.type_view-change_view-requires-clause-number
type_view-change_view-requires-clause-number t c =
    c.in-Ok-value_of.ensures.value.number

pub type_view-change_view-requires-clause-fits : goal.type_view-change_view-requires-clause-fits
type_view-change_view-requires-clause-fits t c =
    c.in-Ok-value_of.ensures.value.fits

pub type_view-returns-in-Err-value_of-clause-stays : goal.type_view-returns-in-Err-value_of-clause-stays
type_view-returns-in-Err-value_of-clause-stays t c =
    stays_more c.in-Ok.ensures.stays c.in-Err-value_of.ensures.stays

pub type_view-returns-clause-stays : goal.type_view-returns-clause-stays
type_view-returns-clause-stays t c =
    stays_more (stays_more c.in-Ok.ensures.stays c.in-Ok-value_of.ensures.stays) c.change_view.ensures.stays

pub type_view-returns-clause-value : goal.type_view-returns-clause-value
type_view-returns-clause-value t c =
    values_behind c.change_view.new.env.pool c.args.scope.now c.value_of.new.scope c.value_of.new.scope c.change_view.result c.in-Ok-value_of.ensures.value.grows c.change_view.ensures.value

pub type_view-returns-in-Err-clause-told : goal.type_view-returns-in-Err-clause-told
type_view-returns-in-Err-clause-told t c =
    view_fault c.args.p.now c.args.class.now c.args.m.now c.args.view.now c.args.at c.args.e.now c.args.env.now.vars.list (scope_in c.args.env.now.pool c.args.scope.now) c.args.env.now.marks c.begin_view.new.env.marks c.begin_view.new.env.marks c.begin_view.new.env.marks (typed_in c.begin_view.new.env.pool c.args.scope.now) c.in-Err.fault (c.in-Err.ensures.told (λ (u : Target). then_do (expr_types (here_at c.args.class.now c.args.m.now c.args.env.now.vars.list) c.args.e.now (scope_in c.args.env.now.pool c.args.scope.now)) (changed (here_at c.args.class.now c.args.m.now c.args.env.now.vars.list) c.args.at c.args.e.now.at u)))

pub type_view-returns-in-Err-value_of-clause-told : goal.type_view-returns-in-Err-value_of-clause-told
type_view-returns-in-Err-value_of-clause-told t c =
    view_value_fault c.args.p.now c.args.class.now c.args.m.now c.args.view.now c.args.at c.args.e.now c.args.env.now.vars.list (scope_in c.args.env.now.pool c.args.scope.now) c.args.env.now.marks c.begin_view.new.env.marks c.value_of.new.env.marks c.value_of.new.env.marks c.begin_view.new.env.vars.list c.value_of.new.env.vars.list (scope_in c.begin_view.new.env.pool c.args.scope.now) (vars_stay c.in-Ok.ensures.stays) (vars_stay (stays_more c.in-Ok.ensures.stays c.value_of.ensures.stays)) (scope_kept c.args.scope.now c.requires.scope.known c.in-Ok.ensures.stays.pool) c.in-Ok.target (c.in-Ok.ensures.told (λ (u : Target). then_do (expr_types (here_at c.args.class.now c.args.m.now c.args.env.now.vars.list) c.args.e.now (scope_in c.args.env.now.pool c.args.scope.now)) (changed (here_at c.args.class.now c.args.m.now c.args.env.now.vars.list) c.args.at c.args.e.now.at u))) (typed_in c.value_of.new.env.pool c.value_of.new.scope) (typed_in c.value_of.new.env.pool c.value_of.new.scope) c.in-Err-value_of.fault c.in-Err-value_of.ensures.told

pub type_view-returns-clause-told : goal.type_view-returns-clause-told
type_view-returns-clause-told t c =
    view_told c.args.p.now c.args.class.now c.args.m.now c.args.view.now c.args.at c.args.e.now c.args.env.now.vars.list (scope_in c.args.env.now.pool c.args.scope.now) c.args.env.now.marks c.begin_view.new.env.marks c.value_of.new.env.marks c.change_view.new.env.marks c.begin_view.new.env.vars.list c.value_of.new.env.vars.list (scope_in c.begin_view.new.env.pool c.args.scope.now) (vars_stay c.in-Ok.ensures.stays) (vars_stay (stays_more c.in-Ok.ensures.stays c.value_of.ensures.stays)) (scope_kept c.args.scope.now c.requires.scope.known c.in-Ok.ensures.stays.pool) c.in-Ok.target (c.in-Ok.ensures.told (λ (u : Target). then_do (expr_types (here_at c.args.class.now c.args.m.now c.args.env.now.vars.list) c.args.e.now (scope_in c.args.env.now.pool c.args.scope.now)) (changed (here_at c.args.class.now c.args.m.now c.args.env.now.vars.list) c.args.at c.args.e.now.at u))) (typed_in c.change_view.new.env.pool c.value_of.new.scope) c.change_view.result
    (typed_in c.value_of.new.env.pool c.value_of.new.scope c.in-Ok-value_of.x) c.in-Ok-value_of.ensures.told c.change_view.ensures.told

pub type_link-returns-then-not-takes-clause-told : goal.type_link-returns-then-not-takes-clause-told
type_link-returns-then-not-takes-clause-told t c =
    link_refused c.args.p.now c.args.class.now c.args.m.now c.args.at (typed_in c.args.env.now.pool c.args.scope.now c.args.x) c.args.l.now c.args.env.now.vars.list c.args.env.now.marks c.args.env.now.marks c.args.env.now.marks (typed_in c.args.env.now.pool c.args.scope.now) c.refused.result (sym (ap (takes c.args.l.now.op) c.show.ensures) ∙ (sym c.takes.ensures ∙ c.if-not-takes.true)) c.refused.ensures

pub type_link-operate-requires-clause-left : goal.type_link-operate-requires-clause-left
type_link-operate-requires-clause-left t c =
    c.in-Ok.ensures.stays.pool.has c.args.x.ty c.requires.number

pub type_link-operate-requires-clause-right : goal.type_link-operate-requires-clause-right
type_link-operate-requires-clause-right t c =
    c.in-Ok.ensures.value.number

pub type_link-operate-requires-clause-scope : goal.type_link-operate-requires-clause-scope
type_link-operate-requires-clause-scope t c =
    c.in-Ok.ensures.value.scope

pub type_link-returns-in-Err-clause-told : goal.type_link-returns-in-Err-clause-told
type_link-returns-in-Err-clause-told t c =
    link_fault c.args.p.now c.args.class.now c.args.m.now c.args.at (typed_in c.args.env.now.pool c.args.scope.now c.args.x) c.args.l.now c.args.env.now.vars.list c.args.env.now.marks c.value_of.new.env.marks c.value_of.new.env.marks (typed_in c.value_of.new.env.pool c.value_of.new.scope) (typed_in c.value_of.new.env.pool c.value_of.new.scope) c.in-Err.fault (sym (ap (takes c.args.l.now.op) c.show.ensures) ∙ (sym c.takes.ensures ∙ c.if-not-takes.false)) c.in-Err.ensures.told

pub type_link-returns-in-Ok-clause-told : goal.type_link-returns-in-Ok-clause-told
type_link-returns-in-Ok-clause-told t c =
    link_told c.args.p.now c.args.class.now c.args.m.now c.args.at (typed_in c.args.env.now.pool c.args.scope.now c.args.x) c.args.l.now c.args.env.now.vars.list c.args.env.now.marks c.value_of.new.env.marks c.operate.new.env.marks (typed_in c.operate.new.env.pool c.value_of.new.scope) c.operate.result (typed_in c.value_of.new.env.pool c.value_of.new.scope c.in-Ok.y) c.value_of.new.env.vars.list
    (shown c.value_of.new.env.pool c.args.x.ty) (sym (ap (takes c.args.l.now.op) c.show.ensures) ∙ (sym c.takes.ensures ∙ c.if-not-takes.false)) (vars_stay c.in-Ok.ensures.stays) (c.in-Ok.ensures.stays.pool.shows c.args.x.ty c.requires.number) c.in-Ok.ensures.told (c.operate.ensures.told c.args.p.now)

pub type_link-returns-in-Ok-clause-value : goal.type_link-returns-in-Ok-clause-value
type_link-returns-in-Ok-clause-value t c =
    values_behind c.operate.new.env.pool c.args.scope.now c.value_of.new.scope c.value_of.new.scope c.operate.result c.in-Ok.ensures.value.grows c.operate.ensures.value

pub type_link-returns-in-Ok-clause-stays : goal.type_link-returns-in-Ok-clause-stays
type_link-returns-in-Ok-clause-stays t c =
    stays_more c.in-Ok.ensures.stays c.operate.ensures.stays

pub type_links-loop-l-init : goal.type_links-loop-l-init
type_links-loop-l-init t c =
    record { stays = stays_same c.args.env.now; parts = c.requires.parts; scope = c.requires.scope; there = c.requires.there; number = c.requires.number; fits = c.requires.fits; grows = grows_none c.args.scope.now; leads = leads_here _ c.args.env.now.marks }

pub type_links-returns-in-Err-clause-told : goal.type_links-returns-in-Err-clause-told
type_links-returns-in-Err-clause-told t c =
    links_fault c.args.p.now (here_at c.args.class.now c.args.m.now c.args.env.now.vars.list) c.args.at c.args.links.now c.loop-l.l-index c.l-item.result c.loop-l-test.true c.l-item.is _ (typed_in c.loop-l.env.pool c.loop-l.scope c.loop-l.left) c.args.env.now.marks c.loop-l.env.marks c.type_link.new.env.marks c.loop-l.invariant.leads (typed_in c.type_link.new.env.pool c.type_link.new.scope) (typed_in c.type_link.new.env.pool c.type_link.new.scope) c.type_link.new.env.marks c.in-Err.fault
    (subst (λ (vs : List Var). PlanTold c.args.p.now (link_typed (here_at c.args.class.now c.args.m.now vs) c.args.at (typed_in c.loop-l.env.pool c.loop-l.scope c.loop-l.left) c.l-item.result (expr_types (here_at c.args.class.now c.args.m.now vs) c.l-item.result.right)) (typed_in c.type_link.new.env.pool c.type_link.new.scope) c.loop-l.env.marks c.type_link.new.env.marks (Err c.in-Err.fault)) (vars_stay c.loop-l.invariant.stays) c.in-Err.ensures.told)

pub type_links-returns-in-Err-clause-stays : goal.type_links-returns-in-Err-clause-stays
type_links-returns-in-Err-clause-stays t c =
    stays_more c.loop-l.invariant.stays c.in-Err.ensures.stays

pub type_links-loop-l-preserved : goal.type_links-loop-l-preserved
type_links-loop-l-preserved t c =
    record {
      stays = stays_more c.loop-l.invariant.stays c.in-Ok.ensures.stays;
      parts = parts_stay c.requires.parts (stays_more c.loop-l.invariant.stays c.in-Ok.ensures.stays);
      scope = c.in-Ok.ensures.value.scope;
      number = c.in-Ok.ensures.value.number;
      there = stays_there c.args.p.now c.args.class.now c.args.m.now c.loop-l.invariant.there c.in-Ok.ensures.stays c.loop-l.invariant.scope c.in-Ok.ensures.value.grows c.in-Ok.ensures.value.scope;
      fits = c.in-Ok.ensures.value.fits;
      grows = grows_more c.loop-l.invariant.grows c.in-Ok.ensures.value.grows;
      leads = links_more c.args.p.now (here_at c.args.class.now c.args.m.now c.args.env.now.vars.list) c.args.at c.args.links.now c.loop-l.l-index c.l-item.result c.loop-l-test.true c.l-item.is _ (typed_in c.loop-l.env.pool c.loop-l.scope c.loop-l.left) c.args.env.now.marks c.loop-l.env.marks c.type_link.new.env.marks c.loop-l.invariant.leads (typed_in c.type_link.new.env.pool c.type_link.new.scope c.in-Ok.value)
          (subst (λ (vs : List Var). PlanTold c.args.p.now (link_typed (here_at c.args.class.now c.args.m.now vs) c.args.at (typed_in c.loop-l.env.pool c.loop-l.scope c.loop-l.left) c.l-item.result (expr_types (here_at c.args.class.now c.args.m.now vs) c.l-item.result.right)) (typed_in c.type_link.new.env.pool c.type_link.new.scope) c.loop-l.env.marks c.type_link.new.env.marks (Ok c.in-Ok.value)) (vars_stay c.loop-l.invariant.stays) c.in-Ok.ensures.told);
    }

pub type_links-returns-clause-told : goal.type_links-returns-clause-told
type_links-returns-clause-told t c =
    links_end c.args.p.now (here_at c.args.class.now c.args.m.now c.args.env.now.vars.list) c.args.at c.args.links.now c.loop-l.l-index _ (typed_in c.loop-l.env.pool c.loop-l.scope c.loop-l.left) c.args.env.now.marks c.loop-l.env.marks c.loop-l-test.false c.loop-l.invariant.leads

pub type_links-returns-clause-value : goal.type_links-returns-clause-value
type_links-returns-clause-value t c =
    record { scope = c.loop-l.invariant.scope; number = c.loop-l.invariant.number; grows = c.loop-l.invariant.grows; fits = c.loop-l.invariant.fits }

pub type_links-returns-clause-stays : goal.type_links-returns-clause-stays
type_links-returns-clause-stays t c =
    c.loop-l.invariant.stays

pub type_part-returns-in-None-clause-told : goal.type_part-returns-in-None-clause-told
type_part-returns-in-None-clause-told t c =
    subst (λ (o : Option (List Expr)). PlanTold c.args.p.now (suffix_typed (here_at c.args.class.now c.args.m.now c.args.env.now.vars.list) (out-Suffix c.args.part.now).name (given_args (here_at c.args.class.now c.args.m.now c.args.env.now.vars.list) o) c.args.at (typed_in c.args.env.now.pool c.args.scope.now c.args.x)) (typed_in c.field_value.new.env.pool c.field_value.new.scope) c.args.env.now.marks c.field_value.new.env.marks c.field_value.result) (sym c.in-None.is) c.field_value.ensures.told

pub type_part-returns-in-Some-clause-told : goal.type_part-returns-in-Some-clause-told
type_part-returns-in-Some-clause-told t c =
    subst (λ (o : Option (List Expr)). PlanTold c.args.p.now (suffix_typed (here_at c.args.class.now c.args.m.now c.args.env.now.vars.list) (out-Suffix c.args.part.now).name (given_args (here_at c.args.class.now c.args.m.now c.args.env.now.vars.list) o) c.args.at (typed_in c.args.env.now.pool c.args.scope.now c.args.x)) (typed_in c.type_call.new.env.pool c.type_call.new.scope) c.args.env.now.marks c.type_call.new.env.marks c.type_call.result) (sym c.in-Some.is)
    (subst (λ (es : List Expr). PlanTold c.args.p.now (suffix_typed (here_at c.args.class.now c.args.m.now c.args.env.now.vars.list) (out-Suffix c.args.part.now).name (Some (typed_args (here_at c.args.class.now c.args.m.now c.args.env.now.vars.list) es)) c.args.at (typed_in c.args.env.now.pool c.args.scope.now c.args.x)) (typed_in c.type_call.new.env.pool c.type_call.new.scope) c.args.env.now.marks c.type_call.new.env.marks c.type_call.result) c.as_slice.ensures c.type_call.ensures.told)

pub type_parts-loop-part-init : goal.type_parts-loop-part-init
type_parts-loop-part-init t c =
    record { stays = stays_same c.args.env.now; parts = c.requires.parts; scope = c.requires.scope; there = c.requires.there; number = c.requires.number; fits = c.requires.fits; grows = grows_none c.args.scope.now; leads = leads_here _ c.args.env.now.marks }

pub type_parts-returns-in-Err-clause-told : goal.type_parts-returns-in-Err-clause-told
type_parts-returns-in-Err-clause-told t c =
    parts_fault c.args.p.now (here_at c.args.class.now c.args.m.now c.args.env.now.vars.list) c.args.whole c.loop-part.place c.args.suffixes.now c.loop-part.part-index c.part-item.result c.loop-part-test.true c.part-item.is _ (typed_in c.loop-part.env.pool c.loop-part.scope c.loop-part.value) c.args.env.now.marks c.loop-part.env.marks c.type_part.new.env.marks c.loop-part.invariant.leads (typed_in c.type_part.new.env.pool c.type_part.new.scope) (typed_in c.type_part.new.env.pool c.type_part.new.scope) c.type_part.new.env.marks c.in-Err.fault
    (subst (λ (vs : List Var). PlanTold c.args.p.now (part_types (here_at c.args.class.now c.args.m.now vs) c.part-item.result c.loop-part.place (typed_in c.loop-part.env.pool c.loop-part.scope c.loop-part.value)) (typed_in c.type_part.new.env.pool c.type_part.new.scope) c.loop-part.env.marks c.type_part.new.env.marks (Err c.in-Err.fault)) (vars_stay c.loop-part.invariant.stays) c.in-Err.ensures.told)

pub type_parts-returns-in-Err-clause-stays : goal.type_parts-returns-in-Err-clause-stays
type_parts-returns-in-Err-clause-stays t c =
    stays_more c.loop-part.invariant.stays c.in-Err.ensures.stays

pub type_parts-loop-part-preserved : goal.type_parts-loop-part-preserved
type_parts-loop-part-preserved t c =
    record {
      stays = stays_more c.loop-part.invariant.stays c.in-Ok.ensures.stays;
      parts = parts_stay c.requires.parts (stays_more c.loop-part.invariant.stays c.in-Ok.ensures.stays);
      scope = c.in-Ok.ensures.value.scope;
      number = c.in-Ok.ensures.value.number;
      there = stays_there c.args.p.now c.args.class.now c.args.m.now c.loop-part.invariant.there c.in-Ok.ensures.stays c.loop-part.invariant.scope c.in-Ok.ensures.value.grows c.in-Ok.ensures.value.scope;
      fits = c.in-Ok.ensures.value.fits;
      grows = grows_more c.loop-part.invariant.grows c.in-Ok.ensures.value.grows;
      leads = parts_more c.args.p.now (here_at c.args.class.now c.args.m.now c.args.env.now.vars.list) c.args.whole c.loop-part.place c.args.suffixes.now c.loop-part.part-index c.part-item.result c.loop-part-test.true c.part-item.is _ (typed_in c.loop-part.env.pool c.loop-part.scope c.loop-part.value) c.args.env.now.marks c.loop-part.env.marks c.type_part.new.env.marks c.loop-part.invariant.leads (typed_in c.type_part.new.env.pool c.type_part.new.scope c.in-Ok.next)
          (subst (λ (vs : List Var). PlanTold c.args.p.now (part_types (here_at c.args.class.now c.args.m.now vs) c.part-item.result c.loop-part.place (typed_in c.loop-part.env.pool c.loop-part.scope c.loop-part.value)) (typed_in c.type_part.new.env.pool c.type_part.new.scope) c.loop-part.env.marks c.type_part.new.env.marks (Ok c.in-Ok.next)) (vars_stay c.loop-part.invariant.stays) c.in-Ok.ensures.told);
    }

pub type_parts-returns-clause-told : goal.type_parts-returns-clause-told
type_parts-returns-clause-told t c =
    parts_end c.args.p.now (here_at c.args.class.now c.args.m.now c.args.env.now.vars.list) c.args.whole c.loop-part.place c.args.suffixes.now c.loop-part.part-index _ (typed_in c.loop-part.env.pool c.loop-part.scope c.loop-part.value) c.args.env.now.marks c.loop-part.env.marks c.loop-part-test.false c.loop-part.invariant.leads

pub type_parts-returns-clause-value : goal.type_parts-returns-clause-value
type_parts-returns-clause-value t c =
    record { scope = c.loop-part.invariant.scope; number = c.loop-part.invariant.number; grows = c.loop-part.invariant.grows; fits = c.loop-part.invariant.fits }

pub type_parts-returns-clause-stays : goal.type_parts-returns-clause-stays
type_parts-returns-clause-stays t c =
    c.loop-part.invariant.stays

pub type_arg-pass_arg-requires-clause-scope : goal.type_arg-pass_arg-requires-clause-scope
type_arg-pass_arg-requires-clause-scope t c =
    c.in-Ok.ensures.value.scope

pub type_arg-pass_arg-requires-clause-number : goal.type_arg-pass_arg-requires-clause-number
type_arg-pass_arg-requires-clause-number t c =
    c.in-Ok.ensures.value.number

pub type_arg-pass_arg-requires-clause-fits : goal.type_arg-pass_arg-requires-clause-fits
type_arg-pass_arg-requires-clause-fits t c =
    c.in-Ok.ensures.value.fits

pub type_arg-pass_arg-requires-clause-parts : goal.type_arg-pass_arg-requires-clause-parts
type_arg-pass_arg-requires-clause-parts t c =
    parts_stay c.requires.parts c.in-Ok.ensures.stays

pub type_arg-pass_arg-requires-clause-call : goal.type_arg-pass_arg-requires-clause-call
type_arg-pass_arg-requires-clause-call t c =
    call_later c.requires.scope c.in-Ok.ensures.stays.pool c.in-Ok.ensures.value.grows c.in-Ok.ensures.value.scope c.requires.call

pub type_arg-returns-in-Err-clause-told : goal.type_arg-returns-in-Err-clause-told
type_arg-returns-in-Err-clause-told t c =
    λ x go i. arg_fault c.args.p.now c.args.class.now c.args.m.now c.args.e.now c.args.call.now.from.items x c.args.call.now.paths.items go c.args.env.now.vars.list (scope_in c.args.env.now.pool c.args.scope.now) c.args.env.now.marks c.value_of.new.env.marks c.value_of.new.env.marks (typed_in c.value_of.new.env.pool c.value_of.new.scope) (λ (u : Unit {0}). go c.args.call.now.paths.items (scope_in c.value_of.new.env.pool c.value_of.new.scope)) c.in-Err.fault c.in-Err.ensures.told

pub type_arg-returns-in-Ok-clause-told : goal.type_arg-returns-in-Ok-clause-told
type_arg-returns-in-Ok-clause-told t c =
    λ x go i. arg_leads c.args.p.now c.args.class.now c.args.m.now c.args.e.now c.args.call.now.from.items x c.args.call.now.paths.items go c.args.env.now.vars.list (scope_in c.args.env.now.pool c.args.scope.now) c.args.env.now.marks c.value_of.new.env.marks c.pass_arg.new.env.marks (λ (u : Unit {0}). go c.pass_arg.new.call.paths.items (scope_in c.pass_arg.new.env.pool c.pass_arg.new.scope)) c.pass_arg.result c.value_of.new.env.vars.list
    (typed_in c.value_of.new.env.pool c.value_of.new.scope c.in-Ok.v) (vars_stay c.in-Ok.ensures.stays) c.in-Ok.ensures.told
    (c.pass_arg.ensures.told x go i)

pub type_arg-returns-in-Ok-clause-passed : goal.type_arg-returns-in-Ok-clause-passed
type_arg-returns-in-Ok-clause-passed t c =
    passed_behind c.pass_arg.new.env.pool c.args.scope.now c.value_of.new.scope c.pass_arg.new.scope c.args.call.now c.pass_arg.new.call c.pass_arg.result c.in-Ok.ensures.value.grows c.pass_arg.ensures.passed

pub type_arg-returns-in-Ok-clause-stays : goal.type_arg-returns-in-Ok-clause-stays
type_arg-returns-in-Ok-clause-stays t c =
    stays_more c.in-Ok.ensures.stays c.pass_arg.ensures.stays

pub type_args-loop-e-init : goal.type_args-loop-e-init
type_args-loop-e-init t c =
    record { stays = stays_same c.args.env.now; parts = c.requires.parts; there = c.requires.there; passed = passed_none c.args.env.now.pool c.args.scope.now c.args.call.now c.requires.scope (grows_none c.args.scope.now); count = c.requires.first; fits = c.requires.call; room = c.requires.count; leads = leads_here _ c.args.env.now.marks }

pub type_args-returns-clause-passed : goal.type_args-returns-clause-passed
type_args-returns-clause-passed t c =
    c.loop-e.invariant.passed

pub type_args-returns-clause-stays : goal.type_args-returns-clause-stays
type_args-returns-clause-stays t c =
    c.loop-e.invariant.stays

pub type_args-returns-clause-told : goal.type_args-returns-clause-told
type_args-returns-clause-told t c =
    args_end c.args.p.now (here_at c.args.class.now c.args.m.now c.args.env.now.vars.list) c.args.call.now.from.items c.args.call.now.header.at.vars.list c.args.args.now c.loop-e.e-index _ c.loop-e.call.paths.items (scope_in c.loop-e.env.pool c.loop-e.scope) c.args.env.now.marks c.loop-e.env.marks c.loop-e.invariant.leads c.loop-e-test.false

pub type_args-returns-in-Err-clause-told : goal.type_args-returns-in-Err-clause-told
type_args-returns-in-Err-clause-told t c =
    let AT : IsAt c.args.call.now.header.at.vars.list c.loop-e.e-index = is_at c.args.call.now.header.at.vars.list c.loop-e.e-index (subst (λ (n : ℕ). c.loop-e.e-index < n) (sym c.requires.count) c.loop-e-test.true) in
    let GO = λ (to : List ℕ) (s : TypeScope). args_typed (here_at c.args.class.now c.args.m.now c.args.env.now.vars.list) c.args.call.now.from.items (drop (c.loop-e.e-index + 1) c.args.call.now.header.at.vars.list) (typed_args (here_at c.args.class.now c.args.m.now c.args.env.now.vars.list) (drop (c.loop-e.e-index + 1) c.args.args.now)) to s in
    args_fault c.args.p.now (here_at c.args.class.now c.args.m.now c.args.env.now.vars.list) c.args.call.now.from.items c.args.call.now.header.at.vars.list c.args.args.now c.loop-e.e-index _ c.loop-e.call.paths.items (scope_in c.loop-e.env.pool c.loop-e.scope) c.args.env.now.marks c.loop-e.env.marks c.loop-e.invariant.leads c.e-item.result c.loop-e-test.true c.e-item.is AT (λ (u : Unit {0}). GO c.type_arg.new.call.paths.items (scope_in c.type_arg.new.env.pool c.type_arg.new.scope)) (λ (u : Unit {0}). passed_in c.type_arg.new.env.pool c.type_arg.new.scope c.type_arg.new.call) c.type_arg.new.env.marks c.type_arg.new.env.marks c.in-Err.fault
    (one_arg_at c.args.p.now c.args.class.now c.args.m.now c.e-item.result AT.x c.loop-e.call.paths.items (scope_in c.loop-e.env.pool c.loop-e.scope) c.loop-e.env.marks c.type_arg.new.env.marks GO (λ (u : Unit {0}). GO c.type_arg.new.call.paths.items (scope_in c.type_arg.new.env.pool c.type_arg.new.scope)) (Err c.in-Err.fault) c.loop-e.env.vars.list c.args.env.now.vars.list c.loop-e.call.from.items c.args.call.now.from.items (vars_stay c.loop-e.invariant.stays) c.loop-e.invariant.passed.from (c.in-Err.ensures.told AT.x GO (got_at c.loop-e.call.header c.args.call.now.header (length c.loop-e.call.paths.items) c.loop-e.e-index AT.x c.loop-e.invariant.passed.header c.loop-e.invariant.count AT.get)))

pub type_args-returns-in-Err-clause-stays : goal.type_args-returns-in-Err-clause-stays
type_args-returns-in-Err-clause-stays t c =
    stays_more c.loop-e.invariant.stays c.in-Err.ensures.stays

pub type_args-loop-e-preserved : goal.type_args-loop-e-preserved
type_args-loop-e-preserved t c =
    let AT : IsAt c.args.call.now.header.at.vars.list c.loop-e.e-index = is_at c.args.call.now.header.at.vars.list c.loop-e.e-index (subst (λ (n : ℕ). c.loop-e.e-index < n) (sym c.requires.count) c.loop-e-test.true) in
    let GO = λ (to : List ℕ) (s : TypeScope). args_typed (here_at c.args.class.now c.args.m.now c.args.env.now.vars.list) c.args.call.now.from.items (drop (c.loop-e.e-index + 1) c.args.call.now.header.at.vars.list) (typed_args (here_at c.args.class.now c.args.m.now c.args.env.now.vars.list) (drop (c.loop-e.e-index + 1) c.args.args.now)) to s in
    record {
      stays = stays_more c.loop-e.invariant.stays c.in-Ok.ensures.stays;
      parts = parts_stay c.requires.parts (stays_more c.loop-e.invariant.stays c.in-Ok.ensures.stays);
      there = stays_there c.args.p.now c.args.class.now c.args.m.now c.loop-e.invariant.there c.in-Ok.ensures.stays c.loop-e.invariant.passed.scope c.in-Ok.ensures.passed.grows c.in-Ok.ensures.passed.scope;
      passed = passed_more c.loop-e.invariant.passed c.in-Ok.ensures.passed;
      count = c.in-Ok.ensures.longer ∙ ap (λ (n : ℕ). n + 1) c.loop-e.invariant.count;
      fits = c.in-Ok.ensures.fits;
      room = ap (λ (h : CodeHeader). length h.at.vars.list) c.in-Ok.ensures.passed.header ∙ c.loop-e.invariant.room;
      leads = args_more c.args.p.now (here_at c.args.class.now c.args.m.now c.args.env.now.vars.list) c.args.call.now.from.items c.args.call.now.header.at.vars.list c.args.args.now c.loop-e.e-index _ c.loop-e.call.paths.items (scope_in c.loop-e.env.pool c.loop-e.scope) c.args.env.now.marks c.loop-e.env.marks c.loop-e.invariant.leads c.e-item.result c.loop-e-test.true c.e-item.is AT c.type_arg.new.call.paths.items (scope_in c.type_arg.new.env.pool c.type_arg.new.scope) c.type_arg.new.env.marks
          (one_arg_at c.args.p.now c.args.class.now c.args.m.now c.e-item.result AT.x c.loop-e.call.paths.items (scope_in c.loop-e.env.pool c.loop-e.scope) c.loop-e.env.marks c.type_arg.new.env.marks GO (λ (u : Unit {0}). GO c.type_arg.new.call.paths.items (scope_in c.type_arg.new.env.pool c.type_arg.new.scope)) (Ok tt) c.loop-e.env.vars.list c.args.env.now.vars.list c.loop-e.call.from.items c.args.call.now.from.items (vars_stay c.loop-e.invariant.stays) c.loop-e.invariant.passed.from (c.in-Ok.ensures.told AT.x GO (got_at c.loop-e.call.header c.args.call.now.header (length c.loop-e.call.paths.items) c.loop-e.e-index AT.x c.loop-e.invariant.passed.header c.loop-e.invariant.count AT.get)));
    }

pub type_args-returns-clause-fits : goal.type_args-returns-clause-fits
type_args-returns-clause-fits t c =
    c.loop-e.invariant.fits

pub type_args-returns-clause-full : goal.type_args-returns-clause-full
type_args-returns-clause-full t c =
    all_passed c.args.p.now c.loop-e.env.pool (scope_in c.loop-e.env.pool c.loop-e.scope) c.loop-e.call c.loop-e.invariant.passed.scope.fits.binds c.loop-e.invariant.fits c.loop-e.e-index (length c.args.args.now)
    c.loop-e.invariant.count c.loop-e-test.false c.loop-e.invariant.room

pub type_called-result_of-requires-clause-scope : goal.type_called-result_of-requires-clause-scope
type_called-result_of-requires-clause-scope t c =
    c.in-Ok.ensures.passed.scope

pub type_called-result_of-requires-clause-call : goal.type_called-result_of-requires-clause-call
type_called-result_of-requires-clause-call t c =
    c.in-Ok.ensures.fits

pub type_called-result_of-requires-clause-full : goal.type_called-result_of-requires-clause-full
type_called-result_of-requires-clause-full t c =
    c.in-Ok.ensures.full

pub type_called-returns-in-Err-clause-told : goal.type_called-returns-in-Err-clause-told
type_called-returns-in-Err-clause-told t c =
    args_refused c.args.p.now c.args.class.now c.args.m.now c.args.args.now c.args.env.now.pool c.args.call.now c.requires.call.is_call c.args.env.now.vars.list (scope_in c.args.env.now.pool c.args.scope.now) c.args.env.now.marks c.args.env.now.marks c.type_args.new.env.marks
    (called (here_at c.args.class.now c.args.m.now c.args.env.now.vars.list) (header_in c.args.env.now.pool c.args.call.now.header) (typed_args (here_at c.args.class.now c.args.m.now c.args.env.now.vars.list) c.args.args.now) c.args.call.now.paths.items (scope_in c.args.env.now.pool c.args.scope.now)) (result_gives (header_in c.args.env.now.pool c.args.call.now.header)) c.args.env.now.vars.list (scope_in c.args.env.now.pool c.args.scope.now) refl refl (leads_here _ c.args.env.now.marks) (λ (u : Unit {0}). passed_in c.type_args.new.env.pool c.type_args.new.scope c.type_args.new.call) (typed_in c.type_args.new.env.pool c.type_args.new.scope) c.type_args.new.env.marks c.in-Err.fault c.in-Err.ensures.told

pub type_called-returns-in-Ok-clause-told : goal.type_called-returns-in-Ok-clause-told
type_called-returns-in-Ok-clause-told t c =
    leads_told (typed_in c.result_of.new.env.pool c.type_args.new.scope) c.result_of.new.env.marks
    (args_went c.args.p.now c.args.class.now c.args.m.now c.args.args.now c.args.env.now.pool c.args.call.now c.requires.call.is_call c.args.env.now.vars.list (scope_in c.args.env.now.pool c.args.scope.now) c.args.env.now.marks c.args.env.now.marks c.type_args.new.env.marks
    (called (here_at c.args.class.now c.args.m.now c.args.env.now.vars.list) (header_in c.args.env.now.pool c.args.call.now.header) (typed_args (here_at c.args.class.now c.args.m.now c.args.env.now.vars.list) c.args.args.now) c.args.call.now.paths.items (scope_in c.args.env.now.pool c.args.scope.now)) (result_gives (header_in c.args.env.now.pool c.args.call.now.header)) c.args.env.now.vars.list (scope_in c.args.env.now.pool c.args.scope.now) refl refl (leads_here _ c.args.env.now.marks) (passed_in c.type_args.new.env.pool c.type_args.new.scope c.type_args.new.call) c.in-Ok.ensures.told) c.result_of.result
    (result_at c.args.p.now (header_in c.type_args.new.env.pool c.type_args.new.call.header) (header_in c.args.env.now.pool c.args.call.now.header) (passed_in c.type_args.new.env.pool c.type_args.new.scope c.type_args.new.call) (passed_in c.type_args.new.env.pool c.type_args.new.scope c.type_args.new.call) (typed_in c.result_of.new.env.pool c.type_args.new.scope) c.type_args.new.env.marks c.result_of.new.env.marks c.result_of.result
    (header_stays c.args.env.now.pool c.type_args.new.env.pool c.args.call.now c.type_args.new.call c.requires.call.is_call c.in-Ok.ensures.stays.pool c.in-Ok.ensures.passed.header c.in-Ok.ensures.passed.from) refl c.result_of.ensures.told)

pub type_called-returns-in-Ok-clause-value : goal.type_called-returns-in-Ok-clause-value
type_called-returns-in-Ok-clause-value t c =
    values_behind c.result_of.new.env.pool c.args.scope.now c.type_args.new.scope c.type_args.new.scope c.result_of.result c.in-Ok.ensures.passed.grows c.result_of.ensures.value

pub type_called-returns-in-Ok-clause-stays : goal.type_called-returns-in-Ok-clause-stays
type_called-returns-in-Ok-clause-stays t c =
    stays_more c.in-Ok.ensures.stays c.result_of.ensures.stays

pub type_call-type_called-requires : goal.type_call-type_called-requires
type_call-type_called-requires t c =
    let THERE = stays_there c.args.p.now c.args.class.now c.args.m.now c.requires.there c.in-Ok.ensures.stays c.requires.scope c.in-Ok.ensures.call.grows c.in-Ok.ensures.call.scope in
    (search rules, (parts_stay c.requires.parts c.in-Ok.ensures.stays, (c.in-Ok.ensures.call.scope, (THERE, (c.in-Ok.ensures.fits, (ap length c.in-Ok.ensures.call.paths, c.in-Ok.ensures.count))))))

pub type_call-returns-in-Err-clause-told : goal.type_call-returns-in-Err-clause-told
type_call-returns-in-Err-clause-told t c =
    begun_fault c.args.p.now (suffix_typed (here_at c.args.class.now c.args.m.now c.args.env.now.vars.list) c.args.name.now (Some (typed_args (here_at c.args.class.now c.args.m.now c.args.env.now.vars.list) c.args.args.now)) c.args.at (typed_in c.args.env.now.pool c.args.scope.now c.args.x)) (λ (call : Call). called (here_at c.args.class.now c.args.m.now c.args.env.now.vars.list) (header_in c.begin_method.new.env.pool call.header) (typed_args (here_at c.args.class.now c.args.m.now c.args.env.now.vars.list) c.args.args.now) call.paths.items (scope_in c.begin_method.new.env.pool c.begin_method.new.scope)) (typed_in c.begin_method.new.env.pool c.begin_method.new.scope) c.args.env.now.marks c.begin_method.new.env.marks c.begin_method.new.env.marks c.in-Err.fault (c.in-Err.ensures.told (typed_args (here_at c.args.class.now c.args.m.now c.args.env.now.vars.list) c.args.args.now) (args_count (here_at c.args.class.now c.args.m.now c.args.env.now.vars.list) c.args.args.now))

pub type_call-returns-in-Ok-clause-told : goal.type_call-returns-in-Ok-clause-told
type_call-returns-in-Ok-clause-told t c =
    begun_told c.args.p.now (suffix_typed (here_at c.args.class.now c.args.m.now c.args.env.now.vars.list) c.args.name.now (Some (typed_args (here_at c.args.class.now c.args.m.now c.args.env.now.vars.list) c.args.args.now)) c.args.at (typed_in c.args.env.now.pool c.args.scope.now c.args.x)) (λ (call : Call). called (here_at c.args.class.now c.args.m.now c.args.env.now.vars.list) (header_in c.begin_method.new.env.pool call.header) (typed_args (here_at c.args.class.now c.args.m.now c.args.env.now.vars.list) c.args.args.now) call.paths.items (scope_in c.begin_method.new.env.pool c.begin_method.new.scope)) (typed_in c.type_called.new.env.pool c.type_called.new.scope) c.args.env.now.marks c.begin_method.new.env.marks c.type_called.new.env.marks c.in-Ok.begun
    (λ (vs : List Var). called (here_at c.args.class.now c.args.m.now vs) (header_in c.begin_method.new.env.pool c.in-Ok.begun.header) (typed_args (here_at c.args.class.now c.args.m.now vs) c.args.args.now) c.in-Ok.begun.paths.items (scope_in c.begin_method.new.env.pool c.begin_method.new.scope))
    c.begin_method.new.env.vars.list c.args.env.now.vars.list c.type_called.result (vars_stay c.in-Ok.ensures.stays) refl (c.in-Ok.ensures.told (typed_args (here_at c.args.class.now c.args.m.now c.args.env.now.vars.list) c.args.args.now) (args_count (here_at c.args.class.now c.args.m.now c.args.env.now.vars.list) c.args.args.now)) c.type_called.ensures.told

pub type_call-returns-in-Ok-clause-value : goal.type_call-returns-in-Ok-clause-value
type_call-returns-in-Ok-clause-value t c =
    values_behind c.type_called.new.env.pool c.args.scope.now c.begin_method.new.scope c.type_called.new.scope c.type_called.result c.in-Ok.ensures.call.grows c.type_called.ensures.value

pub type_call-returns-in-Ok-clause-stays : goal.type_call-returns-in-Ok-clause-stays
type_call-returns-in-Ok-clause-stays t c =
    stays_more c.in-Ok.ensures.stays c.type_called.ensures.stays

pub type_made-type_args-requires : goal.type_made-type_args-requires
type_made-type_args-requires t c =
    (search rules, (c.requires.parts, (c.requires.scope, (c.requires.there, (c.requires.call.fits c.in-Some.begun c.in-Some.is, (c.requires.call.begun c.in-Some.begun c.in-Some.is, c.requires.call.count c.in-Some.begun c.in-Some.is))))))

pub type_made-returns-in-None-clause-told : goal.type_made-returns-in-None-clause-told
type_made-returns-in-None-clause-told t c =
    made_none c.args.p.now (here_at c.args.class.now c.args.m.now c.args.env.now.vars.list) c.args.env.now.pool c.args.scope.now (typed_args (here_at c.args.class.now c.args.m.now c.args.env.now.vars.list) c.args.args.now) c.args.value c.args.constructor (typed_in c.made.new.env.pool c.args.scope.now) c.args.env.now.marks c.made.new.env.marks c.made.result c.in-None.is (c.made.ensures.told c.args.p.now)

pub type_made-made-requires-in-Ok-clause-scope : goal.type_made-made-requires-in-Ok-clause-scope
type_made-made-requires-in-Ok-clause-scope t c =
    c.in-Ok.ensures.passed.scope

pub type_made-made-requires-in-Ok-clause-number : goal.type_made-made-requires-in-Ok-clause-number
type_made-made-requires-in-Ok-clause-number t c =
    c.in-Ok.ensures.stays.pool.has c.args.value.ty c.requires.number

pub type_made-made-requires-in-Ok-clause-fits : goal.type_made-made-requires-in-Ok-clause-fits
type_made-made-requires-in-Ok-clause-fits t c =
    typed_later c.requires.scope c.in-Ok.ensures.stays.pool c.in-Ok.ensures.passed.grows c.in-Ok.ensures.passed.scope c.requires.number c.requires.fits

pub type_made-returns-in-Err-clause-told : goal.type_made-returns-in-Err-clause-told
type_made-returns-in-Err-clause-told t c =
    made_some c.args.p.now (here_at c.args.class.now c.args.m.now c.args.env.now.vars.list) c.args.env.now.pool c.args.scope.now (typed_args (here_at c.args.class.now c.args.m.now c.args.env.now.vars.list) c.args.args.now) c.args.value c.args.constructor (typed_in c.type_args.new.env.pool c.type_args.new.scope) c.args.env.now.marks c.type_args.new.env.marks (Err c.in-Err.fault) c.in-Some.begun c.in-Some.is
    (args_refused c.args.p.now c.args.class.now c.args.m.now c.args.args.now c.args.env.now.pool c.in-Some.begun (c.requires.call.call c.in-Some.begun c.in-Some.is) c.args.env.now.vars.list (scope_in c.args.env.now.pool c.args.scope.now) c.args.env.now.marks c.args.env.now.marks c.type_args.new.env.marks
    (made_call (here_at c.args.class.now c.args.m.now c.args.env.now.vars.list) c.args.env.now.pool c.args.scope.now (typed_args (here_at c.args.class.now c.args.m.now c.args.env.now.vars.list) c.args.args.now) c.args.value (Some c.in-Some.begun)) (λ (x : Passed). gives (record { ty = shown c.args.env.now.pool c.args.value.ty; path = c.args.value.path; scope = x.scope })) c.args.env.now.vars.list (scope_in c.args.env.now.pool c.args.scope.now) refl refl (leads_here _ c.args.env.now.marks) (λ (u : Unit {0}). passed_in c.type_args.new.env.pool c.type_args.new.scope c.type_args.new.call) (typed_in c.type_args.new.env.pool c.type_args.new.scope) c.type_args.new.env.marks c.in-Err.fault c.in-Err.ensures.told)

pub type_made-returns-clause-told : goal.type_made-returns-clause-told
type_made-returns-clause-told t c =
    made_some c.args.p.now (here_at c.args.class.now c.args.m.now c.args.env.now.vars.list) c.args.env.now.pool c.args.scope.now (typed_args (here_at c.args.class.now c.args.m.now c.args.env.now.vars.list) c.args.args.now) c.args.value c.args.constructor (typed_in c.made-in-Ok.new.env.pool c.type_args.new.scope) c.args.env.now.marks c.made-in-Ok.new.env.marks c.made-in-Ok.result c.in-Some.begun c.in-Some.is
    (leads_told (typed_in c.made-in-Ok.new.env.pool c.type_args.new.scope) c.made-in-Ok.new.env.marks (args_went c.args.p.now c.args.class.now c.args.m.now c.args.args.now c.args.env.now.pool c.in-Some.begun (c.requires.call.call c.in-Some.begun c.in-Some.is) c.args.env.now.vars.list (scope_in c.args.env.now.pool c.args.scope.now) c.args.env.now.marks c.args.env.now.marks c.type_args.new.env.marks
    (made_call (here_at c.args.class.now c.args.m.now c.args.env.now.vars.list) c.args.env.now.pool c.args.scope.now (typed_args (here_at c.args.class.now c.args.m.now c.args.env.now.vars.list) c.args.args.now) c.args.value (Some c.in-Some.begun)) (λ (x : Passed). gives (record { ty = shown c.args.env.now.pool c.args.value.ty; path = c.args.value.path; scope = x.scope })) c.args.env.now.vars.list (scope_in c.args.env.now.pool c.args.scope.now) refl refl (leads_here _ c.args.env.now.marks) (passed_in c.type_args.new.env.pool c.type_args.new.scope c.type_args.new.call) c.in-Ok.ensures.told) c.made-in-Ok.result
    (made_at c.args.p.now c.args.env.now.pool c.type_args.new.env.pool c.type_args.new.scope c.args.value (typed_in c.made-in-Ok.new.env.pool c.type_args.new.scope) c.type_args.new.env.marks c.made-in-Ok.new.env.marks c.made-in-Ok.result c.in-Ok.ensures.stays.pool c.requires.number (c.made-in-Ok.ensures.told c.args.p.now)))

pub type_made-returns-clause-value : goal.type_made-returns-clause-value
type_made-returns-clause-value t c =
    values_behind c.made-in-Ok.new.env.pool c.args.scope.now c.type_args.new.scope c.type_args.new.scope c.made-in-Ok.result c.in-Ok.ensures.passed.grows c.made-in-Ok.ensures.value

pub type_made-returns-clause-stays : goal.type_made-returns-clause-stays
type_made-returns-clause-stays t c =
    stays_more c.in-Ok.ensures.stays c.made-in-Ok.ensures.stays

pub type_new-type_made-requires : goal.type_new-type_made-requires
type_new-type_made-requires t c =
    let THERE = stays_there c.args.p.now c.args.class.now c.args.m.now c.requires.there c.in-Ok.ensures.stays c.requires.scope c.in-Ok.ensures.made.grows c.in-Ok.ensures.made.scope in
    (search rules, (parts_stay c.requires.parts c.in-Ok.ensures.stays, (c.in-Ok.ensures.made.scope, (THERE, (c.in-Ok.ensures.made.number, (c.in-Ok.ensures.made.fits, c.in-Ok.ensures.awaits))))))

pub type_new-returns-in-Err-clause-told : goal.type_new-returns-in-Err-clause-told
type_new-returns-in-Err-clause-told t c =
    begun_fault c.args.p.now (ask (OfTerm role.New (site_here (here_at c.args.class.now c.args.m.now c.args.env.now.vars.list)) c.args.t.now) (taken (new_typed (here_at c.args.class.now c.args.m.now c.args.env.now.vars.list) c.args.at (typed_args (here_at c.args.class.now c.args.m.now c.args.env.now.vars.list) c.args.args.now) (scope_in c.args.env.now.pool c.args.scope.now)))) (made_left (here_at c.args.class.now c.args.m.now c.args.env.now.vars.list) c.begin_new.new.env.pool c.begin_new.new.scope (typed_args (here_at c.args.class.now c.args.m.now c.args.env.now.vars.list) c.args.args.now)) (typed_in c.begin_new.new.env.pool c.begin_new.new.scope) c.args.env.now.marks c.begin_new.new.env.marks c.begin_new.new.env.marks c.in-Err.fault (c.in-Err.ensures.told (typed_args (here_at c.args.class.now c.args.m.now c.args.env.now.vars.list) c.args.args.now) (args_count (here_at c.args.class.now c.args.m.now c.args.env.now.vars.list) c.args.args.now))

pub type_new-returns-in-Ok-clause-told : goal.type_new-returns-in-Ok-clause-told
type_new-returns-in-Ok-clause-told t c =
    begun_told c.args.p.now (ask (OfTerm role.New (site_here (here_at c.args.class.now c.args.m.now c.args.env.now.vars.list)) c.args.t.now) (taken (new_typed (here_at c.args.class.now c.args.m.now c.args.env.now.vars.list) c.args.at (typed_args (here_at c.args.class.now c.args.m.now c.args.env.now.vars.list) c.args.args.now) (scope_in c.args.env.now.pool c.args.scope.now)))) (made_left (here_at c.args.class.now c.args.m.now c.args.env.now.vars.list) c.begin_new.new.env.pool c.begin_new.new.scope (typed_args (here_at c.args.class.now c.args.m.now c.args.env.now.vars.list) c.args.args.now)) (typed_in c.type_made.new.env.pool c.type_made.new.scope) c.args.env.now.marks c.begin_new.new.env.marks c.type_made.new.env.marks c.in-Ok.making
    (λ (vs : List Var). made_call (here_at c.args.class.now c.args.m.now vs) c.begin_new.new.env.pool c.begin_new.new.scope (typed_args (here_at c.args.class.now c.args.m.now vs) c.args.args.now) c.in-Ok.making.value c.in-Ok.making.call)
    c.begin_new.new.env.vars.list c.args.env.now.vars.list c.type_made.result (vars_stay c.in-Ok.ensures.stays) refl (c.in-Ok.ensures.told (typed_args (here_at c.args.class.now c.args.m.now c.args.env.now.vars.list) c.args.args.now) (args_count (here_at c.args.class.now c.args.m.now c.args.env.now.vars.list) c.args.args.now)) c.type_made.ensures.told

pub type_new-returns-in-Ok-clause-value : goal.type_new-returns-in-Ok-clause-value
type_new-returns-in-Ok-clause-value t c =
    values_behind c.type_made.new.env.pool c.args.scope.now c.begin_new.new.scope c.type_made.new.scope c.type_made.result c.in-Ok.ensures.made.grows c.type_made.ensures.value

pub type_new-returns-in-Ok-clause-stays : goal.type_new-returns-in-Ok-clause-stays
type_new-returns-in-Ok-clause-stays t c =
    stays_more c.in-Ok.ensures.stays c.type_made.ensures.stays

pub type_super_body-type_args-requires : goal.type_super_body-type_args-requires
type_super_body-type_args-requires t c =
    let SCOPE = scope_stays c.requires.scope c.in-Ok.ensures.stays.pool in
    let FITS = c.in-Ok.ensures.fits (scope_in c.enter_super.new.env.pool c.args.scope.now)
    (subst (λ (q : TypeScope). Binds q 0) (sym (scope_kept c.args.scope.now c.requires.scope.known c.in-Ok.ensures.stays.pool)) (this_there c.args.p.now (site_here (here_at c.args.class.now c.args.m.now c.args.env.now.vars.list)) (scope_in c.args.env.now.pool c.args.scope.now) c.requires.there).bound_in)
    (subst (λ (q : TypeScope). length (bound_of q 0) ≡ length c.args.owner.now) (sym (scope_kept c.args.scope.now c.requires.scope.known c.in-Ok.ensures.stays.pool)) c.requires.deep) in
    (search rules, (parts_stay c.requires.parts c.in-Ok.ensures.stays, (SCOPE, (stays_there c.args.p.now c.args.class.now c.args.m.now c.requires.there c.in-Ok.ensures.stays c.requires.scope (grows_none c.args.scope.now) SCOPE, (FITS, (c.in-Ok.ensures.begun, c.in-Ok.ensures.count))))))

pub type_super_body-returns-in-Err-type_args-clause-stays : goal.type_super_body-returns-in-Err-type_args-clause-stays
type_super_body-returns-in-Err-type_args-clause-stays t c =
    stays_more c.in-Ok.ensures.stays c.in-Err-type_args.ensures.stays

pub type_super_body-end_super-requires-clause-parts : goal.type_super_body-end_super-requires-clause-parts
type_super_body-end_super-requires-clause-parts t c =
    parts_stay c.requires.parts (stays_more c.in-Ok.ensures.stays c.in-Ok-type_args.ensures.stays)

pub type_super_body-end_super-requires-clause-scope : goal.type_super_body-end_super-requires-clause-scope
type_super_body-end_super-requires-clause-scope t c =
    c.in-Ok-type_args.ensures.passed.scope

pub type_super_body-end_super-requires-clause-call : goal.type_super_body-end_super-requires-clause-call
type_super_body-end_super-requires-clause-call t c =
    c.in-Ok-type_args.ensures.fits

pub type_super_body-end_super-requires-clause-full : goal.type_super_body-end_super-requires-clause-full
type_super_body-end_super-requires-clause-full t c =
    c.in-Ok-type_args.ensures.full

pub type_super_body-returns-in-Err-clause-told : goal.type_super_body-returns-in-Err-clause-told
type_super_body-returns-in-Err-clause-told t c =
    begun_fault c.args.p.now (super_gives (here_at c.args.class.now c.args.m.now c.args.env.now.vars.list) c.args.name.now (typed_args (here_at c.args.class.now c.args.m.now c.args.env.now.vars.list) c.args.args.now) (scope_in c.args.env.now.pool c.args.scope.now) (body_of c.args.owner.now c.args.method.now)) (λ (call : Call). super_left (here_at c.args.class.now c.args.m.now c.args.env.now.vars.list) c.args.name.now (typed_args (here_at c.args.class.now c.args.m.now c.args.env.now.vars.list) c.args.args.now) (scope_in c.args.env.now.pool c.args.scope.now) (body_of c.args.owner.now c.args.method.now) (header_in c.enter_super.new.env.pool call.header) call.paths.items) (typed_in c.enter_super.new.env.pool c.args.scope.now) c.args.env.now.marks c.enter_super.new.env.marks c.enter_super.new.env.marks c.in-Err.fault (c.in-Err.ensures.told (typed_args (here_at c.args.class.now c.args.m.now c.args.env.now.vars.list) c.args.args.now) (scope_in c.args.env.now.pool c.args.scope.now) (args_count (here_at c.args.class.now c.args.m.now c.args.env.now.vars.list) c.args.args.now))

pub type_super_body-returns-in-Err-type_args-clause-told : goal.type_super_body-returns-in-Err-type_args-clause-told
type_super_body-returns-in-Err-type_args-clause-told t c =
    args_refused c.args.p.now c.args.class.now c.args.m.now c.args.args.now c.enter_super.new.env.pool c.in-Ok.begun c.in-Ok.ensures.call c.args.env.now.vars.list (scope_in c.args.env.now.pool c.args.scope.now) c.args.env.now.marks c.enter_super.new.env.marks c.type_args.new.env.marks
    (super_gives (here_at c.args.class.now c.args.m.now c.args.env.now.vars.list) c.args.name.now (typed_args (here_at c.args.class.now c.args.m.now c.args.env.now.vars.list) c.args.args.now) (scope_in c.args.env.now.pool c.args.scope.now) (body_of c.args.owner.now c.args.method.now)) (λ (x : Passed). constraints_granted (here_at c.args.class.now c.args.m.now c.args.env.now.vars.list) (body_of c.args.owner.now c.args.method.now) c.args.name.now x.scope c.args.method.now.sharing (result_gives (header_in c.enter_super.new.env.pool c.in-Ok.begun.header) x)) c.enter_super.new.env.vars.list (scope_in c.enter_super.new.env.pool c.args.scope.now) (vars_stay c.in-Ok.ensures.stays) (scope_kept c.args.scope.now c.requires.scope.known c.in-Ok.ensures.stays.pool) (c.in-Ok.ensures.told (typed_args (here_at c.args.class.now c.args.m.now c.args.env.now.vars.list) c.args.args.now) (scope_in c.args.env.now.pool c.args.scope.now) (args_count (here_at c.args.class.now c.args.m.now c.args.env.now.vars.list) c.args.args.now)) (λ (u : Unit {0}). passed_in c.type_args.new.env.pool c.type_args.new.scope c.type_args.new.call) (typed_in c.type_args.new.env.pool c.type_args.new.scope) c.type_args.new.env.marks c.in-Err-type_args.fault c.in-Err-type_args.ensures.told

pub type_super_body-returns-clause-told : goal.type_super_body-returns-clause-told
type_super_body-returns-clause-told t c =
    leads_told (typed_in c.end_super.new.env.pool c.type_args.new.scope) c.end_super.new.env.marks
    (args_went c.args.p.now c.args.class.now c.args.m.now c.args.args.now c.enter_super.new.env.pool c.in-Ok.begun c.in-Ok.ensures.call c.args.env.now.vars.list (scope_in c.args.env.now.pool c.args.scope.now) c.args.env.now.marks c.enter_super.new.env.marks c.type_args.new.env.marks
    (super_gives (here_at c.args.class.now c.args.m.now c.args.env.now.vars.list) c.args.name.now (typed_args (here_at c.args.class.now c.args.m.now c.args.env.now.vars.list) c.args.args.now) (scope_in c.args.env.now.pool c.args.scope.now) (body_of c.args.owner.now c.args.method.now)) (λ (x : Passed). constraints_granted (here_at c.args.class.now c.args.m.now c.args.env.now.vars.list) (body_of c.args.owner.now c.args.method.now) c.args.name.now x.scope c.args.method.now.sharing (result_gives (header_in c.enter_super.new.env.pool c.in-Ok.begun.header) x)) c.enter_super.new.env.vars.list (scope_in c.enter_super.new.env.pool c.args.scope.now) (vars_stay c.in-Ok.ensures.stays) (scope_kept c.args.scope.now c.requires.scope.known c.in-Ok.ensures.stays.pool) (c.in-Ok.ensures.told (typed_args (here_at c.args.class.now c.args.m.now c.args.env.now.vars.list) c.args.args.now) (scope_in c.args.env.now.pool c.args.scope.now) (args_count (here_at c.args.class.now c.args.m.now c.args.env.now.vars.list) c.args.args.now)) (passed_in c.type_args.new.env.pool c.type_args.new.scope c.type_args.new.call) c.in-Ok-type_args.ensures.told) c.end_super.result
    (subst (λ (k : TypedHeader). PlanTold c.args.p.now (constraints_granted (here_at c.args.class.now c.args.m.now c.args.env.now.vars.list) (body_of c.args.owner.now c.args.method.now) c.args.name.now (scope_in c.type_args.new.env.pool c.type_args.new.scope) c.args.method.now.sharing (result_gives k (passed_in c.type_args.new.env.pool c.type_args.new.scope c.type_args.new.call))) (typed_in c.end_super.new.env.pool c.type_args.new.scope) c.type_args.new.env.marks c.end_super.new.env.marks c.end_super.result)
    (header_stays c.enter_super.new.env.pool c.type_args.new.env.pool c.in-Ok.begun c.type_args.new.call c.in-Ok.ensures.call c.in-Ok-type_args.ensures.stays.pool c.in-Ok-type_args.ensures.passed.header c.in-Ok-type_args.ensures.passed.from)
    (subst (λ (vs : List Var). PlanTold c.args.p.now (constraints_granted (here_at c.args.class.now c.args.m.now vs) (body_of c.args.owner.now c.args.method.now) c.args.name.now (scope_in c.type_args.new.env.pool c.type_args.new.scope) c.args.method.now.sharing (result_gives (header_in c.type_args.new.env.pool c.type_args.new.call.header) (passed_in c.type_args.new.env.pool c.type_args.new.scope c.type_args.new.call))) (typed_in c.end_super.new.env.pool c.type_args.new.scope) c.type_args.new.env.marks c.end_super.new.env.marks c.end_super.result)
    (vars_stay (stays_more c.in-Ok.ensures.stays c.in-Ok-type_args.ensures.stays)) c.end_super.ensures.told))

pub type_super_body-returns-clause-value : goal.type_super_body-returns-clause-value
type_super_body-returns-clause-value t c =
    values_behind c.end_super.new.env.pool c.args.scope.now c.type_args.new.scope c.type_args.new.scope c.end_super.result c.in-Ok-type_args.ensures.passed.grows c.end_super.ensures.value

pub type_super_body-returns-clause-stays : goal.type_super_body-returns-clause-stays
type_super_body-returns-clause-stays t c =
    stays_more (stays_more c.in-Ok.ensures.stays c.in-Ok-type_args.ensures.stays) c.end_super.ensures.stays

pub type_super-type_super_body-requires : goal.type_super-type_super_body-requires
type_super-type_super_body-requires t c =
    let SCOPE = scope_stays c.requires.scope c.in-Ok.ensures.stays.pool in
    let AT = own_name (subst (λ (R : Path). MethodAt c.args.p.now R c.args.name.now.name c.in-Some.method.now) (ap (λ (q : ShownPath). reverse q.names) c.in_ok-path-in-Ok.ensures ∙ reverse-reverse c.in-Ok.owner) c.in-Some.ensures) in
    let DEEP = subst (λ (q : TypeScope). length (bound_of q 0) ≡ length c.in-Ok.owner) (sym (scope_kept c.args.scope.now c.requires.scope.known c.in-Ok.ensures.stays.pool)) c.in-Ok.ensures.deep in
    (search rules, (parts_stay c.requires.parts c.in-Ok.ensures.stays, (SCOPE, (stays_there c.args.p.now c.args.class.now c.args.m.now c.requires.there c.in-Ok.ensures.stays c.requires.scope (grows_none c.args.scope.now) SCOPE, (AT, DEEP)))))

pub type_super-returns-in-Err-clause-told : goal.type_super-returns-in-Err-clause-told
type_super-returns-in-Err-clause-told t c =
    owner_fault c.args.p.now c.args.name.now.name (ask (OfTerm role.Super (site_here (here_at c.args.class.now c.args.m.now c.args.env.now.vars.list)) c.args.t.now) (taken (super_typed (here_at c.args.class.now c.args.m.now c.args.env.now.vars.list) c.args.t.now c.args.name.now (typed_args (here_at c.args.class.now c.args.m.now c.args.env.now.vars.list) c.args.args.now) (scope_in c.args.env.now.pool c.args.scope.now)))) (super_gives (here_at c.args.class.now c.args.m.now c.args.env.now.vars.list) c.args.name.now (typed_args (here_at c.args.class.now c.args.m.now c.args.env.now.vars.list) c.args.args.now) (scope_in c.args.env.now.pool c.args.scope.now)) c.args.env.now.marks c.begin_super.new.env.marks (typed_in c.begin_super.new.env.pool c.args.scope.now) c.begin_super.new.env.marks c.in-Err.fault (c.in-Err.ensures.told (typed_args (here_at c.args.class.now c.args.m.now c.args.env.now.vars.list) c.args.args.now))

pub type_super-returns-clause-told : goal.type_super-returns-clause-told
type_super-returns-clause-told t c =
    owner_told c.args.p.now c.args.class.now c.args.m.now c.args.name.now c.args.args.now c.args.env.now.vars.list (scope_in c.args.env.now.pool c.args.scope.now) c.args.env.now.marks c.begin_super.new.env.marks c.type_super_body.new.env.marks (ask (OfTerm role.Super (site_here (here_at c.args.class.now c.args.m.now c.args.env.now.vars.list)) c.args.t.now) (taken (super_typed (here_at c.args.class.now c.args.m.now c.args.env.now.vars.list) c.args.t.now c.args.name.now (typed_args (here_at c.args.class.now c.args.m.now c.args.env.now.vars.list) c.args.args.now) (scope_in c.args.env.now.pool c.args.scope.now)))) c.in-Ok.owner c.in-Some.method.now
    c.begin_super.new.env.vars.list (scope_in c.begin_super.new.env.pool c.args.scope.now) (vars_stay c.in-Ok.ensures.stays) (scope_kept c.args.scope.now c.requires.scope.known c.in-Ok.ensures.stays.pool)
    (c.in-Ok.ensures.told (typed_args (here_at c.args.class.now c.args.m.now c.args.env.now.vars.list) c.args.args.now) c.in-Some.method.now (subst (λ (R : Path). MethodAt c.args.p.now R c.args.name.now.name c.in-Some.method.now) (ap (λ (q : ShownPath). reverse q.names) c.in_ok-path-in-Ok.ensures ∙ reverse-reverse c.in-Ok.owner) c.in-Some.ensures))
    (typed_in c.type_super_body.new.env.pool c.type_super_body.new.scope) c.type_super_body.result c.type_super_body.ensures.told

pub type_super-returns-clause-stays : goal.type_super-returns-clause-stays
type_super-returns-clause-stays t c =
    stays_more c.in-Ok.ensures.stays c.type_super_body.ensures.stays

pub value_of-returns-in-Int-clause-told : goal.value_of-returns-in-Int-clause-told
value_of-returns-in-Int-clause-told t c =
    same_plan c.args.p.now (expr_types (here_at c.args.class.now c.args.m.now c.args.env.now.vars.list) c.args.e.now (scope_in c.args.env.now.pool c.args.scope.now)) (gives (plain ty.Int (scope_in c.args.env.now.pool c.args.scope.now))) (typed_in c.plain.new.env.pool c.args.scope.now) c.args.env.now.marks c.plain.new.env.marks c.plain.result (number_form (here_at c.args.class.now c.args.m.now c.args.env.now.vars.list) c.args.e.now (scope_in c.args.env.now.pool c.args.scope.now) _ c.in-Int.is) (c.plain.ensures.told c.args.p.now)

pub value_of-returns-in-Bool-clause-told : goal.value_of-returns-in-Bool-clause-told
value_of-returns-in-Bool-clause-told t c =
    same_plan c.args.p.now (expr_types (here_at c.args.class.now c.args.m.now c.args.env.now.vars.list) c.args.e.now (scope_in c.args.env.now.pool c.args.scope.now)) (gives (plain ty.Bool (scope_in c.args.env.now.pool c.args.scope.now))) (typed_in c.plain-in-Bool.new.env.pool c.args.scope.now) c.args.env.now.marks c.plain-in-Bool.new.env.marks c.plain-in-Bool.result (truth_form (here_at c.args.class.now c.args.m.now c.args.env.now.vars.list) c.args.e.now (scope_in c.args.env.now.pool c.args.scope.now) _ c.in-Bool.is) (c.plain-in-Bool.ensures.told c.args.p.now)

pub value_of-returns-in-Null-clause-told : goal.value_of-returns-in-Null-clause-told
value_of-returns-in-Null-clause-told t c =
    same_plan c.args.p.now (expr_types (here_at c.args.class.now c.args.m.now c.args.env.now.vars.list) c.args.e.now (scope_in c.args.env.now.pool c.args.scope.now)) (gives (plain ty.Null (scope_in c.args.env.now.pool c.args.scope.now))) (typed_in c.plain-in-Null.new.env.pool c.args.scope.now) c.args.env.now.marks c.plain-in-Null.new.env.marks c.plain-in-Null.result (null_form (here_at c.args.class.now c.args.m.now c.args.env.now.vars.list) c.args.e.now (scope_in c.args.env.now.pool c.args.scope.now) c.in-Null.is) (c.plain-in-Null.ensures.told c.args.p.now)

pub value_of-returns-in-This-clause-told : goal.value_of-returns-in-This-clause-told
value_of-returns-in-This-clause-told t c =
    same_plan c.args.p.now (expr_types (here_at c.args.class.now c.args.m.now c.args.env.now.vars.list) c.args.e.now (scope_in c.args.env.now.pool c.args.scope.now)) (gives (of_path 0 (scope_in c.args.env.now.pool c.args.scope.now))) (typed_in c.path_value.new.env.pool c.args.scope.now) c.args.env.now.marks c.path_value.new.env.marks c.path_value.result (this_form (here_at c.args.class.now c.args.m.now c.args.env.now.vars.list) c.args.e.now (scope_in c.args.env.now.pool c.args.scope.now) c.in-This.is) (c.path_value.ensures.told c.args.p.now)

pub value_of-returns-in-Var-clause-told : goal.value_of-returns-in-Var-clause-told
value_of-returns-in-Var-clause-told t c =
    same_plan c.args.p.now (expr_types (here_at c.args.class.now c.args.m.now c.args.env.now.vars.list) c.args.e.now (scope_in c.args.env.now.pool c.args.scope.now)) (var_gives (here_at c.args.class.now c.args.m.now c.args.env.now.vars.list) c.args.e.now.at c.in-Var.x (scope_in c.args.env.now.pool c.args.scope.now) (var_named c.args.env.now.vars c.in-Var.x)) (typed_in c.variable.new.env.pool c.args.scope.now) c.args.env.now.marks c.variable.new.env.marks c.variable.result (var_form (here_at c.args.class.now c.args.m.now c.args.env.now.vars.list) c.args.e.now (scope_in c.args.env.now.pool c.args.scope.now) c.in-Var.x c.in-Var.is) (c.variable.ensures.told c.args.p.now c.args.m.now)

pub value_of-returns-in-New-clause-told : goal.value_of-returns-in-New-clause-told
value_of-returns-in-New-clause-told t c =
    same_plan c.args.p.now (expr_types (here_at c.args.class.now c.args.m.now c.args.env.now.vars.list) c.args.e.now (scope_in c.args.env.now.pool c.args.scope.now)) (ask (OfTerm role.New (site_here (here_at c.args.class.now c.args.m.now c.args.env.now.vars.list)) c.in-New.t) (taken (new_typed (here_at c.args.class.now c.args.m.now c.args.env.now.vars.list) c.args.e.now.at (typed_args (here_at c.args.class.now c.args.m.now c.args.env.now.vars.list) (c.as_slice.result.now)) (scope_in c.args.env.now.pool c.args.scope.now)))) (typed_in c.type_new.new.env.pool c.type_new.new.scope) c.args.env.now.marks c.type_new.new.env.marks c.type_new.result (new_form (here_at c.args.class.now c.args.m.now c.args.env.now.vars.list) c.args.e.now (scope_in c.args.env.now.pool c.args.scope.now) c.in-New.t c.in-New.args c.in-New.is ∙ ap (λ (y : List Expr). ask (OfTerm role.New (site_here (here_at c.args.class.now c.args.m.now c.args.env.now.vars.list)) c.in-New.t) (taken (new_typed (here_at c.args.class.now c.args.m.now c.args.env.now.vars.list) c.args.e.now.at (typed_args (here_at c.args.class.now c.args.m.now c.args.env.now.vars.list) (y)) (scope_in c.args.env.now.pool c.args.scope.now)))) (sym c.as_slice.ensures)) c.type_new.ensures.told

pub value_of-returns-in-Super-clause-told : goal.value_of-returns-in-Super-clause-told
value_of-returns-in-Super-clause-told t c =
    same_plan c.args.p.now (expr_types (here_at c.args.class.now c.args.m.now c.args.env.now.vars.list) c.args.e.now (scope_in c.args.env.now.pool c.args.scope.now)) (ask (OfTerm role.Super (site_here (here_at c.args.class.now c.args.m.now c.args.env.now.vars.list)) c.in-Super.t) (taken (super_typed (here_at c.args.class.now c.args.m.now c.args.env.now.vars.list) c.in-Super.t c.in-Super.name (typed_args (here_at c.args.class.now c.args.m.now c.args.env.now.vars.list) (c.as_slice-in-Super.result.now)) (scope_in c.args.env.now.pool c.args.scope.now)))) (typed_in c.type_super.new.env.pool c.type_super.new.scope) c.args.env.now.marks c.type_super.new.env.marks c.type_super.result (super_form (here_at c.args.class.now c.args.m.now c.args.env.now.vars.list) c.args.e.now (scope_in c.args.env.now.pool c.args.scope.now) c.in-Super.t c.in-Super.name c.in-Super.args c.in-Super.is ∙ ap (λ (y : List Expr). ask (OfTerm role.Super (site_here (here_at c.args.class.now c.args.m.now c.args.env.now.vars.list)) c.in-Super.t) (taken (super_typed (here_at c.args.class.now c.args.m.now c.args.env.now.vars.list) c.in-Super.t c.in-Super.name (typed_args (here_at c.args.class.now c.args.m.now c.args.env.now.vars.list) (y)) (scope_in c.args.env.now.pool c.args.scope.now)))) (sym c.as_slice-in-Super.ensures)) c.type_super.ensures.told

pub value_of-returns-in-Not-clause-told : goal.value_of-returns-in-Not-clause-told
value_of-returns-in-Not-clause-told t c =
    same_plan c.args.p.now (expr_types (here_at c.args.class.now c.args.m.now c.args.env.now.vars.list) c.args.e.now (scope_in c.args.env.now.pool c.args.scope.now)) (then_do (expr_types (here_at c.args.class.now c.args.m.now c.args.env.now.vars.list) (c.get.result.now) (scope_in c.args.env.now.pool c.args.scope.now)) (inverted (here_at c.args.class.now c.args.m.now c.args.env.now.vars.list) (c.get.result.now).at)) (typed_in c.type_not.new.env.pool c.type_not.new.scope) c.args.env.now.marks c.type_not.new.env.marks c.type_not.result (not_form (here_at c.args.class.now c.args.m.now c.args.env.now.vars.list) c.args.e.now (scope_in c.args.env.now.pool c.args.scope.now) c.in-Not.inner c.in-Not.is ∙ ap (λ (y : Expr). then_do (expr_types (here_at c.args.class.now c.args.m.now c.args.env.now.vars.list) (y) (scope_in c.args.env.now.pool c.args.scope.now)) (inverted (here_at c.args.class.now c.args.m.now c.args.env.now.vars.list) (y).at)) (sym c.get.ensures)) c.type_not.ensures.told

pub value_of-returns-in-Neg-clause-told : goal.value_of-returns-in-Neg-clause-told
value_of-returns-in-Neg-clause-told t c =
    same_plan c.args.p.now (expr_types (here_at c.args.class.now c.args.m.now c.args.env.now.vars.list) c.args.e.now (scope_in c.args.env.now.pool c.args.scope.now)) (then_do (expr_types (here_at c.args.class.now c.args.m.now c.args.env.now.vars.list) (c.get-in-Neg.result.now) (scope_in c.args.env.now.pool c.args.scope.now)) (negated (here_at c.args.class.now c.args.m.now c.args.env.now.vars.list) (c.get-in-Neg.result.now).at)) (typed_in c.type_negative.new.env.pool c.type_negative.new.scope) c.args.env.now.marks c.type_negative.new.env.marks c.type_negative.result (negative_form (here_at c.args.class.now c.args.m.now c.args.env.now.vars.list) c.args.e.now (scope_in c.args.env.now.pool c.args.scope.now) c.in-Neg.inner c.in-Neg.is ∙ ap (λ (y : Expr). then_do (expr_types (here_at c.args.class.now c.args.m.now c.args.env.now.vars.list) (y) (scope_in c.args.env.now.pool c.args.scope.now)) (negated (here_at c.args.class.now c.args.m.now c.args.env.now.vars.list) (y).at)) (sym c.get-in-Neg.ensures)) c.type_negative.ensures.told

pub value_of-returns-in-View-clause-told : goal.value_of-returns-in-View-clause-told
value_of-returns-in-View-clause-told t c =
    same_plan c.args.p.now (expr_types (here_at c.args.class.now c.args.m.now c.args.env.now.vars.list) c.args.e.now (scope_in c.args.env.now.pool c.args.scope.now)) (ask (OfView (site_here (here_at c.args.class.now c.args.m.now c.args.env.now.vars.list)) c.in-View.view) (taken (view_typed (here_at c.args.class.now c.args.m.now c.args.env.now.vars.list) c.args.e.now.at (typed_expr (here_at c.args.class.now c.args.m.now c.args.env.now.vars.list) (c.get-in-View.result.now)) (scope_in c.args.env.now.pool c.args.scope.now)))) (typed_in c.type_view.new.env.pool c.type_view.new.scope) c.args.env.now.marks c.type_view.new.env.marks c.type_view.result (view_form (here_at c.args.class.now c.args.m.now c.args.env.now.vars.list) c.args.e.now (scope_in c.args.env.now.pool c.args.scope.now) c.in-View.view c.in-View.inner c.in-View.is ∙ ap (λ (y : Expr). ask (OfView (site_here (here_at c.args.class.now c.args.m.now c.args.env.now.vars.list)) c.in-View.view) (taken (view_typed (here_at c.args.class.now c.args.m.now c.args.env.now.vars.list) c.args.e.now.at (typed_expr (here_at c.args.class.now c.args.m.now c.args.env.now.vars.list) (y)) (scope_in c.args.env.now.pool c.args.scope.now)))) (sym c.get-in-View.ensures)) c.type_view.ensures.told

pub value_of-returns-in-Err-clause-told : goal.value_of-returns-in-Err-clause-told
value_of-returns-in-Err-clause-told t c =
    same_plan c.args.p.now (expr_types (here_at c.args.class.now c.args.m.now c.args.env.now.vars.list) c.args.e.now (scope_in c.args.env.now.pool c.args.scope.now)) (then_do (expr_types (here_at c.args.class.now c.args.m.now c.args.env.now.vars.list) (c.get-receiver.result.now) (scope_in c.args.env.now.pool c.args.scope.now)) (suffixes_typed c.args.e.now.at (c.get-receiver.result.now).at (typed_parts (here_at c.args.class.now c.args.m.now c.args.env.now.vars.list) (c.in-Post.suffixes)))) (typed_in c.value_of.new.env.pool c.value_of.new.scope) c.args.env.now.marks c.value_of.new.env.marks (Err c.in-Err.fault) (post_form (here_at c.args.class.now c.args.m.now c.args.env.now.vars.list) c.args.e.now (scope_in c.args.env.now.pool c.args.scope.now) c.in-Post.first c.in-Post.suffixes c.in-Post.is ∙ ap (λ (x : Expr). then_do (expr_types (here_at c.args.class.now c.args.m.now c.args.env.now.vars.list) (x) (scope_in c.args.env.now.pool c.args.scope.now)) (suffixes_typed c.args.e.now.at (x).at (typed_parts (here_at c.args.class.now c.args.m.now c.args.env.now.vars.list) (c.in-Post.suffixes)))) (sym c.get-receiver.ensures))
    (then_fault c.args.p.now (expr_types (here_at c.args.class.now c.args.m.now c.args.env.now.vars.list) c.get-receiver.result.now (scope_in c.args.env.now.pool c.args.scope.now)) c.args.env.now.marks c.value_of.new.env.marks c.value_of.new.env.marks (typed_in c.value_of.new.env.pool c.value_of.new.scope) (typed_in c.value_of.new.env.pool c.value_of.new.scope) (suffixes_typed c.args.e.now.at (c.get-receiver.result.now).at (typed_parts (here_at c.args.class.now c.args.m.now c.args.env.now.vars.list) (c.in-Post.suffixes))) c.in-Err.fault c.in-Err.ensures.told)

pub value_of-returns-in-Ok-clause-told : goal.value_of-returns-in-Ok-clause-told
value_of-returns-in-Ok-clause-told t c =
    same_plan c.args.p.now (expr_types (here_at c.args.class.now c.args.m.now c.args.env.now.vars.list) c.args.e.now (scope_in c.args.env.now.pool c.args.scope.now)) (then_do (expr_types (here_at c.args.class.now c.args.m.now c.args.env.now.vars.list) (c.get-receiver.result.now) (scope_in c.args.env.now.pool c.args.scope.now)) (suffixes_typed c.args.e.now.at (c.get-receiver.result.now).at (typed_parts (here_at c.args.class.now c.args.m.now c.args.env.now.vars.list) (c.as_slice-in-Ok.result.now)))) (typed_in c.type_parts.new.env.pool c.type_parts.new.scope) c.args.env.now.marks c.type_parts.new.env.marks c.type_parts.result (post_form (here_at c.args.class.now c.args.m.now c.args.env.now.vars.list) c.args.e.now (scope_in c.args.env.now.pool c.args.scope.now) c.in-Post.first c.in-Post.suffixes c.in-Post.is ∙ (ap (λ (x : Expr). then_do (expr_types (here_at c.args.class.now c.args.m.now c.args.env.now.vars.list) (x) (scope_in c.args.env.now.pool c.args.scope.now)) (suffixes_typed c.args.e.now.at (x).at (typed_parts (here_at c.args.class.now c.args.m.now c.args.env.now.vars.list) (c.in-Post.suffixes)))) (sym c.get-receiver.ensures) ∙ ap (λ (ys : List Suffix). then_do (expr_types (here_at c.args.class.now c.args.m.now c.args.env.now.vars.list) (c.get-receiver.result.now) (scope_in c.args.env.now.pool c.args.scope.now)) (suffixes_typed c.args.e.now.at (c.get-receiver.result.now).at (typed_parts (here_at c.args.class.now c.args.m.now c.args.env.now.vars.list) (ys)))) (sym c.as_slice-in-Ok.ensures)))
    (then_told c.args.p.now (expr_types (here_at c.args.class.now c.args.m.now c.args.env.now.vars.list) c.get-receiver.result.now (scope_in c.args.env.now.pool c.args.scope.now)) c.args.env.now.marks c.value_of.new.env.marks c.type_parts.new.env.marks (typed_in c.type_parts.new.env.pool c.type_parts.new.scope) c.value_of.new.env.vars.list c.args.env.now.vars.list (λ (vs : List Var). suffixes_typed c.args.e.now.at (c.get-receiver.result.now).at (typed_parts (here_at c.args.class.now c.args.m.now vs) (c.as_slice-in-Ok.result.now))) (typed_in c.value_of.new.env.pool c.value_of.new.scope c.in-Ok.x) c.type_parts.result (vars_stay c.in-Ok.ensures.stays) c.in-Ok.ensures.told c.type_parts.ensures.told)

pub value_of-returns-in-Ok-clause-value : goal.value_of-returns-in-Ok-clause-value
value_of-returns-in-Ok-clause-value t c =
    values_behind c.type_parts.new.env.pool c.args.scope.now c.value_of.new.scope c.type_parts.new.scope c.type_parts.result c.in-Ok.ensures.value.grows c.type_parts.ensures.value

pub value_of-returns-in-Ok-clause-stays : goal.value_of-returns-in-Ok-clause-stays
value_of-returns-in-Ok-clause-stays t c =
    stays_more c.in-Ok.ensures.stays c.type_parts.ensures.stays

pub value_of-returns-in-Err-value_of-clause-told : goal.value_of-returns-in-Err-value_of-clause-told
value_of-returns-in-Err-value_of-clause-told t c =
    same_plan c.args.p.now (expr_types (here_at c.args.class.now c.args.m.now c.args.env.now.vars.list) c.args.e.now (scope_in c.args.env.now.pool c.args.scope.now)) (then_do (expr_types (here_at c.args.class.now c.args.m.now c.args.env.now.vars.list) (c.get-operand.result.now) (scope_in c.args.env.now.pool c.args.scope.now)) (λ (y : Typed). links_typed (here_at c.args.class.now c.args.m.now c.args.env.now.vars.list) (c.get-operand.result.now).at y (typed_links (here_at c.args.class.now c.args.m.now c.args.env.now.vars.list) (c.in-Chain.links)))) (typed_in c.value_of-in-Chain.new.env.pool c.value_of-in-Chain.new.scope) c.args.env.now.marks c.value_of-in-Chain.new.env.marks (Err c.in-Err-value_of.fault) (chain_form (here_at c.args.class.now c.args.m.now c.args.env.now.vars.list) c.args.e.now (scope_in c.args.env.now.pool c.args.scope.now) c.in-Chain.field-0 c.in-Chain.first c.in-Chain.links c.in-Chain.is ∙ ap (λ (x : Expr). then_do (expr_types (here_at c.args.class.now c.args.m.now c.args.env.now.vars.list) (x) (scope_in c.args.env.now.pool c.args.scope.now)) (λ (y : Typed). links_typed (here_at c.args.class.now c.args.m.now c.args.env.now.vars.list) (x).at y (typed_links (here_at c.args.class.now c.args.m.now c.args.env.now.vars.list) (c.in-Chain.links)))) (sym c.get-operand.ensures))
    (then_fault c.args.p.now (expr_types (here_at c.args.class.now c.args.m.now c.args.env.now.vars.list) c.get-operand.result.now (scope_in c.args.env.now.pool c.args.scope.now)) c.args.env.now.marks c.value_of-in-Chain.new.env.marks c.value_of-in-Chain.new.env.marks (typed_in c.value_of-in-Chain.new.env.pool c.value_of-in-Chain.new.scope) (typed_in c.value_of-in-Chain.new.env.pool c.value_of-in-Chain.new.scope) (λ (y : Typed). links_typed (here_at c.args.class.now c.args.m.now c.args.env.now.vars.list) (c.get-operand.result.now).at y (typed_links (here_at c.args.class.now c.args.m.now c.args.env.now.vars.list) (c.in-Chain.links))) c.in-Err-value_of.fault c.in-Err-value_of.ensures.told)

pub value_of-returns-in-Ok-value_of-clause-told : goal.value_of-returns-in-Ok-value_of-clause-told
value_of-returns-in-Ok-value_of-clause-told t c =
    same_plan c.args.p.now (expr_types (here_at c.args.class.now c.args.m.now c.args.env.now.vars.list) c.args.e.now (scope_in c.args.env.now.pool c.args.scope.now)) (then_do (expr_types (here_at c.args.class.now c.args.m.now c.args.env.now.vars.list) (c.get-operand.result.now) (scope_in c.args.env.now.pool c.args.scope.now)) (λ (y : Typed). links_typed (here_at c.args.class.now c.args.m.now c.args.env.now.vars.list) (c.get-operand.result.now).at y (typed_links (here_at c.args.class.now c.args.m.now c.args.env.now.vars.list) (c.as_slice-in-Ok-value_of.result.now)))) (typed_in c.type_links.new.env.pool c.type_links.new.scope) c.args.env.now.marks c.type_links.new.env.marks c.type_links.result (chain_form (here_at c.args.class.now c.args.m.now c.args.env.now.vars.list) c.args.e.now (scope_in c.args.env.now.pool c.args.scope.now) c.in-Chain.field-0 c.in-Chain.first c.in-Chain.links c.in-Chain.is ∙ (ap (λ (x : Expr). then_do (expr_types (here_at c.args.class.now c.args.m.now c.args.env.now.vars.list) (x) (scope_in c.args.env.now.pool c.args.scope.now)) (λ (y : Typed). links_typed (here_at c.args.class.now c.args.m.now c.args.env.now.vars.list) (x).at y (typed_links (here_at c.args.class.now c.args.m.now c.args.env.now.vars.list) (c.in-Chain.links)))) (sym c.get-operand.ensures) ∙ ap (λ (ys : List Link). then_do (expr_types (here_at c.args.class.now c.args.m.now c.args.env.now.vars.list) (c.get-operand.result.now) (scope_in c.args.env.now.pool c.args.scope.now)) (λ (y : Typed). links_typed (here_at c.args.class.now c.args.m.now c.args.env.now.vars.list) (c.get-operand.result.now).at y (typed_links (here_at c.args.class.now c.args.m.now c.args.env.now.vars.list) (ys)))) (sym c.as_slice-in-Ok-value_of.ensures)))
    (then_told c.args.p.now (expr_types (here_at c.args.class.now c.args.m.now c.args.env.now.vars.list) c.get-operand.result.now (scope_in c.args.env.now.pool c.args.scope.now)) c.args.env.now.marks c.value_of-in-Chain.new.env.marks c.type_links.new.env.marks (typed_in c.type_links.new.env.pool c.type_links.new.scope) c.value_of-in-Chain.new.env.vars.list c.args.env.now.vars.list (λ (vs : List Var). λ (y : Typed). links_typed (here_at c.args.class.now c.args.m.now vs) (c.get-operand.result.now).at y (typed_links (here_at c.args.class.now c.args.m.now vs) (c.as_slice-in-Ok-value_of.result.now))) (typed_in c.value_of-in-Chain.new.env.pool c.value_of-in-Chain.new.scope c.in-Ok-value_of.x) c.type_links.result (vars_stay c.in-Ok-value_of.ensures.stays) c.in-Ok-value_of.ensures.told c.type_links.ensures.told)

pub value_of-returns-in-Ok-value_of-clause-value : goal.value_of-returns-in-Ok-value_of-clause-value
value_of-returns-in-Ok-value_of-clause-value t c =
    values_behind c.type_links.new.env.pool c.args.scope.now c.value_of-in-Chain.new.scope c.type_links.new.scope c.type_links.result c.in-Ok-value_of.ensures.value.grows c.type_links.ensures.value

pub value_of-returns-in-Ok-value_of-clause-stays : goal.value_of-returns-in-Ok-value_of-clause-stays
value_of-returns-in-Ok-value_of-clause-stays t c =
    stays_more c.in-Ok-value_of.ensures.stays c.type_links.ensures.stays

pub value_of-type_parts-requires : goal.value_of-type_parts-requires
value_of-type_parts-requires t c =
    let M = post_below c.args.e.now c.in-Post.first c.in-Post.suffixes c.as_slice-in-Ok.result.now c.in-Post.is c.as_slice-in-Ok.ensures in (
      omega (arith, M, c.decreases),
      (
        parts_stay c.requires.parts c.in-Ok.ensures.stays,
        (
          c.in-Ok.ensures.value.scope,
          (
            stays_there c.args.p.now c.args.class.now c.args.m.now c.requires.there c.in-Ok.ensures.stays c.requires.scope c.in-Ok.ensures.value.grows c.in-Ok.ensures.value.scope,
            (c.in-Ok.ensures.value.number, c.in-Ok.ensures.value.fits),
          ),
        ),
      ),
    )

pub value_of-type_links-requires : goal.value_of-type_links-requires
value_of-type_links-requires t c =
    let M = chain_below c.args.e.now c.in-Chain.field-0 c.in-Chain.first c.in-Chain.links c.as_slice-in-Ok-value_of.result.now c.in-Chain.is c.as_slice-in-Ok-value_of.ensures in (
      omega (arith, M, c.decreases),
      (
        parts_stay c.requires.parts c.in-Ok-value_of.ensures.stays,
        (
          c.in-Ok-value_of.ensures.value.scope,
          (
            stays_there c.args.p.now c.args.class.now c.args.m.now c.requires.there c.in-Ok-value_of.ensures.stays c.requires.scope c.in-Ok-value_of.ensures.value.grows c.in-Ok-value_of.ensures.value.scope,
            (c.in-Ok-value_of.ensures.value.number, c.in-Ok-value_of.ensures.value.fits),
          ),
        ),
      ),
    )

pub type_super-begin_super-requires-clause-this : goal.type_super-begin_super-requires-clause-this
type_super-begin_super-requires-clause-this t c =
    this_there c.args.p.now (site_here (here_at c.args.class.now c.args.m.now c.args.env.now.vars.list)) (scope_in c.args.env.now.pool c.args.scope.now) c.requires.there

pub value_of-path_value-requires-clause-there : goal.value_of-path_value-requires-clause-there
value_of-path_value-requires-clause-there t c =
    this_there c.args.p.now (site_here (here_at c.args.class.now c.args.m.now c.args.env.now.vars.list)) (scope_in c.args.env.now.pool c.args.scope.now) c.requires.there

pub value_of-variable-requires-clause-vars : goal.value_of-variable-requires-clause-vars
value_of-variable-requires-clause-vars t c =
    vars_there c.args.p.now (site_here (here_at c.args.class.now c.args.m.now c.args.env.now.vars.list)) (scope_in c.args.env.now.pool c.args.scope.now) c.requires.there
