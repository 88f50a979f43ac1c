use Rattle.std.proofs.Common.{◌∙◌, ap, subst, Some, None}
use Rattle.jn_base.specs.declared.types.Ty.{Ty}
use Rattle.jn_intern.specs.Pools.{scope_in, shown}
use Rattle.jn_rules.specs.Exprs.{gives, plain}
use Rattle.jn_rules.specs.Questions.{masks_of}
use Rattle.jn_sem.specs.NormalFunction.{normal_type}
use Rattle.jn_expr.specs.Told.{PlanTold}
use Rattle.jn_expr.specs.Values.{typed_in}
use Rattle.jn_expr.proofs.Viewing.{sharing_for, shared_told, refuted_told}
use Rattle.jn_expr.proofs.views.by_sharing.Goals as goal

pub returns-in-Yes-clause-told : goal.returns-in-Yes-clause-told
returns-in-Yes-clause-told c = λ u e f.
    let s = scope_in c.args.env.now.pool c.args.scope.now in
    let t = shown c.args.env.now.pool c.args.from in
    let h = sharing_for c.args.p.now c.args.env.now.table.known.items s t u c.args.atom.now c.masks_of.result c.in_ok-sharing_of.field-0 _ f (c.masks_of.ensures ∙ ap masks_of e) c.in-Yes.is
    (c.in_ok-sharing_of.ensures c.args.p.now c.requires.parts) in
    shared_told c.args.p.now (typed_in c.viewed.new.env.pool c.args.scope.now) c.args.env.now.marks c.viewed.new.env.marks c.args.at s t u c.viewed.result h
    (subst (λ (y : Ty). PlanTold c.args.p.now (gives (plain (normal_type s y) s)) (typed_in c.viewed.new.env.pool c.args.scope.now) c.args.env.now.marks c.viewed.new.env.marks c.viewed.result)
    e (c.viewed.ensures.told c.args.p.now))

pub returns-in_ok-shown-in-NoCounterpart-clause-told : goal.returns-in_ok-shown-in-NoCounterpart-clause-told
returns-in_ok-shown-in-NoCounterpart-clause-told c = λ u e f.
    let s = scope_in c.args.env.now.pool c.args.scope.now in
    let t = shown c.args.env.now.pool c.args.from in
    let h = sharing_for c.args.p.now c.args.env.now.table.known.items s t u c.args.atom.now c.masks_of.result c.in_ok-sharing_of.field-0 _ f (c.masks_of.ensures ∙ ap masks_of e) c.in-NoCounterpart.is
    (c.in_ok-sharing_of.ensures c.args.p.now c.requires.parts) in
    refuted_told c.args.p.now (typed_in c.args.env.now.pool c.args.scope.now) c.args.env.now.marks c.args.env.now.marks c.args.at s t u c.args.env.now.table.known.items c.in-NoCounterpart.id h.0
    c.in_ok-shown-in-NoCounterpart.shown None c.not_shared.result h.2 (c.in_ok-shown-in-NoCounterpart.ensures h.0 h.1) c.not_shared.ensures

pub returns-in_ok-shown-in-Unshared-clause-told : goal.returns-in_ok-shown-in-Unshared-clause-told
returns-in_ok-shown-in-Unshared-clause-told c = λ u e f.
    let s = scope_in c.args.env.now.pool c.args.scope.now in
    let t = shown c.args.env.now.pool c.args.from in
    let h = sharing_for c.args.p.now c.args.env.now.table.known.items s t u c.args.atom.now c.masks_of.result c.in_ok-sharing_of.field-0 _ f (c.masks_of.ensures ∙ ap masks_of e) c.in-Unshared.is
    (c.in_ok-sharing_of.ensures c.args.p.now c.requires.parts) in
    refuted_told c.args.p.now (typed_in c.args.env.now.pool c.args.scope.now) c.args.env.now.marks c.args.env.now.marks c.args.at s t u c.args.env.now.table.known.items c.in-Unshared.id h.0
    c.in_ok-shown-in-Unshared.shown (Some c.in-Unshared.field) c.not_shared-in-Unshared.result h.2 (c.in_ok-shown-in-Unshared.ensures h.0 h.1) c.not_shared-in-Unshared.ensures
