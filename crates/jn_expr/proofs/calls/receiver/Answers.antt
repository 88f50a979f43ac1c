use Rattle.std.proofs.Common.{◌∙◌, ap, sym, subst, Some, None}
use Rattle.jn_base.specs.declared.types.Ty.{Ty}
use Rattle.jn_base.specs.declared.refusal.Rule.TheVariants as rule
use Rattle.jn_base.specs.Atoms.{atoms_in, first_at}
use Rattle.jn_base.specs.Scopes.{bound_of}
use Rattle.jn_base.specs.Resolve.{is_class}
use Rattle.jn_intern.specs.Pools.{scope_in, shown}
use Rattle.jn_rules.specs.Questions.{masks_of}
use Rattle.jn_expr.specs.Envs.{here_at}
use Rattle.jn_expr.specs.Told.{FaultIs, refusal_at}
use Rattle.jn_expr.specs.Values.{typed_in}
use Rattle.jn_expr.proofs.CallSteps.{no_method_found, first_at_type, mask_at, no_method_told, masked_told, owner_told}
use Rattle.jn_expr.proofs.CallDepths.{method_deep}
use Rattle.jn_expr.proofs.calls.receiver.Goals as goal

pub returns-in-None-clause-told : goal.returns-in-None-clause-told
returns-in-None-clause-told c = λ es.
    let s = scope_in c.args.env.now.pool c.args.scope.now in
    let t = shown c.args.env.now.pool c.args.x.ty in
    no_method_told c.args.p.now (here_at c.args.class.now c.args.m.now c.args.env.now.vars.list) c.args.name.now c.args.at (typed_in c.args.env.now.pool c.args.scope.now c.args.x)
    c.args.env.now.marks (sym (ap is_class c.show-ty.ensures) ∙ (sym c.is_class.ensures ∙ c.if-not-is_class.false)) es
    (no_method_found c.args.p.now s t c.args.name.now.name
    (first_at_type c.args.p.now s _ t c.args.name.now.name c.in_ok-method_of.field-0 None c.show-ty.ensures c.in-None.is (c.in_ok-method_of.ensures c.args.p.now c.requires.parts.members)))
    c.of_receiver.result
    (subst (λ (y : Ty). FaultIs c.of_receiver.result (refusal_at rule.E16 c.args.name.now.at (first_at (bound_of s) (atoms_in y)) c.args.name.now.name)) c.show-ty.ensures c.of_receiver.ensures)

pub returns-in-None-first_mask-clause-told : goal.returns-in-None-first_mask-clause-told
returns-in-None-first_mask-clause-told c = λ es.
    let s = scope_in c.args.env.now.pool c.args.scope.now in
    let t = shown c.args.env.now.pool c.args.x.ty in
    owner_told c.args.p.now (here_at c.args.class.now c.args.m.now c.args.env.now.vars.list) c.args.name.now c.args.at (typed_in c.args.env.now.pool c.args.scope.now c.args.x)
    c.args.env.now.marks (sym (ap is_class c.show-ty.ensures) ∙ (sym c.is_class.ensures ∙ c.if-not-is_class.false)) es c.in-Some.owner
    (first_at_type c.args.p.now s _ t c.args.name.now.name c.in_ok-method_of.field-0 (Some c.in-Some.owner) c.show-ty.ensures c.in-Some.is
    (c.in_ok-method_of.ensures c.args.p.now c.requires.parts.members))
    (mask_at c.args.p.now c.masks_of.result _ c.first_mask.result None (c.masks_of.ensures ∙ ap masks_of c.show-ty.ensures) c.in-None-first_mask.is
    (c.first_mask.ensures (c.deref.ensures.value ∙ c.requires.parts.masks)))

pub returns-in-Some-first_mask-clause-told : goal.returns-in-Some-first_mask-clause-told
returns-in-Some-first_mask-clause-told c = λ es.
    let s = scope_in c.args.env.now.pool c.args.scope.now in
    let t = shown c.args.env.now.pool c.args.x.ty in
    masked_told c.args.p.now (here_at c.args.class.now c.args.m.now c.args.env.now.vars.list) c.args.name.now c.args.at (typed_in c.args.env.now.pool c.args.scope.now c.args.x)
    c.args.env.now.marks (sym (ap is_class c.show-ty.ensures) ∙ (sym c.is_class.ensures ∙ c.if-not-is_class.false)) es c.in-Some.owner
    (first_at_type c.args.p.now s _ t c.args.name.now.name c.in_ok-method_of.field-0 (Some c.in-Some.owner) c.show-ty.ensures c.in-Some.is
    (c.in_ok-method_of.ensures c.args.p.now c.requires.parts.members))
    c.in-Some-first_mask.field
    (mask_at c.args.p.now c.masks_of.result _ c.first_mask.result (Some c.in-Some-first_mask.field) (c.masks_of.ensures ∙ ap masks_of c.show-ty.ensures) c.in-Some-first_mask.is
    (c.first_mask.ensures (c.deref.ensures.value ∙ c.requires.parts.masks)))
    c.of_receiver-in-Some-first_mask.result
    (subst (λ (y : Ty). FaultIs c.of_receiver-in-Some-first_mask.result (refusal_at rule.E19 c.args.name.now.at (first_at (bound_of s) (atoms_in y)) c.in-Some-first_mask.field))
    c.show-ty.ensures c.of_receiver-in-Some-first_mask.ensures)

pub returns-in-None-first_mask-clause-deep : goal.returns-in-None-first_mask-clause-deep
returns-in-None-first_mask-clause-deep c =
    let s = scope_in c.args.env.now.pool c.args.scope.now in
    let t = shown c.args.env.now.pool c.args.x.ty in
    method_deep c.args.p.now s t c.args.name.now.name c.in-Some.owner
    (first_at_type c.args.p.now s _ t c.args.name.now.name c.in_ok-method_of.field-0 (Some c.in-Some.owner) c.show-ty.ensures c.in-Some.is
    (c.in_ok-method_of.ensures c.args.p.now c.requires.parts.members))
