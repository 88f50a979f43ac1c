use Rattle.std.proofs.Common.{◌∙◌, ap, sym, subst, Some, None}
use Rattle.jn_base.specs.declared.types.Ty.{Ty}
use Rattle.jn_base.specs.declared.refusal.Rule.TheVariants as rule
use Rattle.jn_base.specs.Atoms.{atoms_in, first_at}
use Rattle.jn_base.specs.Scopes.{bound_of}
use Rattle.jn_base.specs.Resolve.{is_class}
use Rattle.jn_intern.specs.declared.pool.TyId.{TyId}
use Rattle.jn_intern.specs.Pools.{scope_in, shown}
use Rattle.jn_expr.specs.Envs.{here_at}
use Rattle.jn_expr.specs.Found.{found_of, found_in}
use Rattle.jn_expr.specs.Told.{FaultIs, refusal_at}
use Rattle.jn_expr.specs.Values.{typed_in}
use Rattle.jn_expr.proofs.FieldSteps.{finds_at}
use Rattle.jn_check.proofs.SetLaws.{no_class, no_field, field_leads}
use Rattle.jn_table.specs.declared.table.Table.{Table}
use Rattle.jn_expr.specs.Envs.{ArePartsOf, parts}
use Rattle.jn_check.proofs.sets.stored_in.Goals as goal

pub returns-then-not-is_class-clause-told : goal.returns-then-not-is_class-clause-told
returns-then-not-is_class-clause-told c = λ go.
    let s = scope_in c.args.env.now.pool c.args.scope.now in
    no_class c.args.p.now (here_at c.args.class.now c.args.m.now c.args.env.now.vars.list) c.args.at c.args.f.now (typed_in c.args.env.now.pool c.args.scope.now c.args.v) go c.args.env.now.marks
    {B = TyId} (λ id. go s (shown c.args.env.now.pool id)) c.args.env.now.marks (sym (ap is_class c.show.ensures) ∙ (sym c.is_class.ensures ∙ c.if-not-is_class.true)) c.refused.result c.refused.ensures

pub returns-in-None-clause-told : goal.returns-in-None-clause-told
returns-in-None-clause-told c = λ go.
    let s = scope_in c.args.env.now.pool c.args.scope.now in
    no_field c.args.p.now (here_at c.args.class.now c.args.m.now c.args.env.now.vars.list) c.args.at c.args.f.now (typed_in c.args.env.now.pool c.args.scope.now c.args.v) go c.args.env.now.marks
    (sym (ap is_class c.show.ensures) ∙ (sym c.is_class.ensures ∙ c.if-not-is_class.false)) {B = TyId} (λ id. go s (shown c.args.env.now.pool id)) c.args.env.now.marks
    (finds_at c.args.p.now s _ _ c.args.f.now.name (found_in c.in_ok-field_of.field-0) None c.show-2.ensures (ap found_in c.in-None.is) c.in_ok-field_of.ensures.is)
    c.of_receiver.result
    (subst (λ (t : Ty). FaultIs c.of_receiver.result (refusal_at rule.E16 c.args.f.now.at (first_at (bound_of s) (atoms_in t)) c.args.f.now.name)) c.show-in-None.ensures
    c.of_receiver.ensures)

pub returns-in_ok-id-in-Some-clause-told : goal.returns-in_ok-id-in-Some-clause-told
returns-in_ok-id-in-Some-clause-told c = λ go.
    let s = scope_in c.args.env.now.pool c.args.scope.now in
    field_leads c.args.p.now (here_at c.args.class.now c.args.m.now c.args.env.now.vars.list) c.args.at c.args.f.now (typed_in c.args.env.now.pool c.args.scope.now c.args.v) go c.args.env.now.marks
    (sym (ap is_class c.show.ensures) ∙ (sym c.is_class.ensures ∙ c.if-not-is_class.false)) (found_of c.in-Some.found)
    (finds_at c.args.p.now s _ _ c.args.f.now.name (found_in c.in_ok-field_of.field-0) (Some (found_of c.in-Some.found)) c.show-2.ensures (ap found_in c.in-Some.is)
    c.in_ok-field_of.ensures.is)
    c.field_at.new.env.marks c.in_ok-id-in-Some.ensures.is.added (scope_in c.field_at.new.env.pool c.field_at.new.scope) (shown c.field_at.new.env.pool c.in_ok-id-in-Some.id)
    c.in_ok-id-in-Some.ensures.is.is c.in_ok-id-in-Some.ensures.is.shows

pub returns-in_ok-id-in-Some-clause-slot : goal.returns-in_ok-id-in-Some-clause-slot
returns-in_ok-id-in-Some-clause-slot c = c.in_ok-id-in-Some.ensures.is.slot

pub field_at-requires-clause-parts : goal.field_at-requires-clause-parts
field_at-requires-clause-parts c =
    subst (λ (t : Table). ArePartsOf c.args.p.now (record (parts c.args.env.now) { table = t })) (sym c.in_ok-field_of.ensures.kept) c.requires.parts

pub field_at-requires-clause-found : goal.field_at-requires-clause-found
field_at-requires-clause-found c =
    finds_at c.args.p.now (scope_in c.args.env.now.pool c.args.scope.now) _ _ c.args.f.now.name (found_in c.in_ok-field_of.field-0) (Some (found_of c.in-Some.found)) c.show-2.ensures
    (ap found_in c.in-Some.is) c.in_ok-field_of.ensures.is
