use Rattle.std.proofs.Common.{◌∙◌, ap, sym, subst, Some, None}
use Rattle.jn_base.specs.declared.types.Ty.{Ty}
use Rattle.jn_base.specs.declared.refusal.Rule.TheVariants as rule
use Rattle.jn_base.specs.Atoms.{atoms_in, first_at}
use Rattle.jn_base.specs.Scopes.{bound_of}
use Rattle.jn_base.specs.Resolve.{is_class}
use Rattle.jn_table.specs.declared.table.Table.{Table}
use Rattle.jn_intern.specs.Pools.{scope_in}
use Rattle.jn_expr.specs.Envs.{parts, ArePartsOf, here_at}
use Rattle.jn_expr.specs.Found.{found_of, found_in}
use Rattle.jn_expr.specs.Told.{FaultIs, refusal_at}
use Rattle.jn_expr.specs.Values.{typed_in}
use Rattle.jn_expr.proofs.FieldSteps.{no_field_told, found_field_told, finds_at}
use Rattle.jn_expr.proofs.fields.field_value.Goals as goal

pub returns-in-None-clause-told : goal.returns-in-None-clause-told
returns-in-None-clause-told c =
    let s = scope_in c.args.env.now.pool c.args.scope.now in
    no_field_told c.args.p.now (typed_in c.args.env.now.pool c.args.scope.now) c.args.env.now.marks c.args.env.now.marks
    (here_at c.args.class.now c.args.m.now c.args.env.now.vars.list) c.args.f.now c.args.at (typed_in c.args.env.now.pool c.args.scope.now c.args.x)
    (sym (ap is_class c.show.ensures) ∙ (sym c.is_class.ensures ∙ c.if-not-is_class.false))
    (finds_at c.args.p.now s _ _ c.args.f.now.name (found_in c.in_ok-field_of.field-0) None c.show-2.ensures (ap found_in c.in-None.is) c.in_ok-field_of.ensures.is)
    c.of_receiver.result
    (subst (λ (t : Ty). FaultIs c.of_receiver.result (refusal_at rule.E16 c.args.f.now.at (first_at (bound_of s) (atoms_in t)) c.args.f.now.name)) c.show-in-None.ensures
    c.of_receiver.ensures)

pub returns-in-Some-clause-told : goal.returns-in-Some-clause-told
returns-in-Some-clause-told c =
    let s = scope_in c.args.env.now.pool c.args.scope.now in
    found_field_told c.args.p.now (typed_in c.read_field.new.env.pool c.read_field.new.scope) c.args.env.now.marks c.read_field.new.env.marks
    (here_at c.args.class.now c.args.m.now c.args.env.now.vars.list) c.args.f.now c.args.at (typed_in c.args.env.now.pool c.args.scope.now c.args.x)
    (sym (ap is_class c.show.ensures) ∙ (sym c.is_class.ensures ∙ c.if-not-is_class.false)) (found_of c.in-Some.found)
    (finds_at c.args.p.now s _ _ c.args.f.now.name (found_in c.in_ok-field_of.field-0) (Some (found_of c.in-Some.found)) c.show-2.ensures (ap found_in c.in-Some.is)
    c.in_ok-field_of.ensures.is)
    c.read_field.result
    c.read_field.ensures.told

pub read_field-requires-clause-parts : goal.read_field-requires-clause-parts
read_field-requires-clause-parts c =
    subst (λ (t : Table). ArePartsOf c.args.p.now (record (parts c.args.env.now) { table = t })) (sym c.in_ok-field_of.ensures.kept) c.requires.parts

pub read_field-requires-clause-found : goal.read_field-requires-clause-found
read_field-requires-clause-found c =
    finds_at c.args.p.now (scope_in c.args.env.now.pool c.args.scope.now) _ _ c.args.f.now.name (found_in c.in_ok-field_of.field-0) (Some (found_of c.in-Some.found)) c.show-2.ensures
    (ap found_in c.in-Some.is) c.in_ok-field_of.ensures.is
