use Rattle.std.proofs.Common.{List, ap, ◌∙◌, ◌∷◌, subst}
use Rattle.jn_base.specs.declared.tree.Name.{Name}
use Rattle.jn_base.specs.declared.tree.Kind.TheVariants as kinds
use Rattle.jn_check.specs.Mains.{FormTold}
use Rattle.jn_names.proofs.Numbered.{kind_known}
use Rattle.jn_check.proofs.Mains.{no_body, has_params, has_result, is_class, begins_told}
use Rattle.jn_check.proofs.main_class.begins_at.Goals as goal

pub returns-in-None : goal.returns-in-None
returns-in-None c =
    no_body c.args.p.now c.requires.declarations c.requires.members.filled.table.named c.args.class_name c.args.name c.push.new.self
    (c.in_ok-push.ensures ∙ ap (λ (P : List Name). c.args.class_name ∷ P) c.root-class.ensures)
    (subst (FormTold c.args.p.now c.push.new.self c.args.name) c.in-None.is c.in_ok-least_form.ensures)

pub returns-then-not-form : goal.returns-then-not-form
returns-then-not-form c =
    has_params c.args.p.now c.requires.declarations c.requires.members.filled.table.named c.args.class_name c.args.name c.push.new.self
    (c.in_ok-push.ensures ∙ ap (λ (P : List Name). c.args.class_name ∷ P) c.root-class.ensures) c.in-Some.form
    (subst (FormTold c.args.p.now c.push.new.self c.args.name) c.in-Some.is c.in_ok-least_form.ensures) c.if-not-form.true

pub returns-then-not-form-2 : goal.returns-then-not-form-2
returns-then-not-form-2 c =
    has_result c.args.p.now c.requires.declarations c.requires.members.filled.table.named c.args.class_name c.args.name c.push.new.self
    (c.in_ok-push.ensures ∙ ap (λ (P : List Name). c.args.class_name ∷ P) c.root-class.ensures) c.in-Some.form
    (subst (FormTold c.args.p.now c.push.new.self c.args.name) c.in-Some.is c.in_ok-least_form.ensures) c.if-not-form-2.true

pub has_no_params-requires-clause-class : goal.has_no_params-requires-clause-class
has_no_params-requires-clause-class c =
    kind_known c.args.p.now c.push.new.self kinds.Class ((c.is_class.ensures c.args.p.now c.requires.members.filled).0 c.if-not-is_class.false)

pub returns : goal.returns
returns c =
    begins_told c.args.p.now c.requires.declarations c.requires.members.filled.table.named c.args.class_name c.args.name c.push.new.self
    (c.in_ok-push.ensures ∙ ap (λ (P : List Name). c.args.class_name ∷ P) c.root-class.ensures) c.in-Some.form
    (is_class c.args.p.now c.push.new.self
    (kind_known c.args.p.now c.push.new.self kinds.Class ((c.is_class.ensures c.args.p.now c.requires.members.filled).0 c.if-not-is_class.false))
    ((c.is_class.ensures c.args.p.now c.requires.members.filled).0 c.if-not-is_class.false))
    (subst (FormTold c.args.p.now c.push.new.self c.args.name) c.in-Some.is c.in_ok-least_form.ensures) c.if-not-form.false c.if-not-form-2.false c.has_no_params.result c.has_no_params.ensures
