use Rattle.std.proofs.Common.{subst}
use Rattle.jn_check.specs.Mains.{FormTold}
use Rattle.jn_check.proofs.Mains.{none_has, answers_form}
use Rattle.jn_check.proofs.main_class.has_no_params.Goals as goal

pub returns-in-None : goal.returns-in-None
returns-in-None c =
    none_has c.args.p.now c.requires.declarations c.requires.members.filled.table.named c.args.class.now c.args.name
    (subst (FormTold c.args.p.now c.args.class.now c.args.name) c.in-None.is c.in_ok-least_form.ensures)

pub returns-in-Some : goal.returns-in-Some
returns-in-Some c =
    answers_form c.args.p.now c.requires.declarations c.requires.members.filled.table.named c.args.class.now c.args.name c.in-Some.form c.requires.class
    (subst (FormTold c.args.p.now c.args.class.now c.args.name) c.in-Some.is c.in_ok-least_form.ensures)
