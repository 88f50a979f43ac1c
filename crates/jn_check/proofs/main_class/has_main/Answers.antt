use Rattle.std.proofs.Common.{subst}
use Rattle.std.specs.Prelude.{codes}
use Rattle.jn_sem.specs.Does.{IsSpelled}
use Rattle.jn_rules.specs.Questions.{Finds}
use Rattle.jn_check.proofs.Mains.{no_main_class, no_main_name, main_told}
use Rattle.jn_check.proofs.main_class.has_main.Goals as goal

pub returns-in-None : goal.returns-in-None
returns-in-None c = no_main_class c.args.p.now (subst (Finds (IsSpelled c.args.p.now (codes "Main"))) c.in-None.is c.in_ok-spelled.ensures)

pub returns-in-None-2 : goal.returns-in-None-2
returns-in-None-2 c = no_main_name c.args.p.now (subst (Finds (IsSpelled c.args.p.now (codes "main"))) c.in-None-2.is c.in_ok-spelled-in-Some.ensures)

pub returns-in-Some-2 : goal.returns-in-Some-2
returns-in-Some-2 c =
    main_told c.args.p.now c.requires.declarations c.requires.members.filled.table.named c.in-Some.class c.in-Some-2.name
    (subst (Finds (IsSpelled c.args.p.now (codes "Main"))) c.in-Some.is c.in_ok-spelled.ensures)
    (subst (Finds (IsSpelled c.args.p.now (codes "main"))) c.in-Some-2.is c.in_ok-spelled-in-Some.ensures) c.begins_at.result c.begins_at.ensures
