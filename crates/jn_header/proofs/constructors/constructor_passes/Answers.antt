use Rattle.std.proofs.Common.{subst, sym, List, ◌∷◌, option_copied}
use Rattle.jn_base.specs.Supers.{Sup}
use Rattle.jn_reach.proofs.Searches.{not_when}
use Rattle.jn_table.specs.declared.class.ClassId.{ClassId}
use Rattle.jn_table.specs.Rows.{AreClasses}
use Rattle.jn_rules.specs.Questions.{Answers}
use Rattle.jn_rules.specs.Members.{ConstructorPasses}
use Rattle.jn_header.proofs.Constructs.{whole_told, no_void}
use Rattle.jn_header.proofs.constructors.constructor_passes.Goals as goal

pub returns-then-gives_none : goal.returns-then-gives_none
returns-then-gives_none c = λ p P bo n.
    whole_told p bo.declarations bo.members.filled.table.named c.args.name P (option_copied c.least_head-own.result) (c.least_head-own.ensures p c.args.t.now (c.args.name ∷ P) bo n)
    (c.gives_none.ensures.0 c.if-gives_none.true) c.supers_pass.result
    (c.supers_pass.ensures p (c.args.name ∷ P) bo
    (subst (λ (ids : List ClassId). AreClasses p c.args.t.now.known.items (Sup p (c.args.name ∷ P)) ids) (sym c.deref.ensures.value)
    (c.row.ensures p (c.args.name ∷ P) bo.members.filled.table n).sups))

pub returns-else-gives_none : goal.returns-else-gives_none
returns-else-gives_none c = λ p P bo n. subst (Answers (ConstructorPasses p c.args.name P)) (sym c.if-gives_none.false)
    (no_void p bo.declarations bo.members.filled.table.named c.args.name P (option_copied c.least_head-own.result) (c.least_head-own.ensures p c.args.t.now (c.args.name ∷ P) bo n)
    (not_when c.if-gives_none.false c.gives_none.ensures))
