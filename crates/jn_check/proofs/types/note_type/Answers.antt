use Rattle.std.proofs.Common.{subst, sym, List, map, refl}
use Rattle.std.specs.Prelude.{OnOk}
use Rattle.jn_base.specs.declared.types.Atom.{Atom}
use Rattle.jn_base.specs.declared.types.Ty.{Ty}
use Rattle.jn_rules.specs.Plans.{AtomMark}
use Rattle.jn_rules.specs.Stmts.{atom_marks}
use Rattle.jn_expr.specs.Told.{Adds}
use Rattle.jn_check.proofs.TypeLaws.{none_noted}
use Rattle.jn_check.proofs.types.note_type.Goals as goal

pub returns-in-Class : goal.returns-in-Class
returns-in-Class c =
    subst (λ (t : Ty). OnOk c.note_atoms.result (Adds (atom_marks t) c.args.marks.now c.note_atoms.new.marks)) (sym c.in-Class.is)
    (subst (λ (xs : List Atom). OnOk c.note_atoms.result (Adds (map AtomMark xs) c.args.marks.now c.note_atoms.new.marks)) c.as_slice.ensures c.note_atoms.ensures)

pub returns-in-Int : goal.returns-in-Int
returns-in-Int c = none_noted _ _ c.args.marks.now c.in-Int.is refl

pub returns-in-Bool : goal.returns-in-Bool
returns-in-Bool c = none_noted _ _ c.args.marks.now c.in-Bool.is refl

pub returns-in-Null : goal.returns-in-Null
returns-in-Null c = none_noted _ _ c.args.marks.now c.in-Null.is refl

pub returns-in-Void : goal.returns-in-Void
returns-in-Void c = none_noted _ _ c.args.marks.now c.in-Void.is refl
