use Rattle.std.proofs.Common.{rules, All, subst, List}
use Rattle.jn_base.specs.declared.tree.Term.{Term}
use Rattle.jn_sem.specs.LawsOfSlots.{HeadNamed}
use Rattle.jn_heads.proofs.Writing.{formed}
use Rattle.jn_heads.proofs.written.is_formed.Goals as goal

pub returns-then-not-is_empty : goal.returns-then-not-is_empty
returns-then-not-is_empty c = λ told.
    formed c.in-Class.terms c.in-Class.field-1 c.args.ty.now c.in-Class.is (search rules)
    (subst (λ (ts : List Term). All (λ (t : Term). HeadNamed t.head) ts) c.as_slice-then-not-is_empty.ensures (c.are_named.ensures told))
