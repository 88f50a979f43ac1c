use Rattle.std.proofs.Common.{sym}
use Rattle.jn_reach.proofs.Searches.{iff_false}
use Rattle.jn_base.specs.declared.tree.Kind.TheVariants as kind
use Rattle.jn_names.proofs.Numbered.{none_known, kind_known}
use Rattle.jn_names.proofs.bound.Bound.is_class.Goals as goal

pub returns-in-None : goal.returns-in-None
returns-in-None c = λ p f. iff_false
    (λ h. none_known p c.args.t.now c.args.self.now f c.in-None.ensures.none
    (kind_known p c.args.self.now kind.Class h))

pub returns-in-Some : goal.returns-in-Some
returns-in-Some c = λ p f.
    let k = (c.row.ensures p c.args.self.now f.table c.in-Some.ensures.some).kind kind.Class in
    (λ h. k.1 (sym (c.is_class.ensures.0 h)), λ h. c.is_class.ensures.1 (sym (k.0 h)))
