use Rattle.std.proofs.Common.{subst}
use Rattle.jn_reach.proofs.Searches.{not_when}
use Rattle.jn_table.proofs.Shown.{number_path}
use Rattle.jn_header.specs.Methods.{IsOtherAt}
use Rattle.jn_header.proofs.Finding.{answers_as}
use Rattle.jn_header.proofs.methods.is_other_super.Goals as goal

pub returns-then-not-is_super : goal.returns-then-not-is_super
returns-then-not-is_super c = λ b p t R bo n is o.
    not_when c.if-not-is_super.true (c.is_super.ensures p t R bo.members n) (o.0, o.1, o.2)

pub returns : goal.returns
returns c = λ b p t R bo n is.
    let w = (c.is_super.ensures p t R bo.members n).0 c.if-not-is_super.false in
    answers_as c.is_other.result (λ x. (w.0, w.1, w.2, x))
    (λ o. subst (IsOtherAt p b c.args.name) (number_path t.known.items c.args.other o.0 w.0 o.1 w.1) o.3)
    (c.is_other.ensures b p t w.0 bo w.1 is)
