use Rattle.std.proofs.Common.{◌≡◌, true, false, sym, ◌∙◌, ap}
use Rattle.std.proofs.lemmas.Slice.Eq.{bytes_eq-Decides}
use Rattle.jn_base.specs.Words.{mark_text}
use Rattle.jn_parser.proofs.Among.{among_others, among_none, mark_among}
use Rattle.jn_parser.proofs.spelling.mark.Goals as goal

pub mark-init : goal.mark-init
mark-init c = λ k e. mark_among k

pub mark-preserved : goal.mark-preserved
mark-preserved c = λ k e. among_others k c.in-Some.mark c.in-Some.after.now c.mark.rest.now (c.mark.invariant k e) c.in-Some.ensures
    (λ same. let t = (bytes_eq-Decides c.args.text.now c.mark_text.result.now).1 (e ∙ ap mark_text same ∙ sym c.mark_text.ensures) in let bad : false ≡ true = sym c.if-eq.false ∙ c.eq.ensures ∙ t in cc)

pub returns-clause-none : goal.returns-clause-none
returns-clause-none c = λ k e. among_none k c.mark.rest.now (c.mark.invariant k e) c.in_default.ensures
