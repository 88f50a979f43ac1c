use Rattle.std.proofs.Common.{◌≡◌, true, false, sym, ◌∙◌, ap}
use Rattle.std.proofs.lemmas.Slice.Eq.{bytes_eq-Decides}
use Rattle.jn_base.specs.Words.{keyword_text}
use Rattle.jn_parser.proofs.Among.{among_others, among_none, keyword_among}
use Rattle.jn_parser.proofs.spelling.keyword.Goals as goal

pub key-init : goal.key-init
key-init c = λ k e. keyword_among k

pub key-preserved : goal.key-preserved
key-preserved c = λ k e. among_others k c.in-Some.key c.in-Some.after.now c.key.rest.now (c.key.invariant k e) c.in-Some.ensures
    (λ same. let t = (bytes_eq-Decides c.args.text.now c.keyword_text.result.now).1 (e ∙ ap keyword_text same ∙ sym c.keyword_text.ensures) in let bad : false ≡ true = sym c.if-eq.false ∙ c.eq.ensures ∙ t in cc)

pub returns-clause-none : goal.returns-clause-none
returns-clause-none c = λ k e. among_none k c.key.rest.now (c.key.invariant k e) c.in_default.ensures
