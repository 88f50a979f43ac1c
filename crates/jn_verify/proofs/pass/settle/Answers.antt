use Rattle.std.proofs.Common.{◌<◌, Some, length, ap, ◌∙◌, arith}
use Rattle.jn_verify.proofs.Noted.{noted, settled, none_before}
use Rattle.jn_verify.proofs.pass.settle.Goals as goal

pub returns-in-None-clause-notes : goal.returns-in-None-clause-notes
returns-in-None-clause-notes c =
    let notes = c.args.notes.now.items in
    let lt : c.args.n < length notes = omega arith in
    settled c.args.tails.now notes c.args.n c.none-none.result (noted notes c.args.n c.index.result.now lt c.index.ensures ∙ ap Some c.in-None.is) c.none-none.ensures.empty

pub returns-in-None-clause-before : goal.returns-in-None-clause-before
returns-in-None-clause-before c =
    let notes = c.args.notes.now.items in
    let lt : c.args.n < length notes = omega arith in
    c.none-none.ensures.empty ∙ none_before c.args.tails.now notes c.args.n (noted notes c.args.n c.index.result.now lt c.index.ensures ∙ ap Some c.in-None.is)
