use Rattle.std.proofs.Common.{◌<◌, Some, length, ap, sym, ◌∙◌, arith}
use Rattle.jn_verify.proofs.Noted.{noted, given_new, given_same, given_other}
use Rattle.jn_verify.proofs.pass.give.Goals as goal

pub returns-in-None-clause-given : goal.returns-in-None-clause-given
returns-in-None-clause-given c =
    let notes = c.args.notes.now.items in
    let lt : c.args.to < length notes = omega arith in
    given_new c.args.tails.now notes c.args.to c.args.kinds (noted notes c.args.to c.index.result.now lt c.index.ensures ∙ ap Some c.in-None.is)

pub returns-then-same-clause-given : goal.returns-then-same-clause-given
returns-then-same-clause-given c =
    let notes = c.args.notes.now.items in
    let lt : c.args.to < length notes = omega arith in
    given_same c.args.tails.now notes c.args.to c.args.kinds c.in-Some.old (noted notes c.args.to c.index.result.now lt c.index.ensures ∙ ap Some c.in-Some.is) (sym c.if-same.true ∙ c.same.ensures)

pub returns-else-same-clause-given : goal.returns-else-same-clause-given
returns-else-same-clause-given c =
    let notes = c.args.notes.now.items in
    let lt : c.args.to < length notes = omega arith in
    given_other c.args.tails.now notes c.args.to c.args.kinds c.in-Some.old (noted notes c.args.to c.index.result.now lt c.index.ensures ∙ ap Some c.in-Some.is) (sym c.if-same.false ∙ c.same.ensures)
