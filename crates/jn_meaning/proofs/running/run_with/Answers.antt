use Rattle.std.proofs.Common.{refl, ◌∙◌}
use Rattle.std.proofs.lemmas.Result.{err_from_is_err_and}
use Rattle.jn_output.proofs.Writing.{on_err}
use Rattle.jn_meaning.proofs.Underway.{cut_at_start, ran_all, cut_last}
use Rattle.jn_meaning.proofs.Causes.{no_cause, of_memory, of_sink}
use Rattle.jn_meaning.proofs.running.run_with.Goals as goal

pub returns-in_err-run-clause-cut : goal.returns-in_err-run-clause-cut
returns-in_err-run-clause-cut g c = on_err c.from_residual.result _ (cut_at_start c.args.w.now.program.now c.args.arena c.args.depth c.args.budget (g.O.Sink.taken c.args.out.now))

pub returns-in_err-run-clause-cause : goal.returns-in_err-run-clause-cause
returns-in_err-run-clause-cause g c =
    let p = err_from_is_err_and c.from_residual.result c.from_residual.ensures.1 in of_memory _ _ c.from_residual.result p.0 p.1 p.2 refl

pub returns-in_err-output-clause-cut : goal.returns-in_err-output-clause-cut
returns-in_err-output-clause-cut g c = on_err c.from_residual-in_err-output.result _ (cut_at_start c.args.w.now.program.now c.args.arena c.args.depth c.args.budget (g.O.Sink.taken c.args.out.now))

pub returns-in_err-output-clause-cause : goal.returns-in_err-output-clause-cause
returns-in_err-output-clause-cause g c =
    let p = err_from_is_err_and c.from_residual-in_err-output.result c.from_residual-in_err-output.ensures.1 in of_memory _ _ c.from_residual-in_err-output.result p.0 p.1 p.2 refl

pub returns-in_err-flush-clause-cut : goal.returns-in_err-flush-clause-cut
returns-in_err-flush-clause-cut g c =
    on_err c.from_residual-in_err-flush.result _ (cut_last c.args.w.now.program.now c.args.arena c.args.depth c.args.budget c.in_ok-outcome.outcome (g.O.Sink.taken c.args.out.now) (g.O.Sink.taken c.go.new.out) (g.O.Sink.taken c.flush.new.sink) c.go.new.output c.in_ok-outcome.ensures.wrote c.in_err-flush.ensures.cut)

pub returns-in_err-flush-clause-cause : goal.returns-in_err-flush-clause-cause
returns-in_err-flush-clause-cause g c =
    let p = err_from_is_err_and c.from_residual-in_err-flush.result c.from_residual-in_err-flush.ensures.1 in
    of_sink _ _ _ c.from_residual-in_err-flush.result p.0 p.1 p.2 c.in_ok-outcome.ensures.cause.kept c.in_err-flush.ensures.cause.later c.in_err-flush.ensures.cause.failed

pub returns-clause-ran : goal.returns-clause-ran
returns-clause-ran g c =
    ran_all c.args.w.now.program.now c.args.arena c.args.depth c.args.budget c.in_ok-outcome.outcome (g.O.Sink.taken c.args.out.now) (g.O.Sink.taken c.go.new.out) (g.O.Sink.taken c.flush.new.sink) c.go.new.output c.in_ok-outcome.ensures.wrote c.in_ok-flush.ensures.all

pub returns-clause-cause : goal.returns-clause-cause
returns-clause-cause g c = no_cause _ _ _ (c.in_ok-flush.ensures.cause.kept ∙ c.in_ok-outcome.ensures.cause.kept)
