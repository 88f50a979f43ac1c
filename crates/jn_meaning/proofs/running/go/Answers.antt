use Rattle.std.proofs.Common.{ℕ, List, Some, refl, sym, ap, ◌∙◌, subst, arith, rules}
use Rattle.jn_base.specs.declared.tree.Program.{Program}
use Rattle.jn_base.specs.declared.path.Path.{Path as ShownPath}
use Rattle.jn_table.specs.declared.table.Table.{Table}
use Rattle.std.proofs.lemmas.Result.{err_from_is_err_and}
use Rattle.jn_output.proofs.Writing.{on_err}
use Rattle.jn_meaning.specs.World.{Stands}
use Rattle.jn_meaning.specs.Running.{Charges}
use Rattle.jn_meaning.proofs.Underway.{begins, broken_off, used_up, cut_off, goes_on, ends}
use Rattle.jn_meaning.proofs.Causes.{no_cause, of_memory, of_sink}
use Rattle.jn_meaning.proofs.running.go.Goals as goal

pub loop-turn-init : goal.loop-turn-init
loop-turn-init g c = record {
  way = begins c.args.w.now.program.now c.args.arena c.args.depth c.args.t.now.known.items c.args.budget c.args.run.now.now c.args.run.now.waiting.items c.args.run.now.heap (g.O.Sink.taken c.args.out.now) c.args.output.now c.requires.start c.requires.empty;
  table = refl;
  faults = refl;
}

pub step-requires : goal.step-requires
step-requires g c = subst (Stands c.args.w.now) (sym c.loop-turn.invariant.table) c.requires.stands

pub returns-in_err-charged-clause-cut : goal.returns-in_err-charged-clause-cut
returns-in_err-charged-clause-cut g c =
    on_err c.from_residual.result _ (broken_off c.args.w.now.program.now c.args.arena c.args.depth c.args.t.now.known.items c.args.budget c.loop-turn.turn c.loop-turn.run.now c.loop-turn.run.waiting.items c.loop-turn.run.heap (g.O.Sink.taken c.args.out.now) (g.O.Sink.taken c.loop-turn.out) c.loop-turn.output c.loop-turn.invariant.way
    (search rules))

pub returns-in_err-charged-clause-cause : goal.returns-in_err-charged-clause-cause
returns-in_err-charged-clause-cause g c =
    let p = err_from_is_err_and c.from_residual.result c.from_residual.ensures.1 in of_memory _ _ c.from_residual.result p.0 p.1 p.2 c.loop-turn.invariant.faults

pub returns-in_err-show-clause-cut : goal.returns-in_err-show-clause-cut
returns-in_err-show-clause-cut g c =
    let x = c.in_ok-charged.charged in
    on_err c.from_residual-in_err-show.result _ (cut_off c.args.w.now.program.now c.args.arena c.args.depth c.args.t.now.known.items c.args.budget c.loop-turn.turn c.loop-turn.run.now c.loop-turn.run.waiting.items c.loop-turn.run.heap (g.O.Sink.taken c.args.out.now) (g.O.Sink.taken c.loop-turn.out) c.loop-turn.output c.loop-turn.invariant.way
    x.line x.ending c.step.new.run.now c.step.new.run.waiting.items c.step.new.run.heap
    (subst (λ (u : Table). Charges c.args.w.now.program.now u.known.items c.args.arena c.args.depth c.loop-turn.run.now c.loop-turn.run.waiting.items c.loop-turn.run.heap x.line x.ending c.step.new.run.now c.step.new.run.waiting.items c.step.new.run.heap) c.loop-turn.invariant.table c.in_ok-charged.ensures.charges)
    (search rules) (g.O.Sink.taken c.show.new.out) c.in_err-show.ensures.cut)

pub returns-in_err-show-clause-cause : goal.returns-in_err-show-clause-cause
returns-in_err-show-clause-cause g c =
    let p = err_from_is_err_and c.from_residual-in_err-show.result c.from_residual-in_err-show.ensures.1 in
    of_sink _ _ _ c.from_residual-in_err-show.result p.0 p.1 p.2 c.loop-turn.invariant.faults c.in_err-show.ensures.cause.later c.in_err-show.ensures.cause.failed

pub returns-in-Some-clause-wrote : goal.returns-in-Some-clause-wrote
returns-in-Some-clause-wrote g c =
    let x = c.in_ok-charged.charged in
    ends c.args.w.now.program.now c.args.arena c.args.depth c.args.t.now.known.items c.args.budget c.loop-turn.turn c.loop-turn.run.now c.loop-turn.run.waiting.items c.loop-turn.run.heap (g.O.Sink.taken c.args.out.now) (g.O.Sink.taken c.loop-turn.out) c.loop-turn.output c.loop-turn.invariant.way
    x.line x.ending c.step.new.run.now c.step.new.run.waiting.items c.step.new.run.heap
    (subst (λ (u : Table). Charges c.args.w.now.program.now u.known.items c.args.arena c.args.depth c.loop-turn.run.now c.loop-turn.run.waiting.items c.loop-turn.run.heap x.line x.ending c.step.new.run.now c.step.new.run.waiting.items c.step.new.run.heap) c.loop-turn.invariant.table c.in_ok-charged.ensures.charges)
    (g.O.Sink.taken c.show.new.out) c.show.new.output c.in_ok-show.ensures.wrote (search rules) c.in-Some.o c.in-Some.is c.outcome_of.result c.outcome_of.ensures

pub returns-in-Some-clause-cause : goal.returns-in-Some-clause-cause
returns-in-Some-clause-cause g c = no_cause _ _ _ (c.in_ok-show.ensures.cause.kept ∙ c.loop-turn.invariant.faults)

pub loop-turn-preserved : goal.loop-turn-preserved
loop-turn-preserved g c =
    let x = c.in_ok-charged.charged in
    record {
      way = goes_on c.args.w.now.program.now c.args.arena c.args.depth c.args.t.now.known.items c.args.budget c.loop-turn.turn c.loop-turn.run.now c.loop-turn.run.waiting.items c.loop-turn.run.heap (g.O.Sink.taken c.args.out.now) (g.O.Sink.taken c.loop-turn.out) c.loop-turn.output c.loop-turn.invariant.way
          x.line x.ending c.step.new.run.now c.step.new.run.waiting.items c.step.new.run.heap
          (subst (λ (u : Table). Charges c.args.w.now.program.now u.known.items c.args.arena c.args.depth c.loop-turn.run.now c.loop-turn.run.waiting.items c.loop-turn.run.heap x.line x.ending c.step.new.run.now c.step.new.run.waiting.items c.step.new.run.heap) c.loop-turn.invariant.table c.in_ok-charged.ensures.charges)
          (g.O.Sink.taken c.show.new.out) c.show.new.output c.in_ok-show.ensures.wrote c.in_default.is;
      table = c.in_ok-charged.ensures.kept ∙ c.loop-turn.invariant.table;
      faults = c.in_ok-show.ensures.cause.kept ∙ c.loop-turn.invariant.faults;
    }

pub returns-clause-wrote : goal.returns-clause-wrote
returns-clause-wrote g c =
    used_up c.args.w.now.program.now c.args.arena c.args.depth c.args.t.now.known.items c.args.budget c.loop-turn.turn c.loop-turn.run.now c.loop-turn.run.waiting.items c.loop-turn.run.heap (g.O.Sink.taken c.args.out.now) (g.O.Sink.taken c.loop-turn.out) c.loop-turn.output c.loop-turn.invariant.way
    (search rules) (search rules)

pub returns-clause-cause : goal.returns-clause-cause
returns-clause-cause g c = no_cause _ _ _ c.loop-turn.invariant.faults
