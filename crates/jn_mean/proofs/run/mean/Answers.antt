use Rattle.std.proofs.Common.{List, refl, sym, subst}
use Rattle.std.proofs.lemmas.Result.{err_from_is_err_and}
use Rattle.jn_output.proofs.Writing.{on_err}
use Rattle.jn_base.specs.declared.tree.Name.{Name}
use Rattle.jn_meaning.specs.World.{AreParts}
use Rattle.jn_meaning.proofs.Underway.{cut_at_start}
use Rattle.jn_meaning.proofs.Causes.{of_memory}
use Rattle.jn_mean.proofs.Parts.{named, parts_stand}
use Rattle.jn_mean.proofs.run.mean.Goals as goal

pub parts_of-requires-clause-table : goal.parts_of-requires-clause-table
parts_of-requires-clause-table g c = c.in_ok-table.ensures.table (named c.args.p.now c.requires.limits)

pub run_with-requires : goal.run_with-requires
run_with-requires g c =
    let p = c.args.p.now in
    let h = c.in_ok-headers.headers in
    let t = c.parts_of.new.table in
    subst (λ (names : List Name). AreParts p t names h.members h.groups h.slots) (sym c.deref.ensures.value) (parts_stand p c.requires.limits c.requires.once c.requires.headers t h c.in_ok-headers.ensures)

pub returns-in_err-table-clause-cut : goal.returns-in_err-table-clause-cut
returns-in_err-table-clause-cut g c = on_err c.from_residual.result _ (cut_at_start c.args.p.now c.args.arena c.args.depth c.args.budget (g.O.Sink.taken c.args.out.now))

pub returns-in_err-table-clause-cause : goal.returns-in_err-table-clause-cause
returns-in_err-table-clause-cause g c =
    let p = err_from_is_err_and c.from_residual.result c.from_residual.ensures.1 in of_memory _ _ c.from_residual.result p.0 p.1 p.2 refl

pub returns-in_err-headers-clause-cut : goal.returns-in_err-headers-clause-cut
returns-in_err-headers-clause-cut g c = on_err c.from_residual-in_err-headers.result _ (cut_at_start c.args.p.now c.args.arena c.args.depth c.args.budget (g.O.Sink.taken c.args.out.now))

pub returns-in_err-headers-clause-cause : goal.returns-in_err-headers-clause-cause
returns-in_err-headers-clause-cause g c =
    let p = err_from_is_err_and c.from_residual-in_err-headers.result c.from_residual-in_err-headers.ensures.1 in
    of_memory _ _ c.from_residual-in_err-headers.result p.0 p.1 p.2 refl
