use Rattle.std.proofs.Common.{◌<◌, length, refl, arith}
use Rattle.std.proofs.lemmas.Option.{slice_get_read}
use Rattle.std.proofs.lemmas.Result.{err_from_is_err_and}
use Rattle.jn_reach.proofs.Cycles.{steps_within}
use Rattle.jn_table.specs.Universes.{memory_at}
use Rattle.jn_table.proofs.Fillings.{refused_cycle, refused_kinds}
use Rattle.jn_table.proofs.judge.judged.Goals as goal

pub returns-in_err-path-clause-err : goal.returns-in_err-path-clause-err
returns-in_err-path-clause-err c =
    let p = err_from_is_err_and c.from_residual.result c.from_residual.ensures.1 in rw (p.1, p.2) memory_at

pub returns-in-Some-clause-err : goal.returns-in-Some-clause-err
returns-in-Some-clause-err c =
    let s = (rw c.deref.ensures.value at c.in-Some.ensures.some) in
    let w : c.in-Some.number < length c.args.universe.now.nodes.paths.items =
    (let l = steps_within c.args.universe.now.nodes.direct.items c.in-Some.number s in omega
    (arith, l, c.requires.fits.nodes.long)) in
    refused_cycle _ _ c.in-Some.number c.index.result.now
    (slice_get_read _ _ _ c.index.result.now refl w c.index.ensures) c.in_ok-path.ensures s
    (rw c.deref.ensures.value at c.in-Some.ensures.first)

pub returns-in_err-path-2-clause-err : goal.returns-in_err-path-2-clause-err
returns-in_err-path-2-clause-err c =
    let p = err_from_is_err_and c.from_residual-in_err-path-2.result c.from_residual-in_err-path-2.ensures.1 in rw
    (p.1, p.2) memory_at

pub returns-in-Some-first_mixed-clause-err : goal.returns-in-Some-first_mixed-clause-err
returns-in-Some-first_mixed-clause-err c =
    refused_kinds _ _ c.in-Some-first_mixed.number c.index-in-Some-first_mixed.result.now
    (slice_get_read _ _ _ c.index-in-Some-first_mixed.result.now refl c.in-Some-first_mixed.ensures.within c.index-in-Some-first_mixed.ensures)
    c.in_ok-path-2.ensures (rw c.deref.ensures.value at c.in_default.ensures.none) c.in-Some-first_mixed.ensures.some c.in-Some-first_mixed.ensures.first

pub returns-clause-ok : goal.returns-clause-ok
returns-clause-ok c = record {
  no_cycle = rw c.deref.ensures.value at c.in_default.ensures.none;
  one_kind = c.in_default-first_mixed.ensures.none;
}
