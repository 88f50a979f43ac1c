use Rattle.std.proofs.Common.{subst, sym}
use Rattle.std.specs.Prelude.{Err}
use Rattle.jn_table.specs.declared.table.Table.{Table}
use Rattle.jn_table.specs.Tables.{IsPathOf}
use Rattle.jn_header.specs.Judged.{PartsPass}
use Rattle.jn_header.proofs.Judging.{table_refused, verdict_told, verdict_only}
use Rattle.jn_header.proofs.judge.check_headers.Goals as goal

pub returns-in-Err-clause-told : goal.returns-in-Err-clause-told
returns-in-Err-clause-told c =
    verdict_told c.args.p.now c.args.t.now (Err c.in-Err.fault) (table_refused c.args.p.now (PartsPass c.args.p.now c.args.t.now) c.in-Err.fault c.in-Err.ensures.told)

pub returns-in-Err-clause-only : goal.returns-in-Err-clause-only
returns-in-Err-clause-only c =
    verdict_only c.args.p.now c.requires.once c.requires.table.named (Err c.in-Err.fault)
    (verdict_told c.args.p.now c.args.t.now (Err c.in-Err.fault) (table_refused c.args.p.now (PartsPass c.args.p.now c.args.t.now) c.in-Err.fault c.in-Err.ensures.told))

pub returns-in-Ok-clause-only : goal.returns-in-Ok-clause-only
returns-in-Ok-clause-only c =
    verdict_only c.args.p.now c.requires.once c.requires.table.named c.behind_table.result (verdict_told c.args.p.now c.check_table.new.t c.behind_table.result c.behind_table.ensures.told)

pub returns-in-Ok-clause-numbers : goal.returns-in-Ok-clause-numbers
returns-in-Ok-clause-numbers c = λ id q h.
    subst (λ (t : Table). IsPathOf t id q) (sym c.behind_table.ensures.kept) (c.check_table.ensures.numbers id q h)
