use Rattle.std.proofs.Common.{◌∙◌, ◌≤◌, ◌+◌, ◌∷◌, [], ap, arith, length, subst, sym}
use Rattle.jn_table.specs.declared.table.Table.{Table}
use Rattle.jn_table.specs.Rows.{IsNumber}
use Rattle.std.proofs.lemmas.List.{length-append}
use Rattle.jn_intern.proofs.Pools.{keeps_more}
use Rattle.jn_header.proofs.BodyRows.{rows_more, rows_all}
use Rattle.jn_header.proofs.bodies.head_rows.Goals as goal

pub returns-in_err-push-in-Ok-clause-keeps : goal.returns-in_err-push-in-Ok-clause-keeps
returns-in_err-push-in-Ok-clause-keeps c = keeps_more c.loop-k.invariant.3 c.in-Ok.ensures.keeps

pub returns-in-Err-clause-keeps : goal.returns-in-Err-clause-keeps
returns-in-Err-clause-keeps c = keeps_more c.loop-k.invariant.3 c.in-Err.ensures.keeps

pub loop-k-preserved : goal.loop-k-preserved
loop-k-preserved c = (
  rows_more c.args.p.now c.args.t.now.known.items c.loop-k.rows.items c.push.new.self.items c.in-Ok.row (record { 0 = c.loop-k.k }) c.loop-k.invariant.1 c.loop-k.invariant.0
      (λ R n. c.in-Ok.ensures.told R (subst (λ (t : Table). IsNumber t.known.items (record { 0 = c.loop-k.k }) R) (sym c.loop-k.invariant.2) n)) c.in-Ok.ensures.placed c.in_ok-push-in-Ok.ensures.items,
  ap length c.in_ok-push-in-Ok.ensures.items ∙ (length-append c.loop-k.rows.items (c.in-Ok.row ∷ []) ∙ ap (λ n. n + 1) c.loop-k.invariant.1),
  c.in-Ok.ensures.kept ∙ c.loop-k.invariant.2,
  keeps_more c.loop-k.invariant.3 c.in-Ok.ensures.keeps,
)

pub returns-clause-told : goal.returns-clause-told
returns-clause-told c =
    let past : length c.args.t.now.known.items ≤ c.loop-k.k = omega (arith, c.loop-k-test.false, ap length c.known-k-end.ensures) in
    rows_all c.args.p.now c.args.t.now.known.items c.loop-k.rows.items c.loop-k.k past c.loop-k.invariant.0
