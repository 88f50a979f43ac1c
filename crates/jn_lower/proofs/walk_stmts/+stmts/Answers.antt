use Rattle.std.proofs.Common.{◌∙◌, List, ap, subst, sym, take}
use Rattle.jn_base.specs.declared.tree.Stmt.{Stmt}
use Rattle.jn_base.specs.declared.tree.Stmt.TheVariants as stmt
use Rattle.jn_base.specs.declared.names.Var.{Var}
use Rattle.jn_base.specs.declared.names.Vars.{Vars}
use Rattle.jn_lower.specs.Walks.{LowersBlock, LowersStmt}
use Rattle.jn_lower.proofs.Seams.{on_ok, on_both}
use Rattle.jn_lower.proofs.Knowing.{extends_same, extends_on, front_kept}
use Rattle.jn_lower.proofs.Blocks.{same_vars, blocked, chosen, repeated}
use Rattle.jn_lower.proofs.Loops.{stmts_on, stmts_over}
use Rattle.jn_lower.proofs.walk_stmts.+stmts.Goals as goal

pub stmts-loop-s-preserved : goal.stmts-loop-s-preserved
stmts-loop-s-preserved t c = record {
  goes = stmts_on c.args.g.now c.args.ss.now c.loop-s.s-index c.s-item.result c.args.known.now.list c.loop-s.known.list
      c.stmt.new.known.list c.args.w.now c.loop-s.w c.stmt.new.w c.loop-s.invariant.goes c.loop-s-test.true c.s-item.is
      c.in_ok-stmt.ensures.lowers;
  extends = extends_on c.loop-s.invariant.extends c.in_ok-stmt.ensures.extends;
}

pub stmts-returns-clause-lowers : goal.stmts-returns-clause-lowers
stmts-returns-clause-lowers t c =
    stmts_over c.args.g.now c.args.ss.now c.loop-s.s-index c.args.known.now.list c.loop-s.known.list c.args.w.now c.loop-s.w
    c.loop-s.invariant.goes c.loop-s-test.false

pub block-returns-clause-lowers : goal.block-returns-clause-lowers
block-returns-clause-lowers t c = record { inner = c.stmts.new.known.list; lowers = c.in_ok-stmts.ensures.lowers }

pub block-returns-clause-kept : goal.block-returns-clause-kept
block-returns-clause-kept t c =
    ap (λ (l : List Var). Vars-of l)
    (c.leave.ensures ∙ ap (λ n. take n c.stmts.new.known.list) c.len-count.ensures ∙ front_kept c.in_ok-stmts.ensures.extends)
  where
    Vars-of : List Var → Vars
    Vars-of l = record { list = l }

pub stmt-returns-in-Block-clause-lowers : goal.stmt-returns-in-Block-clause-lowers
stmt-returns-in-Block-clause-lowers t c =
    let g = c.args.g.now in
    let us = c.args.known.now.list in
    let w0 = c.args.w.now in
    let w1 = c.block.new.w in
    on_both c.block.result (λ h k. subst (λ (x : Stmt). LowersStmt g x us c.block.new.known.list w0 w1) (sym c.in-Block.is)
    (same_vars g (stmt.Block c.in-Block.body) us c.block.new.known.list w0 w1 (ap (λ (v : Vars). v.list) k)
    (blocked g us c.in-Block.body w0 w1
    (subst (λ (x : List Stmt). LowersBlock g x us w0 w1) c.as_slice.ensures h))))
    c.block.ensures.lowers c.block.ensures.kept

pub stmt-returns-in-Block-clause-extends : goal.stmt-returns-in-Block-clause-extends
stmt-returns-in-Block-clause-extends t c =
    on_ok c.block.result (λ k. extends_same (ap (λ (v : Vars). v.list) k)) c.block.ensures.kept

pub stmt-returns-in_ok-block-in-If-2-clause-lowers : goal.stmt-returns-in_ok-block-in-If-2-clause-lowers
stmt-returns-in_ok-block-in-If-2-clause-lowers t c =
    let g = c.args.g.now in
    let us = c.args.known.now.list in
    let vs = c.block-in-If-2.new.known.list in
    let w0 = c.args.w.now in
    let w6 = c.joined.new.w in
    let first = ap (λ (v : Vars). v.list) c.in_ok-block-in-If.ensures.kept in
    let second = ap (λ (v : Vars). v.list) c.in_ok-block-in-If-2.ensures.kept in
    on_ok c.joined.result (λ h. subst (λ (x : Stmt). LowersStmt g x us vs w0 w6) (sym c.in-If.is)
    (same_vars g (stmt.If c.in-If.e c.in-If.one c.in-If.other c.in-If.field-3) us vs w0 w6 (second ∙ first)
    (chosen g c.seeing.result us c.in-If.e c.in-If.one c.in-If.other c.in-If.field-3 c.in_ok-test-in-If.test
    c.in_ok-jump-in-If.jump w0 c.tested.new.w c.block-in-If.new.w c.jumped.new.w c.block-in-If-2.new.w w6 c.seeing.ensures
    c.in_ok-test-in-If.ensures
    (subst (λ (x : List Stmt). LowersBlock g x us c.tested.new.w c.block-in-If.new.w) c.as_slice-in-If.ensures c.in_ok-block-in-If.ensures.lowers)
    c.in_ok-jump-in-If.ensures
    (subst (λ (ws : List Var). LowersBlock g c.in-If.other ws c.jumped.new.w c.block-in-If-2.new.w) first
    (subst (λ (x : List Stmt). LowersBlock g x c.block-in-If.new.known.list c.jumped.new.w c.block-in-If-2.new.w) c.as_slice-in-If-2.ensures c.in_ok-block-in-If-2.ensures.lowers))
    h))) c.joined.ensures

pub stmt-returns-in_ok-block-in-If-2-clause-extends : goal.stmt-returns-in_ok-block-in-If-2-clause-extends
stmt-returns-in_ok-block-in-If-2-clause-extends t c =
    let first = ap (λ (v : Vars). v.list) c.in_ok-block-in-If.ensures.kept in
    let second = ap (λ (v : Vars). v.list) c.in_ok-block-in-If-2.ensures.kept in
    on_ok c.joined.result (λ h. extends_same (second ∙ first)) c.joined.ensures

pub stmt-returns-in_ok-block-in-While-clause-lowers : goal.stmt-returns-in_ok-block-in-While-clause-lowers
stmt-returns-in_ok-block-in-While-clause-lowers t c =
    let g = c.args.g.now in
    let us = c.args.known.now.list in
    let vs = c.block-in-While.new.known.list in
    let w0 = c.args.w.now in
    let w4 = c.repeated.new.w in
    on_ok c.repeated.result (λ h. subst (λ (x : Stmt). LowersStmt g x us vs w0 w4) (sym c.in-While.is)
    (same_vars g (stmt.While c.in-While.e c.in-While.body c.in-While.field-2) us vs w0 w4
    (ap (λ (v : Vars). v.list) c.in_ok-block-in-While.ensures.kept)
    (repeated g c.seeing-in-While.result us c.in-While.e c.in-While.body c.in-While.field-2 c.in_ok-start-in-While.start
    c.in_ok-test-in-While.test w0 c.tested-in-While.new.w c.block-in-While.new.w w4 c.seeing-in-While.ensures
    c.in_ok-start-in-While.ensures c.in_ok-test-in-While.ensures
    (subst (λ (x : List Stmt). LowersBlock g x us c.tested-in-While.new.w c.block-in-While.new.w) c.as_slice-in-While.ensures c.in_ok-block-in-While.ensures.lowers)
    h))) c.repeated.ensures

pub stmt-returns-in_ok-block-in-While-clause-extends : goal.stmt-returns-in_ok-block-in-While-clause-extends
stmt-returns-in_ok-block-in-While-clause-extends t c =
    on_ok c.repeated.result (λ h. extends_same (ap (λ (v : Vars). v.list) c.in_ok-block-in-While.ensures.kept)) c.repeated.ensures
