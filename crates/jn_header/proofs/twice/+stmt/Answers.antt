use Rattle.std.proofs.Common.{◌≡◌, ◌∙◌, List, ap, sym, rules, length, subst, map, IfOk}
use Rattle.std.specs.declared.alloc.AllocError.{AllocError}
use Rattle.jn_base.specs.declared.tree.Name.{Name}
use Rattle.jn_base.specs.declared.tree.Stmt.{Stmt}
use Rattle.jn_base.specs.Duplicates.{in_stmt, in_block}
use Rattle.jn_header.specs.First.{first, SameNames}
use Rattle.jn_header.proofs.TwiceEquations.{at_while}
use Rattle.jn_header.proofs.TwiceSteps.{block_first, block_hit, block_next, block_none, passed, found_as, still_front, all_taken}
use Rattle.jn_header.proofs.twice.+stmt.Goals as goal

pub in_block-loop-stmt-init : goal.in_block-loop-stmt-init
in_block-loop-stmt-init t c = let n : c.len-outer.result ≡ length c.args.scope.now.items = search rules in (n, (all_taken c.args.scope.now.items c.len-outer.result n, λ S same. block_first c.args.stmts.now S _ same))

pub in_block-returns-in-Some-clause-found : goal.in_block-returns-in-Some-clause-found
in_block-returns-in-Some-clause-found t c = λ S same. block_hit c.args.stmts.now S c.loop-stmt.stmt-index c.stmt-item.result _ c.in-Some.second (c.loop-stmt.invariant.1.1 S same) c.loop-stmt-test.true c.stmt-item.is (λ S' same'. sym c.in-Some.is ∙ c.in_ok-second.ensures.found S' same')

pub in_block-loop-stmt-preserved : goal.in_block-loop-stmt-preserved
in_block-loop-stmt-preserved t c =
    let bound = passed AllocError c.in_ok-second.field-0 c.in-None.is c.in_ok-second.ensures.bound in (
      c.loop-stmt.invariant.0,
      (
        still_front c.args.scope.now.items c.loop-stmt.scope.items _ c.in_stmt.new.scope.items c.len-outer.result c.loop-stmt.invariant.0 c.loop-stmt.invariant.1.0 bound,
        λ S same. block_next c.args.stmts.now S c.loop-stmt.stmt-index c.stmt-item.result _ _ (c.loop-stmt.invariant.1.1 S same) c.loop-stmt-test.true c.stmt-item.is (λ S' same'. sym c.in-None.is ∙ c.in_ok-second.ensures.found S' same') bound,
      ),
    )

pub in_block-returns-clause-found : goal.in_block-returns-clause-found
in_block-returns-clause-found t c = λ S same. block_none c.args.stmts.now S _ _ (c.loop-stmt.invariant.1.1 S same) (search rules)

pub in_stmt-returns-in-While-clause-found : goal.in_stmt-returns-in-While-clause-found
in_stmt-returns-in-While-clause-found t c = found_as _ _ _ _ (ap in_stmt c.in-While.is ∙ at_while _ _ _) (subst (λ (ss : List Stmt). IfOk c.in_block-in-While.result (λ found. (S : List Name) → SameNames c.args.scope.now.items S → found ≡ first (in_block (map in_stmt ss) S))) c.as_slice-in-While.ensures c.in_block-in-While.ensures.found)
