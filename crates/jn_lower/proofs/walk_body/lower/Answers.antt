use Rattle.std.proofs.Common.{List, ℕ, [], refl, subst}
use Rattle.jn_base.specs.declared.tree.Param.{Param}
use Rattle.jn_base.specs.declared.tree.Stmt.{Stmt}
use Rattle.jn_agree.specs.Places.{last_return}
use Rattle.jn_lower.specs.declared.walk.Parts.{Parts}
use Rattle.jn_lower.specs.declared.walk.Walk.{Walk}
use Rattle.jn_lower.specs.Emitted.{Adds}
use Rattle.jn_lower.specs.Written.{param_tests}
use Rattle.jn_lower.specs.Walks.{LowersStmts}
use Rattle.jn_lower.proofs.NextLocals.{if_ok}
use Rattle.jn_lower.proofs.Bodies.{body_stands}
use Rattle.jn_lower.proofs.walk_body.lower.Goals as goal

pub returns-clause-at : goal.returns-clause-at
returns-clause-at c =
    let g : Parts = record { alloc = c.args.alloc; p = c.args.p; t = c.args.t; slots = c.args.slots; names = c.args.s; class = c.declaring-class.result; vars = record { ref_ptr = (0, 0); now = [] } } in
    let w1 : Walk = record { out = c.test_params.new.out; marks = c.of-marks.result; last = 0 } in
    if_ok c.finish.result (λ code end n b k parts is. body_stands g n c.args.m.now c.args.r.now b k c.in_ok-out.out
    c.test_params.new.out c.last_return.new.out c.in_ok-known.known.list c.stmts.new.known.list w1 c.stmts.new.w code parts
    c.declaring-class.ensures c.in_ok-known.ensures is c.in_ok-out.ensures
    (subst (λ (xs : List Param). Adds (param_tests 1 xs) c.in_ok-out.out c.test_params.new.out) c.as_slice.ensures c.in_ok-test_params.ensures)
    refl c.of-marks.ensures
    (subst (λ (ss : List Stmt). LowersStmts g ss c.in_ok-known.known.list c.stmts.new.known.list w1 c.stmts.new.w)
    c.as_slice-2.ensures c.in_ok-stmts.ensures.lowers)
    (subst (λ (i : ℕ). Adds (last_return i) c.stmts.new.w.out c.last_return.new.out) c.written_result.ensures c.in_ok-last_return.ensures)
    end) c.finish.ensures.finished

pub returns-clause-room : goal.returns-clause-room
returns-clause-room c = if_ok c.finish.result (λ code f. f.room) c.finish.ensures.formed

pub returns-clause-in_form : goal.returns-clause-in_form
returns-clause-in_form c = if_ok c.finish.result (λ code f. f.in_form) c.finish.ensures.formed

pub returns-clause-locals : goal.returns-clause-locals
returns-clause-locals c = if_ok c.finish.result (λ code f. f.locals) c.finish.ensures.formed
