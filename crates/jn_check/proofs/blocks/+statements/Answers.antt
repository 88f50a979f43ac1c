use Rattle.std.proofs.Common.{length, map, Err, refl, sym, ap, ◌∙◌, subst, arith, rules}
use Rattle.jn_intern.specs.declared.scope.Scope.{Scope as NumberScope}
use Rattle.jn_intern.specs.Pools.{ScopeInPool, scope_in}
use Rattle.jn_intern.proofs.Pools.{keeps_more}
use Rattle.jn_rules.specs.Stmts.{stmt_types, condition, choice_typed, loop_typed}
use Rattle.jn_expr.proofs.Leading.{leads_here, leads_told, told_of_fault, leads_of_fault}
use Rattle.jn_expr.proofs.Scopes.{vars_stay}
use Rattle.jn_check.specs.Blocks.{behind_one}
use Rattle.jn_check.specs.Masks.{bare}
use Rattle.jn_check.specs.States.{in_at, before_at}
use Rattle.jn_check.proofs.Standing.{stays_but, but_more, but_same, parts_but, left_back, left_is, left_stays, before_kept}
use Rattle.jn_check.proofs.Telling.{told_as}
use Rattle.jn_check.proofs.StmtSteps.{stmt_below, other_below, block_form, local_form, assign_form, set_form, call_form, choice_form, loop_form, return_form, print_form, text_went}
use Rattle.jn_check.proofs.BlockSteps.{shows_stay, after_start, after_more, stmts_more, stmts_fault, stmts_end, block_went, block_fault, first_leads, first_fault, loop_went, loop_fault, behind_fault, left_at, back_more, back_behind, after_back, back_kept, put_back, put_is, put_same, ends_known, ends_long, joined_back, joined_went}
use Rattle.jn_check.proofs.blocks.+statements.Goals as goal

-- ---- one after the other

pub check_stmts-loop-s-init : goal.check_stmts-loop-s-init
check_stmts-loop-s-init t c = record {
  after = after_start c.args.p.now c.args.class.now c.args.m.now.name.name c.args.env.now c.args.x.now c.requires.before;
  stays = but_same c.args.env.now;
  parts = c.requires.parts;
  leads = λ u sh. leads_here _ c.args.env.now.marks;
}

pub check_stmts-check_stmt-requires : goal.check_stmts-check_stmt-requires
check_stmts-check_stmt-requires t c =
    let M = stmt_below c.args.ss.now c.loop-s.s-index c.s-item.result c.loop-s-test.true c.s-item.is in (
      omega (arith, M, c.decreases),
      (c.loop-s.invariant.parts, (c.loop-s.invariant.after.before, c.loop-s.invariant.stays.pool.has c.args.gives c.requires.number)),
    )

pub check_stmts-returns-in-Err-clause-told : goal.check_stmts-returns-in-Err-clause-told
check_stmts-returns-in-Err-clause-told t c = λ u sh.
    stmts_fault c.args.p.now (in_at c.args.class.now c.args.m.now u) c.args.ss.now c.loop-s.s-index c.s-item.result c.loop-s-test.true c.s-item.is _ (before_at c.loop-s.env c.loop-s.x)
    c.args.env.now.marks c.loop-s.env.marks (c.loop-s.invariant.leads u sh) (λ (v : Unit {0}). before_at c.check_stmt.new.env c.check_stmt.new.x)
    (λ (v : Unit {0}). before_at c.check_stmt.new.env c.check_stmt.new.x) c.check_stmt.new.env.marks c.check_stmt.new.env.marks c.in-Err.fault
    (c.in-Err.ensures.told u (shows_stay sh c.loop-s.invariant.stays.pool))

pub check_stmts-returns-in-Err-clause-stays : goal.check_stmts-returns-in-Err-clause-stays
check_stmts-returns-in-Err-clause-stays t c = but_more c.loop-s.invariant.stays c.in-Err.ensures.stays

pub check_stmts-loop-s-preserved : goal.check_stmts-loop-s-preserved
check_stmts-loop-s-preserved t c = record {
  after = after_more c.args.p.now c.args.class.now c.args.m.now.name.name c.args.env.now c.args.x.now c.loop-s.env c.loop-s.x c.check_stmt.new.env c.check_stmt.new.x c.loop-s.invariant.after
      c.in-Ok.ensures.after;
  stays = but_more c.loop-s.invariant.stays c.in-Ok.ensures.stays;
  parts = parts_but c.requires.parts (but_more c.loop-s.invariant.stays c.in-Ok.ensures.stays);
  leads = λ u sh. stmts_more c.args.p.now (in_at c.args.class.now c.args.m.now u) c.args.ss.now c.loop-s.s-index c.s-item.result c.loop-s-test.true c.s-item.is _ (before_at c.loop-s.env c.loop-s.x)
      c.args.env.now.marks c.loop-s.env.marks (c.loop-s.invariant.leads u sh) (before_at c.check_stmt.new.env c.check_stmt.new.x) c.check_stmt.new.env.marks
      (c.in-Ok.ensures.told u (shows_stay sh c.loop-s.invariant.stays.pool));
}

pub check_stmts-returns-clause-told : goal.check_stmts-returns-clause-told
check_stmts-returns-clause-told t c = λ u sh.
    stmts_end c.args.p.now (in_at c.args.class.now c.args.m.now u) c.args.ss.now c.loop-s.s-index _ (before_at c.loop-s.env c.loop-s.x) c.args.env.now.marks c.loop-s.env.marks c.loop-s-test.false
    (c.loop-s.invariant.leads u sh)

pub check_stmts-returns-clause-after : goal.check_stmts-returns-clause-after
check_stmts-returns-clause-after t c = c.loop-s.invariant.after

pub check_stmts-returns-clause-stays : goal.check_stmts-returns-clause-stays
check_stmts-returns-clause-stays t c = c.loop-s.invariant.stays

-- ---- a block

pub check_block-returns-in-Err-clause-told : goal.check_block-returns-in-Err-clause-told
check_block-returns-in-Err-clause-told t c = λ u sh.
    block_fault c.args.p.now (map (stmt_types (in_at c.args.class.now c.args.m.now u)) c.args.body.now) (before_at c.args.env.now c.args.x.now) c.args.env.now.marks c.check_stmts.new.env.marks
    (λ (v : Unit {0}). before_at c.check_stmts.new.env c.check_stmts.new.x) (λ (v : Unit {0}). before_at c.check_stmts.new.env c.check_stmts.new.x) c.check_stmts.new.env.marks c.in-Err.fault
    (c.in-Err.ensures.told u sh)

pub check_block-returns-in-Ok-clause-told : goal.check_block-returns-in-Ok-clause-told
check_block-returns-in-Ok-clause-told t c = λ u sh.
    block_went c.args.p.now (map (stmt_types (in_at c.args.class.now c.args.m.now u)) c.args.body.now) (before_at c.args.env.now c.args.x.now) c.args.env.now.marks c.check_stmts.new.env.marks
    (before_at c.check_stmts.new.env c.check_stmts.new.x) (before_at c.leave.new.env c.leave.new.x) c.leave.new.env.marks (c.in-Ok.ensures.told u sh)
    (left_is c.args.p.now c.args.class.now c.args.m.now.name.name c.args.env.now c.args.x.now c.check_stmts.new.env c.check_stmts.new.x c.leave.new.env c.leave.new.x c.requires.before
    c.in-Ok.ensures.after c.in-Ok.ensures.stays.pool
    (left_at c.check_stmts.new.env c.check_stmts.new.x c.len-vars.result c.len-paths.result (length c.args.env.now.vars.list) (length c.args.x.now.scope.binds.items) c.leave.new.env c.leave.new.x
    c.len-vars.ensures (search rules) c.leave.ensures))
    c.leave.ensures.marks

pub check_block-returns-in-Ok-clause-back : goal.check_block-returns-in-Ok-clause-back
check_block-returns-in-Ok-clause-back t c =
    left_back c.args.p.now c.args.class.now c.args.m.now.name.name c.args.env.now c.args.x.now c.check_stmts.new.env c.check_stmts.new.x c.leave.new.env c.leave.new.x c.requires.before
    c.in-Ok.ensures.after c.in-Ok.ensures.stays.pool
    (left_at c.check_stmts.new.env c.check_stmts.new.x c.len-vars.result c.len-paths.result (length c.args.env.now.vars.list) (length c.args.x.now.scope.binds.items) c.leave.new.env c.leave.new.x
    c.len-vars.ensures (search rules) c.leave.ensures)

pub check_block-returns-in-Ok-clause-stays : goal.check_block-returns-in-Ok-clause-stays
check_block-returns-in-Ok-clause-stays t c =
    left_stays c.args.p.now c.args.class.now c.args.m.now.name.name c.args.env.now c.args.x.now c.check_stmts.new.env c.check_stmts.new.x c.leave.new.env c.leave.new.x c.requires.before
    c.in-Ok.ensures.after c.in-Ok.ensures.stays.pool
    (left_at c.check_stmts.new.env c.check_stmts.new.x c.len-vars.result c.len-paths.result (length c.args.env.now.vars.list) (length c.args.x.now.scope.binds.items) c.leave.new.env c.leave.new.x
    c.len-vars.ensures (search rules) c.leave.ensures)
    c.in-Ok.ensures.stays

-- ---- the second block of an `if`

pub check_other-returns-in-Err-clause-told : goal.check_other-returns-in-Err-clause-told
check_other-returns-in-Err-clause-told t c = λ u sh.
    behind_fault c.args.p.now (map (stmt_types (in_at c.args.class.now c.args.m.now u)) c.args.other.now) (before_at c.args.env.now c.args.x.now) c.args.env.now.marks c.check_block.new.env.marks
    (scope_in c.args.env.now.pool c.args.first) (λ (v : Unit {0}). before_at c.check_block.new.env c.check_block.new.x) (λ (v : Unit {0}). before_at c.check_block.new.env c.check_block.new.x)
    c.check_block.new.env.marks c.in-Err.fault (c.in-Err.ensures.told u sh)

pub check_other-joined_scope-requires-clause-one : goal.check_other-joined_scope-requires-clause-one
check_other-joined_scope-requires-clause-one t c =
    ends_known c.args.p.now c.args.class.now c.args.m.now.name.name c.args.env.now c.args.x.now c.check_block.new.env c.check_block.new.x c.args.first c.requires.before c.in-Ok.ensures.back
    c.in-Ok.ensures.stays.pool c.requires.first c.requires.same

pub check_other-joined_scope-requires-clause-other : goal.check_other-joined_scope-requires-clause-other
check_other-joined_scope-requires-clause-other t c = c.in-Ok.ensures.back.before.known

pub check_other-joined_scope-requires-clause-long : goal.check_other-joined_scope-requires-clause-long
check_other-joined_scope-requires-clause-long t c =
    ends_long c.args.p.now c.args.class.now c.args.m.now.name.name c.args.env.now c.args.x.now c.check_block.new.env c.check_block.new.x c.args.first c.requires.before c.in-Ok.ensures.back
    c.in-Ok.ensures.stays.pool c.requires.first c.requires.same

pub check_other-returns-clause-told : goal.check_other-returns-clause-told
check_other-returns-clause-told t c = λ u sh.
    joined_went c.args.p.now c.args.class.now c.args.m.now.name.name c.args.env.now c.args.x.now c.check_block.new.env c.check_block.new.x c.args.first c.requires.before c.in-Ok.ensures.back
    c.in-Ok.ensures.stays.pool c.requires.first c.requires.same (record c.check_block.new.env { pool = c.joined_scope.new.pool }) (record c.check_block.new.x { scope = c.in_ok-both-in-Ok.both })
    c.in_ok-both-in-Ok.ensures.keeps refl refl refl (c.in_ok-both-in-Ok.ensures.is c.args.p.now) c.in_ok-both-in-Ok.ensures.known
    (map (stmt_types (in_at c.args.class.now c.args.m.now u)) c.args.other.now) c.args.env.now.marks c.check_block.new.env.marks (c.in-Ok.ensures.told u sh)

pub check_other-returns-clause-back : goal.check_other-returns-clause-back
check_other-returns-clause-back t c =
    joined_back c.args.p.now c.args.class.now c.args.m.now.name.name c.args.env.now c.args.x.now c.check_block.new.env c.check_block.new.x c.args.first c.requires.before c.in-Ok.ensures.back
    c.in-Ok.ensures.stays.pool c.requires.first c.requires.same (record c.check_block.new.env { pool = c.joined_scope.new.pool }) (record c.check_block.new.x { scope = c.in_ok-both-in-Ok.both })
    c.in_ok-both-in-Ok.ensures.keeps refl refl refl (c.in_ok-both-in-Ok.ensures.is c.args.p.now) c.in_ok-both-in-Ok.ensures.known

pub check_other-returns-clause-stays : goal.check_other-returns-clause-stays
check_other-returns-clause-stays t c =
    record { same = c.in-Ok.ensures.stays.same; pool = keeps_more c.in-Ok.ensures.stays.pool c.in_ok-both-in-Ok.ensures.keeps }

pub check_other-returns-in_err-both-in-Ok-clause-stays : goal.check_other-returns-in_err-both-in-Ok-clause-stays
check_other-returns-in_err-both-in-Ok-clause-stays t c =
    record { same = c.in-Ok.ensures.stays.same; pool = keeps_more c.in-Ok.ensures.stays.pool c.joined_scope.ensures.keeps }

-- ---- the first block of an `if`

pub check_first-returns-in-Err-clause-stays : goal.check_first-returns-in-Err-clause-stays
check_first-returns-in-Err-clause-stays t c = stays_but c.in-Err.ensures.stays

pub check_first-check_block-requires : goal.check_first-check_block-requires
check_first-check_block-requires t c = (
  search rules,
  (
    parts_but c.requires.parts (stays_but c.in-Ok.ensures.stays),
    (
      (back_kept c.args.p.now c.args.class.now c.args.m.now.name.name c.args.env.now c.args.x.now c.check_condition.new.env c.check_condition.new.x
          c.requires.before c.in-Ok.ensures.stays.pool (vars_stay c.in-Ok.ensures.stays) c.in-Ok.ensures.kept).before,
      c.in-Ok.ensures.stays.pool.has c.args.gives c.requires.number,
    ),
  ),
)

pub check_first-returns-in-Err-check_block-clause-stays : goal.check_first-returns-in-Err-check_block-clause-stays
check_first-returns-in-Err-check_block-clause-stays t c = but_more (stays_but c.in-Ok.ensures.stays) c.in-Err-check_block.ensures.stays

pub check_first-returns-in-Ok-check_block-clause-stays : goal.check_first-returns-in-Ok-check_block-clause-stays
check_first-returns-in-Ok-check_block-clause-stays t c = but_more (stays_but c.in-Ok.ensures.stays) c.in-Ok-check_block.ensures.stays

pub check_first-returns-in_err-before-in-Ok-clause-stays : goal.check_first-returns-in_err-before-in-Ok-clause-stays
check_first-returns-in_err-before-in-Ok-clause-stays t c = stays_but c.in-Ok.ensures.stays

pub check_first-returns-in-Err-clause-told : goal.check_first-returns-in-Err-clause-told
check_first-returns-in-Err-clause-told t c = λ u others sh.
    leads_of_fault c.args.p.now (condition (in_at c.args.class.now c.args.m.now u) (before_at c.args.env.now c.args.x.now) c.args.e.now (choice_typed (map (stmt_types (in_at c.args.class.now c.args.m.now u)) c.args.one.now) others (before_at c.args.env.now c.args.x.now))) c.args.env.now.marks
    (λ (v : Unit {0}). (choice_typed (map (stmt_types (in_at c.args.class.now c.args.m.now u)) c.args.one.now) others (before_at c.args.env.now c.args.x.now)))
    (λ (first : NumberScope). behind_one others (scope_in c.check_condition.new.env.pool first) (before_at c.check_condition.new.env c.check_condition.new.x))
    c.check_condition.new.env.marks c.check_condition.new.env.marks c.in-Err.fault (c.in-Err.ensures.told u (choice_typed (map (stmt_types (in_at c.args.class.now c.args.m.now u)) c.args.one.now) others (before_at c.args.env.now c.args.x.now)))

pub check_first-returns-in-Err-check_block-clause-told : goal.check_first-returns-in-Err-check_block-clause-told
check_first-returns-in-Err-check_block-clause-told t c = λ u others sh.
    first_fault c.args.p.now (map (stmt_types (in_at c.args.class.now c.args.m.now u)) c.args.one.now) others (condition (in_at c.args.class.now c.args.m.now u) (before_at c.args.env.now c.args.x.now) c.args.e.now (choice_typed (map (stmt_types (in_at c.args.class.now c.args.m.now u)) c.args.one.now) others (before_at c.args.env.now c.args.x.now)))
    (before_at c.args.env.now c.args.x.now) (before_at c.check_condition.new.env c.check_condition.new.x) c.args.env.now.marks c.check_condition.new.env.marks c.check_block.new.env.marks
    (before_kept c.args.p.now c.args.class.now c.args.m.now.name.name c.args.env.now c.args.x.now c.check_condition.new.env c.check_condition.new.x
    c.requires.before c.in-Ok.ensures.stays.pool (vars_stay c.in-Ok.ensures.stays) c.in-Ok.ensures.kept)
    (c.in-Ok.ensures.told u (choice_typed (map (stmt_types (in_at c.args.class.now c.args.m.now u)) c.args.one.now) others (before_at c.args.env.now c.args.x.now)))
    (λ (v : Unit {0}). (before_at c.check_block.new.env c.check_block.new.x)) (λ (first : NumberScope). behind_one others (scope_in c.check_block.new.env.pool first) (before_at c.check_block.new.env c.check_block.new.x))
    c.check_block.new.env.marks c.in-Err-check_block.fault (c.in-Err-check_block.ensures.told u (shows_stay sh c.in-Ok.ensures.stays.pool))

pub check_first-returns-in-Ok-check_block-clause-told : goal.check_first-returns-in-Ok-check_block-clause-told
check_first-returns-in-Ok-check_block-clause-told t c = λ u others sh.
    first_leads c.args.p.now (map (stmt_types (in_at c.args.class.now c.args.m.now u)) c.args.one.now) others (condition (in_at c.args.class.now c.args.m.now u) (before_at c.args.env.now c.args.x.now) c.args.e.now (choice_typed (map (stmt_types (in_at c.args.class.now c.args.m.now u)) c.args.one.now) others (before_at c.args.env.now c.args.x.now)))
    (before_at c.args.env.now c.args.x.now) (before_at c.check_condition.new.env c.check_condition.new.x) c.args.env.now.marks c.check_condition.new.env.marks c.check_block.new.env.marks
    (before_kept c.args.p.now c.args.class.now c.args.m.now.name.name c.args.env.now c.args.x.now c.check_condition.new.env c.check_condition.new.x
    c.requires.before c.in-Ok.ensures.stays.pool (vars_stay c.in-Ok.ensures.stays) c.in-Ok.ensures.kept)
    (c.in-Ok.ensures.told u (choice_typed (map (stmt_types (in_at c.args.class.now c.args.m.now u)) c.args.one.now) others (before_at c.args.env.now c.args.x.now)))
    (before_at c.check_block.new.env c.check_block.new.x) (before_at c.check_block.new.env (record c.check_block.new.x { scope = c.replace-first.new.dest }))
    (scope_in c.check_block.new.env.pool c.replace-first.result) (c.in-Ok-check_block.ensures.told u (shows_stay sh c.in-Ok.ensures.stays.pool))
    (ap (scope_in c.check_block.new.env.pool) c.replace-first.ensures.value)
    (put_is c.args.p.now c.args.class.now c.args.m.now.name.name c.args.env.now c.args.x.now c.check_block.new.env c.check_block.new.x c.requires.before
    (back_more c.args.p.now c.args.class.now c.args.m.now.name.name c.args.env.now c.args.x.now c.check_condition.new.env c.check_condition.new.x c.check_block.new.env c.check_block.new.x
    (back_kept c.args.p.now c.args.class.now c.args.m.now.name.name c.args.env.now c.args.x.now c.check_condition.new.env c.check_condition.new.x
    c.requires.before c.in-Ok.ensures.stays.pool (vars_stay c.in-Ok.ensures.stays) c.in-Ok.ensures.kept) c.in-Ok-check_block.ensures.back)
    (keeps_more c.in-Ok.ensures.stays.pool c.in-Ok-check_block.ensures.stays.pool) (record c.check_block.new.x { scope = c.replace-first.new.dest }) refl
    (ap (λ (s : NumberScope). s.binds.items) c.replace-first.ensures.after ∙ (c.in_ok-before-in-Ok.ensures ∙ c.in-Ok.ensures.kept.scope)) refl)

pub check_first-returns-in-Ok-check_block-clause-back : goal.check_first-returns-in-Ok-check_block-clause-back
check_first-returns-in-Ok-check_block-clause-back t c =
    put_back c.args.p.now c.args.class.now c.args.m.now.name.name c.args.env.now c.args.x.now c.check_block.new.env c.check_block.new.x c.requires.before
    (back_more c.args.p.now c.args.class.now c.args.m.now.name.name c.args.env.now c.args.x.now c.check_condition.new.env c.check_condition.new.x c.check_block.new.env c.check_block.new.x
    (back_kept c.args.p.now c.args.class.now c.args.m.now.name.name c.args.env.now c.args.x.now c.check_condition.new.env c.check_condition.new.x
    c.requires.before c.in-Ok.ensures.stays.pool (vars_stay c.in-Ok.ensures.stays) c.in-Ok.ensures.kept) c.in-Ok-check_block.ensures.back)
    (keeps_more c.in-Ok.ensures.stays.pool c.in-Ok-check_block.ensures.stays.pool) (record c.check_block.new.x { scope = c.replace-first.new.dest }) refl
    (ap (λ (s : NumberScope). s.binds.items) c.replace-first.ensures.after ∙ (c.in_ok-before-in-Ok.ensures ∙ c.in-Ok.ensures.kept.scope)) refl

pub check_first-returns-in-Ok-check_block-clause-known : goal.check_first-returns-in-Ok-check_block-clause-known
check_first-returns-in-Ok-check_block-clause-known t c =
    subst (ScopeInPool c.check_block.new.env.pool) (sym c.replace-first.ensures.value) c.in-Ok-check_block.ensures.back.before.known

pub check_first-returns-in-Ok-check_block-clause-same : goal.check_first-returns-in-Ok-check_block-clause-same
check_first-returns-in-Ok-check_block-clause-same t c =
    ap (λ (s : NumberScope). map bare (scope_in c.check_block.new.env.pool s)) c.replace-first.ensures.value
    ∙ (put_same c.args.p.now c.args.class.now c.args.m.now.name.name c.args.env.now c.args.x.now c.check_block.new.env c.check_block.new.x c.requires.before
    (back_more c.args.p.now c.args.class.now c.args.m.now.name.name c.args.env.now c.args.x.now c.check_condition.new.env c.check_condition.new.x c.check_block.new.env c.check_block.new.x
    (back_kept c.args.p.now c.args.class.now c.args.m.now.name.name c.args.env.now c.args.x.now c.check_condition.new.env c.check_condition.new.x
    c.requires.before c.in-Ok.ensures.stays.pool (vars_stay c.in-Ok.ensures.stays) c.in-Ok.ensures.kept) c.in-Ok-check_block.ensures.back)
    (keeps_more c.in-Ok.ensures.stays.pool c.in-Ok-check_block.ensures.stays.pool) (record c.check_block.new.x { scope = c.replace-first.new.dest }) refl
    (ap (λ (s : NumberScope). s.binds.items) c.replace-first.ensures.after ∙ (c.in_ok-before-in-Ok.ensures ∙ c.in-Ok.ensures.kept.scope)) refl)

-- ---- a `while`

pub check_while-returns-in-Err-clause-stays : goal.check_while-returns-in-Err-clause-stays
check_while-returns-in-Err-clause-stays t c = stays_but c.in-Err.ensures.stays

pub check_while-check_block-requires : goal.check_while-check_block-requires
check_while-check_block-requires t c = (
  search rules,
  (
    parts_but c.requires.parts (stays_but c.in-Ok.ensures.stays),
    (
      (back_kept c.args.p.now c.args.class.now c.args.m.now.name.name c.args.env.now c.args.x.now c.check_condition.new.env c.check_condition.new.x
          c.requires.before c.in-Ok.ensures.stays.pool (vars_stay c.in-Ok.ensures.stays) c.in-Ok.ensures.kept).before,
      c.in-Ok.ensures.stays.pool.has c.args.gives c.requires.number,
    ),
  ),
)

pub check_while-returns-in-Err-check_block-clause-stays : goal.check_while-returns-in-Err-check_block-clause-stays
check_while-returns-in-Err-check_block-clause-stays t c = but_more (stays_but c.in-Ok.ensures.stays) c.in-Err-check_block.ensures.stays

pub check_while-returns-in-Ok-check_block-clause-stays : goal.check_while-returns-in-Ok-check_block-clause-stays
check_while-returns-in-Ok-check_block-clause-stays t c = but_more (stays_but c.in-Ok.ensures.stays) c.in-Ok-check_block.ensures.stays

pub check_while-returns-in_err-before-in-Ok-clause-stays : goal.check_while-returns-in_err-before-in-Ok-clause-stays
check_while-returns-in_err-before-in-Ok-clause-stays t c = stays_but c.in-Ok.ensures.stays

pub check_while-returns-in-Err-clause-told : goal.check_while-returns-in-Err-clause-told
check_while-returns-in-Err-clause-told t c = λ u sh.
    told_of_fault c.args.p.now (condition (in_at c.args.class.now c.args.m.now u) (before_at c.args.env.now c.args.x.now) c.args.e.now (loop_typed (map (stmt_types (in_at c.args.class.now c.args.m.now u)) c.args.body.now) (before_at c.args.env.now c.args.x.now))) c.args.env.now.marks
    (λ (v : Unit {0}). (loop_typed (map (stmt_types (in_at c.args.class.now c.args.m.now u)) c.args.body.now) (before_at c.args.env.now c.args.x.now))) (λ (v : Unit {0}). (before_at c.check_condition.new.env c.check_condition.new.x))
    c.check_condition.new.env.marks c.check_condition.new.env.marks c.in-Err.fault (c.in-Err.ensures.told u (loop_typed (map (stmt_types (in_at c.args.class.now c.args.m.now u)) c.args.body.now) (before_at c.args.env.now c.args.x.now)))

pub check_while-returns-in-Err-check_block-clause-told : goal.check_while-returns-in-Err-check_block-clause-told
check_while-returns-in-Err-check_block-clause-told t c = λ u sh.
    loop_fault c.args.p.now (map (stmt_types (in_at c.args.class.now c.args.m.now u)) c.args.body.now) (condition (in_at c.args.class.now c.args.m.now u) (before_at c.args.env.now c.args.x.now) c.args.e.now (loop_typed (map (stmt_types (in_at c.args.class.now c.args.m.now u)) c.args.body.now) (before_at c.args.env.now c.args.x.now)))
    (before_at c.args.env.now c.args.x.now) (before_at c.check_condition.new.env c.check_condition.new.x) c.args.env.now.marks c.check_condition.new.env.marks c.check_block.new.env.marks
    (before_kept c.args.p.now c.args.class.now c.args.m.now.name.name c.args.env.now c.args.x.now c.check_condition.new.env c.check_condition.new.x
    c.requires.before c.in-Ok.ensures.stays.pool (vars_stay c.in-Ok.ensures.stays) c.in-Ok.ensures.kept)
    (c.in-Ok.ensures.told u (loop_typed (map (stmt_types (in_at c.args.class.now c.args.m.now u)) c.args.body.now) (before_at c.args.env.now c.args.x.now)))
    (λ (v : Unit {0}). (before_at c.check_block.new.env c.check_block.new.x)) (λ (v : Unit {0}). (before_at c.check_block.new.env c.check_block.new.x))
    c.check_block.new.env.marks c.in-Err-check_block.fault (c.in-Err-check_block.ensures.told u (shows_stay sh c.in-Ok.ensures.stays.pool))

pub check_while-returns-in-Ok-check_block-clause-told : goal.check_while-returns-in-Ok-check_block-clause-told
check_while-returns-in-Ok-check_block-clause-told t c = λ u sh.
    loop_went c.args.p.now (map (stmt_types (in_at c.args.class.now c.args.m.now u)) c.args.body.now) (condition (in_at c.args.class.now c.args.m.now u) (before_at c.args.env.now c.args.x.now) c.args.e.now (loop_typed (map (stmt_types (in_at c.args.class.now c.args.m.now u)) c.args.body.now) (before_at c.args.env.now c.args.x.now)))
    (before_at c.args.env.now c.args.x.now) (before_at c.check_condition.new.env c.check_condition.new.x) c.args.env.now.marks c.check_condition.new.env.marks c.check_block.new.env.marks
    (before_kept c.args.p.now c.args.class.now c.args.m.now.name.name c.args.env.now c.args.x.now c.check_condition.new.env c.check_condition.new.x
    c.requires.before c.in-Ok.ensures.stays.pool (vars_stay c.in-Ok.ensures.stays) c.in-Ok.ensures.kept)
    (c.in-Ok.ensures.told u (loop_typed (map (stmt_types (in_at c.args.class.now c.args.m.now u)) c.args.body.now) (before_at c.args.env.now c.args.x.now)))
    (before_at c.check_block.new.env c.check_block.new.x) (before_at c.check_block.new.env (record c.check_block.new.x { scope = c.in_ok-before-in-Ok.before }))
    (c.in-Ok-check_block.ensures.told u (shows_stay sh c.in-Ok.ensures.stays.pool))
    (put_is c.args.p.now c.args.class.now c.args.m.now.name.name c.args.env.now c.args.x.now c.check_block.new.env c.check_block.new.x c.requires.before
    (back_more c.args.p.now c.args.class.now c.args.m.now.name.name c.args.env.now c.args.x.now c.check_condition.new.env c.check_condition.new.x c.check_block.new.env c.check_block.new.x
    (back_kept c.args.p.now c.args.class.now c.args.m.now.name.name c.args.env.now c.args.x.now c.check_condition.new.env c.check_condition.new.x
    c.requires.before c.in-Ok.ensures.stays.pool (vars_stay c.in-Ok.ensures.stays) c.in-Ok.ensures.kept) c.in-Ok-check_block.ensures.back)
    (keeps_more c.in-Ok.ensures.stays.pool c.in-Ok-check_block.ensures.stays.pool) (record c.check_block.new.x { scope = c.in_ok-before-in-Ok.before }) refl
    (c.in_ok-before-in-Ok.ensures ∙ c.in-Ok.ensures.kept.scope) refl)

pub check_while-returns-in-Ok-check_block-clause-back : goal.check_while-returns-in-Ok-check_block-clause-back
check_while-returns-in-Ok-check_block-clause-back t c =
    put_back c.args.p.now c.args.class.now c.args.m.now.name.name c.args.env.now c.args.x.now c.check_block.new.env c.check_block.new.x c.requires.before
    (back_more c.args.p.now c.args.class.now c.args.m.now.name.name c.args.env.now c.args.x.now c.check_condition.new.env c.check_condition.new.x c.check_block.new.env c.check_block.new.x
    (back_kept c.args.p.now c.args.class.now c.args.m.now.name.name c.args.env.now c.args.x.now c.check_condition.new.env c.check_condition.new.x
    c.requires.before c.in-Ok.ensures.stays.pool (vars_stay c.in-Ok.ensures.stays) c.in-Ok.ensures.kept) c.in-Ok-check_block.ensures.back)
    (keeps_more c.in-Ok.ensures.stays.pool c.in-Ok-check_block.ensures.stays.pool) (record c.check_block.new.x { scope = c.in_ok-before-in-Ok.before }) refl
    (c.in_ok-before-in-Ok.ensures ∙ c.in-Ok.ensures.kept.scope) refl

-- ---- a statement of any form

pub check_stmt-returns-in-Block-clause-told : goal.check_stmt-returns-in-Block-clause-told
check_stmt-returns-in-Block-clause-told t c = λ u sh.
    told_as c.args.p.now _ _ (λ (v : Unit {0}). before_at c.check_block.new.env c.check_block.new.x) c.args.env.now.marks c.check_block.new.env.marks c.check_block.result
    (block_form (in_at c.args.class.now c.args.m.now u) (before_at c.args.env.now c.args.x.now) c.args.s.now c.in-Block.body c.as_slice.result.now c.in-Block.is c.as_slice.ensures) (c.check_block.ensures.told u sh)

pub check_stmt-returns-in-Block-clause-after : goal.check_stmt-returns-in-Block-clause-after
check_stmt-returns-in-Block-clause-after t c =
    after_back c.args.p.now c.args.class.now c.args.m.now.name.name c.args.env.now c.args.x.now c.check_block.new.env c.check_block.new.x c.check_block.result c.requires.before c.check_block.ensures.back

pub check_stmt-returns-in-Local-clause-told : goal.check_stmt-returns-in-Local-clause-told
check_stmt-returns-in-Local-clause-told t c = λ u sh.
    told_as c.args.p.now _ _ (λ (v : Unit {0}). before_at c.check_local.new.env c.check_local.new.x) c.args.env.now.marks c.check_local.new.env.marks c.check_local.result
    (local_form (in_at c.args.class.now c.args.m.now u) (before_at c.args.env.now c.args.x.now) c.args.s.now c.in-Local.fixed c.in-Local.ty c.in-Local.name c.in-Local.e c.in-Local.is) (c.check_local.ensures.told u)

pub check_stmt-returns-in-Assign-clause-told : goal.check_stmt-returns-in-Assign-clause-told
check_stmt-returns-in-Assign-clause-told t c = λ u sh.
    told_as c.args.p.now _ _ (λ (v : Unit {0}). before_at c.check_assign.new.env c.check_assign.new.x) c.args.env.now.marks c.check_assign.new.env.marks c.check_assign.result
    (assign_form (in_at c.args.class.now c.args.m.now u) (before_at c.args.env.now c.args.x.now) c.args.s.now c.in-Assign.name c.in-Assign.e c.in-Assign.is) (c.check_assign.ensures.told u)

pub check_stmt-returns-in-Set-clause-told : goal.check_stmt-returns-in-Set-clause-told
check_stmt-returns-in-Set-clause-told t c = λ u sh.
    told_as c.args.p.now _ _ (λ (v : Unit {0}). before_at c.check_set.new.env c.check_set.new.x) c.args.env.now.marks c.check_set.new.env.marks c.check_set.result
    (set_form (in_at c.args.class.now c.args.m.now u) (before_at c.args.env.now c.args.x.now) c.args.s.now c.in-Set.of c.in-Set.f c.in-Set.e c.in-Set.is) (c.check_set.ensures.told u)

pub check_stmt-returns-in-Do-clause-told : goal.check_stmt-returns-in-Do-clause-told
check_stmt-returns-in-Do-clause-told t c = λ u sh.
    told_as c.args.p.now _ _ (λ (v : Unit {0}). before_at c.check_call.new.env c.check_call.new.x) c.args.env.now.marks c.check_call.new.env.marks c.check_call.result
    (call_form (in_at c.args.class.now c.args.m.now u) (before_at c.args.env.now c.args.x.now) c.args.s.now c.in-Do.e c.in-Do.is) (c.check_call.ensures.told u)

pub check_stmt-returns-in-Err-clause-told : goal.check_stmt-returns-in-Err-clause-told
check_stmt-returns-in-Err-clause-told t c = λ u sh.
    told_as c.args.p.now _ _ (λ (v : Unit {0}). before_at c.check_first.new.env c.check_first.new.x) c.args.env.now.marks c.check_first.new.env.marks (Err c.in-Err.fault)
    (choice_form (in_at c.args.class.now c.args.m.now u) (before_at c.args.env.now c.args.x.now) c.args.s.now c.in-If.e c.in-If.one c.in-If.other c.as_slice-in-If.result.now c.in-If.other c.in-If.field-3 c.in-If.is c.as_slice-in-If.ensures refl)
    (told_of_fault c.args.p.now (condition (in_at c.args.class.now c.args.m.now u) (before_at c.args.env.now c.args.x.now) c.in-If.e
    (choice_typed (map (stmt_types (in_at c.args.class.now c.args.m.now u)) c.as_slice-in-If.result.now) (map (stmt_types (in_at c.args.class.now c.args.m.now u)) c.in-If.other) (before_at c.args.env.now c.args.x.now))) c.args.env.now.marks
    (λ (first : NumberScope). behind_one (map (stmt_types (in_at c.args.class.now c.args.m.now u)) c.in-If.other) (scope_in c.check_first.new.env.pool first) (before_at c.check_first.new.env c.check_first.new.x))
    (λ (v : Unit {0}). before_at c.check_first.new.env c.check_first.new.x) c.check_first.new.env.marks c.check_first.new.env.marks c.in-Err.fault
    (c.in-Err.ensures.told u (map (stmt_types (in_at c.args.class.now c.args.m.now u)) c.in-If.other) sh))

pub check_stmt-check_other-requires : goal.check_stmt-check_other-requires
check_stmt-check_other-requires t c =
    let M = other_below c.args.s.now c.in-If.e c.in-If.one c.in-If.other c.as_slice-in-Ok.result.now c.in-If.field-3 c.in-If.is c.as_slice-in-Ok.ensures in (
      omega (arith, M, c.decreases),
      (
        parts_but c.requires.parts c.in-Ok.ensures.stays,
        (
          c.in-Ok.ensures.back.before,
          (
            c.in-Ok.ensures.stays.pool.has c.args.gives c.requires.number,
            (c.in-Ok.ensures.known, c.in-Ok.ensures.same),
          ),
        ),
      ),
    )

pub check_stmt-returns-in-Ok-clause-told : goal.check_stmt-returns-in-Ok-clause-told
check_stmt-returns-in-Ok-clause-told t c = λ u sh.
    told_as c.args.p.now _ _ (λ (v : Unit {0}). before_at c.check_other.new.env c.check_other.new.x) c.args.env.now.marks c.check_other.new.env.marks c.check_other.result
    (choice_form (in_at c.args.class.now c.args.m.now u) (before_at c.args.env.now c.args.x.now) c.args.s.now c.in-If.e c.in-If.one c.in-If.other c.as_slice-in-If.result.now c.as_slice-in-Ok.result.now c.in-If.field-3 c.in-If.is c.as_slice-in-If.ensures c.as_slice-in-Ok.ensures)
    (leads_told (λ (v : Unit {0}). before_at c.check_other.new.env c.check_other.new.x) c.check_other.new.env.marks
    (c.in-Ok.ensures.told u (map (stmt_types (in_at c.args.class.now c.args.m.now u)) c.as_slice-in-Ok.result.now) sh) c.check_other.result
    (c.check_other.ensures.told u (shows_stay sh c.in-Ok.ensures.stays.pool)))

pub check_stmt-returns-in-Ok-clause-after : goal.check_stmt-returns-in-Ok-clause-after
check_stmt-returns-in-Ok-clause-after t c =
    after_back c.args.p.now c.args.class.now c.args.m.now.name.name c.args.env.now c.args.x.now c.check_other.new.env c.check_other.new.x c.check_other.result c.requires.before
    (back_behind c.args.p.now c.args.class.now c.args.m.now.name.name c.args.env.now c.args.x.now c.check_first.new.env c.check_first.new.x c.check_other.new.env c.check_other.new.x c.check_other.result
    c.in-Ok.ensures.back c.check_other.ensures.back)

pub check_stmt-returns-in-Ok-clause-stays : goal.check_stmt-returns-in-Ok-clause-stays
check_stmt-returns-in-Ok-clause-stays t c = but_more c.in-Ok.ensures.stays c.check_other.ensures.stays

pub check_stmt-returns-in-While-clause-told : goal.check_stmt-returns-in-While-clause-told
check_stmt-returns-in-While-clause-told t c = λ u sh.
    told_as c.args.p.now _ _ (λ (v : Unit {0}). before_at c.check_while.new.env c.check_while.new.x) c.args.env.now.marks c.check_while.new.env.marks c.check_while.result
    (loop_form (in_at c.args.class.now c.args.m.now u) (before_at c.args.env.now c.args.x.now) c.args.s.now c.in-While.e c.in-While.body c.as_slice-in-While.result.now c.in-While.field-2 c.in-While.is c.as_slice-in-While.ensures) (c.check_while.ensures.told u sh)

pub check_stmt-returns-in-While-clause-after : goal.check_stmt-returns-in-While-clause-after
check_stmt-returns-in-While-clause-after t c =
    after_back c.args.p.now c.args.class.now c.args.m.now.name.name c.args.env.now c.args.x.now c.check_while.new.env c.check_while.new.x c.check_while.result c.requires.before c.check_while.ensures.back

pub check_stmt-returns-in-Return-clause-told : goal.check_stmt-returns-in-Return-clause-told
check_stmt-returns-in-Return-clause-told t c = λ u sh.
    told_as c.args.p.now _ _ (λ (v : Unit {0}). before_at c.check_return.new.env c.check_return.new.x) c.args.env.now.marks c.check_return.new.env.marks c.check_return.result
    (return_form (in_at c.args.class.now c.args.m.now u) (before_at c.args.env.now c.args.x.now) c.args.s.now c.in-Return.e c.in-Return.at c.in-Return.is) (c.check_return.ensures.told u sh)

pub check_stmt-returns-in-Print-clause-told : goal.check_stmt-returns-in-Print-clause-told
check_stmt-returns-in-Print-clause-told t c = λ u sh.
    told_as c.args.p.now _ _ (λ (v : Unit {0}). before_at c.check_print.new.env c.check_print.new.x) c.args.env.now.marks c.check_print.new.env.marks c.check_print.result
    (print_form (in_at c.args.class.now c.args.m.now u) (before_at c.args.env.now c.args.x.now) c.args.s.now c.in-Print.e c.in-Print.field-1 c.in-Print.is) (c.check_print.ensures.told u)

pub check_stmt-returns-in-PrintText-clause-told : goal.check_stmt-returns-in-PrintText-clause-told
check_stmt-returns-in-PrintText-clause-told t c = λ u sh.
    text_went (in_at c.args.class.now c.args.m.now u) (before_at c.args.env.now c.args.x.now) c.args.s.now c.args.p.now c.args.env.now.marks c.in-PrintText.field-0 c.in-PrintText.field-1
    c.in-PrintText.is

pub check_stmt-returns-in-PrintText-clause-after : goal.check_stmt-returns-in-PrintText-clause-after
check_stmt-returns-in-PrintText-clause-after t c =
    after_start c.args.p.now c.args.class.now c.args.m.now.name.name c.args.env.now c.args.x.now c.requires.before

pub check_stmt-returns-in-PrintText-clause-stays : goal.check_stmt-returns-in-PrintText-clause-stays
check_stmt-returns-in-PrintText-clause-stays t c = but_same c.args.env.now
