use Rattle.jn_lower.proofs.Seams.{on_ok}
use Rattle.jn_lower.proofs.Setting.{set_done}
use Rattle.jn_lower.proofs.walk_stmts.store.Goals as goal

pub returns-in_ok-value-in-Some : goal.returns-in_ok-value-in-Some
returns-in_ok-value-in-Some c =
    on_ok c.field_put.result (λ h. set_done c.args.g.now c.args.r.now c.args.f c.args.e.now c.in-Some.path.now
    c.next_member.new.self c.args.w.now c.value.new.w c.value-in-Some.new.w c.field_put.new.w c.in_ok-value.ensures
    c.in-Some.ensures c.in_ok-value-in-Some.ensures h) c.field_put.ensures
