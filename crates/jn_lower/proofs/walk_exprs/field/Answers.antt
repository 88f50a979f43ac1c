use Rattle.jn_lower.proofs.Seams.{on_ok}
use Rattle.jn_lower.proofs.Behind.{field_done}
use Rattle.jn_lower.proofs.walk_exprs.field.Goals as goal

pub returns-in-Some : goal.returns-in-Some
returns-in-Some c =
    on_ok c.field_read.result (λ h. field_done c.args.g.now c.args.f c.in-Some.path.now c.next_member.new.self c.args.w.now
    c.field_read.new.w c.in-Some.ensures h) c.field_read.ensures
