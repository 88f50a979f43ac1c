use Rattle.jn_lower.proofs.walk_stmts.tested.Goals as goal

pub returns : goal.returns
returns c =
    record { mid = c.value.new.w; first = c.in_ok-value.ensures; jumps = c.in_ok-push.ensures; place = c.len-test.ensures }
