use Rattle.std.proofs.Common.{sym}
use Rattle.std.proofs.lemmas.Result.{on_ok_weaker}
use Rattle.jn_link.proofs.Walking.{next_lowered}
use Rattle.jn_link.proofs.codes.lower_next.Goals as goal

pub returns-in_ok-code-in-Some : goal.returns-in_ok-code-in-Some
returns-in_ok-code-in-Some c =
    let made = c.in_ok-code-in-Some.ensures in
    on_ok_weaker c.push.result
    (λ h. next_lowered c.args.g.now c.args.m.now c.in-Some.r.now c.in_ok-code-in-Some.code c.len.result c.args.out.now
    c.push.new.self (sym c.in-Some.ensures) c.len.ensures
    (record { at = made.at; room = made.room; in_form = made.in_form; locals = made.locals }) h)
    c.push.ensures.ok
