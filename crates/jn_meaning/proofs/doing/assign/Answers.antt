use Rattle.std.proofs.Common.{rules, ◌<◌, length}
use Rattle.jn_meaning.proofs.Acting.{assigns_none, assigns_foreign, assigns}
use Rattle.jn_meaning.proofs.doing.assign.Goals as goal

pub returns-then-not-branch : goal.returns-then-not-branch
returns-then-not-branch c =
    let within : c.in-Some-newest.i < length c.args.f.now.locals.values.items = search rules in
    assigns_foreign c.args.w.now.program.now c.args.t.now.known.items c.args.h.now c.args.f.now c.in-Some.v c.pop.new.self c.args.x c.in-Some.ensures c.in-Some-newest.i c.in-Some-newest.ensures within
    c.in_ok-fits_at-in-Some-newest.field-0 c.in_ok-fits_at-in-Some-newest.ensures c.if-not-branch.true

pub returns-in-None-newest : goal.returns-in-None-newest
returns-in-None-newest c =
    assigns_none c.args.w.now.program.now c.args.t.now.known.items c.args.h.now c.args.f.now c.in-Some.v c.pop.new.self c.args.x c.in-Some.ensures c.in-None-newest.ensures

pub returns-else-not-branch : goal.returns-else-not-branch
returns-else-not-branch c =
    let within : c.in-Some-newest.i < length c.args.f.now.locals.values.items = search rules in
    assigns c.args.w.now.program.now c.args.t.now.known.items c.args.h.now c.args.f.now c.in-Some.v c.pop.new.self c.args.x c.in-Some.ensures c.in-Some-newest.i c.in-Some-newest.ensures within
    c.in_ok-fits_at-in-Some-newest.field-0 c.in_ok-fits_at-in-Some-newest.ensures c.set.new.self c.if-not-branch.false c.set.ensures.vars c.set.ensures.values
