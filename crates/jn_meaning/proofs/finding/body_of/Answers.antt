use Rattle.std.proofs.Common.{refl, Some}
use Rattle.jn_meaning.specs.Values.{path_at}
use Rattle.jn_meaning.proofs.ClassNumbers.{filled_number}
use Rattle.jn_meaning.proofs.Bodies.{no_least, many_least, least_body, least_no_body}
use Rattle.jn_meaning.proofs.finding.body_of.Goals as goal

pub returns-in-None : goal.returns-in-None
returns-in-None c =
    let p = c.args.w.now.program.now in
    let t = c.args.t.now in
    no_least p t.known.items c.args.id c.args.m
    (c.in-None.ensures p t (path_at t.known.items c.args.id) c.requires.stands.members (filled_number t c.args.id c.requires.filled t.paired))

pub returns-in-Many : goal.returns-in-Many
returns-in-Many c =
    let p = c.args.w.now.program.now in
    let t = c.args.t.now in
    many_least p t.known.items c.args.id c.args.m c.in-Many.field-0 c.in-Many.field-1
    (c.in-Many.ensures p t (path_at t.known.items c.args.id) c.requires.stands.members (filled_number t c.args.id c.requires.filled t.paired))

pub returns-in-None-method_at : goal.returns-in-None-method_at
returns-in-None-method_at c =
    let p = c.args.w.now.program.now in
    let t = c.args.t.now in
    least_no_body p t.known.items c.args.id c.args.m c.in-One.class
    (c.in-One.ensures p t (path_at t.known.items c.args.id) c.requires.stands.members (filled_number t c.args.id c.requires.filled t.paired)) c.in-None-method_at.ensures

pub returns-in-Some : goal.returns-in-Some
returns-in-Some c =
    let p = c.args.w.now.program.now in
    let t = c.args.t.now in
    least_body p t.known.items c.args.id c.args.m c.in-One.class (record { class = c.in-One.class; method = c.in-Some.method }) (Some c.in-Some.method.now)
    (c.in-One.ensures p t (path_at t.known.items c.args.id) c.requires.stands.members (filled_number t c.args.id c.requires.filled t.paired)) refl refl c.in-Some.ensures
