use Rattle.jn_meaning.proofs.NewObjects.{unnamed, constructor_told}
use Rattle.jn_meaning.proofs.creating.constructor_of.Goals as goal

pub returns-in-None : goal.returns-in-None
returns-in-None c =
    let p = c.args.w.now.program.now in
    let known = c.args.t.now.known.items in
    unnamed p known c.args.id c.in-None.ensures

pub returns-in-Some : goal.returns-in-Some
returns-in-Some c =
    let p = c.args.w.now.program.now in
    let known = c.args.t.now.known.items in
    constructor_told p known c.args.id c.in-Some.name c.in-Some.ensures.0 c.in-Some.ensures.1 c.body_of.result c.body_of.ensures
