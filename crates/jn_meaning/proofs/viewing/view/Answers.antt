use Rattle.std.proofs.Common.{subst}
use Rattle.jn_table.specs.declared.table.Table.{Table}
use Rattle.jn_meaning.specs.Asked.{ViewTold}
use Rattle.jn_meaning.specs.Viewing.{FamilyOf}
use Rattle.jn_meaning.proofs.Targets.{views_nothing, views}
use Rattle.jn_meaning.proofs.viewing.view.Goals as goal

pub returns-in-None-found-clause-did : goal.returns-in-None-found-clause-did
returns-in-None-found-clause-did c = λ h.
    let p = c.args.w.now.program.now in
    let known = c.args.t.now.known.items in
    views_nothing p known c.args.f.now c.args.term.now c.in-Some.v c.pop.new.self c.in-Some.ensures h
    (subst (FamilyOf p known (record c.args.f.now { vals = c.pop.new.self }) c.args.term.now) c.in-None-found.is c.in_ok-found-in-Some.ensures.told)

pub returns-in_ok-did-in-Some-found-clause-did : goal.returns-in_ok-did-in-Some-found-clause-did
returns-in_ok-did-in-Some-found-clause-did c = λ h.
    let p = c.args.w.now.program.now in
    let known = c.args.t.now.known.items in
    views p known c.args.f.now c.args.term.now c.in-Some.v c.pop.new.self c.in-Some.ensures h c.in-Some-found.family c.in_ok-made-in-Some-found.made c.in_ok-did-in-Some-found.did c.go_on.new.f
    (subst (FamilyOf p known (record c.args.f.now { vals = c.pop.new.self }) c.args.term.now) c.in-Some-found.is c.in_ok-found-in-Some.ensures.told)
    (subst (λ (u : Table). ViewTold p u.known.items c.in-Some-found.family c.in-Some.v c.in_ok-made-in-Some-found.made) c.in_ok-found-in-Some.ensures.kept c.in_ok-made-in-Some-found.ensures)
    c.in_ok-did-in-Some-found.ensures
