use Rattle.jn_meaning.specs.Values.{path_at}
use Rattle.jn_meaning.proofs.Lists.{if_ok}
use Rattle.jn_meaning.proofs.ClassNumbers.{filled_number}
use Rattle.jn_meaning.proofs.TermsTold.{no_field_type, many_field_type, undeclared_type, field_type_told}
use Rattle.jn_meaning.proofs.terms.field_type.Goals as goal

pub returns-in-None-clause-told : goal.returns-in-None-clause-told
returns-in-None-clause-told c =
    let p = c.args.w.now.program.now in
    let t = c.args.t.now in
    let q = c.requires.stands in
    no_field_type p q.declarations.once t.known.items c.args.id c.args.f
    (c.in-None.ensures p t (path_at t.known.items c.args.id) q.members (filled_number t c.args.id c.requires.filled t.paired))

pub returns-in-Many-clause-told : goal.returns-in-Many-clause-told
returns-in-Many-clause-told c =
    let p = c.args.w.now.program.now in
    let t = c.args.t.now in
    let q = c.requires.stands in
    many_field_type p q.declarations.once t.known.items c.args.id c.args.f c.in-Many.field-0 c.in-Many.field-1
    (c.in-Many.ensures p t (path_at t.known.items c.args.id) q.members (filled_number t c.args.id c.requires.filled t.paired))

pub returns-in-None-field_at-clause-told : goal.returns-in-None-field_at-clause-told
returns-in-None-field_at-clause-told c =
    let p = c.args.w.now.program.now in
    let t = c.args.t.now in
    let q = c.requires.stands in
    undeclared_type p q.declarations.once t.known.items c.args.id c.args.f c.in-One.class
    (c.in-One.ensures p t (path_at t.known.items c.args.id) q.members (filled_number t c.args.id c.requires.filled t.paired)) c.in-None-field_at.ensures

pub returns-in-Some-clause-told : goal.returns-in-Some-clause-told
returns-in-Some-clause-told c =
    let p = c.args.w.now.program.now in
    let t = c.args.t.now in
    let q = c.requires.stands in
    if_ok c.declared_type.result
    (λ o. field_type_told p q.declarations.once t.known.items c.args.id c.args.f c.in-One.class
    (c.in-One.ensures p t (path_at t.known.items c.args.id) q.members (filled_number t c.args.id c.requires.filled t.paired))
    c.in-Some.field.now o c.in-Some.ensures)
    c.declared_type.ensures.told
