use Rattle.std.proofs.Common.{Option, List, subst}
use Rattle.jn_base.specs.declared.tree.Name.{Name}
use Rattle.jn_base.specs.declared.types.Atom.{Atom as ShownAtom}
use Rattle.jn_base.specs.declared.names.Role.TheVariants as role
use Rattle.jn_table.specs.declared.table.Table.{Table}
use Rattle.jn_meaning.specs.Values.{path_at}
use Rattle.jn_meaning.specs.Sites.{site_with, TermTold}
use Rattle.jn_meaning.specs.Viewing.{NamedBy}
use Rattle.jn_meaning.proofs.NewObjects.{no_term, term_named}
use Rattle.jn_meaning.proofs.creating.new_names.Goals as goal

pub returns-in-None-found-clause-told : goal.returns-in-None-found-clause-told
returns-in-None-found-clause-told c =
    let p = c.args.w.now.program.now in
    let known = c.args.t.now.known.items in
    let f = c.args.f.now in
    no_term p known f c.args.term.now c.in-Some.class f.locals.paired c.in-Some.is
    (subst (λ (o : Option ShownAtom). TermTold p role.New (site_with (path_at known c.in-Some.class) f.method.now.name.name f.locals.vars) c.args.term.now o) c.in-None-found.is c.in_ok-found-in-Some.ensures.told)

pub returns-in_ok-names-in-Some-found-clause-told : goal.returns-in_ok-names-in-Some-found-clause-told
returns-in_ok-names-in-Some-found-clause-told c =
    let p = c.args.w.now.program.now in
    let known = c.args.t.now.known.items in
    let f = c.args.f.now in
    term_named p known f c.args.term.now c.in-Some.class f.locals.paired c.in-Some.is c.in-Some-found.x
    (subst (λ (o : Option ShownAtom). TermTold p role.New (site_with (path_at known c.in-Some.class) f.method.now.name.name f.locals.vars) c.args.term.now o) c.in-Some-found.is c.in_ok-found-in-Some.ensures.told)
    c.in_ok-names-in-Some-found.names
    (subst (λ (u : Table). NamedBy u.known.items f c.in-Some-found.x c.in_ok-names-in-Some-found.names) c.in_ok-found-in-Some.ensures.kept c.in_ok-names-in-Some-found.ensures)
