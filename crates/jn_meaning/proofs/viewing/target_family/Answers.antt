use Rattle.std.proofs.Common.{Option, List, subst, ap, ◌∙◌}
use Rattle.std.specs.Prelude.{slice_get}
use Rattle.jn_base.specs.declared.tree.Name.{Name}
use Rattle.jn_base.specs.declared.types.Ty.{Ty}
use Rattle.jn_table.specs.declared.table.Table.{Table}
use Rattle.jn_meaning.specs.Values.{path_at}
use Rattle.jn_meaning.specs.Sites.{site_with}
use Rattle.jn_meaning.specs.Viewing.{TargetTold, NamedBy}
use Rattle.jn_meaning.proofs.Targets.{no_target, unseen_family, named_family}
use Rattle.jn_meaning.proofs.viewing.target_family.Goals as goal

pub returns-in-None-found-clause-told : goal.returns-in-None-found-clause-told
returns-in-None-found-clause-told c =
    let p = c.args.w.now.program.now in
    let known = c.args.t.now.known.items in
    let f = c.args.f.now in
    no_target p known f c.args.view.now c.in-Some.class f.locals.paired c.in-Some.is
    (subst (λ (o : Option Ty). TargetTold p (site_with (path_at known c.in-Some.class) f.method.now.name.name f.locals.vars) c.args.view.now o) c.in-None-found.is c.in_ok-found-in-Some.ensures.told)

pub returns-in-None-2-clause-told : goal.returns-in-None-2-clause-told
returns-in-None-2-clause-told c =
    let p = c.args.w.now.program.now in
    let known = c.args.t.now.known.items in
    let f = c.args.f.now in
    let x = c.in-Some-only_atom.x.now in
    unseen_family p known f c.args.view.now c.in-Some.class f.locals.paired c.in-Some.is c.in-Some-found.given
    (subst (λ (o : Option Ty). TargetTold p (site_with (path_at known c.in-Some.class) f.method.now.name.name f.locals.vars) c.args.view.now o) c.in-Some-found.is c.in_ok-found-in-Some.ensures.told)
    x c.in-Some-only_atom.ensures.0 c.in-Some-only_atom.ensures.1
    (subst (λ (o : Option (List Name)). NamedBy known f x o) c.in-None-2.is
    (subst (λ (u : Table). NamedBy u.known.items f x c.in_ok-named_by-in-Some-only_atom.field-0) c.in_ok-found-in-Some.ensures.kept c.in_ok-named_by-in-Some-only_atom.ensures))

pub returns-clause-told : goal.returns-clause-told
returns-clause-told c =
    let p = c.args.w.now.program.now in
    let known = c.args.t.now.known.items in
    let f = c.args.f.now in
    let x = c.in-Some-only_atom.x.now in
    named_family p known f c.args.view.now c.in-Some.class f.locals.paired c.in-Some.is c.in-Some-found.given
    (subst (λ (o : Option Ty). TargetTold p (site_with (path_at known c.in-Some.class) f.method.now.name.name f.locals.vars) c.args.view.now o) c.in-Some-found.is c.in_ok-found-in-Some.ensures.told)
    x c.in-Some-only_atom.ensures.0 c.in-Some-only_atom.ensures.1 c.in-Some-2.names
    (subst (λ (o : Option (List Name)). NamedBy known f x o) c.in-Some-2.is
    (subst (λ (u : Table). NamedBy u.known.items f x c.in_ok-named_by-in-Some-only_atom.field-0) c.in_ok-found-in-Some.ensures.kept c.in_ok-named_by-in-Some-only_atom.ensures))
    c.first_of.result (c.first_of.ensures ∙ ap (λ (ns : List Name). slice_get ns 0) c.as_slice.ensures)
