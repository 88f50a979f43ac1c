use Rattle.std.proofs.Common.{ap, subst, reverse, List, map, ◌∷◌, ◌∙◌}
use Rattle.jn_base.specs.declared.names.Var.{Var}
use Rattle.jn_base.specs.Scopes.{this_bind}
use Rattle.jn_base.specs.Resolve.{var_bind}
use Rattle.jn_sem.specs.Normal.{NormalType}
use Rattle.jn_table.specs.declared.table.Table.{Table}
use Rattle.jn_meaning.specs.Values.{path_at}
use Rattle.jn_meaning.proofs.TermsTold.{type_told, type_refused, refused_now}
use Rattle.jn_meaning.proofs.terms.type_at.Goals as goal

pub returns-clause-told : goal.returns-clause-told
returns-clause-told c =
    let p = c.args.w.now.program.now in
    let Q = path_at c.args.t.now.known.items c.args.class in
    let names = c.names_at.result.now in
    type_told p Q c.args.owner c.args.vars.now c.args.w.now.masks.now c.requires.masks c.in_ok-spot.spot c.args.ty.now c.in-Ok.given c.in_ok-form-in-Ok.form names
    c.in_ok-spot.ensures (c.names_at.ensures ∙ ap (λ (t : Table). path_at t.known.items c.args.class) c.resolve_type.ensures.kept) (c.in-Ok.ensures.told c.requires.filled)
    (subst (λ (vs : List Var). NormalType (reverse (this_bind (reverse names) ∷ map var_bind vs)) c.in-Ok.given c.in_ok-form-in-Ok.form) c.as_slice.ensures c.in_ok-form-in-Ok.ensures)

pub returns-in-Err-Refused-clause-told : goal.returns-in-Err-Refused-clause-told
returns-in-Err-Refused-clause-told c =
    let p = c.args.w.now.program.now in
    let Q = path_at c.args.t.now.known.items c.args.class in
    type_refused p Q c.args.owner c.args.vars.now c.args.w.now.masks.now c.requires.masks c.in_ok-spot.spot c.args.ty.now c.in-Err-Refused.field-0-0
    c.in_ok-spot.ensures (λ o r. refused_now c.in-Err-Refused.field-0 c.in-Err-Refused.field-0-0 c.in-Err-Refused.field-0-is o (c.in-Err-Refused.ensures.only c.requires.filled o r))
