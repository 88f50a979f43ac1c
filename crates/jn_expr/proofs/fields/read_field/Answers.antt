use Rattle.std.proofs.Common.{◌∙◌, ap, refl, false}
use Rattle.jn_intern.proofs.Pools.{keeps_more, scope_kept}
use Rattle.jn_rules.specs.Exprs.{Passing}
use Rattle.jn_rules.specs.Questions.{masks_of}
use Rattle.jn_expr.specs.Found.{found_of}
use Rattle.jn_expr.specs.Values.{typed_in}
use Rattle.jn_expr.proofs.Scopes.{scope_stays}
use Rattle.jn_expr.proofs.FieldSteps.{masked_is, put_is, field_told}
use Rattle.jn_expr.proofs.Walking.{values_behind}
use Rattle.jn_intern.specs.Pools.{shown}
use Rattle.jn_expr.proofs.Typeds.{field_put}
use Rattle.jn_expr.proofs.fields.read_field.Goals as goal

pub put_in-requires-clause-scope : goal.put_in-requires-clause-scope
put_in-requires-clause-scope c = scope_stays c.in_ok-path.ensures.scope c.in_ok-ty.ensures.keeps

pub returns-in_err-put-clause-stays : goal.returns-in_err-put-clause-stays
returns-in_err-put-clause-stays c = record { same = refl; pool = keeps_more c.in_ok-ty.ensures.keeps c.put_in.ensures.keeps }

pub plain_of-requires-clause-scope : goal.plain_of-requires-clause-scope
plain_of-requires-clause-scope c = scope_stays c.in_ok-path.ensures.scope (keeps_more c.in_ok-ty.ensures.keeps c.in_ok-put.ensures.keeps)

pub returns-clause-told : goal.returns-clause-told
returns-clause-told c =
    let p = c.args.p.now in
    let h = c.requires.parts in
    let k = keeps_more c.in_ok-ty.ensures.keeps c.in_ok-put.ensures.keeps in
    field_told p (typed_in c.plain_of.new.env.pool c.path_of.new.scope) c.args.env.now.marks c.note_member.new.marks c.plain_of.new.env.marks c.plain_of.result c.args.f.now
    (typed_in c.args.env.now.pool c.args.scope.now c.args.x) (found_of c.args.found.now)
    (masked_is p c.deref.result.now c.masks_of-masks.result _ c.args.f.now.name c.is_masked.result false (c.deref.ensures.value ∙ h.masks)
    (c.masks_of-masks.ensures ∙ ap masks_of c.show.ensures) c.if-is_masked.false c.is_masked.ensures)
    c.in_ok-note_member.ensures _ _
    (put_is c.args.env.now.pool c.intern.new.self c.put_in.new.pool c.path_of.new.scope c.in_ok-path.path c.in_ok-ty.ty c.in_ok-put.put c.args.found.now.ty _ c.in_ok-path.ensures.scope
    c.in_ok-ty.ensures.keeps c.in_ok-path.ensures.is c.in_ok-ty.ensures.shows.1 c.in_ok-put.ensures.is)
    (scope_kept c.path_of.new.scope c.in_ok-path.ensures.scope.known k ∙ ap (λ (x : Passing). x.scope) c.in_ok-path.ensures.is)
    (c.plain_of.ensures.told p)

pub returns-clause-stays : goal.returns-clause-stays
returns-clause-stays c =
    record { same = c.plain_of.ensures.stays.same; pool = keeps_more c.in_ok-ty.ensures.keeps (keeps_more c.in_ok-put.ensures.keeps c.plain_of.ensures.stays.pool) }

pub returns-clause-value : goal.returns-clause-value
returns-clause-value c =
    values_behind c.plain_of.new.env.pool c.args.scope.now c.path_of.new.scope c.path_of.new.scope c.plain_of.result c.in_ok-path.ensures.grows c.plain_of.ensures.value

pub put_in-requires-clause-moved : goal.put_in-requires-clause-moved
put_in-requires-clause-moved c =
    field_put c.args.p.now c.args.env.now.pool c.intern.new.self c.args.scope.now c.path_of.new.scope (shown c.args.env.now.pool c.args.x.ty) c.args.x.path c.in_ok-path.path
    c.args.f.now.name (found_of c.args.found.now) _ c.requires.parts.shallow c.requires.parts.well c.in_ok-path.ensures c.requires.fits c.requires.found c.in_ok-ty.ensures.keeps
    c.in_ok-ty.ensures.shows.1
