use Rattle.std.proofs.Common.{◌∙◌, ap, subst, rules}
use Rattle.jn_base.specs.Scopes.{Scope}
use Rattle.jn_base.specs.declared.names.Resolved.{Resolved}
use Rattle.jn_intern.specs.Pools.{shown}
use Rattle.jn_intern.proofs.Pools.{keeps_more, scope_kept, scope_in_kept}
use Rattle.jn_laws.specs.LawsOfWritten.{site_with}
use Rattle.jn_sem.specs.NormalFunction.{normal_type}
use Rattle.jn_rules.specs.Stmts.{atom_marks}
use Rattle.jn_expr.specs.Told.{Adds}
use Rattle.jn_check.proofs.Standing.{site_scope_fits}
use Rattle.jn_check.proofs.TypeLaws.{type_fault, type_leads, given_fits, type_there}
use Rattle.jn_check.proofs.types.local_type.Goals as goal

pub normal_number-requires-clause-known : goal.normal_number-requires-clause-known
normal_number-requires-clause-known c = scope_in_kept c.args.declared.now c.requires.known c.written_type.ensures.stays.pool

pub normal_number-requires-clause-fits : goal.normal_number-requires-clause-fits
normal_number-requires-clause-fits c =
    site_scope_fits c.args.p.now c.args.class.now c.args.m.now.name.name c.args.env.now.vars.list _
    (scope_kept c.args.declared.now c.requires.known c.written_type.ensures.stays.pool ∙ c.requires.scope) c.requires.fits

pub normal_number-requires-clause-type_fits : goal.normal_number-requires-clause-type_fits
normal_number-requires-clause-type_fits c =
    given_fits c.args.p.now (site_with c.args.class.now c.args.m.now.name.name c.args.env.now.vars.list) c.args.ty.now c.in-Ok.given c.in-Ok.ensures.told c.requires.parts.shallow c.requires.fits
    (c.is_formed.ensures (search rules)) _ (scope_kept c.args.declared.now c.requires.known c.written_type.ensures.stays.pool ∙ c.requires.scope)

pub returns-in-Err-clause-told : goal.returns-in-Err-clause-told
returns-in-Err-clause-told c = λ go.
    type_fault c.args.p.now (site_with c.args.class.now c.args.m.now.name.name c.args.env.now.vars.list) c.args.ty.now go (λ id. go (shown c.written_type.new.env.pool id)) c.args.env.now.marks
    c.written_type.new.env.marks c.in-Err.fault c.in-Err.ensures.told

pub returns-in_ok-id-in-Ok-clause-told : goal.returns-in_ok-id-in-Ok-clause-told
returns-in_ok-id-in-Ok-clause-told c = λ go.
    type_leads c.args.p.now (site_with c.args.class.now c.args.m.now.name.name c.args.env.now.vars.list) c.args.ty.now c.in-Ok.given c.in-Ok.ensures.told go c.args.env.now.marks c.note_type.new.marks
    (shown c.normal_number.new.pool c.in_ok-id-in-Ok.id)
    (subst (λ (a : Resolved). Adds (atom_marks c.in-Ok.given) a c.note_type.new.marks) c.written_type.ensures.marks c.in_ok-note_type-in-Ok.ensures)
    (c.in_ok-id-in-Ok.ensures.is.shows
    ∙ ap (λ (s : Scope). normal_type s c.in-Ok.given) (scope_kept c.args.declared.now c.requires.known c.written_type.ensures.stays.pool ∙ c.requires.scope))

pub returns-in_ok-id-in-Ok-clause-number : goal.returns-in_ok-id-in-Ok-clause-number
returns-in_ok-id-in-Ok-clause-number c = c.in_ok-id-in-Ok.ensures.is.number

pub returns-in_ok-id-in-Ok-clause-there : goal.returns-in_ok-id-in-Ok-clause-there
returns-in_ok-id-in-Ok-clause-there c =
    type_there c.args.p.now (site_with c.args.class.now c.args.m.now.name.name c.args.env.now.vars.list) c.args.ty.now c.in-Ok.given c.in-Ok.ensures.told c.requires.parts.shallow c.requires.fits
    (c.is_formed.ensures (search rules)) _
    (c.in_ok-id-in-Ok.ensures.is.shows
    ∙ ap (λ (s : Scope). normal_type s c.in-Ok.given) (scope_kept c.args.declared.now c.requires.known c.written_type.ensures.stays.pool ∙ c.requires.scope))

pub returns-in_ok-id-in-Ok-clause-stays : goal.returns-in_ok-id-in-Ok-clause-stays
returns-in_ok-id-in-Ok-clause-stays c =
    record { same = c.written_type.ensures.stays.same; pool = keeps_more c.written_type.ensures.stays.pool c.in_ok-id-in-Ok.ensures.keeps }

pub returns-in_err-id-in-Ok-clause-stays : goal.returns-in_err-id-in-Ok-clause-stays
returns-in_err-id-in-Ok-clause-stays c =
    record { same = c.written_type.ensures.stays.same; pool = keeps_more c.written_type.ensures.stays.pool c.normal_number.ensures.keeps }
