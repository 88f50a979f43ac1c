use Rattle.std.proofs.Common.{refl, rules}
use Rattle.jn_intern.specs.Pools.{shown}
use Rattle.jn_check.specs.States.{before_at}
use Rattle.jn_expr.proofs.Scopes.{parts_stay, vars_stay}
use Rattle.jn_check.proofs.Standing.{stays_but, but_more, before_again}
use Rattle.jn_check.proofs.LocalLaws.{with_type, local_told, local_fault, local_after, there_kept}
use Rattle.jn_check.proofs.locals.check_local.Goals as goal

pub local_type-requires-clause-fits : goal.local_type-requires-clause-fits
local_type-requires-clause-fits c = c.requires.before.fits

pub local_type-requires-clause-known : goal.local_type-requires-clause-known
local_type-requires-clause-known c = c.requires.before.known_declared

pub local_type-requires-clause-scope : goal.local_type-requires-clause-scope
local_type-requires-clause-scope c = c.requires.before.declared

pub local_with-requires-clause-parts : goal.local_with-requires-clause-parts
local_with-requires-clause-parts c = parts_stay c.requires.parts c.local_type.ensures.stays

pub local_with-requires-clause-before : goal.local_with-requires-clause-before
local_with-requires-clause-before c =
    before_again c.args.p.now c.args.class.now c.args.m.now.name.name c.args.env.now.pool c.args.env.now.vars.list c.args.x.now c.requires.before c.local_type.new.env.pool
    c.local_type.new.env.vars.list c.args.x.now c.local_type.ensures.stays.pool (vars_stay c.local_type.ensures.stays) refl refl (search rules)

pub local_with-requires-clause-there : goal.local_with-requires-clause-there
local_with-requires-clause-there c =
    there_kept c.args.class.now c.args.m.now.name.name c.args.env.now.vars.list c.local_type.new.env.vars.list (shown c.local_type.new.env.pool c.in-Ok.id) (shown c.local_type.new.env.pool c.in-Ok.id)
    (vars_stay c.local_type.ensures.stays) refl c.in-Ok.ensures.there

pub returns-in-Err-clause-told : goal.returns-in-Err-clause-told
returns-in-Err-clause-told c = λ t.
    local_fault c.args.p.now c.args.class.now c.args.m.now t c.args.fixed c.args.ty.now c.args.name.now c.args.e.now c.args.env.now c.args.x.now
    {C = Unit {0}} (λ id. with_type c.args.p.now c.args.class.now c.args.m.now t c.args.fixed c.args.ty.now c.args.name.now c.args.e.now c.args.env.now c.args.x.now (shown c.local_type.new.env.pool id))
    (λ u. before_at c.args.env.now c.args.x.now) c.local_type.new.env.marks c.local_type.new.env.marks c.in-Err.fault
    (c.in-Err.ensures.told (with_type c.args.p.now c.args.class.now c.args.m.now t c.args.fixed c.args.ty.now c.args.name.now c.args.e.now c.args.env.now c.args.x.now))

pub returns-in-Err-clause-stays : goal.returns-in-Err-clause-stays
returns-in-Err-clause-stays c = stays_but c.local_type.ensures.stays

pub returns-in-Ok-clause-told : goal.returns-in-Ok-clause-told
returns-in-Ok-clause-told c = λ t.
    local_told c.args.p.now c.args.class.now c.args.m.now t c.args.fixed c.args.ty.now c.args.name.now c.args.e.now c.args.env.now c.args.x.now c.requires.before c.local_type.new.env
    c.local_type.ensures.stays.pool (vars_stay c.local_type.ensures.stays) c.in-Ok.id c.local_with.new.env.marks _ c.local_with.result
    (c.in-Ok.ensures.told (with_type c.args.p.now c.args.class.now c.args.m.now t c.args.fixed c.args.ty.now c.args.name.now c.args.e.now c.args.env.now c.args.x.now))
    (c.local_with.ensures.told t)

pub returns-in-Ok-clause-after : goal.returns-in-Ok-clause-after
returns-in-Ok-clause-after c =
    local_after c.args.p.now c.args.class.now c.args.m.now.name.name c.args.env.now c.args.x.now c.local_type.new.env c.local_with.new.env c.local_with.new.x (vars_stay c.local_type.ensures.stays)
    c.local_with.result c.local_with.ensures.after

pub returns-in-Ok-clause-stays : goal.returns-in-Ok-clause-stays
returns-in-Ok-clause-stays c = but_more (stays_but c.local_type.ensures.stays) c.local_with.ensures.stays
