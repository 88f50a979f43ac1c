use Rattle.std.proofs.Common.{rules}
use Rattle.jn_intern.proofs.Pools.{keeps_more}
use Rattle.jn_heads.proofs.Writing.{scope_fits, given_fits, typed}
use Rattle.jn_heads.proofs.written.type_at.Goals as goal

pub normal-requires-clause-fits : goal.normal-requires-clause-fits
normal-requires-clause-fits c = scope_fits c.args.p.now _ _ c.args.at.now c.requires.stands c.in_ok-id-in-Ok.ensures.keeps

pub normal-requires-clause-type_fits : goal.normal-requires-clause-type_fits
normal-requires-clause-type_fits c =
    given_fits c.args.p.now _ _ c.args.at.now c.args.ty.now c.in-Ok.given _ c.requires.ready.shallow c.requires.stands c.in_ok-id-in-Ok.ensures.keeps
    (c.is_formed.ensures (search rules)) c.in-Ok.ensures.told c.in_ok-id-in-Ok.ensures.shows.1

pub returns-in_err-form-in-Ok-clause-keeps : goal.returns-in_err-form-in-Ok-clause-keeps
returns-in_err-form-in-Ok-clause-keeps c = keeps_more c.in_ok-id-in-Ok.ensures.keeps c.normal.ensures.keeps

pub returns-in_ok-form-in-Ok-clause-told : goal.returns-in_ok-form-in-Ok-clause-told
returns-in_ok-form-in-Ok-clause-told c =
    typed c.args.p.now _ _ c.args.at.now c.args.ty.now c.in-Ok.given _ _ c.requires.ready.shallow c.requires.stands c.in_ok-id-in-Ok.ensures.keeps
    (c.is_formed.ensures (search rules)) c.in-Ok.ensures.told c.in_ok-id-in-Ok.ensures.shows.1 c.in_ok-form-in-Ok.ensures.normal

pub returns-in_ok-form-in-Ok-clause-keeps : goal.returns-in_ok-form-in-Ok-clause-keeps
returns-in_ok-form-in-Ok-clause-keeps c = keeps_more c.in_ok-id-in-Ok.ensures.keeps c.in_ok-form-in-Ok.ensures.keeps
