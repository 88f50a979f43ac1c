use Rattle.std.proofs.Common.{ap, List}
use Rattle.jn_base.specs.declared.names.Vars.{Vars}
use Rattle.jn_base.specs.declared.names.Var.{Var}
use Rattle.jn_header.proofs.Heads.{field_passes, field_refused}
use Rattle.jn_header.proofs.headers.judge_field.Goals as goal

pub returns-clause-told : goal.returns-clause-told
returns-clause-told c =
    let vars : Vars = record { list = c.new.result } in
    field_refused c.args.p.now c.args.class.now c.args.f.now c.args.masks.now c.in_ok-spot.spot vars c.requires.masks c.in_ok-spot.ensures
    (ap (λ (l : List Var). let v : Vars = record { list = l } in v) c.new.ensures) c.in-Err.fault _ c.of_names.ensures (c.in-Err.ensures.told c.requires.filled)

pub returns-in-Ok-clause-told : goal.returns-in-Ok-clause-told
returns-in-Ok-clause-told c =
    let vars : Vars = record { list = c.new.result } in
    field_passes c.args.p.now c.args.class.now c.args.f.now c.args.masks.now c.in_ok-spot.spot vars c.requires.masks c.in_ok-spot.ensures
    (ap (λ (l : List Var). let v : Vars = record { list = l } in v) c.new.ensures) c.in-Ok.field-0 (c.in-Ok.ensures.told c.requires.filled)
