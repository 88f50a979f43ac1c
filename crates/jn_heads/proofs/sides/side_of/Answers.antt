use Rattle.std.proofs.Common.{ap, List}
use Rattle.jn_base.specs.declared.names.Vars.{Vars}
use Rattle.jn_base.specs.declared.names.Var.{Var}
use Rattle.jn_heads.proofs.Pledging.{side_is, side_refused}
use Rattle.jn_heads.proofs.sides.side_of.Goals as goal

pub returns-in-Ok-clause-told : goal.returns-in-Ok-clause-told
returns-in-Ok-clause-told c =
    let vars : Vars = record { list = c.new.result } in
    side_is c.args.p.now c.args.class.now c.args.method c.args.role c.args.view.now c.args.masks.now c.in_ok-spot.spot vars c.requires.masks c.in_ok-spot.ensures
    (ap (λ (l : List Var). let v : Vars = record { list = l } in v) c.new.ensures) c.in-Ok.side (c.in-Ok.ensures.told c.requires.filled)

pub returns-clause-told : goal.returns-clause-told
returns-clause-told c =
    let vars : Vars = record { list = c.new.result } in
    side_refused c.args.p.now c.args.class.now c.args.method c.args.role c.args.view.now c.args.masks.now c.in_ok-spot.spot vars c.requires.masks c.in_ok-spot.ensures
    (ap (λ (l : List Var). let v : Vars = record { list = l } in v) c.new.ensures) c.in-Err.fault _ c.of_names.ensures (c.in-Err.ensures.told c.requires.filled)
