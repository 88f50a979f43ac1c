use Rattle.std.proofs.Common.{◌≡◌, List, ap}
use Rattle.jn_base.specs.declared.names.Vars.{Vars}
use Rattle.jn_base.specs.declared.names.Var.{Var}
use Rattle.jn_names.specs.FieldTypes.{no_vars}
use Rattle.jn_names.proofs.FieldProof.{field_added, field_refused}
use Rattle.jn_names.proofs.fields.add_field.Goals as goal

pub returns-in-Err : goal.returns-in-Err
returns-in-Err c = λ p f e.
    let vars : Vars = record { list = c.new-list.result } in
    let none : vars ≡ no_vars = ap (λ (l : List Var). record { list = l }) c.new-list.ensures in
    field_refused p c.args.t.now c.args.names.now (record { class = c.args.class.now; field = c.args.f.now })
    c.in_ok-spot.spot vars c.in-Err.fault c.args.out.now.items c.args.out.now.items
    e c.in_ok-spot.ensures none f c.in-Err.ensures

pub returns : goal.returns
returns c = λ p f e.
    let vars : Vars = record { list = c.new-list.result } in
    let none : vars ≡ no_vars = ap (λ (l : List Var). record { list = l }) c.new-list.ensures in
    field_added p c.args.t.now c.args.names.now (record { class = c.args.class.now; field = c.args.f.now })
    c.in_ok-spot.spot vars c.in-Ok.ty c.in-Some.class c.args.out.now.items c.push.new.self.items
    e c.in_ok-spot.ensures none c.in-Some.ensures.some (c.in-Ok.ensures p f) c.in_ok-push-in-Ok.ensures.items
