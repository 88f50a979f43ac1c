use Rattle.std.proofs.Common.{refl}
use Rattle.jn_layout.specs.Shapes.{IsBodyAt, IsFieldAt}
use Rattle.jn_layout.proofs.Adding.{adds_none, adds_one}
use Rattle.jn_layout.proofs.declared.add_field.Goals as goal

pub returns : goal.returns
returns c = record {
  bodies_are = adds_none (IsBodyAt c.args.t.now) c.args.out.now.bodies.items;
  fields_are = adds_one (IsFieldAt c.args.t.now) (record { class = c.args.class.now; field = c.args.f.now }) _ c.args.out.now.fields.items c.push.new.self.items
      c.in_ok-push.ensures.items (record { class = c.requires; name = refl; kind = c.kind_of.ensures });
}
