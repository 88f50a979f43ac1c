use Rattle.std.proofs.Common.{refl, ◌∙◌, ap, map}
use Rattle.jn_layout.specs.Shapes.{IsBodyAt, IsFieldAt, param_kind}
use Rattle.jn_layout.proofs.Adding.{adds_none, adds_one}
use Rattle.jn_layout.proofs.declared.add_body.Goals as goal

pub returns : goal.returns
returns c = record {
  bodies_are = adds_one (IsBodyAt c.args.t.now) (record { class = c.args.class.now; method = c.args.m.now }) _ c.args.out.now.bodies.items c.push.new.self.items
      c.in_ok-push.ensures.items (record {
        class = c.requires;
        name = refl;
        params = c.in_ok-params.ensures ∙ ap (map param_kind) c.as_slice.ensures;
        result = c.result_of.ensures;
      });
  fields_are = adds_none (IsFieldAt c.args.t.now) c.args.out.now.fields.items;
}
