use Rattle.std.proofs.Common.{List, map, length, subst}
use Rattle.jn_index.specs.Index.{IsIndex}
use Rattle.jn_agree.specs.declared.selectors.MethodSel.{MethodSel}
use Rattle.jn_agree.specs.declared.selectors.FieldSel.{FieldSel}
use Rattle.jn_layout.specs.declared.declared.BodyAt.{BodyAt}
use Rattle.jn_layout.specs.declared.declared.FieldAt.{FieldAt}
use Rattle.jn_layout.specs.Keys.{body_key, field_key, slot_key}
use Rattle.jn_layout.specs.Finding.{ShapesTold}
use Rattle.jn_layout.proofs.finder.finder_of.Goals as goal

pub returns-clause-methods : goal.returns-clause-methods
returns-clause-methods c = record {
  by_class = subst (λ (xs : List BodyAt). IsIndex (map body_key xs) c.in_ok-bodies.bodies.items) c.deref-2.ensures.value c.in_ok-bodies.ensures;
  shapes = subst (λ (ns : List MethodSel). ShapesTold ns c.args.declared.now.bodies.items (length c.args.declared.now.bodies.items) c.in_ok-shapes.shapes.items) c.as_slice.ensures
      (subst (λ (xs : List BodyAt). ShapesTold c.as_slice.result.now xs (length xs) c.in_ok-shapes.shapes.items) c.deref.ensures.value c.in_ok-shapes.ensures);
}

pub returns-clause-fields : goal.returns-clause-fields
returns-clause-fields c = record {
  by_class = subst (λ (xs : List FieldAt). IsIndex (map field_key xs) c.in_ok-fields.fields.items) c.deref-3.ensures.value c.in_ok-fields.ensures;
  by_kind = subst (λ (ns : List FieldSel). IsIndex (map slot_key ns) c.in_ok-slots.slots.items) c.as_slice-2.ensures c.in_ok-slots.ensures;
}
