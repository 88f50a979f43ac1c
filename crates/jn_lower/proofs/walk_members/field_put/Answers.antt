use Rattle.std.proofs.Common.{refl, subst, List, reverse}
use Rattle.jn_base.specs.declared.tree.Field.{Field}
use Rattle.jn_base.specs.Members.{FieldAt}
use Rattle.jn_agree.specs.declared.selectors.FieldSel.{FieldSel}
use Rattle.jn_lower.specs.Told.{IsGetter}
use Rattle.jn_lower.proofs.Seams.{on_ok}
use Rattle.jn_lower.proofs.walk_members.field_put.Goals as goal

pub returns : goal.returns
returns c =
    let g = c.args.g.now in
    let R = reverse c.args.path.now.names in
    let f = c.args.f in
    on_ok c.put.result (λ a. record {
      getter = c.in_ok-x.x;
      is = subst (λ (l : List FieldSel). (d : Field) → FieldAt g.p.now R f d → IsGetter g.t.now g.slots.now l R f d c.in_ok-x.x)
          c.as_slice.ensures c.in_ok-x.ensures;
      adds = a;
      marks = refl;
    }) c.put.ensures
