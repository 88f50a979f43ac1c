use Rattle.std.proofs.Common.{refl, subst, List, reverse}
use Rattle.jn_base.specs.declared.tree.Field.{Field}
use Rattle.jn_base.specs.Members.{FieldAt}
use Rattle.jn_agree.specs.declared.selectors.FieldSel.{FieldSel}
use Rattle.jn_lower.specs.Told.{IsGetter}
use Rattle.jn_lower.proofs.Seams.{on_ok}
use Rattle.jn_lower.proofs.walk_members.field_read.Goals as goal

pub returns : goal.returns
returns c =
    let g = c.args.g.now in
    let R = reverse c.args.path.now.names in
    let f = c.args.f in
    on_ok c.had.result (λ h. record {
      getter = c.in_ok-x.x;
      mid = record c.args.w.now { out = c.get.new.out };
      is = subst (λ (l : List FieldSel). (d : Field) → FieldAt g.p.now R f d → IsGetter g.t.now g.slots.now l R f d c.in_ok-x.x)
          c.as_slice.ensures c.in_ok-x.ensures;
      adds = c.in_ok-get.ensures;
      marks = refl;
      had = h;
    }) c.had.ensures
