use Rattle.std.proofs.Common.{refl, sym, ap, ◌∙◌, subst, ℕ, List, length, reverse}
use Rattle.jn_base.specs.declared.tree.Method.{Method}
use Rattle.jn_base.specs.Members.{MethodAt}
use Rattle.jn_agree.specs.declared.selectors.MethodSel.{MethodSel}
use Rattle.jn_lower.specs.Told.{IsCallee}
use Rattle.jn_lower.proofs.Seams.{on_ok}
use Rattle.jn_lower.proofs.walk_members.called.Goals as goal

pub returns : goal.returns
returns c =
    let g = c.args.g.now in
    let R = reverse c.args.path.now.names in
    let f = c.args.f in
    on_ok c.settle.result (λ h. record {
      callee = c.in_ok-callee.callee;
      mid = record c.args.w.now { out = c.call.new.out };
      is = subst (λ (l : List MethodSel). (m : Method) → MethodAt g.p.now R f m → IsCallee l f m c.in_ok-callee.callee)
          c.as_slice.ensures c.in_ok-callee.ensures;
      many = ap (λ (l : List ℕ). length l) (sym c.as_slice-2.ensures.value) ∙ c.if-as_slice-count.false;
      adds = c.in_ok-call.ensures;
      marks = refl;
      settled = h;
    }) c.settle.ensures
