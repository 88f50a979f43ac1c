use Rattle.std.proofs.Common.{ℕ, List, length, refl, sym, ap, ◌∙◌, subst}
use Rattle.jn_agree.specs.declared.selectors.MethodSel.{MethodSel}
use Rattle.jn_lower.specs.Told.{MakesBy}
use Rattle.jn_lower.proofs.walk_new.by_mark.Goals as goal

pub returns-else-as_slice-count : goal.returns-else-as_slice-count
returns-else-as_slice-count c = λ C last. record {
  path = c.in-Some.path.now;
  callee = c.in_ok-found-in-Some.found;
  taken = c.in-Some.ensures;
  is = λ m at. subst (λ (l : List MethodSel). MakesBy l C m c.in_ok-found-in-Some.found) c.as_slice.ensures
      (c.in_ok-found-in-Some.ensures C last.0 m last.1 at);
  many = ap (λ (l : List ℕ). length l) (sym c.as_slice-in-Some.ensures.value) ∙ c.if-as_slice-count.false;
  selector = refl;
  out = refl;
}
