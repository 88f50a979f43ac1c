use Rattle.std.proofs.Common.{ℕ, List, length, refl, sym, ap, ◌∙◌, subst}
use Rattle.jn_agree.specs.declared.selectors.MethodSel.{MethodSel}
use Rattle.jn_lower.specs.Told.{IsCallee}
use Rattle.jn_lower.proofs.walk_super.found_above.Goals as goal

pub returns-else-as_slice-count : goal.returns-else-as_slice-count
returns-else-as_slice-count c =
    let found = c.in_ok-found-in-Some-next_member.found in
    record {
      atom = c.in-Some.x.now;
      path = c.in-Some-next_member.path.now;
      callee = found;
      mid = c.next_term.new.self;
      term = c.in-Some.ensures;
      member = c.in-Some-next_member.ensures;
      out = refl;
      class = c.in_ok-class-in-Some-next_member.ensures;
      is = λ m at. subst (λ (l : List MethodSel). IsCallee l c.args.f m found) c.as_slice.ensures
          (c.in_ok-found-in-Some-next_member.ensures m at);
      many = ap (λ (l : List ℕ). length l) (sym c.as_slice-in-Some-next_member.ensures.value) ∙ c.if-as_slice-count.false;
      selector = refl;
      kind = refl;
      first = λ k ks e. c.first_kind.ensures k ks (c.as_slice-in-Some-next_member-2.ensures.value ∙ e);
    }
