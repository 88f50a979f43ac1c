use Rattle.std.proofs.Common.{ap, sym, ◌∙◌, reverse}
use Rattle.std.proofs.lemmas.List.{reverse-reverse}
use Rattle.jn_table.proofs.route.Route.is.Goals as goal

pub returns : goal.returns
returns c =
    rw (← c.self.view_is, ← c.other.view_is, ← c.as_slice.ensures, ← c.as_slice-2.ensures) (
      λ h. ap reverse (c.same_names.ensures.0 h),
      λ e. c.same_names.ensures.1 (sym (reverse-reverse c.as_slice.result.now) ∙ ap reverse e ∙
          reverse-reverse c.as_slice-2.result.now),
    )
