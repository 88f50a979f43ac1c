use Rattle.std.proofs.Common.{◌≡◌, ◌∙◌, sym, ap, reverse}
use Rattle.jn_names.proofs.Turned.{turned_same}
use Rattle.jn_names.proofs.bound.Bound.is.Goals as goal

pub returns : goal.returns
returns c =
    let one : reverse c.as_slice.result.now ≡ c.args.self.now = ap reverse c.as_slice.ensures ∙ c.self.view_is in
    let two : reverse c.as_slice-2.result.now ≡ c.args.other.now = ap reverse c.as_slice-2.ensures ∙
    c.other.view_is in (
      λ h. sym one ∙ (ap reverse (c.same_names.ensures.0 h) ∙ two),
      λ e. c.same_names.ensures.1 (turned_same c.as_slice.result.now c.as_slice-2.result.now (one ∙ (e ∙ sym two))),
    )
