use Rattle.std.proofs.Common.{◌≡◌, ◌∙◌, ◌-◌, ℕ, ap, length}
use Rattle.std.proofs.lemmas.Result.{IfOk-weaker}
use Rattle.jn_base.specs.Atoms.{lifted}
use Rattle.jn_subtype.proofs.ClimbForms.{climb_is}
use Rattle.jn_subtype.proofs.climbs.climb.Goals as goal

pub returns : goal.returns
returns c =
    let x = c.args.x.now in
    let i = c.args.i in
    let exact = c.exact-exact.result.now in
    let inexact = c.names.result.now in
    let names = c.names-names.result.now in
    let anchor : c.further-anchor.result ≡ lifted (i - length exact) x.anchor =
    c.further-anchor.ensures ∙ ap (λ (n : ℕ). lifted n c.anchor.result) c.saturating_sub.ensures ∙ ap (lifted (i - length exact)) c.anchor.ensures in
    IfOk-weaker c.of.result _ _
    (λ z h s e. h ∙ climb_is s x c.args.b.now i exact inexact names c.further-anchor.result c.saturating_sub-kept.result c.saturating_sub-from.result
    c.exact-exact.ensures c.names.ensures c.names-names.ensures anchor c.saturating_sub-kept.ensures
    (c.saturating_sub-from.ensures ∙ ap (λ (n : ℕ). n - i) c.saturating_sub-2.ensures) e)
    c.of.ensures
