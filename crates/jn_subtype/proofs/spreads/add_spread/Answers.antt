use Rattle.std.proofs.Common.{◌≡◌, ◌∙◌, ◌-◌, ℕ, ap, sym, subst, drop, length, reverse, take}
use Rattle.std.proofs.lemmas.List.{length-reverse}
use Rattle.jn_base.specs.declared.types.Anchor.{Anchor}
use Rattle.jn_base.specs.Atoms.{atom}
use Rattle.jn_sem.specs.Search.{spread}
use Rattle.jn_subtype.specs.Turns.{Adds}
use Rattle.jn_subtype.proofs.Addings.{adds_one}
use Rattle.jn_subtype.proofs.SpreadForms.{HasOuter, spread_is}
use Rattle.jn_subtype.proofs.spreads.add_spread.Goals as goal

pub returns : goal.returns
returns c =
    let z = c.args.z.now in
    let R = c.args.above.now in
    let outer = c.args.outer.now in
    let exact = c.exact.result.now in
    let inexact = c.names-n.result.now in
    let names = c.names-names.result.now in
    let from = c.saturating_sub-from.result in
    let few : length inexact ≡ length z.names = sym (length-reverse inexact) ∙ ap length c.names-n.ensures in
    let rest : drop (length z.names) R ≡ outer =
    ap (λ (n : ℕ). drop n R) (sym few) ∙ sym c.in_ok-rest.ensures ∙ c.is.ensures.0 c.if-not-is.false in
    let is : c.in_ok-w.w ≡ spread z R =
    c.in_ok-w.ensures ∙ ap (λ (a : Anchor). atom a (reverse exact) (reverse (take (length names - from) (drop from names)))) c.anchor.ensures
    ∙ spread_is z R exact inexact names from c.exact.ensures c.names-n.ensures c.names-names.ensures c.saturating_sub-from.ensures in
    subst (Adds (HasOuter z outer R) c.args.all.now.items) (sym c.in_ok-push.ensures.items)
    (adds_one (HasOuter z outer R) c.args.all.now.items c.in_ok-w.w (rest, is) (λ x h. is ∙ sym h.1))
