use Rattle.std.proofs.Common.{◌≡◌, ◌∙◌, ap, reverse, drop, take, length, ◌-◌, ℕ, List}
use Rattle.std.proofs.lemmas.Result.{IfOk-weaker}
use Rattle.jn_base.specs.declared.tree.Name.{Name}
use Rattle.jn_names.proofs.Turned.{kept_any}
use Rattle.jn_names.proofs.bound.Bound.without.Goals as goal

pub returns : goal.returns
returns c =
    let names : List Name = c.as_slice-names.result.now in
    let same : reverse names ≡ c.args.self.now = ap reverse c.as_slice-names.ensures ∙ c.self.view_is in
    let cut : c.saturating_sub.result ≡ length names - c.args.k = c.saturating_sub.ensures in
    IfOk-weaker c.of.result _ _ (λ b h. h ∙
    (ap (λ (n : ℕ). reverse (take n names)) cut ∙ (kept_any names c.args.k ∙ ap (drop c.args.k) same))) c.of.ensures
