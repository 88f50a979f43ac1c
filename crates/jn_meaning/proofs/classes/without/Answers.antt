use Rattle.std.proofs.Common.{◌∙◌, ap, reverse, take, ℕ}
use Rattle.jn_share.proofs.Turned.{kept_any}
use Rattle.jn_meaning.proofs.classes.without.Goals as goal

pub returns : goal.returns
returns c = ap (λ (n : ℕ). reverse (take n c.args.names.now)) c.saturating_sub.ensures ∙ kept_any c.args.names.now c.args.k
