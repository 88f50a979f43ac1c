use Rattle.jn_sem.specs.Sharing.{IsClass}
use Rattle.jn_share.proofs.KeyRows.{over_told}
use Rattle.jn_share.proofs.keys.is_over.Goals as goal

pub returns-then-is_class : goal.returns-then-is_class
returns-then-is_class c = λ p V f a. (
  λ _. (c.is_class.ensures p V f a).0 c.if-is_class.true,
  λ ks h. over_told (IsClass p V) c.is_class.result c.keys_at.result.now ks c.if-is_class.true (c.is_class.ensures p V f a) (c.keys_at.ensures ks h),
)
