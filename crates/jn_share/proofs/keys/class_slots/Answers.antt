use Rattle.std.proofs.Common.{List, subst}
use Rattle.jn_share.specs.declared.field_first.FieldFirst.{FieldFirst}
use Rattle.jn_share.specs.declared.keys.FieldKey.{FieldKey}
use Rattle.jn_share.specs.Keys.{SlotRowFor}
use Rattle.jn_share.proofs.keys.class_slots.Goals as goal

pub returns : goal.returns
returns c = λ p V f a. (
  λ k ks fields h g.
      subst (λ (xs : List FieldKey). SlotRowFor xs fields c.in_ok-row.row) (c.keys_at.ensures ks h)
      (subst (λ (xs : List FieldFirst). SlotRowFor c.keys_at.result.now xs c.in_ok-row.row) (c.fields_at.ensures fields g) c.in_ok-row.ensures),
  λ n. absurd (n ((c.is_class.ensures p V f a).0 c.if-not-is_class.false)),
)
