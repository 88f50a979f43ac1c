use Rattle.std.proofs.Common.{◌≡◌, w64, ◌∙◌, ap, rules, to_z, of_z}
use Rattle.std.specs.Int.{int_wrapping_neg}
use Rattle.std.proofs.lemmas.Int.{wrapping_neg_is, to_z-of_z}
use Rattle.jn_meaning.proofs.numbers.negation.Goals as goal

pub returns : goal.returns
returns c =
    let e : to_z w64 (of_z w64 c.wrapping_neg.result) ≡ c.wrapping_neg.result = search rules in
    e ∙ c.wrapping_neg.ensures ∙ ap (int_wrapping_neg w64) (to_z-of_z w64 c.args.x c.ranges.x) ∙ wrapping_neg_is w64 c.args.x c.ranges.x
