use Rattle.std.proofs.Common.{◌≡◌, ◌-◌, sym, ap, ◌∙◌, subst, arith, length}
use Rattle.std.proofs.lemmas.List.{length-reverse}
use Rattle.jn_base.specs.declared.types.Anchor.TheVariants.{Up}
use Rattle.jn_base.specs.Universe.{InUniverse}
use Rattle.jn_base.specs.Scopes.{bound}
use Rattle.jn_base.specs.Fits.{Anchored}
use Rattle.jn_subtype.proofs.ClimbForms.{known_count, anchor_length}
use Rattle.jn_subtype.proofs.climbs.count.Goals as goal

pub returns-else-not-is_known-clause-exact : goal.returns-else-not-is_known-clause-exact
returns-else-not-is_known-clause-exact c = λ p s f e g i.
    let x = c.args.x.now in
    let q = c.in-Up.field-0 in
    let k = c.in-Up.field-1 in
    let a : x.anchor ≡ Up q k = sym c.anchor.ensures ∙ c.in-Up.is in
    let known : InUniverse p (bound s x) = subst (InUniverse p) e ((c.is_known.ensures p f).0 c.if-not-is_known.false) in
    let at : Anchored s (Up q k) = subst (Anchored s) a g in
    let n : c.max.result ≡ length (bound s x) - length x.names =
    omega (
      arith,
      at.1,
      c.max.ensures,
      c.depth.ensures,
      c.saturating_sub-above.ensures,
      ap length e,
      length-reverse c.names.result.now,
      ap length c.names.ensures,
      length-reverse c.exact-exact.result.now,
      ap length c.exact-exact.ensures,
      anchor_length s x q k a,
    ) in
    known_count p s x q k c.max.result i a known at.1 n
