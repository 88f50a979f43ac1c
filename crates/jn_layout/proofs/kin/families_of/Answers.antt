use Rattle.std.proofs.Common.{List, ℕ, sym, subst}
use Rattle.jn_share.specs.Prepared.{FamiliesTo}
use Rattle.jn_share.proofs.Growing.{long_push, low_push}
use Rattle.jn_share.proofs.Preparing.{families_push}
use Rattle.jn_layout.proofs.kin.families_of.Goals as goal

pub loop-k-preserved : goal.loop-k-preserved
loop-k-preserved c =
    let i = c.loop-k.invariant in
    let e = c.in_ok-push.ensures.items in
    record {
      long = long_push c.loop-k.all.items c.push.new.self.items c.family_number-family.result c.loop-k.k e i.long;
      low = low_push c.loop-k.all.items c.push.new.self.items c.loop-k.k c.family_number-family.result e i.long c.family_number-family.ensures.low i.low;
      families = λ p f. families_push c.args.t.now.known.items c.loop-k.all.items c.push.new.self.items c.loop-k.k c.family_number-family.result e i.long
          (λ V X a g. c.family_number-family.ensures.is p V X f
          (subst (λ (xs : List ℕ). FamiliesTo c.args.t.now.known.items c.loop-k.k xs) (sym c.deref.ensures.value) (i.families p f)) a g) (i.families p f);
    }
