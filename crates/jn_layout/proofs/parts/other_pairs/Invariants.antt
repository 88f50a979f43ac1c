use Rattle.std.proofs.Common.{ℕ, take, Contains}
use Rattle.jn_base.specs.Paths.{Path}
use Rattle.jn_sem.specs.Sharing.{IsClass, Related}
use Rattle.jn_share.specs.Pairing.{IsAt}
use Rattle.jn_layout.specs.Pairs.{Gathers}
use Rattle.jn_layout.specs.Parts.{OtherPair, OfFamilies}
use Rattle.jn_layout.proofs.parts.other_pairs.Given as goal

abbrev pub invariant-loop-j : goal.invariant-loop-j
invariant-loop-j l = OfFamilies l.t l.families (λ p n. (R : Path) → IsAt l.t.known.items l.k R
    → ((j : ℕ) (S : Path) → Contains l.numbers j → IsAt l.t.known.items j S → IsClass p S → Related p S R)
    → Gathers (OtherPair p n R) (take l.j-index l.numbers) l.all.items)
