use Rattle.std.proofs.Common.{List, ℕ, subst}
use Rattle.jn_reach.specs.Pairs.{IsPair, IsGraphOf}
use Rattle.jn_share.proofs.FieldEntries.{own_are}
use Rattle.jn_share.proofs.declaring.own_entries.Goals as goal

pub returns : goal.returns
returns c =
    own_are c.args.types.now c.args.count c.in_ok-pairs.pairs.items c.in_ok-own.own.items
    (subst (λ (ps : List (ℕ × ℕ)). IsGraphOf c.args.count (IsPair ps) c.in_ok-own.own.items) c.deref.ensures.value c.in_ok-own.ensures.exact)
    c.in_ok-pairs.ensures.sound c.in_ok-pairs.ensures.complete
