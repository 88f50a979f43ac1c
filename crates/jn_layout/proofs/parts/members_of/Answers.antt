use Rattle.std.proofs.Common.{◌∙◌, ap, map, List}
use Rattle.jn_layout.specs.Parts.{member_pair}
use Rattle.jn_layout.proofs.PartProof.{ok_both, members_are}
use Rattle.jn_layout.proofs.parts.members_of.Goals as goal

pub returns : goal.returns
returns c =
    ok_both c.in_order.result c.in_order.ensures.same c.in_order.ensures.ordered
    (λ all same order. λ p t n R f e is.
    members_are p t n f e R c.args.row.now is c.in_ok-pairs.pairs.items all.items
    (c.in_ok-pairs.ensures ∙ ap (λ (xs : List _). map member_pair xs) c.deref.ensures.value) same order)
