use Rattle.jn_layout.proofs.PartProof.{ok_both}
use Rattle.jn_layout.proofs.RowProof.{methods_are}
use Rattle.jn_layout.proofs.rows.methods_of.Goals as goal

pub returns : goal.returns
returns c =
    ok_both c.in_order.result c.in_order.ensures.same c.in_order.ensures.ordered
    (λ all same order. λ p t n R names bodies a o i is.
    methods_are p t n R c.args.row.now is c.deref.result.now c.deref.ensures.value c.in_ok-pairs.pairs.items all.items (c.in_ok-pairs.ensures p t n R names bodies a o i) same order)
