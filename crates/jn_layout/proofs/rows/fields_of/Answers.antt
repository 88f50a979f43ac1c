use Rattle.jn_layout.proofs.PartProof.{ok_both}
use Rattle.jn_layout.proofs.RowProof.{fields_are}
use Rattle.jn_layout.proofs.rows.fields_of.Goals as goal

pub returns-clause-is : goal.returns-clause-is
returns-clause-is c =
    ok_both c.in_order.result c.in_order.ensures.same c.in_order.ensures.ordered
    (λ all same order. λ p t n R names a o i is.
    fields_are p t n c.args.s.now c.args.id R c.args.row.now is c.deref.result.now c.deref.ensures.value c.in_ok-pairs.pairs.items all.items (c.in_ok-pairs.ensures.is p t n R names a o i) same order)

pub returns-clause-small : goal.returns-clause-small
returns-clause-small c =
    ok_both c.in_order.result c.in_order.ensures.same c.in_order.ensures.ordered (λ all same order. λ x h. c.in_ok-pairs.ensures.small x ((same x).0 h))
