use Rattle.std.proofs.Common.{reverse, false}
use Rattle.jn_share.proofs.Inside.{inside_told, not_inside, as_sliced}
use Rattle.jn_share.proofs.atoms.is_inside.Goals as goal

pub returns-then-not-is_joined : goal.returns-then-not-is_joined
returns-then-not-is_joined c = λ p U f n.
    as_sliced p U (reverse c.args.front.now) c.as_slice-exact.result.now c.args.x.now.exact c.as_slice-names.result.now c.args.x.now.names false
    c.as_slice-exact.ensures c.as_slice-names.ensures
    (not_inside p c.args.t.now f U c.args.u n c.names_of.result.now c.without.result.now c.args.front.now c.as_slice-exact.result.now c.as_slice-names.result.now
    c.is_joined.result c.names_of.ensures c.without.ensures c.if-not-is_joined.true c.is_joined.ensures)

pub returns : goal.returns
returns c = λ p U f n.
    as_sliced p U (reverse c.args.front.now) c.as_slice-exact.result.now c.args.x.now.exact c.as_slice-names.result.now c.args.x.now.names c.some_path.result
    c.as_slice-exact.ensures c.as_slice-names.ensures
    (inside_told p c.args.t.now f U c.args.u n c.row.result.now (c.row.ensures p U f.table n) c.names_of.result.now c.without.result.now c.args.front.now
    c.as_slice-exact.result.now c.as_slice-names.result.now c.deref.result.now c.is_joined.result c.some_path.result
    c.names_of.ensures c.without.ensures c.if-not-is_joined.false c.is_joined.ensures c.deref.ensures.value c.some_path.ensures)
