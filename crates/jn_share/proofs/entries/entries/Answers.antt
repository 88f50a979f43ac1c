use Rattle.std.proofs.Common.{List, length, subst, ◌<◌}
use Rattle.jn_base.specs.declared.path.Path.{Path as ShownPath}
use Rattle.jn_share.proofs.Covers.{path_there}
use Rattle.jn_share.proofs.EntryRows.{entries_more}
use Rattle.jn_share.proofs.entries.entries.Goals as goal

pub loop-k-preserved : goal.loop-k-preserved
loop-k-preserved c = λ p f groups.
    let R = path_there p c.args.t.now f c.loop-k.k (subst (λ (xs : List ShownPath). c.loop-k.k < length xs) c.known-k-end.ensures c.loop-k-test.true) in
    entries_more p c.args.t.now f c.loop-k.k R.0 R.1 c.loop-k.count c.row_entries.result c.plus-count.result (λ m n x y. c.plus-count.ensures m n x y)
    (c.loop-k.invariant p f groups) (c.row_entries.ensures p f groups R.0 R.1)
