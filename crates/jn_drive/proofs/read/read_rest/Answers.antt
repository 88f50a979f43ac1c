use Rattle.std.proofs.Common.{arith, rules, inl, inr, ◌≡◌, ◌≤◌, ◌∙◌, ap, ◌+◌, length, length-append}
use Rattle.jn_drive.proofs.Reading.{one_piece, front_read}
use Rattle.jn_drive.proofs.read.read_rest.Goals as goal

pub returns-then-taken-eq0-clause-read : goal.returns-then-taken-eq0-clause-read
returns-then-taken-eq0-clause-read g c =
    let taken = c.in_ok-taken.ensures.read.1 in
    let size : length c.read_piece.new.source.items ≡ length c.loop-buffer.source.items + length taken.piece = ap length taken.added ∙ length-append _ _ in
    let nothing : length taken.piece ≡ 0 = taken.size ∙ c.if-taken-eq0.true in
    let before : length c.loop-buffer.source.items ≤ c.args.most = c.loop-buffer.invariant.0 in
    let short : length c.read_piece.new.source.items ≤ c.args.most = omega arith in (
      c.in_ok-taken.ensures.read.0 ∙ c.loop-buffer.invariant.2,
      rw c.from_vec.ensures (front_read _ _ _ _ (one_piece _ _ _ _ _ _ c.loop-buffer.invariant.1 taken.rest_was taken.added) short (inl (taken.at_end c.if-taken-eq0.true))),
    )

pub returns-clause-read : goal.returns-clause-read
returns-clause-read g c =
    let n : c.len.result ≡ length c.loop-buffer.source.items = search rules in
    let at_most : length c.loop-buffer.source.items ≤ c.args.most = c.loop-buffer.invariant.0 in
    let full : length c.loop-buffer.source.items ≡ c.args.most = omega arith in
    (c.loop-buffer.invariant.2, rw c.from_vec-2.ensures (front_read _ _ _ _ c.loop-buffer.invariant.1 c.loop-buffer.invariant.0 (inr full)))
