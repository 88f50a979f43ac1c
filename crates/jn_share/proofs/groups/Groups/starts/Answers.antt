use Rattle.std.proofs.Common.{◌≡◌, ◌<◌, length, List, subst, ap, arith, get_or, None}
use Rattle.jn_share.specs.declared.rows.GroupRow.{GroupRow}
use Rattle.jn_share.proofs.FieldEntries.{any_default}
use Rattle.jn_share.proofs.Growing.{long_push, low_push, starts_push}
use Rattle.jn_share.proofs.groups.Groups.starts.Goals as goal

pub loop-k-preserved : goal.loop-k-preserved
loop-k-preserved c =
    let i = c.loop-k.invariant in
    let e = c.in_ok-push.ensures.items in
    let rows = c.args.self.now.rows.items in
    let items = c.deref-row-items.result.now in
    let row = get_or items c.loop-k.k (record { group = None; own = None }) in
    record {
      long = long_push c.loop-k.parts.items c.push.new.self.items c.start_of.result c.loop-k.k e i.long;
      low = low_push c.loop-k.parts.items c.push.new.self.items c.loop-k.k c.start_of.result e i.long c.start_of.ensures.low i.low;
      is = starts_push rows c.loop-k.parts.items c.push.new.self.items c.loop-k.k c.start_of.result row e i.long
          (subst (λ (xs : List GroupRow). c.loop-k.k < length xs) c.deref-row-items.ensures.value c.loop-k-test.true)
          (subst (λ (xs : List GroupRow). row ≡ get_or xs c.loop-k.k row) c.deref-row-items.ensures.value
          (any_default items c.loop-k.k (record { group = None; own = None }) row c.loop-k-test.true)) c.start_of.ensures.is i.is;
    }

pub returns-clause-is : goal.returns-clause-is
returns-clause-is c = λ k f row l a g le.
    c.loop-k.invariant.is k f row (omega (arith, l, c.loop-k-test.false, ap (λ (xs : List GroupRow). length xs) c.deref-row-items.ensures.value)) a g le
