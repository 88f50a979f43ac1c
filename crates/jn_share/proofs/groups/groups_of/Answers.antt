use Rattle.std.proofs.Common.{sym, subst, List, ℕ, length}
use Rattle.jn_share.specs.Prepared.{FamiliesTo}
use Rattle.jn_share.specs.Rows.{LinkFirsts, GroupRowsTo}
use Rattle.jn_share.proofs.Making.{are_groups}
use Rattle.jn_share.proofs.groups.groups_of.Goals as goal

pub returns : goal.returns
returns c = λ f e.
    let p = c.args.p.now in
    let known = c.args.t.now.known.items in
    let w = c.in_ok-linked.linked in
    let all : FamiliesTo known (length known) c.in_ok-families.families.items = c.in_ok-families.ensures.is p f in
    let link : LinkFirsts p known w.firsts.items =
    c.in_ok-linked.ensures.links p f (subst (λ (fs : List ℕ). FamiliesTo known (length known) fs) (sym c.deref.ensures.value) all) e in
    let rows : GroupRowsTo p known w.firsts.items (length known) c.in_ok-rows.rows.items =
    subst (λ (fs : List ℕ). GroupRowsTo p known fs (length known) c.in_ok-rows.rows.items) c.deref-2.ensures.value
    (c.in_ok-rows.ensures p f (subst (λ (fs : List ℕ). FamiliesTo known (length known) fs) (sym c.deref-3.ensures.value) all)) in
    are_groups p c.args.t.now f w.firsts.items (record { rows = c.in_ok-rows.rows; members = w.members; homes = c.in_ok-homes.homes }) c.in_ok-linked.ensures.low
    c.in_ok-linked.ensures.long c.in_ok-linked.ensures.members link rows c.in_ok-homes.ensures
