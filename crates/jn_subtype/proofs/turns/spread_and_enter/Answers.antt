use Rattle.std.proofs.Common.{◌↔◌, ◌≡◌, List, [], Contains, sym, subst}
use Rattle.std.proofs.lemmas.List.Elements.{All-same, All-append, All-weaker, All-contains}
use Rattle.jn_base.specs.Atoms.{Atom}
use Rattle.jn_intern.specs.Pools.{scope_in}
use Rattle.jn_sem.specs.Search.{Spreads, Enters}
use Rattle.jn_subtype.specs.Older.{IsOlder}
use Rattle.jn_subtype.specs.Turns.{Adds}
use Rattle.jn_subtype.proofs.Addings.{adds_list, adds_more, adds_whole}
use Rattle.jn_subtype.proofs.TurnForms.{spread_enters_found, older_at}
use Rattle.jn_subtype.proofs.turns.spread_and_enter.Goals as goal

pub loop-w-preserved : goal.loop-w-preserved
loop-w-preserved c =
    let s = scope_in c.args.pool.now c.args.scope.now in
    let z = c.args.z.now in
    let w = c.w-item.result in
    let ws = c.as_slice-w-items.result.now in
    let all = c.loop-w.all.items in
    let more = c.in_ok-more.more.items in
    let among : Contains c.in_ok-ws.ws.items w =
    subst (λ (l : List Atom). Contains l w) c.as_slice-w-items.ensures.value (c.loop-w.w-index, c.loop-w-test.true, sym c.w-item.is) in
    let same : w.anchor ≡ z.anchor = All-contains (λ (t : Atom). t.anchor ≡ z.anchor) c.in_ok-ws.ws.items w c.in_ok-ws.ensures.anchors among in record {
      found = λ p f.
          adds_more (Enters p s) ws c.loop-w.w-index w [] all c.append.new.self.items
          c.loop-w-test.true c.w-item.is (c.loop-w.invariant.found p f)
          (subst (Adds (Enters p s w) all) (sym c.in_ok-append.ensures.items)
          (adds_list (Enters p s w) all more (c.in_ok-more.ensures.exact p f)));
      older = All-same (IsOlder s z) _ _ c.in_ok-append.ensures.items
          (All-append (IsOlder s z) all more c.loop-w.invariant.older
          (All-weaker (IsOlder s w) (IsOlder s z) (λ t h. older_at same h) more c.in_ok-more.ensures.older));
    }

pub returns-clause-exact : goal.returns-clause-exact
returns-clause-exact c = λ p f.
    let s = scope_in c.args.pool.now c.args.scope.now in
    let z = c.args.z.now in
    let ws = c.as_slice-w-items.result.now in
    let each : (w : Atom) → Contains ws w ↔ Spreads p s z w = λ w.
    subst (λ (l : List Atom). Contains l w ↔ Spreads p s z w) (sym c.as_slice-w-items.ensures.value) (c.in_ok-ws.ensures.exact p f w) in
    spread_enters_found z ws c.loop-w.all.items each
    (adds_whole (Enters p s) ws c.loop-w.w-index [] c.loop-w.all.items c.loop-w-test.false (c.loop-w.invariant.found p f))
