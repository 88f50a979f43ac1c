use Rattle.std.proofs.Common.{◌↔◌, List, [], Contains, sym, subst}
use Rattle.std.proofs.lemmas.List.Elements.{All-same, All-append, All-weaker, All-contains}
use Rattle.jn_reach.specs.Chain.{Chain}
use Rattle.jn_base.specs.Atoms.{Atom}
use Rattle.jn_intern.specs.Pools.{scope_in}
use Rattle.jn_sem.specs.Search.{Climbs}
use Rattle.jn_subtype.specs.Older.{IsAsOld, IsOlder}
use Rattle.jn_subtype.specs.Turns.{Adds, SpreadEnters}
use Rattle.jn_subtype.proofs.Addings.{adds_list, adds_more, adds_whole}
use Rattle.jn_subtype.proofs.TurnForms.{turns_found, older_than}
use Rattle.jn_subtype.proofs.turns.turns.Goals as goal

pub loop-z-preserved : goal.loop-z-preserved
loop-z-preserved c =
    let s = scope_in c.args.pool.now c.args.scope.now in
    let x = c.args.x.now in
    let z = c.z-item.result in
    let zs = c.as_slice-z-items.result.now in
    let all = c.loop-z.all.items in
    let more = c.in_ok-more.more.items in
    let among : Contains c.in_ok-zs.zs.items z =
    subst (λ (l : List Atom). Contains l z) c.as_slice-z-items.ensures.value (c.loop-z.z-index, c.loop-z-test.true, sym c.z-item.is) in
    let old : IsAsOld s x z = All-contains (IsAsOld s x) c.in_ok-zs.zs.items z c.in_ok-zs.ensures.old among in record {
      found = λ p f.
          adds_more (SpreadEnters p s) zs c.loop-z.z-index z [] all c.append.new.self.items
          c.loop-z-test.true c.z-item.is (c.loop-z.invariant.found p f)
          (subst (Adds (SpreadEnters p s z) all) (sym c.in_ok-append.ensures.items)
          (adds_list (SpreadEnters p s z) all more (c.in_ok-more.ensures.exact p f)));
      older = All-same (IsOlder s x) _ _ c.in_ok-append.ensures.items
          (All-append (IsOlder s x) all more c.loop-z.invariant.older
          (All-weaker (IsOlder s z) (IsOlder s x) (λ t h. older_than old h) more c.in_ok-more.ensures.older));
    }

pub returns-clause-exact : goal.returns-clause-exact
returns-clause-exact c = λ p f.
    let s = scope_in c.args.pool.now c.args.scope.now in
    let x = c.args.x.now in
    let zs = c.as_slice-z-items.result.now in
    let each : (z : Atom) → Contains zs z ↔ Chain (Climbs p s) x z = λ z.
    subst (λ (l : List Atom). Contains l z ↔ Chain (Climbs p s) x z) (sym c.as_slice-z-items.ensures.value) (c.in_ok-zs.ensures.exact p f z) in
    turns_found x zs c.loop-z.all.items each
    (adds_whole (SpreadEnters p s) zs c.loop-z.z-index [] c.loop-z.all.items c.loop-z-test.false (c.loop-z.invariant.found p f))
