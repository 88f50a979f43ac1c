use Rattle.std.proofs.Common.{◌<◌, ℕ, All, arith, refl, sym, length, subst}
use Rattle.std.specs.declared.vec.Vec.{Vec}
use Rattle.std.specs.declared.alloc.Global.{Global}
use Rattle.std.proofs.lemmas.Option.{slice_get_read}
use Rattle.jn_reach.proofs.Eachs.{All_here}
use Rattle.jn_table.proofs.Insides.{insides_long, insides_within}
use Rattle.jn_table.proofs.NamePlaces.{member_places, placed_within, places_long}
use Rattle.jn_table.proofs.Picked.{front_none, front_more}
use Rattle.jn_table.proofs.children.children.Goals as goal

pub loop-up-init : goal.loop-up-init
loop-up-init c = front_none _ _ _ _ _ c.new-all.ensures.items

pub declared_places-requires-clause-inside : goal.declared_places-requires-clause-inside
declared_places-requires-clause-inside c =
    rw c.deref.ensures.value
    (subst (λ (k : ℕ). All (λ (row : Vec ℕ Global). All (λ (i : ℕ). i < k) row.items) c.args.inside.now)
    (sym (places_long c.args.entries.now c.args.order.now c.in_ok-places.places.items c.in_ok-places.ensures))
    (insides_within c.args.entries.now c.args.level.now.paths.items c.args.inside.now c.requires.inside))

pub declared_places-requires-clause-numbers : goal.declared_places-requires-clause-numbers
declared_places-requires-clause-numbers c =
    let l : c.loop-up.up < length c.args.level.now.sups.items =
    omega (arith, c.loop-up-test.true, c.len-up-end.ensures, c.args.level.now.paths.ok.0, c.requires.shaped.sups) in
    rw c.deref-in-loop-up.ensures.value
    (subst (λ (k : ℕ). All (λ (j : ℕ). j < k) c.index.result.now.items)
    (sym (insides_long c.args.entries.now c.args.level.now.paths.items c.args.inside.now c.requires.inside))
    (All_here (λ (row : Vec ℕ Global). All
    (λ (j : ℕ). j < length c.args.level.now.paths.items) row.items) c.args.level.now.sups.items c.loop-up.up
    c.index.result.now l c.index.ensures c.requires.shaped.sups_in))

pub add_picked-requires-clause-picked : goal.add_picked-requires-clause-picked
add_picked-requires-clause-picked c =
    rw c.deref-in-loop-up-2.ensures.value
    (placed_within c.args.entries.now c.args.order.now c.in_ok-places.places.items c.in_ok-places.ensures
    c.args.inside.now c.index.result.now.items c.in_ok-picked.picked.items
    (rw (c.deref.ensures.value, c.deref-in-loop-up.ensures.value) at c.in_ok-picked.ensures))

pub loop-up-preserved : goal.loop-up-preserved
loop-up-preserved c =
    let l : c.loop-up.up < length c.args.level.now.sups.items =
    omega (arith, c.loop-up-test.true, c.len-up-end.ensures, c.args.level.now.paths.ok.0, c.requires.shaped.sups) in
    front_more _ _ _ _ _ c.in_ok-picked.picked.items c.index.result.now c.loop-up.all.items _
    (slice_get_read _ _ _ c.index.result.now refl l c.index.ensures)
    (member_places c.args.entries.now c.args.order.now c.in_ok-places.places.items c.in_ok-places.ensures
    c.args.level.now.paths.items c.args.inside.now c.requires.inside c.requires.ordered.distinct
    c.index.result.now.items c.in_ok-picked.picked.items
    (rw (c.deref.ensures.value, c.deref-in-loop-up.ensures.value) at c.in_ok-picked.ensures))
    c.loop-up.invariant
    (rw c.deref-in-loop-up-2.ensures.value at c.in_ok-add_picked.ensures)
