use Rattle.std.proofs.Common.{◌<◌, ℕ, All, arith, refl, sym, length, subst}
use Rattle.std.specs.declared.vec.Vec.{Vec}
use Rattle.std.specs.declared.alloc.Global.{Global}
use Rattle.std.proofs.lemmas.Option.{slice_get_read}
use Rattle.jn_reach.proofs.Eachs.{All_here}
use Rattle.jn_table.proofs.Insides.{insides_long, insides_within, by_parts}
use Rattle.jn_table.proofs.LevelRows.{row_from_tests}
use Rattle.jn_table.proofs.level.direct_row.Goals as goal

pub parts-requires-clause-inside : goal.parts-requires-clause-inside
parts-requires-clause-inside c =
    insides_within c.args.entries.now c.args.level.now.paths.items c.args.inside.now c.requires.inside

pub parts-requires-clause-numbers : goal.parts-requires-clause-numbers
parts-requires-clause-numbers c =
    let ls : c.args.heir.now.up < length c.args.level.now.sups.items = omega
    (arith, c.requires.heir, c.requires.shaped.sups) in
    rw c.deref.ensures.value
    (subst (λ (k : ℕ). All (λ (j : ℕ). j < k) c.index-sups.result.now.items)
    (sym (insides_long c.args.entries.now c.args.level.now.paths.items c.args.inside.now c.requires.inside))
    (All_here (λ (row : Vec ℕ Global). All
    (λ (j : ℕ). j < length c.args.level.now.paths.items) row.items) c.args.level.now.sups.items c.args.heir.now.up
    c.index-sups.result.now ls c.index-sups.ensures c.requires.shaped.sups_in))

pub supers_of-requires-clause-direct : goal.supers_of-requires-clause-direct
supers_of-requires-clause-direct c =
    let ld : c.args.heir.now.up < length c.args.level.now.direct.items = omega
    (arith, c.requires.heir, c.requires.shaped.direct) in
    let within = All_here (λ (row : Vec ℕ Global). All
    (λ (j : ℕ). j < length c.args.level.now.paths.items) row.items) c.args.level.now.direct.items c.args.heir.now.up
    c.index.result.now ld c.index.ensures c.requires.shaped.direct_in in
    rw c.deref-3.ensures.value (λ k d l. let w = within k d l in omega (arith, w, c.requires.few))

pub returns : goal.returns
returns c = record {
  row = λ children are.
      let ld : c.args.heir.now.up < length c.args.level.now.direct.items = omega
      (arith, c.requires.heir, c.requires.shaped.direct) in
      let ls : c.args.heir.now.up < length c.args.level.now.sups.items = omega
      (arith, c.requires.heir, c.requires.shaped.sups) in
      row_from_tests _ _ _ _ c.index.result.now c.index-sups.result.now c.in_ok-written.written.items _
      (slice_get_read _ _ _ c.index.result.now refl ld c.index.ensures)
      (slice_get_read _ _ _ c.index-sups.result.now refl ls c.index-sups.ensures)
      (by_parts c.args.entries.now c.args.level.now.paths.items c.args.inside.now c.requires.inside _ _ _ _
      (rw c.deref.ensures.value at c.in_ok-written.ensures))
      (rw (c.deref-2.ensures.value, c.deref-3.ensures.value) at (c.in_ok-row.ensures children are));
}
