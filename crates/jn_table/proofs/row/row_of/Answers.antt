use Rattle.std.proofs.Common.{◌<◌, length, map, refl, arith}
use Rattle.std.proofs.lemmas.Option.{slice_get_read}
use Rattle.jn_table.specs.Ups.{up_path}
use Rattle.jn_table.proofs.Nears.{mapped_get, row_lists}
use Rattle.jn_table.proofs.RowSteps.{shown_is, slice_there}
use Rattle.jn_table.proofs.row.row_of.Goals as goal

pub returns : goal.returns
returns c =
    let n : c.args.number < length c.args.universe.now.nodes.paths.items = c.requires.number in
    let s : c.args.number < length c.args.universe.now.sups.items = omega (arith, n, c.requires.fits.sups_long) in
    let d : c.args.number < length c.args.universe.now.nodes.direct.items = omega
    (arith, n, c.requires.fits.nodes.long) in
    let at_path = slice_get_read _ _ _ _ refl n c.index-path.ensures in
    let at_above = slice_get_read _ _ _ c.index-above.result.now refl s c.index-above.ensures in
    let below = slice_there _ _ d in
    record {
      R = c.index-path.result.now;
      at = at_path;
      above = c.index-above.result.now;
      above_at = at_above;
      below = below.0;
      below_at = below.1;
      path = shown_is _ c.index-path.result.now c.in_ok-shown.ensures;
      kind_by = rw c.deref-5.ensures.value at c.kind_of.ensures;
      up_by = rw c.deref-6.ensures.value at c.up_of.ensures;
      direct = c.in_ok-numbers.ensures.direct _ below.1;
      sups = c.in_ok-numbers.ensures.sups _ at_above;
      members = c.in_ok-numbers.ensures.members _ at_path;
      methods = rw (c.deref.ensures.value, c.deref-2.ensures.value) at c.in_ok-methods.ensures;
      fields = rw (c.deref-3.ensures.value, c.deref-4.ensures.value) at c.in_ok-fields.ensures;
    }

pub up_of-requires-clause-row : goal.up_of-requires-clause-row
up_of-requires-clause-row c =
    let paths = c.args.universe.now.nodes.paths.items in
    let n : c.args.number < length paths = c.requires.number in
    let m : c.args.number < length c.args.near.now.ups.items = omega (arith, n, c.requires.near.ups_long) in
    rw (c.deref-6.ensures.value, c.deref-7.ensures.value)
    (row_lists paths (map up_path paths) c.args.near.now.ups.items c.requires.near.ups c.args.number
    (up_path c.index-path.result.now) c.index.result.now
    (mapped_get up_path paths c.args.number c.index-path.result.now
    (slice_get_read paths (length paths) c.args.number c.index-path.result.now refl n c.index-path.ensures))
    (slice_get_read _ _ c.args.number c.index.result.now refl m c.index.ensures))
