use Rattle.std.proofs.Common.{◌≡◌, ◌<◌, ◌∙◌, ℕ, List, length, map, refl, sym, subst, arith}
use Rattle.std.specs.declared.vec.Vec.{Vec}
use Rattle.std.specs.declared.alloc.Global.{Global}
use Rattle.std.proofs.lemmas.Option.{slice_get_read, same_Some}
use Rattle.jn_base.specs.Paths.{Path}
use Rattle.jn_table.specs.Universes.{MembersUpTo, class_id}
use Rattle.jn_table.specs.Ups.{up_path}
use Rattle.jn_table.proofs.Nears.{row_lists}
use Rattle.jn_table.proofs.row.numbers_of.Goals as goal

pub members_of-requires-clause-row : goal.members_of-requires-clause-row
members_of-requires-clause-row c =
    let paths : List Path = c.args.universe.now.nodes.paths.items in
    let n : c.args.number < length paths = c.requires.number in
    let m : c.args.number < length c.args.near.now.members.items = omega (arith, n, c.requires.near.members_long) in
    rw (c.deref-3.ensures.value, c.deref-4.ensures.value)
    (row_lists (map up_path paths) paths c.args.near.now.members.items c.requires.near.members c.args.number
    c.index-4.result.now c.index-3.result.now
    (slice_get_read paths (length paths) c.args.number c.index-4.result.now refl n c.index-4.ensures)
    (slice_get_read _ _ c.args.number c.index-3.result.now refl m c.index-3.ensures))

pub returns : goal.returns
returns c =
    let paths : List Path = c.args.universe.now.nodes.paths.items in
    let n : c.args.number < length paths = c.requires.number in
    let s : c.args.number < length c.args.universe.now.sups.items = omega (arith, n, c.requires.fits.sups_long) in
    let d : c.args.number < length c.args.universe.now.nodes.direct.items = omega
    (arith, n, c.requires.fits.nodes.long) in
    record {
      direct = λ below at. subst (λ (v : Vec ℕ Global). c.in_ok-direct.direct.items ≡ map class_id v.items)
          (same_Some _ _ (sym (slice_get_read _ _ _ c.index.result.now refl d c.index.ensures) ∙ at))
          (rw c.deref.ensures.value at c.in_ok-direct.ensures);
      sups = λ above at. subst (λ (v : Vec ℕ Global). c.in_ok-sups.sups.items ≡ map class_id v.items)
          (same_Some _ _ (sym (slice_get_read _ _ _ c.index-2.result.now refl s c.index-2.ensures) ∙ at))
          (rw c.deref-2.ensures.value at c.in_ok-sups.ensures);
      members = λ R at. subst (λ (P : Path). MembersUpTo paths P (length paths) c.in_ok-members.members.items)
          (same_Some _ _ (sym (slice_get_read _ _ _ c.index-4.result.now refl n c.index-4.ensures) ∙ at))
          (rw c.deref-3.ensures.value at c.in_ok-members.ensures);
    }
