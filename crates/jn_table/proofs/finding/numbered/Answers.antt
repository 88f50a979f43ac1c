use Rattle.std.proofs.Common.{List, Some, ◌∙◌, ap, length, refl, sym}
use Rattle.std.proofs.lemmas.Option.{slice_get_read}
use Rattle.jn_base.specs.declared.tree.Name.{Name}
use Rattle.jn_table.proofs.Located.{located_more}
use Rattle.jn_table.proofs.finding.numbered.Goals as goal

pub loop-place-preserved : goal.loop-place-preserved
loop-place-preserved c =
    let known = c.args.known.now in
    let path = c.index-known-place.result in
    let same = c.in_ok-names.ensures ∙ c.as_slice.ensures in
    let at = slice_get_read known (length known) c.loop-place.place path refl c.loop-place-test.true
    c.index-known-place.is in
    located_more known c.loop-place.place c.loop-place.all.items _ _ c.loop-place.invariant c.in_ok-push.ensures.items
    refl (at ∙ ap (λ (ns : List Name). Some (record { names = ns })) (sym same))
