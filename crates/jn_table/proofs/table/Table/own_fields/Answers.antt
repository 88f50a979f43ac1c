use Rattle.std.proofs.Common.{◌<◌, length, refl, arith, reverse}
use Rattle.std.proofs.lemmas.Option.{slice_get_read}
use Rattle.std.proofs.lemmas.Result.{IfOk-weaker}
use Rattle.jn_table.specs.declared.gather.Part.TheVariants as part
use Rattle.jn_table.proofs.OwnParts.{says_fields, named_there}
use Rattle.jn_table.proofs.RowSteps.{slice_there}
use Rattle.jn_table.proofs.table.Table.own_fields.Goals as goal

pub returns : goal.returns
returns c =
    let t = c.args.self.now in
    let within : c.args.id.0 < length t.known.items = omega (arith, c.requires, t.paired) in
    let kept : c.args.id.0 < length t.declared.items = omega (arith, within, t.declared_are.long) in
    let q = slice_there t.known.items c.args.id.0 within in
    let row = c.index-row.result.now in
    let there = slice_get_read t.declared.items (length t.declared.items) c.args.id.0 row refl kept c.index-row.ensures in
    IfOk-weaker c.names_at.result _ _
    (λ names own. says_fields t c.args.id q.0 (reverse q.0.names) names.items q.1 refl
    (named_there t.entries.items t.known.items t.declared.items t.declared_are c.args.id.0 q.0 row q.1 there part.Fields names.items own))
    (rw (c.deref.ensures.value, c.deref-2.ensures.value) at c.names_at.ensures)
