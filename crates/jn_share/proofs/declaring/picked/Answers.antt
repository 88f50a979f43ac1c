use Rattle.std.proofs.Common.{take, sym, subst, ◌+◌}
use Rattle.jn_base.specs.declared.tree.Name.{Name}
use Rattle.jn_reach.specs.Each.{Each}
use Rattle.jn_reach.proofs.Eachs.{Each-none, Each-more}
use Rattle.jn_share.specs.Declaring.{UnderName}
use Rattle.jn_share.proofs.FieldEntries.{any_default}
use Rattle.jn_share.proofs.declaring.picked.Goals as goal

pub loop-field-init : goal.loop-field-init
loop-field-init c = Each-none (UnderName c.args.last.now) c.new-decls.result.items c.new-decls.ensures.items

pub loop-field-preserved : goal.loop-field-preserved
loop-field-preserved c =
    let zero : Name = record { 0 = 0 } in
    subst (Each (UnderName c.args.last.now) (take (c.loop-field.field-index + 1) c.args.fields.now)) (sym c.in_ok-push.ensures.items)
    (Each-more (UnderName c.args.last.now) c.args.fields.now c.loop-field.decls.items c.loop-field.field-index _ c.under_name.result c.loop-field-test.true
    (any_default c.args.fields.now c.loop-field.field-index zero _ c.loop-field-test.true) c.loop-field.invariant c.under_name.ensures)
