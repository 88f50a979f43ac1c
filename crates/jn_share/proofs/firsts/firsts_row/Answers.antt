use Rattle.std.proofs.Common.{List, ◌∙◌, sym, subst, get_or}
use Rattle.jn_base.specs.declared.tree.Name.{Name}
use Rattle.jn_share.specs.Prepared.{AreDecls}
use Rattle.jn_share.proofs.FieldEntries.{any_default}
use Rattle.jn_share.proofs.FieldRows.{row_start, row_push, row_done}
use Rattle.jn_share.proofs.FieldLists.{ready_decls}
use Rattle.jn_share.proofs.firsts.firsts_row.Goals as goal

pub loop-i-init : goal.loop-i-init
loop-i-init c = λ p V asked ready at one settled related d.
    row_start p c.args.t.now.known.items V c.as_slice-fields.result.now c.new-row.result.items c.new-row.ensures.items

pub loop-i-preserved : goal.loop-i-preserved
loop-i-preserved c = λ p V asked ready at one settled related d.
    let fields = c.as_slice-fields.result.now in
    let zero : Name = record { 0 = 0 } in
    let f = get_or fields c.loop-i.i zero in
    row_push p c.args.t.now.known.items c.args.types.now.list.items V fields c.decls_of-decls.result.now c.loop-i.i c.loop-i.row.items c.push.new.self.items c.field_first.result f
    c.loop-i-test.true (any_default fields c.loop-i.i zero f c.loop-i-test.true) c.in_ok-push.ensures.items c.field_first.ensures.field d
    (λ k e i. c.field_first.ensures.is p V asked ready at one settled related k (c.number_at-d.ensures ∙ e) i) (c.loop-i.invariant p V asked ready at one settled related d)

pub returns : goal.returns
returns c = λ p V asked ready at one settled related.
    let row = c.row.result.now in
    let is = c.row.ensures p V asked.filled.table at in
    let e = c.as_slice-fields.ensures.value in
    let d = ready_decls p c.args.t.now c.args.types.now.list.items c.args.all.now ready c.args.v.0 V row at is c.decls_of-decls.result.now c.decls_of-decls.ensures in
    row_done p c.args.t.now.known.items V row is c.as_slice-fields.result.now e c.loop-i.i c.loop-i.row.items c.loop-i-test.false
    (c.loop-i.invariant p V asked ready at one settled related
    (subst (λ (xs : List Name). AreDecls p c.args.t.now.known.items c.args.types.now.list.items V xs c.decls_of-decls.result.now) (sym e) d))
