use Rattle.std.proofs.Common.{List, sym, subst}
use Rattle.jn_base.specs.declared.tree.Name.{Name}
use Rattle.jn_share.specs.Parting.{by_apart}
use Rattle.jn_share.specs.Prepared.{AreDecls}
use Rattle.jn_share.proofs.FieldLists.{rows_apart, rows_same, same_has, ready_decls, long_decls, field_in}
use Rattle.jn_share.proofs.alike.alike.Goals as goal

pub returns-then-not-same_names-clause-no : goal.returns-then-not-same_names-clause-no
returns-then-not-same_names-clause-no c = λ _ p V W asked ready m n one two.
    let a = c.row.ensures p V asked.filled.table m in
    let b = c.row-2.ensures p W asked.filled.table n in
    by_apart (rows_apart p c.args.t.now.known.items V W c.row.result.now c.row-2.result.now a b c.same_names.result c.deref.result.now c.deref-2.result.now
    c.deref.ensures.value c.deref-2.ensures.value c.if-not-same_names.true c.same_names.ensures)

pub returns-then-dvs-dws-clause-no : goal.returns-then-dvs-dws-clause-no
returns-then-dvs-dws-clause-no c = λ _ p V W asked ready m n one two.
    let known = c.args.t.now.known.items in
    let types = c.args.types.now.list.items in
    let a = c.row.ensures p V asked.filled.table m in
    let b = c.row-2.ensures p W asked.filled.table n in
    let e = rows_same p known V W c.row.result.now c.row-2.result.now a b c.deref.result.now c.deref-2.result.now c.deref.ensures.value c.deref-2.ensures.value (c.same_names.ensures.0 c.if-not-same_names.false) in
    let x = ready_decls p c.args.t.now types c.args.all.now ready c.args.v.0 V c.row.result.now m a c.decls_of-dvs.result.now c.decls_of-dvs.ensures in
    let y = ready_decls p c.args.t.now types c.args.all.now ready c.args.w.0 W c.row-2.result.now n b c.decls_of-dws.result.now c.decls_of-dws.ensures in
    absurd (c.if-dvs-dws.true (long_decls p known types V W c.row.result.now.fields.items c.row-2.result.now.fields.items c.decls_of-dvs.result.now c.decls_of-dws.result.now e x y))

pub returns-clause-yes : goal.returns-clause-yes
returns-clause-yes c = λ t p V W asked ready m n one two.
    let known = c.args.t.now.known.items in
    let types = c.args.types.now.list.items in
    let a = c.row.ensures p V asked.filled.table m in
    let b = c.row-2.ensures p W asked.filled.table n in
    let e = rows_same p known V W c.row.result.now c.row-2.result.now a b c.deref.result.now c.deref-2.result.now c.deref.ensures.value c.deref-2.ensures.value (c.same_names.ensures.0 c.if-not-same_names.false) in
    let x = ready_decls p c.args.t.now types c.args.all.now ready c.args.v.0 V c.row.result.now m a c.decls_of-dvs.result.now c.decls_of-dvs.ensures in
    let y = ready_decls p c.args.t.now types c.args.all.now ready c.args.w.0 W c.row-2.result.now n b c.decls_of-dws.result.now c.decls_of-dws.ensures in
    let y' = subst (λ (fs : List Name). AreDecls p known types W fs c.decls_of-dws.result.now) (sym e) y in
    record {
      fields = same_has p known V W c.row.result.now c.row-2.result.now a b e;
      each = λ f h. c.same_fields.ensures.yes t p V W asked ready m n one two c.row.result.now.fields.items x y' f (field_in p known V c.row.result.now a f h);
    }

pub returns-clause-no : goal.returns-clause-no
returns-clause-no c = λ t p V W asked ready m n one two.
    let known = c.args.t.now.known.items in
    let types = c.args.types.now.list.items in
    let a = c.row.ensures p V asked.filled.table m in
    let b = c.row-2.ensures p W asked.filled.table n in
    let e = rows_same p known V W c.row.result.now c.row-2.result.now a b c.deref.result.now c.deref-2.result.now c.deref.ensures.value c.deref-2.ensures.value (c.same_names.ensures.0 c.if-not-same_names.false) in
    let x = ready_decls p c.args.t.now types c.args.all.now ready c.args.v.0 V c.row.result.now m a c.decls_of-dvs.result.now c.decls_of-dvs.ensures in
    let y = ready_decls p c.args.t.now types c.args.all.now ready c.args.w.0 W c.row-2.result.now n b c.decls_of-dws.result.now c.decls_of-dws.ensures in
    c.same_fields.ensures.no t p V W asked ready m n one two c.row.result.now.fields.items x (subst (λ (fs : List Name). AreDecls p known types W fs c.decls_of-dws.result.now) (sym e) y)
