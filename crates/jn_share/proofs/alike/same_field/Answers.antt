use Rattle.std.proofs.Common.{List, sym, ap, ◌∙◌, slice_get}
use Rattle.jn_table.specs.declared.field_types.FieldTy.{FieldTy}
use Rattle.jn_share.proofs.SameFields.{entry_for, no_entry}
use Rattle.jn_share.proofs.alike.same_field.Goals as goal

pub returns-in-None-clause-no : goal.returns-in-None-clause-no
returns-in-None-clause-no c = λ _ p V W asked ready m n one two f d.
    absurd (no_entry p c.args.t.now.known.items c.args.types.now.list.items V f c.args.dv (c.in-None.ensures ∙ ap (λ (xs : List FieldTy). slice_get xs c.args.dv) c.deref.ensures.value) d.0)

pub returns-in-None-at-clause-no : goal.returns-in-None-at-clause-no
returns-in-None-at-clause-no c = λ _ p V W asked ready m n one two f d.
    absurd (no_entry p c.args.t.now.known.items c.args.types.now.list.items W f c.args.dw
    (c.in-None-at.ensures ∙ ap (λ (xs : List FieldTy). slice_get xs c.args.dw) c.deref-in-Some.ensures.value) d.1)

pub returns-in-Some-at-clause-yes : goal.returns-in-Some-at-clause-yes
returns-in-Some-at-clause-yes c = λ e p V W asked ready m n one two f d.
    let known = c.args.t.now.known.items in
    let list = c.args.types.now.list.items in
    let a = entry_for p known list V f c.args.dv c.in-Some.x.now (sym (c.in-Some.ensures ∙ ap (λ (xs : List FieldTy). slice_get xs c.args.dv) c.deref.ensures.value)) d.0 in
    let b = entry_for p known list W f c.args.dw c.in-Some-at.y.now (sym (c.in-Some-at.ensures ∙ ap (λ (xs : List FieldTy). slice_get xs c.args.dw) c.deref-in-Some.ensures.value)) d.1 in
    c.same_typed.ensures.yes e c.args.types.now p V W asked ready m n one two f a.0 b.0 a.1 b.1

pub returns-in-Some-at-clause-no : goal.returns-in-Some-at-clause-no
returns-in-Some-at-clause-no c = λ e p V W asked ready m n one two f d.
    let known = c.args.t.now.known.items in
    let list = c.args.types.now.list.items in
    let a = entry_for p known list V f c.args.dv c.in-Some.x.now (sym (c.in-Some.ensures ∙ ap (λ (xs : List FieldTy). slice_get xs c.args.dv) c.deref.ensures.value)) d.0 in
    let b = entry_for p known list W f c.args.dw c.in-Some-at.y.now (sym (c.in-Some-at.ensures ∙ ap (λ (xs : List FieldTy). slice_get xs c.args.dw) c.deref-in-Some.ensures.value)) d.1 in
    c.same_typed.ensures.no e c.args.types.now p V W asked ready m n one two f a.0 b.0 a.1 b.1
