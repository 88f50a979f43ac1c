use Rattle.std.proofs.Common.{List, [], Option, slice_get, ◌∙◌, sym, ap, subst}
use Rattle.std.specs.Option.{option_map_or}
use Rattle.std.specs.declared.alloc.Global.{Global}
use Rattle.std.specs.declared.vec.Vec.{Vec}
use Rattle.jn_table.specs.declared.class.ClassId.{ClassId}
use Rattle.jn_names.specs.Ascending.{Ascend}
use Rattle.jn_names.specs.ByName.{numbers_in}
use Rattle.jn_names.specs.declared.member_row.MemberRow.{MemberRow}
use Rattle.jn_names.proofs.MemberSays.{field_absent, says_no_field, says_field}
use Rattle.jn_names.proofs.members.Members.field.Goals as goal

pub returns-in-None : goal.returns-in-None
returns-in-None c =
    field_absent c.args.self.now c.args.id c.args.f
    (ap (λ (rs : List MemberRow). slice_get rs c.args.id.0) (sym c.deref.ensures.value) ∙ sym c.in-None.ensures)

pub returns-in-None-get : goal.returns-in-None-get
returns-in-None-get c =
    says_no_field c.args.self.now c.args.id c.args.f c.in-Some.row.now
    (c.in-Some.ensures ∙ ap (λ (rs : List MemberRow). slice_get rs c.args.id.0) c.deref.ensures.value)
    c.in-None-get.ensures.value

pub field_of-requires : goal.field_of-requires
field_of-requires c =
    subst Ascend (sym (c.deref-in-Some-get.ensures.value
    ∙ ap (λ (o : Option (Vec ClassId Global)). option_map_or numbers_in o []) c.in-Some-get.ensures.value))
    (c.args.self.now.fields_listed.ascend c.args.f.0)

pub returns-in-Some-get : goal.returns-in-Some-get
returns-in-Some-get c =
    says_field c.args.self.now c.args.id c.args.f c.in-Some.row.now c.deref-in-Some-get.result.now c.field_of.result
    (c.in-Some.ensures ∙ ap (λ (rs : List MemberRow). slice_get rs c.args.id.0) c.deref.ensures.value)
    (c.deref-in-Some-get.ensures.value
    ∙ ap (λ (o : Option (Vec ClassId Global)). option_map_or numbers_in o []) c.in-Some-get.ensures.value)
    c.field_of.ensures
