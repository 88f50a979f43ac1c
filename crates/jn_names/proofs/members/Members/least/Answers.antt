use Rattle.std.proofs.Common.{List, [], Option, slice_get, ◌∙◌, sym, ap, subst}
use Rattle.std.specs.Option.{option_map_or}
use Rattle.std.specs.declared.alloc.Global.{Global}
use Rattle.std.specs.declared.vec.Vec.{Vec}
use Rattle.jn_table.specs.declared.class.ClassId.{ClassId}
use Rattle.jn_names.specs.Ascending.{Ascend}
use Rattle.jn_names.specs.ByName.{numbers_in}
use Rattle.jn_names.specs.declared.member_row.MemberRow.{MemberRow}
use Rattle.jn_names.proofs.MemberSays.{least_absent, says_none, says_least}
use Rattle.jn_names.proofs.members.Members.least.Goals as goal

pub returns-in-None : goal.returns-in-None
returns-in-None c =
    least_absent c.args.self.now c.args.id c.args.m
    (ap (λ (rs : List MemberRow). slice_get rs c.args.id.0) (sym c.deref.ensures.value) ∙ sym c.in-None.ensures)

pub returns-in-None-get : goal.returns-in-None-get
returns-in-None-get c =
    says_none c.args.self.now c.args.id c.args.m c.in-Some.row.now
    (c.in-Some.ensures ∙ ap (λ (rs : List MemberRow). slice_get rs c.args.id.0) c.deref.ensures.value)
    c.in-None-get.ensures.value

pub least_of-requires : goal.least_of-requires
least_of-requires c =
    subst Ascend (sym (c.deref-in-Some-get-2.ensures.value
    ∙ ap (λ (o : Option (Vec ClassId Global)). option_map_or numbers_in o []) c.in-Some-get.ensures.value))
    (c.args.self.now.methods_listed.ascend c.args.m.0)

pub returns-in-Some-get : goal.returns-in-Some-get
returns-in-Some-get c =
    says_least c.args.self.now c.args.id c.args.m c.in-Some.row.now c.deref-in-Some-get.result.now
    c.deref-in-Some-get-2.result.now c.least_of.result
    (c.in-Some.ensures ∙ ap (λ (rs : List MemberRow). slice_get rs c.args.id.0) c.deref.ensures.value)
    c.deref-in-Some-get.ensures.value
    (c.deref-in-Some-get-2.ensures.value
    ∙ ap (λ (o : Option (Vec ClassId Global)). option_map_or numbers_in o []) c.in-Some-get.ensures.value)
    c.least_of.ensures
