use Rattle.std.proofs.Common.{[], Option, ◌∙◌, sym, ap, subst}
use Rattle.std.specs.Option.{option_map_or}
use Rattle.std.specs.declared.alloc.Global.{Global}
use Rattle.std.specs.declared.vec.Vec.{Vec}
use Rattle.jn_table.specs.declared.class.ClassId.{ClassId}
use Rattle.jn_names.specs.Ascending.{Ascend}
use Rattle.jn_names.specs.ByName.{numbers_in}
use Rattle.jn_names.proofs.MemberSays.{says_declaring}
use Rattle.jn_names.proofs.members.Members.declaring.Goals as goal

pub returns-in-None-clause-told : goal.returns-in-None-clause-told
returns-in-None-clause-told c =
    says_declaring c.args.self.now c.args.m []
    (ap (λ (o : Option (Vec ClassId Global)). option_map_or numbers_in o []) c.in-None.ensures.value)

pub returns-in-Some-clause-told : goal.returns-in-Some-clause-told
returns-in-Some-clause-told c =
    says_declaring c.args.self.now c.args.m c.deref.result.now
    (c.deref.ensures.value ∙ ap (λ (o : Option (Vec ClassId Global)). option_map_or numbers_in o []) c.in-Some.ensures.value)

pub returns-in-Some-clause-ascend : goal.returns-in-Some-clause-ascend
returns-in-Some-clause-ascend c =
    subst Ascend (sym (c.deref.ensures.value
    ∙ ap (λ (o : Option (Vec ClassId Global)). option_map_or numbers_in o []) c.in-Some.ensures.value))
    (c.args.self.now.methods_listed.ascend c.args.m.0)
