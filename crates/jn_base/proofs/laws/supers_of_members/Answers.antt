use Rattle.jn_base.specs.Supers.{itself}
use Rattle.jn_base.proofs.SuperLaws.{sup_up, sup_member, member_heir, heir_by_one}
use Rattle.jn_base.proofs.laws.supers_of_members.Goals as goal

pub returns : goal.returns
returns c p P Q C D m s = record {
  namespace = sup_up s;
  member = sup_member m s;
  in_heir = member_heir (sup_up s) (sup_member m s);
  super = heir_by_one itself s;
}
