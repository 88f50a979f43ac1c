use Rattle.jn_base.proofs.SuperLaws.{member_heir, sup_inherited}
use Rattle.jn_base.proofs.laws.members_inherited.Goals as goal

pub returns : goal.returns
returns c p P Q C s m = record { has = member_heir s m; super = sup_inherited s m }
