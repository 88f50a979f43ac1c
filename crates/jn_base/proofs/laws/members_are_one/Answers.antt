use Rattle.jn_base.proofs.TableLaws.{one_least}
use Rattle.jn_base.proofs.laws.members_are_one.Goals as goal

pub returns : goal.returns
returns c p = record { least = one_least p; field = λ R f Q S h k. k.only Q h.declares }
