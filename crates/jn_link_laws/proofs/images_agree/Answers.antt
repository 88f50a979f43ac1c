use Rattle.jn_link_laws.specs.LawsOfAgreement.{knows_by}
use Rattle.jn_link_laws.proofs.Agreed.{image_agrees}
use Rattle.jn_link_laws.proofs.images_agree.Goals as goal

pub returns : goal.returns
returns g c may back = image_agrees (knows_by may back)
