use Rattle.jn_link_laws.specs.LawsOfAgreement.{knows_by}
use Rattle.jn_link_laws.proofs.Traced as traced
use Rattle.jn_link_laws.proofs.traces_agree.Goals as goal

pub returns : goal.returns
returns g c may back = traced.traces_agree (knows_by may back)
