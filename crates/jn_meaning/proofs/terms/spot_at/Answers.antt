use Rattle.std.proofs.Common.{◌∙◌, ap, reverse}
use Rattle.jn_meaning.specs.Values.{path_at}
use Rattle.jn_meaning.proofs.TermsTold.{spot_is}
use Rattle.jn_meaning.proofs.terms.spot_at.Goals as goal

pub returns : goal.returns
returns c = spot_is (path_at c.args.t.now.known.items c.args.class) c.in_ok-names.names c.args.owner c.args.role (ap reverse c.in_ok-names.ensures ∙ c.names_at.ensures)
