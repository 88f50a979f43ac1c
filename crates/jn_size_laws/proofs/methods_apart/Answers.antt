use Rattle.jn_size_laws.proofs.Apart.{methods_apart}
use Rattle.jn_size_laws.proofs.methods_apart.Goals as goal

pub returns : goal.returns
returns x = methods_apart
