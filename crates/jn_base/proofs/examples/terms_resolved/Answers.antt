use Rattle.jn_base.proofs.ResolveShown.{resolve_shown}
use Rattle.jn_base.proofs.examples.terms_resolved.Goals as goal

pub returns : goal.returns
returns c = resolve_shown
