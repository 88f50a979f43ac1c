use Rattle.jn_laws.proofs.FewLocals.{texts_have_few_locals}
use Rattle.jn_laws.proofs.sources.texts_have_few_locals.Goals as goal

pub returns : goal.returns
returns c = texts_have_few_locals
