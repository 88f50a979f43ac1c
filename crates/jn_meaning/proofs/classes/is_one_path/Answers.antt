use Rattle.jn_meaning.proofs.ClassNumbers.{one_path}
use Rattle.jn_meaning.proofs.classes.is_one_path.Goals as goal

pub returns : goal.returns
returns c = one_path c.names_at.result.now c.names_at-2.result.now _ _ c.same_names.result c.names_at.ensures c.names_at-2.ensures c.same_names.ensures
