use Rattle.jn_laws.proofs.StoredValues.{slots_take_values}
use Rattle.jn_laws.proofs.stores.slots_take_values.Goals as goal

pub returns : goal.returns
returns c = slots_take_values
