-- Small rows of operators.
use Rattle.std.specs.Prelude.{◌≡◌, pos, negsuc, true, false}
use Rattle.jn_base.specs.declared.tree.Op.TheVariants as op
use Rattle.jn_base.specs.Paths.{Path}
use Rattle.jn_sem.specs.declared.outcome.Why.TheVariants as why
use Rattle.jn_sem.specs.Values.{Number, Truth, Null, Reference}
use Rattle.jn_sem.specs.Does.{Zero, Stuck, Gives, Fails, result_of}

pub record OperatorsExample (V W : Path) : Type 0 where
  -- two views of one object are equal, and views of two objects are not
  pub one_object : result_of op.Eq (Reference 3 V) (Reference 3 W) ≡ Gives (Truth true)
  pub two_objects : result_of op.Eq (Reference 3 V) (Reference 4 V) ≡ Gives (Truth false)
  pub unequal : result_of op.Ne (Reference 3 V) (Reference 3 W) ≡ Gives (Truth false)
  -- null is equal to null alone
  pub nulls : result_of op.Eq Null Null ≡ Gives (Truth true)
  pub no_null : result_of op.Eq (Reference 3 V) Null ≡ Gives (Truth false)
  -- `<` and its like are for numbers, `==` for two of a kind
  pub less : result_of op.Lt (Number (negsuc 0)) (Number (pos 0)) ≡ Gives (Truth true)
  pub no_less : result_of op.Lt (Truth false) (Truth true) ≡ Fails (Stuck why.Kind)
  pub two_kinds : result_of op.Eq (Number (pos 0)) Null ≡ Fails (Stuck why.Kind)
  -- a remainder has the sign of the dividend, and by 0 there is none
  pub remainder : result_of op.Rem (Number (negsuc 6)) (Number (pos 2)) ≡ Gives (Number (negsuc 0))
  pub by_zero : result_of op.Rem (Number (pos 1)) (Number (pos 0)) ≡ Fails Zero

abbrev pub OperatorRows : Type 0
OperatorRows = (V W : Path) → OperatorsExample V W
