use Rattle.jn_sem.proofs.NormalTypes.{type_subst_is, type_subst_fits, normal_fits, normal_type_again}
use Rattle.jn_sem.proofs.laws.normal_types.Goals as goal

pub returns : goal.returns
returns c s = record {
  one = type_subst_is s;
  subst_fits = λ g f t u. type_subst_fits s f t u g;
  normal_fits = λ g t u. normal_fits s t u g;
  again = λ g t u. normal_type_again s t u g;
}
