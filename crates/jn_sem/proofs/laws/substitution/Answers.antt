use Rattle.jn_sem.specs.LawsOfTypes.{Passes}
use Rattle.jn_sem.specs.Normal.{same_path}
use Rattle.jn_sem.proofs.Substitutions.{normal_in, moved_in}
use Rattle.jn_sem.proofs.TypeSets.{classes_subst, values_subst}
use Rattle.jn_sem.proofs.laws.substitution.Goals as goal

pub returns : goal.returns
returns c p s v r = record {
  normal_atom = normal_in r;
  moved_atom = moved_in p v;
  classes = classes_subst r;
  values = λ names filled. values_subst r names (Passes filled);
  normal_classes = classes_subst r same_path;
  normal_values = λ names filled. values_subst r names (Passes filled) same_path;
}
