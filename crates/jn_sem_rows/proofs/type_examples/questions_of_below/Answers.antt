use Rattle.jn_sem_rows.proofs.BelowProof.{fits, exact_below, not_exact, same_family, other_family, path_class, path_family, not_path_family, masked, unmasked}
use Rattle.jn_sem_rows.proofs.type_examples.questions_of_below.Goals as goal

pub returns : goal.returns
returns c = record {
  fits = fits;
  exact_below = exact_below;
  not_exact = not_exact;
  same_family = same_family;
  other_family = other_family;
  path_class = path_class;
  path_family = path_family;
  not_path_family = not_path_family;
  masked = masked;
  unmasked = unmasked;
}
