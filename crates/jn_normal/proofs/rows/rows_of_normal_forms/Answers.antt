use Rattle.std.proofs.Common.{refl}
use Rattle.jn_normal.specs.Rows.{AtomRows, TypeRows, SubstRows}
use Rattle.jn_normal.proofs.RowsFit.{in_c_fits}
use Rattle.jn_normal.proofs.rows.rows_of_normal_forms.Goals as goal

atoms : AtomRows
atoms = record {
  rooted = refl;
  stays = refl;
  by_exact = refl;
  by_first = refl;
  by_second = refl;
  off_exact = refl;
  behind = refl;
  further_levels = refl;
  no_level = refl;
  again = refl;
}

types : TypeRows
types = record {
  no_doubles = refl;
  in_order = refl;
  by_levels = refl;
  masked = λ m. refl;
  int_stays = refl;
}

substs : SubstRows
substs = record {
  normalises = refl;
  at_once = refl;
  others = refl;
  one_left = refl;
}

pub returns : goal.returns
returns c = record {
  fits = in_c_fits;
  atoms = atoms;
  types = types;
  substs = substs;
}
