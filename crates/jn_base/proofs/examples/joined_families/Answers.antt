use Rattle.std.proofs.Common.{refl, arith}
use Rattle.jn_base.specs.FamiliesExample.{Lit, Add}
use Rattle.jn_base.proofs.FamiliesProof.{lit_supers, add_supers, lit_eval, lit_show, lit_v, lit_made, add_eval, add_show, both_has}
use Rattle.jn_base.proofs.examples.joined_families.Goals as goal

pub returns : goal.returns
returns c = record {
  lit = both_has Lit (0, omega arith, refl);
  add = both_has Add (1, omega arith, refl);
  lit_supers = lit_supers;
  add_supers = add_supers;
  lit_eval = lit_eval;
  lit_show = lit_show;
  lit_v = lit_v;
  lit_made = lit_made;
  add_eval = add_eval;
  add_show = add_show;
}
