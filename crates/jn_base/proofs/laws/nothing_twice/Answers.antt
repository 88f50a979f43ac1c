use Rattle.jn_base.proofs.Unique.{one_decl, one_method_at, one_field_at}
use Rattle.jn_base.proofs.TableLaws.{one_home, one_unknown}
use Rattle.jn_base.proofs.laws.nothing_twice.Goals as goal

pub returns : goal.returns
returns c p e = record {
  declaration = one_decl p e;
  method = one_method_at p e;
  field = one_field_at p e;
  home = one_home p e;
  unknown = one_unknown p e;
}
