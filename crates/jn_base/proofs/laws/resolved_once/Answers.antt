use Rattle.jn_base.proofs.ResolveOnce.{term_once, type_once, view_once}
use Rattle.jn_base.proofs.laws.resolved_once.Goals as goal

pub returns : goal.returns
returns c = λ p spot vars. record {
  term = term_once p spot vars;
  of_type = λ names. type_once p names spot vars;
  of_view = λ names. view_once p names spot vars;
}
