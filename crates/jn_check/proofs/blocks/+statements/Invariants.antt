use Rattle.std.proofs.Common.{drop}
use Rattle.jn_base.specs.declared.types.Ty.{Ty}
use Rattle.jn_rules.specs.Stmts.{stmts_type}
use Rattle.jn_expr.specs.Envs.{ArePartsOf, parts}
use Rattle.jn_expr.specs.Passing.{Shows}
use Rattle.jn_expr.specs.Steps.{Leads}
use Rattle.jn_check.specs.States.{in_at, before_at, IsAfter, StaysButVars}
use Rattle.jn_check.proofs.blocks.+statements.Given as goal

abbrev pub invariant-check_stmts-loop-s : goal.invariant-check_stmts-loop-s
invariant-check_stmts-loop-s l = record {
  after : IsAfter l.p l.class l.m.name.name l.fn.env l.fn.x l.env l.x;
  stays : StaysButVars l.fn.env l.env;
  parts : ArePartsOf l.p (parts l.env);
  leads : (t : Ty) → Shows l.fn.env.pool l.gives t → Leads l.p (stmts_type (in_at l.class l.m t) l.ss (before_at l.fn.env l.fn.x))
      (stmts_type (in_at l.class l.m t) (drop l.s-index l.ss) (before_at l.env l.x)) l.fn.env.marks l.env.marks;
}
