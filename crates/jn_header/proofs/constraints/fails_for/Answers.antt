use Rattle.std.proofs.Common.{subst, sym, List}
use Rattle.std.proofs.lemmas.Result.{IfOk-weaker}
use Rattle.jn_reach.specs.Each.{Each}
use Rattle.jn_heads.specs.declared.sides.Pledge.{Pledge}
use Rattle.jn_heads.specs.Sides.{IsPledge}
use Rattle.jn_header.proofs.Failing.{none_fails, fails_told}
use Rattle.jn_header.proofs.constraints.fails_for.Goals as goal

pub returns-in-None : goal.returns-in-None
returns-in-None c = λ p bo sh n num class. none_fails p c.args.class.now c.args.name.now (c.in-None.ensures p c.args.t.now c.args.class.now bo num)

pub returns-in-Some : goal.returns-in-Some
returns-in-Some c = IfOk-weaker c.some_fails.result _ _ (λ r h p bo sh n num class.
    let w = c.in-Some.ensures p c.args.t.now c.args.class.now bo num in
    fails_told p bo.declarations bo.members.filled.table.named c.args.class.now class c.args.name.now c.in-Some.head.now w r
    (h p w.0 w.0.method.sharing bo.members.filled sh n
    (subst (λ (ks : List Pledge). Each (IsPledge p w.0.class w.0.method.name.name) w.0.method.sharing ks) (sym c.deref.ensures.value) w.2.pledges))) c.some_fails.ensures
