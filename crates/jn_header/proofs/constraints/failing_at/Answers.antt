use Rattle.std.proofs.Common.{subst, sym}
use Rattle.std.proofs.lemmas.Result.{IfOk-weaker}
use Rattle.jn_base.specs.Paths.{Path}
use Rattle.jn_sem.specs.Sharing.{IsClass}
use Rattle.jn_table.specs.Rows.{HasMethod, IsNumber}
use Rattle.jn_rules.specs.Members.{FailsFor}
use Rattle.jn_header.proofs.BadMembers.{by_bytes}
use Rattle.jn_header.proofs.ClassFaults.{class_here}
use Rattle.jn_header.proofs.Failing.{package_passes, has_method, failing_as}
use Rattle.jn_header.proofs.constraints.failing_at.Goals as goal

pub returns-in-Package : goal.returns-in-Package
returns-in-Package c = λ p R bo sh n num. package_passes p c.args.t.now bo.members.filled c.args.id c.row.result.now c.row.ensures R num c.in-Package.is

pub returns-in_ok-class-in-Class : goal.returns-in_ok-class-in-Class
returns-in_ok-class-in-Class c = IfOk-weaker c.first_failing.result _ _ (λ o h p R bo sh n num.
    let table = bo.members.filled.table in
    let class = c.in_ok-class-in-Class.class in
    let e = c.in_ok-class-in-Class.ensures p R table num in
    let is = class_here p c.args.t.now bo.members.filled c.args.id c.row.result.now c.row.ensures R num c.in-Class.is in
    by_bytes p (FailsFor p R) (HasMethod p R) c.row-in-Class.result.now.methods.items (c.row-in-Class.ensures p R table num).methods (has_method p R) o
    (failing_as p class R c.deref.result.now c.row-in-Class.result.now.methods.items o e c.deref.ensures.value
    (h p bo sh n (subst (λ (S : Path). IsNumber c.args.t.now.known.items c.args.id S) (sym e) num) (subst (λ (S : Path). IsClass p S) (sym e) is)))) c.first_failing.ensures
