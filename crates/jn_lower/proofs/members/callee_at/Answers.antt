use Rattle.std.proofs.Common.{reverse, subst}
use Rattle.jn_base.specs.declared.tree.Method.{Method}
use Rattle.jn_base.specs.Members.{MethodAt}
use Rattle.jn_base.proofs.Unique.{one_method_at}
use Rattle.jn_lower.specs.declared.members.Callee.{Callee}
use Rattle.jn_lower.specs.Told.{IsCallee}
use Rattle.jn_lower.proofs.Seams.{if_ok}
use Rattle.jn_lower.proofs.members.callee_at.Goals as goal

pub returns-in-Some : goal.returns-in-Some
returns-in-Some c =
    let names = c.args.names.now in
    let f = c.args.f in
    let Q = reverse c.args.path.now.names in
    if_ok c.callee_of.result (IsCallee names f c.in-Some.m.now)
    (λ (x : Callee). (m : Method) → MethodAt c.args.p.now Q f m → IsCallee names f m x)
    (λ x is m at. subst (λ (n : Method). IsCallee names f n x)
    (one_method_at c.args.p.now c.requires Q f c.in-Some.m.now m c.in-Some.ensures at) is)
    c.callee_of.ensures
