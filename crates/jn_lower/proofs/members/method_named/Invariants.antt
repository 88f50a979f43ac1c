use Rattle.std.proofs.Common.{◌≡◌, drop, refl}
use Rattle.jn_base.specs.declared.tree.Method.{Method}
use Rattle.jn_base.specs.Paths.{methods}
use Rattle.jn_lower.proofs.Named.{Left, methods_behind}
use Rattle.jn_lower.proofs.members.method_named.Given as goal

abbrev pub invariant-loop-member : goal.invariant-loop-member
invariant-loop-member l = Left methods methods_behind refl (λ (x : Method). x.name.name ≡ l.fn.m) l.members (drop l.member-index l.members)
