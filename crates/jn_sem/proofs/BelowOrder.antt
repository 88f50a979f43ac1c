-- "Below" is reflexive on the types that values have, and transitive.
use Rattle.jn_reach.specs.Chain.{here}
use Rattle.jn_reach.proofs.Chains.{Chain-joined}
use Rattle.jn_base.specs.declared.tree.Program.{Program}
use Rattle.jn_base.specs.declared.types.Ty.{Ty}
use Rattle.jn_base.specs.declared.types.Ty.TheVariants as ty
use Rattle.jn_base.specs.Scopes.{Scope}
use Rattle.jn_base.specs.Fits.{IsClassType}
use Rattle.jn_sem.specs.Widening.{Widens}
use Rattle.jn_sem.specs.Below.{Below, ints, booleans, nulls, classes}

pub below_itself : {p : Program} {s : Scope} (t : Ty) → IsClassType t → Below p s t t
below_itself (ty.Class xs m) c = classes (λ y a. record { from = y; among = a; chain = here }) (λ i h. h)
below_itself ty.Int c = absurd c
below_itself ty.Bool c = absurd c
below_itself ty.Null c = absurd c
below_itself ty.Void c = absurd c

pub below_joined : {p : Program} {s : Scope} {t u w : Ty} → Below p s t u → Below p s u w → Below p s t w
below_joined ints b = b
below_joined booleans b = b
below_joined nulls (classes b w) = nulls
below_joined {p} {s} (classes a v) (classes b w) = classes (λ z m.
    let r = b z m in
    let q = a r.from r.among in
    record { from = q.from; among = q.among; chain = Chain-joined (Widens p s) q.chain r.chain }) (λ i h. w i (v i h))
