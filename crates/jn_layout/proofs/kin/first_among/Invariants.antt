use Rattle.std.proofs.Common.{ℕ, take, Contains}
use Rattle.jn_layout.specs.Kin.{OfGroups, FirstAt}
use Rattle.jn_layout.proofs.kin.first_among.Given as goal

abbrev pub invariant-loop-f : goal.invariant-loop-f
invariant-loop-f l = OfGroups l.t l.kin (λ p. (f : ℕ) → Contains (take l.f-index l.numbers) f → FirstAt p l.t.known.items f → ⊥)
