-- The names behind a bound, and the namespaces in which a name is sought.
use Rattle.std.proofs.Common.{◌≡◌, ◌∷◌, Some, List, subst, ◌⊎◌, inl, inr, refl, ℕ, arith, Option, ◌<◌, ◌≤◌, ◌+◌, length, drop}
use Rattle.jn_base.specs.declared.tree.Name.{Name}
use Rattle.jn_base.specs.declared.tree.Program.{Program}
use Rattle.jn_base.specs.Paths.{Path}
use Rattle.jn_base.specs.Supers.{Member}
use Rattle.jn_base.specs.Universe.{InUniverse}
use Rattle.std.proofs.lemmas.Bool.{cases_lt}
use Rattle.jn_base.specs.Resolve.{FirstUnknown, FoundOut, FoundNowhere}
use Rattle.jn_names.proofs.Numbered.{member_known}

-- the names behind a bound
pub step_known : (p : Program) (B : Path) (N : Name) (ns : List Name) (o : Option Name) → InUniverse p (N ∷ B)
    → FirstUnknown p (N ∷ B) ns o → FirstUnknown p B (N ∷ ns) o
step_known p B N ns o u h = inl ((member_known p B N).1 u, h)

pub step_unknown : (p : Program) (B : Path) (N : Name) (ns : List Name) → (InUniverse p (N ∷ B) → ⊥)
    → FirstUnknown p B (N ∷ ns) (Some N)
step_unknown p B N ns n = inr (λ m. n ((member_known p B N).0 m), refl)

-- found at the number k of names, or nowhere
pub out_found : (p : Program) (Q : Path) (N : Name) (k : ℕ) → k ≤ length Q → ((j : ℕ) → j < k → Member p (drop j Q) N → ⊥)
    → InUniverse p (N ∷ drop k Q) → FoundOut p Q N k
out_found p Q N k within before u = record { within = within; member = u.1; innermost = before }

pub out_more : (p : Program) (Q : Path) (N : Name) (k : ℕ) → ((j : ℕ) → j < k → Member p (drop j Q) N → ⊥)
    → (InUniverse p (N ∷ drop k Q) → ⊥)
    → (j : ℕ) → j < k + 1 → Member p (drop j Q) N → ⊥
out_more p Q N k before none j l m = by_place (cases_lt j k) where
  by_place : (j < k) ⊎ (k ≤ j) → ⊥
  by_place (inl h) = before j h m
  by_place (inr h) =
      let e : j ≡ k = omega (arith, l, h) in
      none ((member_known p (drop k Q) N).0 (subst (λ (i : ℕ). Member p (drop i Q) N) e m))

pub out_nowhere : (p : Program) (Q : Path) (N : Name) (k : ℕ) → length Q ≤ k
    → ((j : ℕ) → j < k + 1 → Member p (drop j Q) N → ⊥) → FoundNowhere p Q N
out_nowhere p Q N k past none j l m = none j (omega (arith, past, l)) m
