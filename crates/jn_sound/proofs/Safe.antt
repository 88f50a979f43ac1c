-- The steps that can't fail to be such: as in Ways, of whatever is said of a step.
use Rattle.std.proofs.Common.{◌≡◌, Option, Some, Bool, true, false, refl, sym, subst}
use Rattle.jn_sem.specs.Asks.{OnOnly, found, not_found, OnTest, holds, fails, OnSome, OnIf, It}
use Rattle.jn_sem.specs.Does.{Did, Way}
use Rattle.jn_sound.proofs.Ways.{and_so}
use Rattle.jn_laws.specs.Surely.{Surely}

-- each step that the way allows is such
pub record Sure (Q : Did → Type 0) (W : Way) : Type 0 where
  pub each : (d : Did) → W d → Surely (Q d)

module _ {Q : Did → Type 0} where
  pub sure_it : (x : Did) → Surely (Q x) → Sure Q (It x)
  sure_it x s = record { each = λ d e. subst (λ (y : Did). Surely (Q y)) (sym e) s }

  pub sure_by : {A : Type 0} {W : Way} → Surely A → (A → Sure Q W) → Sure Q W
  sure_by s go = record { each = λ d w. and_so s (λ a. (go a).each d w) }

  pub sure_only : {A : Type 0} {Is : A → Type 0} {Else : Way} {Go : A → Way} → Surely ((a : A) × Is a)
      → ((a b : A) → Is a → Is b → b ≡ a)
      → ((a : A) → Is a → Sure Q (Go a)) → Sure Q (OnOnly Is Else Go)
  sure_only {A} {Is} {Else} {Go} there one go = record { each = at } where
    at : (d : Did) → OnOnly Is Else Go d → Surely (Q d)
    at d (found a x g) = (go a x.is).each d g
    at d (not_found n e) = absurd (there (λ x. n x.0 (record { is = x.1; one = λ b i. one x.0 b x.1 i })))

  pub sure_to : {R : Did → Type 0} {W : Way} → ((d : Did) → R d → Surely (Q d)) → Sure R W → Sure Q W
  sure_to go s = record { each = λ d w. and_so (s.each d w) (go d) }

  pub sure_either : {Is : Type 0} {Else Go : Way} → ((Is → ⊥) → Sure Q Else) → (Is → Sure Q Go)
      → Sure Q (OnTest Is Else Go)
  sure_either {Is} {Else} {Go} s go = record { each = at } where
    at : (d : Did) → OnTest Is Else Go d → Surely (Q d)
    at d (holds x g) = (go x).each d g
    at d (fails n e) = (s n).each d e

  pub sure_some : {A : Type 0} (o : Option A) (Else : Way) (Go : A → Way) (a : A) → o ≡ Some a → Sure Q (Go a)
      → Sure Q (OnSome o Else Go)
  sure_some {A} o Else Go a e s = subst (λ (x : Option A). Sure Q (OnSome x Else Go)) (sym e) s

  pub sure_if : (b : Bool) {Else Go : Way} → (b ≡ false → Sure Q Else) → (b ≡ true → Sure Q Go)
      → Sure Q (OnIf b Else Go)
  sure_if true s go = go refl
  sure_if false s go = s refl

  -- the one that is so, or none
  pub sure_found : {A : Type 0} {Is : A → Type 0} {Else : Way} {Go : A → Way} → Sure Q Else
      → ((a : A) → Is a → Sure Q (Go a)) → Sure Q (OnOnly Is Else Go)
  sure_found {A} {Is} {Else} {Go} none go = record { each = at } where
    at : (d : Did) → OnOnly Is Else Go d → Surely (Q d)
    at d (found a x g) = (go a x.is).each d g
    at d (not_found n e) = none.each d e

  pub sure_test : {Is : Type 0} {Else Go : Way} → Surely Is → (Is → Sure Q Go) → Sure Q (OnTest Is Else Go)
  sure_test {Is} {Else} {Go} there go = record { each = at } where
    at : (d : Did) → OnTest Is Else Go d → Surely (Q d)
    at d (holds x g) = (go x).each d g
    at d (fails n e) = absurd (there n)
