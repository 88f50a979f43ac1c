-- What can't fail to be so; and the steps that can't fail to fit.
use Rattle.std.proofs.Common.{◌≡◌, Option, Some, Bool, true, false, refl, sym, subst}
use Rattle.jn_base.specs.declared.tree.Program.{Program}
use Rattle.jn_sem.specs.Asks.{OnOnly, found, not_found, OnTest, holds, fails, OnSome, OnIf, It}
use Rattle.jn_sem.specs.State.{Heap, Frame}
use Rattle.jn_sem.specs.Does.{Did, Way}
use Rattle.jn_sound.specs.Sound.{DidFit}
use Rattle.jn_laws.specs.Surely.{Surely}

pub surely : {A : Type 0} → A → Surely A
surely a none = none a

pub and_so : {A B : Type 0} → Surely A → (A → Surely B) → Surely B
and_so s go none = s (λ a. go a none)

-- each step that the way allows fits
pub record Safe (p : Program) (h : Heap) (f : Frame) (W : Way) : Type 0 where
  pub each : (d : Did) → W d → Surely (DidFit p h f d)

module _ {p : Program} {h : Heap} {f : Frame} where
  pub safe_it : (x : Did) → Surely (DidFit p h f x) → Safe p h f (It x)
  safe_it x s = record { each = λ d e. subst (λ (y : Did). Surely (DidFit p h f y)) (sym e) s }

  -- what surely is may be used
  pub safe_by : {A : Type 0} {W : Way} → Surely A → (A → Safe p h f W) → Safe p h f W
  safe_by s go = record { each = λ d w. and_so s (λ a. (go a).each d w) }

  -- there is surely one, and each two are the same
  pub safe_only : {A : Type 0} {Is : A → Type 0} {Else : Way} {Go : A → Way} → Surely ((a : A) × Is a)
      → ((a b : A) → Is a → Is b → b ≡ a)
      → ((a : A) → Is a → Safe p h f (Go a)) → Safe p h f (OnOnly Is Else Go)
  safe_only {A} {Is} {Else} {Go} there one go = record { each = at } where
    at : (d : Did) → OnOnly Is Else Go d → Surely (DidFit p h f d)
    at d (found a x g) = (go a x.is).each d g
    at d (not_found n e) = absurd (there (λ x. n x.0 (record { is = x.1; one = λ b i. one x.0 b x.1 i })))

  pub safe_test : {Is : Type 0} {Else Go : Way} → Surely Is → (Is → Safe p h f Go) → Safe p h f (OnTest Is Else Go)
  safe_test {Is} {Else} {Go} there go = record { each = at } where
    at : (d : Did) → OnTest Is Else Go d → Surely (DidFit p h f d)
    at d (holds x g) = (go x).each d g
    at d (fails n e) = absurd (there n)

  -- whether it is so or not
  pub safe_either : {Is : Type 0} {Else Go : Way} → ((Is → ⊥) → Safe p h f Else) → (Is → Safe p h f Go)
      → Safe p h f (OnTest Is Else Go)
  safe_either {Is} {Else} {Go} s go = record { each = at } where
    at : (d : Did) → OnTest Is Else Go d → Surely (DidFit p h f d)
    at d (holds x g) = (go x).each d g
    at d (fails n e) = (s n).each d e

  pub safe_some : {A : Type 0} (o : Option A) (Else : Way) (Go : A → Way) (a : A) → o ≡ Some a
      → Safe p h f (Go a) → Safe p h f (OnSome o Else Go)
  safe_some {A} o Else Go a e s = subst (λ (x : Option A). Safe p h f (OnSome x Else Go)) (sym e) s

  pub safe_if : (b : Bool) {Else Go : Way} → (b ≡ false → Safe p h f Else) → (b ≡ true → Safe p h f Go)
      → Safe p h f (OnIf b Else Go)
  safe_if true s go = go refl
  safe_if false s go = s refl
