-- Frames in a pool.
use Rattle.std.proofs.Common.{◌≡◌, refl, sym, ap, ◌∙◌, ℕ, zero, suc, ◌+◌, ◌<◌, ◌≤◌, List, [], ◌∷◌, ◌++◌, length, take, drop, reverse, replicate, ℤ, pos, slice_set, get_or, arith, subst}
use Rattle.std.proofs.lemmas.List.{length-reverse}
use Rattle.jn_machine.specs.declared.frame.Frame.{Frame}
use Rattle.jn_machine.specs.Sizes.{Sized, EachSized}

pub sized_set : (w h : ℕ) (fs : List Frame) (k : ℕ) (f : Frame) → EachSized w h fs → Sized w h f → EachSized w h (slice_set fs k f)
sized_set w h [] k f e s = tt
sized_set w h (g ∷ fs) zero f e s = (s, e.1)
sized_set w h (g ∷ fs) (suc k) f e s = (e.0, sized_set w h fs k f e.1 s)

pub drop_set : (zs : List ℤ) (k : ℕ) (z : ℤ) → k < length zs → drop k (slice_set zs k z) ≡ z ∷ drop (suc k) zs
drop_set [] k z h = absurd (omega arith)
drop_set (y ∷ zs) zero z h = refl
drop_set (y ∷ zs) (suc k) z h = drop_set zs k z (omega arith)

pub drop_zeros : (n k : ℕ) → drop n (replicate (n + k) (pos 0)) ≡ replicate k (pos 0)
drop_zeros zero k = let e : 0 + k ≡ k = omega arith in ap (λ (m : ℕ). replicate m (pos 0)) e
drop_zeros (suc n) k =
    let e : suc n + k ≡ suc (n + k) = omega arith in
    subst (λ (m : ℕ). drop (suc n) (replicate m (pos 0)) ≡ replicate k (pos 0)) (sym e) (drop_zeros n k)

pub wide_at : (w h : ℕ) (fs : List Frame) (k : ℕ) (d : Frame) → EachSized w h fs → k < length fs → (get_or fs k d).vars.limit ≡ w
wide_at w h [] k d e b = absurd (omega arith)
wide_at w h (g ∷ fs) zero d e b = e.0.vars
wide_at w h (g ∷ fs) (suc k) d e b = wide_at w h fs k d e.1 (omega arith)

pub high_at : (w h : ℕ) (fs : List Frame) (k : ℕ) (d : Frame) → EachSized w h fs → k < length fs → (get_or fs k d).vals.limit ≡ h
high_at w h [] k d e b = absurd (omega arith)
high_at w h (g ∷ fs) zero d e b = e.0.vals
high_at w h (g ∷ fs) (suc k) d e b = high_at w h fs k d e.1 (omega arith)

pub take_long : (k : ℕ) (fs : List Frame) → k ≤ length fs → length (take k fs) ≡ k
take_long zero fs h = refl
take_long (suc k) [] h = absurd (omega arith)
take_long (suc k) (f ∷ fs) h = ap suc (take_long k fs (omega arith))

pub waiting_long : (k : ℕ) (fs : List Frame) → k ≤ length fs → length (reverse (take k fs)) ≡ k
waiting_long k fs h = length-reverse (take k fs) ∙ take_long k fs h

pub sized_more : (w h : ℕ) (fs : List Frame) (f : Frame) → EachSized w h fs → Sized w h f → EachSized w h (fs ++ f ∷ [])
sized_more w h [] f e s = (s, tt)
sized_more w h (g ∷ fs) f e s = (e.0, sized_more w h fs f e.1 s)
