-- Without a cycle nothing goes down for ever among finitely many paths.
use Rattle.std.proofs.Common.{◌≡◌, List, [], ◌∷◌, refl, sym, subst, ◌⊎◌, inl, inr, Contains}
use Rattle.jn_base.specs.declared.tree.Program.{Program}
use Rattle.jn_base.specs.Paths.{Path}
use Rattle.jn_base.specs.Supers.{Sup, itself, above}
use Rattle.jn_base.specs.TableRules.{IsCycle, NoneIs}
use Rattle.jn_base.proofs.NameTests.{in_cons, in_none}
use Rattle.jn_base.proofs.SuperLaws.{sup_joined}
use Rattle.jn_names.proofs.Numbered.{direct_known}

-- paths that are supers of each other are one
pub antisym : (p : Program) → NoneIs (IsCycle p) → {R S : Path} → Sup p R S → Sup p S R → R ≡ S
antisym p n itself back = refl
antisym p n (above d s) back = absurd (n _ (direct_known d, record { next = _; direct = d; back = sup_joined s back }))

-- another path of which P holds stands below w
abbrev pub LowerIn : Program → (Path → Type 0) → Path → Type 0
LowerIn p P w = (y : Path) × P y × Sup p y w × (y ≡ w → ⊥)

elsewhere : (z : Path) (L : List Path) (v : Path) → Contains (z ∷ L) v → (z ≡ v → ⊥) → Contains L v
elsewhere z L v c n = by_place (in_cons z L v c) where
  by_place : (z ≡ v) ⊎ Contains L v → Contains L v
  by_place (inl e) = absurd (n e)
  by_place (inr h) = h

-- P holds of v, which stands below z
abbrev UnderIn : Program → (Path → Type 0) → Path → Path → Type 0
UnderIn p P z v = P v × Sup p v z × (v ≡ z → ⊥)

under_covered : (p : Program) (L : List Path) (P : Path → Type 0) (z : Path) → ((w : Path) → P w → Contains (z ∷ L) w)
    → (v : Path) → UnderIn p P z v → Contains L v
under_covered p L P z cover v u = elsewhere z L v (cover v u.0) (λ e. u.2 (sym e))

under_lower : (p : Program) → NoneIs (IsCycle p) → (P : Path → Type 0) (z : Path) → ((w : Path) → P w → LowerIn p P w)
    → (v : Path) → UnderIn p P z v
    → LowerIn p (UnderIn p P z) v
under_lower p n P z lower v u =
    let y = lower v u.0 in
    (y.0, (y.1, sup_joined y.2 u.1, λ e. u.2 (antisym p n u.1 (subst (λ (x : Path). Sup p x v) e y.2))), y.2, y.3)

pub no_descent : (p : Program) → NoneIs (IsCycle p) → (L : List Path) (P : Path → Type 0) → ((w : Path) → P w → Contains L w)
    → ((w : Path) → P w → LowerIn p P w) → (w : Path) → P w → ⊥
no_descent p n [] P cover lower w h = in_none w (cover w h)
no_descent p n (z ∷ L) P cover lower w h =
    let not_z : P z → ⊥ = λ pz.
    let y = lower z pz in
    no_descent p n L (UnderIn p P z) (under_covered p L P z cover) (under_lower p n P z lower) y.0 (y.1, y.2, y.3) in
    no_descent p n L P (λ v pv. elsewhere z L v (cover v pv) (λ e. not_z (subst P (sym e) pv))) lower w h
